-- The names of the definitions of this crate that other files cite, passed on from one place. Declares nothing.
pub use Rattle.rexmit_timer.specs.Ages.{IsAtAge, IsBeatOfAge, ages, beat_at, count_at, give_up_age, tries_at}
pub use Rattle.rexmit_timer.specs.ConstantValues.{ConstantValues}
