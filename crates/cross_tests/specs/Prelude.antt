-- The names of the definitions of this crate that other files cite, passed on from one place. Declares nothing.
pub use Rattle.cross_tests.specs.CounterSpec.{CounterRepresents, counter_spec, counter_text}
pub use Rattle.cross_tests.specs.Lemmas.CounterLaws.{counter_same_left}
