-- The names of the definitions of this crate that other files cite, passed on from one place. Declares nothing.
pub use Rattle.app_events.specs.AppSpec.{After, AppSpec, AppState, CanSupply, IsRepresented, Snapshot, text_left}
pub use Rattle.app_events.specs.FixedSpec.{FixedRepresents, fixed_spec, fixed_text, fixed_want, hello, some_received}
pub use Rattle.app_events.specs.Laws.{CanSend, Grows, IsLawful, IsPrefixOf, StartsAnew}
pub use Rattle.app_events.specs.Lemmas.FixedLaws.{fixed_same_left}
pub use Rattle.app_events.specs.Pages.{IsAddr, IsByte, IsNow, IsPaged, IsRow, IsSnapshot, IsU32, MayWant, Pages}
pub use Rattle.app_events.specs.States.{is_live, is_time_wait}
