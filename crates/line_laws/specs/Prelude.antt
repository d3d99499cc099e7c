-- The names of the definitions of this crate that other files cite, passed on from one place. Declares nothing.
pub use Rattle.line_laws.specs.Lines.{EveryLineArrives, EveryLineConforms, LineConformsRead, PrefixConforms, events_among, text_in}
