-- The names of the definitions of this crate that other files cite, passed on from one place. Declares nothing.
pub use Rattle.device_values.specs.Lemmas.Laws.{html_all_short, json_all_short, words_bytes, words_short}
pub use Rattle.device_values.specs.Spellings.{html_byte, json_byte}
pub use Rattle.device_values.specs.Values.{GivenIsShown, no_values, value_given, value_of}
pub use Rattle.device_values.specs.Words.{record_text, word_calls, words}
