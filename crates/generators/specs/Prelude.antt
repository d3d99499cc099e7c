-- The names of the definitions of this crate that other files cite, passed on from one place. Declares nothing.
pub use Rattle.generators.specs.Captures.{capture_of}
pub use Rattle.generators.specs.ScriptFunctions.{AreBytes, AreShort, ScriptFunctions, CallText, script_functions, uip, uip_call_text}
pub use Rattle.generators.specs.Lemmas.Bytes.{capture_bytes, either_bytes, literal_bytes, texts_bytes}
pub use Rattle.generators.specs.Lemmas.Lengths.{in_ten, line_long, one_digit, row_long, texts_short, three_digits, two_digits}
pub use Rattle.generators.specs.Packed.{row_in, rows_in}
pub use Rattle.generators.specs.Parts.{HoldsPart}
pub use Rattle.generators.specs.Short.{TextsAreShort}
pub use Rattle.generators.specs.Text.{capture_text, counter_line, in_ten_places, row_text}
unfoldable pub use Rattle.generators.specs.Text.{row_parts}
