-- The names of the definitions of this crate that other files cite, passed on from one place. Declares nothing.
pub use Rattle.script_lang.specs.Calling.{Calling}
pub use Rattle.script_lang.specs.Directives.{IsPlace, before_cr, begins, directive, directive_within, ends}
pub use Rattle.script_lang.specs.Directives.{is_directive_mark, is_inside_directive, is_line_end, line_end}
pub use Rattle.script_lang.specs.Functions.{function_named, length_at_most, takes_capture, uip_calls}
pub use Rattle.script_lang.specs.Pieces.{LiesWithin, piece_by, pieces, pieces_by, pieces_from, run_end, starts}
pub use Rattle.script_lang.specs.Places.{first_place, is_byte, places, word, word_end, word_start}
