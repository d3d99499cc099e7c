-- The names of the definitions of this crate that other files cite, passed on from one place. Declares nothing.
pub use Rattle.protosocket.specs.Lemmas.Reception.{receives_joined, none_at_all, none_before, one_before, stop_fits, takes_prefix}
pub use Rattle.protosocket.specs.Line.{ReceivesInPieces, Line, after, delivered, fresh, is_query_mark}
pub use Rattle.protosocket.specs.Line.{is_stop, longest_name, part_taken, word_of}
