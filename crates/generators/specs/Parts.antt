-- A buffer that holds a slice of a text, as far as the text is written.
use Rattle.std.specs.Prelude.{ℕ, ◌≡◌, ◌+◌, ◌<◌, List, length, slice_index}
use Rattle.generators.specs.declared.parts.Place.{Place}

-- the buffer holds what is written of the text from the offset on
pub record HoldsPart (text : List ℕ) (place : Place) (out : List ℕ) : Type 0 where
  pub so_far : place.so_far ≡ length text
  pub part : (k : ℕ) → k < length out → place.at + k < length text → slice_index out k ≡ slice_index text (place.at + k)
