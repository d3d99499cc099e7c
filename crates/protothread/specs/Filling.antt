-- Filling from a text in two halves.
use Rattle.std.specs.Prelude.{◌≡◌, ℕ, ◌+◌, ◌++◌, List, take, drop}

-- The prefix of a text is its first half, and the prefix of what is left after that.
abbrev pub FillsInTurn : Type 0
FillsInTurn = (text : List ℕ) (m n : ℕ) → take (m + n) text ≡ take m text ++ take n (drop m text)
