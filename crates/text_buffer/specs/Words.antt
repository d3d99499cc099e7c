-- Words that are written on a condition.
use Rattle.std.specs.Prelude.{ℕ, Bool, List, [], if◌then◌else◌}

-- a word, if the flag is true
abbrev pub word_if : Bool → List ℕ → List ℕ
word_if is_shown word = if is_shown then word else []
