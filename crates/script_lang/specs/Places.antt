-- Offsets in a script: the first offset of a part that passes a test, and the first word of a part.
use Rattle.std.specs.Prelude.{ℕ, ◌-◌, ◌==◌, Bool, not, List, slice_index, find, unwrap_or, if◌then◌else◌}
use Rattle.std.specs.List.{range_with_len}
use Rattle.script_lang.specs.declared.words.Span.{Span}

-- the offsets from a up to before b
abbrev pub places : ℕ → ℕ → List ℕ
places a b = range_with_len a (b - a)

-- the first offset from a up to before b that passes the test, else b
abbrev pub first_place : (ℕ → Bool) → ℕ → ℕ → ℕ
first_place test a b = unwrap_or (find test (places a b)) b

-- the byte c is at offset p
abbrev pub is_byte : List ℕ → ℕ → ℕ → Bool
is_byte text c p = slice_index text p == c

-- the part from a up to before b; both numbers are 0 if it is empty
abbrev pub span : ℕ → ℕ → Span
span a b = if a == b then record { at = 0; len = 0 } else record { at = a; len = b - a }

-- where the first word of the part from a up to before b begins: at its first byte other than a space
abbrev pub word_start : List ℕ → ℕ → ℕ → ℕ
word_start text a b = first_place (λ p. not (is_byte text 32 p)) a b

-- and where it ends: before the next space, or at the part's end
abbrev pub word_end : List ℕ → ℕ → ℕ → ℕ
word_end text a b = first_place (is_byte text 32) (word_start text a b) b

-- the first word of the part
abbrev pub word : List ℕ → ℕ → ℕ → Span
word text a b = span (word_start text a b) (word_end text a b)
