-- Big-endian fields of 16 and 32 bits (RFC 791, appendix B), and a part that is written at an offset.
use Rattle.std.specs.Prelude.{ℕ, ◌+◌, ◌*◌, ◌/◌, ◌%◌, List, [], ◌∷◌, ◌++◌, slice_index, take, drop, length}

-- The field of two bytes at an offset, the high byte first.
abbrev pub word_at : List ℕ → ℕ → ℕ
word_at bytes at = 256 * slice_index bytes at + slice_index bytes (at + 1)

-- The field of four bytes at an offset, the high half first.
abbrev pub long_at : List ℕ → ℕ → ℕ
long_at bytes at = 65536 * word_at bytes at + word_at bytes (at + 2)

-- A number below 65536 as its two bytes.
abbrev pub word_bytes : ℕ → List ℕ
word_bytes value = value / 256 ∷ value % 256 ∷ []

-- A number below 2^32 as its four bytes.
abbrev pub long_bytes : ℕ → List ℕ
long_bytes value = word_bytes (value / 65536) ++ word_bytes (value % 65536)

-- Words, one after the other.
abbrev pub bytes_of : List ℕ → List ℕ
bytes_of [] = []
bytes_of (w ∷ words) = w / 256 ∷ w % 256 ∷ bytes_of words

-- The bytes with this part at an offset, and all others unchanged.
abbrev pub written : List ℕ → ℕ → List ℕ → List ℕ
written bytes at part = take at bytes ++ part ++ drop (at + length part) bytes
