-- Addresses in a header (RFC 791, section 3.1), and as dotted quads in text.
use Rattle.std.specs.Prelude.{ℕ, ◌+◌, ◌==◌, nat_lt, if◌then◌else◌, List, [], ◌∷◌, ◌++◌, Option, None}
use Rattle.std.specs.Prelude.{Some, codes, decimal, option_map, position, take, drop, slice_index}
use Rattle.uip_wire.specs.Numerals.{numeral}

-- The four bytes at an offset.
abbrev pub address_at : List ℕ → ℕ → List ℕ
address_at bytes at = slice_index bytes at ∷ slice_index bytes (at + 1) ∷ slice_index bytes (at + 2) ∷ slice_index bytes (at + 3) ∷ []

infixl 10 ◌>>=◌
abbrev pub ◌>>=◌ : {A B : Type 0} → Option A → (A → Option B) → Option B
(Some x) >>= f = f x
None >>= f = None

-- A number from 0 to 255 in decimal digits, without a leading zero.
abbrev pub part_number : List ℕ → Option ℕ
part_number text = do
  n ← numeral text
  if nat_lt n 256 then Some n else None

-- The part before the first dot, and the part after it.
abbrev pub cut_at_dot : List ℕ → Option (List ℕ × List ℕ)
cut_at_dot text = option_map (λ dot. (take dot text, drop (dot + 1) text)) (position (λ c. c == 46) text)

-- The four numbers of a dotted quad.
unfoldable pub quad_of : List ℕ → Option (List ℕ)
quad_of text = do
  first ← cut_at_dot text
  second ← cut_at_dot first.1
  third ← cut_at_dot second.1
  a ← part_number first.0
  b ← part_number second.0
  c ← part_number third.0
  d ← part_number third.1
  Some (a ∷ b ∷ c ∷ d ∷ [])

-- An address as a dotted quad.
abbrev pub quad_text : List ℕ → List ℕ
quad_text address =
    decimal (slice_index address 0) ++ codes "." ++ decimal (slice_index address 1) ++ codes "."
    ++ decimal (slice_index address 2) ++ codes "." ++ decimal (slice_index address 3)
