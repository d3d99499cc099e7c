-- A hardware address as a word: six pairs of hexadecimal digits with colons between them.
use Rattle.std.specs.Prelude.{ℕ, ◌+◌, ◌-◌, ◌*◌, ◌==◌, ◌&&◌, nat_le, if◌then◌else◌, List, [], ◌∷◌, Option, None, Some}
use Rattle.uip_wire.specs.Prelude.{◌>>=◌}

-- The value of a digit of either case.
abbrev pub digit_of : ℕ → Option ℕ
digit_of c =
    if nat_le 48 c && nat_le c 57 then Some (c - 48)
    else if nat_le 97 c && nat_le c 102 then Some (c - 97 + 10)
    else if nat_le 65 c && nat_le c 70 then Some (c - 65 + 10)
    else None

-- The byte of two digits.
abbrev pub pair_of : ℕ → ℕ → Option ℕ
pair_of high low = do
  h ← digit_of high
  l ← digit_of low
  Some (h * 16 + l)

abbrev pub six_of : Option ℕ → Option ℕ → Option ℕ → Option ℕ → Option ℕ → Option ℕ → Option (List ℕ)
six_of first second third fourth fifth sixth = do
  a ← first
  b ← second
  c ← third
  d ← fourth
  e ← fifth
  f ← sixth
  Some (a ∷ b ∷ c ∷ d ∷ e ∷ f ∷ [])

-- The six bytes, or none if the text has another form.
abbrev pub mac_of_text : List ℕ → Option (List ℕ)
mac_of_text (a ∷ b ∷ p ∷ c ∷ d ∷ q ∷ e ∷ f ∷ r ∷ g ∷ h ∷ s ∷ i ∷ j ∷ t ∷ k ∷ l ∷ []) =
    if p == 58 && q == 58 && r == 58 && s == 58 && t == 58
    then six_of (pair_of a b) (pair_of c d) (pair_of e f) (pair_of g h) (pair_of i j) (pair_of k l) else None
mac_of_text text = None
