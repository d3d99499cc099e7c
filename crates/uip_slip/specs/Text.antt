-- The SLIP text of a datagram (RFC 1055).
use Rattle.std.specs.Prelude.{◌≡◌, ◌<◌, ◌≤◌, ◌+◌, ◌*◌, ◌==◌, if◌then◌else◌, ◌∷◌, ◌++◌, [], flat_map, length, List, take, ℕ}

-- END is written as ESC 220, ESC as ESC 221, and any other byte as it is.
abbrev pub escaped_byte : ℕ → List ℕ
escaped_byte b = if b == 192 then 219 ∷ 220 ∷ [] else if b == 219 then 219 ∷ 221 ∷ [] else b ∷ []

abbrev pub escaped : List ℕ → List ℕ
escaped datagram = flat_map escaped_byte datagram

-- END, the escaped bytes, END.
abbrev pub slip_text : List ℕ → List ℕ
slip_text datagram = 192 ∷ escaped datagram ++ 192 ∷ []

-- The first `count` bytes of a piece were put, escaped, after a text of `len` bytes at the start of an area. The text then has `end` bytes.
pub record PutsPrefix (piece : List ℕ) (len : ℕ) (old : List ℕ) (count end : ℕ) (new : List ℕ) : Type 0 where
  pub long : length new ≡ length old
  pub some : 0 < count
  pub within : count ≤ length piece
  pub bound : end ≤ len + 2 * count
  pub text : take end new ≡ take len old ++ escaped (take count piece)
