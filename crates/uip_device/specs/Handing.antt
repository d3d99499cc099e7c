-- The pending rest of an encoded datagram.
use Rattle.std.specs.Prelude.{◌≡◌, ◌≤◌, ◌+◌, ◌⊎◌, ℕ, List, [], ◌∷◌, ◌++◌, drop, length, Option, None, Some, IfSome}
use Rattle.uip_slip.specs.Prelude.{escaped}
use Rattle.uip_device.specs.declared.pending_output.TheConstants.{LARGEST_TEXT}

-- the remaining bytes, escaped, and the END after them
abbrev pub rest_text : List ℕ → List ℕ
rest_text rest = escaped rest ++ 192 ∷ []

-- the encoding after this number of bytes of a datagram; nothing if all was returned
abbrev pub text_to_come : List ℕ → Option ℕ → List ℕ
text_to_come datagram None = []
text_to_come datagram (Some at) = rest_text (drop at datagram)

-- The encoding was returned as far as there was room. Something is pending only if at most one more byte would fit, since an escaped byte
-- needs two. The END alone is pending only if no byte would fit.
abbrev pub FillsRoom : List ℕ → Option ℕ → ℕ → ℕ → Type 0
FillsRoom datagram left wrote room = ((left ≡ None) ⊎ (room ≤ wrote + 1)) × (left ≡ Some (length datagram) → wrote ≡ room)

-- This number of bytes of the encoding was written to an area of this length, and the encoding continues at this offset of the datagram.
-- An area for the longest encoding takes all of it.
pub record IsPartWritten (datagram : List ℕ) (wrote : ℕ) (next : Option ℕ) (room : ℕ) : Type 0 where
  pub fits : wrote ≤ room
  pub left : IfSome next (λ at. at ≤ length datagram)
  pub all : LARGEST_TEXT ≤ room → next ≡ None
  pub full : FillsRoom datagram next wrote room
