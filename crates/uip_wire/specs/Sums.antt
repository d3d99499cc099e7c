-- A checksum over bytes that are added in pieces.
use Rattle.std.specs.Prelude.{ℕ, ◌+◌, ◌*◌, ◌%◌, ◌==◌, Bool, List, [], ◌∷◌, length}
use Rattle.uip_wire.specs.Checksum.{word_sum, folded}

-- The sum of the same words with their two bytes exchanged (RFC 1071, section 2 (B)).
abbrev pub swapped_sum : List ℕ → ℕ
swapped_sum [] = 0
swapped_sum (last ∷ []) = last
swapped_sum (high ∷ low ∷ rest) = high + 256 * low + swapped_sum rest

-- The state of a sum: the folded sum of the bytes so far, and whether their number is odd.
pub record PartSum : Type 0 where
  pub sum : ℕ
  pub is_odd : Bool

abbrev pub sum_of : List ℕ → PartSum
sum_of bytes = record { sum = folded (word_sum bytes); is_odd = length bytes % 2 == 1 }
