-- The values of a device, as numbers: 33 for each of 16, its length and then its bytes.
use Rattle.std.specs.Prelude.{◌≡◌, ◌<◌, ◌≤◌, ℕ, ◌+◌, ◌-◌, ◌*◌, ◌%◌, List, [], ◌∷◌, ◌++◌, drop, length, map, min, nat_lt}
use Rattle.std.specs.Prelude.{if◌then◌else◌, All, replicate, slice_index_or, slice_range, take}
use Rattle.std.specs.Option.{option_map_or}
use Rattle.app_events.specs.Prelude.{IsByte}
use Rattle.uip_wire.specs.Prelude.{numeral}

-- No value is set.
abbrev pub no_values : List ℕ
no_values = replicate 528 0

-- The bytes of the value of a number.
abbrev pub value_of : List ℕ → ℕ → List ℕ
value_of own n =
    map (λ b. b % 256) (take (min 32 (slice_index_or own (33 * n) 0)) (slice_range own (33 * n + 1) (33 * n + 33)))

-- The bytes of the value whose number the argument is, 0 to 15 in decimal digits; none if it is no such number.
abbrev pub value_named : List ℕ → List ℕ → List ℕ
value_named own argument = option_map_or (λ n. if nat_lt n 16 then value_of own n else []) (numeral argument) []

-- The numbers after the value of a number is set to a text of at most 32 bytes.
abbrev pub value_given : ℕ → List ℕ → List ℕ → List ℕ
value_given n text own =
    take (33 * n) own ++ (length text ∷ text ++ replicate (32 - length text) 0) ++ drop (33 * n + 33) own

-- A text that is set for the value of a number is then that value, and every other value is unchanged.
pub record IsGiven (n : ℕ) (text own : List ℕ) : Type 0 where
  pub long : length (value_given n text own) ≡ 528
  pub shown : value_of (value_given n text own) n ≡ text
  pub others : (other : ℕ) → (other ≡ n → ⊥) → value_of (value_given n text own) other ≡ value_of own other

abbrev pub GivenIsShown : Type 0
GivenIsShown = (n : ℕ) → n < 16 → (text : List ℕ) → length text ≤ 32 → All IsByte text → (own : List ℕ) → length own ≡ 528
    → IsGiven n text own
