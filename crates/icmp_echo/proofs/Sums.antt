-- The checksum of a reply, by that of its request.
use Rattle.icmp_echo.proofs.Prelude.{◌≡◌, ◌≢◌, ℕ, ◌+◌, ◌-◌, ◌*◌, ◌<◌, ◌≤◌, inl, inr, Bool, true, false, not, ◌||◌, if◌then◌else◌, Option}
use Rattle.icmp_echo.proofs.Prelude.{Some, None, List, [], ◌∷◌, length, drop, slice_index, refl, sym, ap, ◌∙◌, arith, ltb, eqb}
use Rattle.icmp_echo.proofs.Prelude.{common_steps, checksum_of, folded, word_sum, word_at, folded_cases, folded_most, IcmpFate, Short}
use Rattle.icmp_echo.proofs.Prelude.{Checksum, NotEcho, echo_fate}

-- what holds of a message that fails no check
pub record IsRequest (message : List ℕ) : Type 0 where
  pub long : 8 ≤ length message
  pub sum : checksum_of message ≡ 0
  pub type : slice_index message 0 ≡ 8
  pub code : slice_index message 1 ≡ 0

all_passed : (short sum other : Bool)
    → ◌≡◌ {A = Option IcmpFate} (if short then Some Short else if sum then Some Checksum else if other then Some NotEcho else None) None
    → (short ≡ false) × (sum ≡ false) × (other ≡ false)
all_passed true sum other e = cc
all_passed false true other e = cc
all_passed false false true e = cc
all_passed false false false e = (refl, refl, refl)

not_short : (n : ℕ) → ltb n 8 ≡ false → 8 ≤ n
not_short n e = grind (arith, common_steps)

is_zero : (n : ℕ) → not (eqb n 0) ≡ false → n ≡ 0
is_zero n e = grind (arith, common_steps)

is_request : (a b : ℕ) → not (eqb a 8) || not (eqb b 0) ≡ false → (a ≡ 8) × (b ≡ 0)
is_request a b e = (grind (arith, common_steps), grind (arith, common_steps))

pub passed : (message : List ℕ) → echo_fate message ≡ None → IsRequest message
passed message e =
    let p = all_passed (ltb (length message) 8) (not (eqb (checksum_of message) 0))
    (not (eqb (slice_index message 0) 8) || not (eqb (slice_index message 1) 0)) e in
    let t = is_request (slice_index message 0) (slice_index message 1) p.2 in
    record { long = not_short _ p.0; sum = is_zero _ p.1; type = t.0; code = t.1 }

-- with the first word taken away and the checksum with it
by_sums : (asked rest : ℕ) → asked < 65536 → asked ≢ 63487 → folded (2048 + asked + rest) ≡ 65535
    → (63487 < asked → asked - 63487 ≡ 65535 - folded rest) × (asked < 63487 → asked + 2048 ≡ 65535 - folded rest)
by_sums asked rest small not_both whole =
    elim (folded_cases (2048 + asked + rest)) [
      | inl p ↦ absurd (omega arith)
      | inr p ↦ elim (folded_cases rest) [
        | inl q ↦ ((λ above. omega arith), (λ below. omega arith))
        | inr q ↦ ((λ above. omega arith), (λ below. omega arith))
      ]
    ]

pub sums : (message : List ℕ) → IsRequest message → word_at message 2 < 65536 → word_at message 2 ≢ 63487
    → (63487 < word_at message 2 → word_at message 2 - 63487 ≡ checksum_of (0 ∷ 0 ∷ 0 ∷ 0 ∷ drop 4 message))
    × (word_at message 2 < 63487 → word_at message 2 + 2048 ≡ checksum_of (0 ∷ 0 ∷ 0 ∷ 0 ∷ drop 4 message))
sums [] is small other = absurd (omega (arith, is.long))
sums (a ∷ []) is small other = absurd (omega (arith, is.long))
sums (a ∷ b ∷ []) is small other = absurd (omega (arith, is.long))
sums (a ∷ b ∷ c ∷ []) is small other = absurd (omega (arith, is.long))
sums (a ∷ b ∷ c ∷ d ∷ rest) is small other =
    let same : word_sum (a ∷ b ∷ c ∷ d ∷ rest) ≡ 2048 + (256 * c + d) + word_sum rest = omega (arith, is.type, is.code) in
    let ones : folded (word_sum (a ∷ b ∷ c ∷ d ∷ rest)) ≡ 65535 = omega (arith, is.sum, folded_most (word_sum (a ∷ b ∷ c ∷ d ∷ rest))) in
    let whole : folded (2048 + (256 * c + d) + word_sum rest) ≡ 65535 = ap folded (sym same) ∙ ones in
    let by : (63487 < 256 * c + d → 256 * c + d - 63487 ≡ 65535 - folded (word_sum rest))
    × (256 * c + d < 63487 → 256 * c + d + 2048 ≡ 65535 - folded (word_sum rest)) = by_sums (256 * c + d) (word_sum rest) small other whole in
    let zeros : word_sum rest ≡ word_sum (0 ∷ 0 ∷ 0 ∷ 0 ∷ rest) = omega arith in
    ((λ above. by.0 above ∙ ap (λ (n : ℕ). 65535 - folded n) zeros), (λ below. by.1 below ∙ ap (λ (n : ℕ). 65535 - folded n) zeros))
