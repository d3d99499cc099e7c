-- The digits of a number, from its last one on.
use Rattle.generators.proofs.Prelude.{◌≡◌, ◌+◌, ◌++◌, ◌<◌, ◌≤◌, ◌/◌, ◌%◌, ◌∙◌, ◌∷◌, [], ℕ, List, ap, append_assoc, arith, cases_lt, decimal}
use Rattle.generators.proofs.Prelude.{decimal_digit, decimal_step, decimal_nonempty, drop, drop-set, from_bool, inl, inr, le-leb, length}
use Rattle.generators.proofs.Prelude.{length-append, length-decimal-le, lit<, lt-leb, nat_le, one_digit, set, sym, take, take-set}
use Rattle.generators.proofs.Prelude.{take-take, three_digits, two_digits}

one_more : (n : ℕ) → 10 ≤ n → n < 4294967296 → length (decimal n) ≡ length (decimal (n / 10)) + 1
one_more n low high = ap length (decimal_step n low (omega (arith, high))) ∙ length-append (decimal (n / 10)) ((48 + n % 10) ∷ [])

pub three_more : (n : ℕ) → 1000 ≤ n → n < 4294967296 → length (decimal n) ≡ length (decimal (n / 1000)) + 3
three_more n low high =
    let thousand : n / 10 / 10 / 10 ≡ n / 1000 = omega arith in
    omega (
      arith,
      one_more n (omega (arith, low)) high,
      one_more (n / 10) (omega (arith, low)) (omega (arith, high)),
      one_more (n / 10 / 10) (omega (arith, low)) (omega (arith, high)),
      ap (λ m. length (decimal m)) thousand,
    )

pub ten_most : (n : ℕ) → n < 4294967296 → length (decimal n) ≤ 10
ten_most n high = length-decimal-le 10 n (lit< tt) (omega (arith, high)) (omega (arith, high))

-- a byte has a digit, and one more from 10 and from 100 on
pub byte_digits : (n : ℕ) → n < 256 → 1 + from_bool (nat_le 10 n) + from_bool (nat_le 100 n) ≡ length (decimal n)
byte_digits n high =
    elim (cases_lt n 10) [
      | inl one ↦ (λ i. 1 + from_bool (lt-leb 10 n one i) + from_bool (lt-leb 100 n (omega (arith, one)) i)) ∙ one_digit n one
      | inr ten ↦
          elim (cases_lt n 100) [
            | inl two ↦ (λ i. 1 + from_bool (le-leb 10 n ten i) + from_bool (lt-leb 100 n two i)) ∙ two_digits n ten two
            | inr hundred ↦
                (λ i. 1 + from_bool (le-leb 10 n ten i) + from_bool (le-leb 100 n hundred i)) ∙ three_digits n hundred (omega (arith, high))
          ]
    ]

-- what is left has fewer digits
pub fewer : (n : ℕ) → 10 ≤ n → n < 4294967296 → (length (decimal n) ≡ length (decimal (n / 10)) + 1) × (0 < length (decimal (n / 10)))
fewer n low high = (one_more n low high, decimal_nonempty (n / 10) (omega (arith, high)))

pub digit_put : (n at : ℕ) (places : List ℕ) → 10 ≤ n → n < 4294967296 → at < length places
    → decimal (n / 10) ++ drop at (set places at (48 + n % 10)) ≡ decimal n ++ drop (at + 1) places
digit_put n at places low high within =
    ap (λ l. decimal (n / 10) ++ l) (drop-set places at (48 + n % 10) within)
    ∙ sym (append_assoc (decimal (n / 10)) ((48 + n % 10) ∷ []) (drop (at + 1) places))
    ∙ ap (λ l. l ++ drop (at + 1) places) (sym (decimal_step n low (omega (arith, high))))

pub first_put : (n at : ℕ) (places : List ℕ) → n < 10 → at < length places
    → drop at (set places at (48 + n)) ≡ decimal n ++ drop (at + 1) places
first_put n at places low within =
    drop-set places at (48 + n) within ∙ ap (λ l. l ++ drop (at + 1) places) (sym (decimal_digit n low))

pub kept_put : (at d : ℕ) (places old : List ℕ) → take (at + 1) places ≡ take (at + 1) old → take at (set places at d) ≡ take at old
kept_put at d places old kept =
    take-set places at d
    ∙ sym (take-take at (at + 1) places (omega arith))
    ∙ ap (λ l. take at l) kept
    ∙ take-take at (at + 1) old (omega arith)
