-- Sums that differ by carries have the same folded value, and sums that differ by one byte have another.
use Rattle.uip_wire.proofs.Prelude.{◌≡◌, ◌≢◌, ℕ, ◌+◌, ◌-◌, ◌*◌, ◌/◌, ◌%◌, ◌^◌, ◌<◌, ◌≤◌, ◌⊎◌, inl, inr, List, [], ◌∷◌, ◌++◌, sym, ap, ◌∙◌}
use Rattle.uip_wire.proofs.Prelude.{refl, arith, common_steps, checksum_of, folded, word_sum, OneByteDetected}

pub folded_zero : folded 0 ≡ 0
unfolding folded
folded_zero = refl

pub folded_pos : (s : ℕ) → 0 < s → folded s ≡ (s - 1) % 65535 + 1
unfolding folded
folded_pos s h = grind (arith, common_steps)

zero_or_more : (n : ℕ) → (n ≡ 0) ⊎ (0 < n)
zero_or_more n = grind arith

-- a carry that is added back
pub same_folded : (s t k : ℕ) → t ≡ s + 65535 * k → 0 < s → folded t ≡ folded s
same_folded s t k e h = let p : 0 < t = omega arith in folded_pos t p ∙ omega arith ∙ sym (folded_pos s h)

-- the upper 64 bits added to the lower ones
pub folded_halves : (s : ℕ) → folded (s / 18446744073709551616 + s % 18446744073709551616) ≡ folded s
folded_halves s =
    elim (zero_or_more s) [
      | inl e ↦ ap folded (omega arith)
      | inr h ↦ sym (same_folded (s / 18446744073709551616 + s % 18446744073709551616) s (281479271743489 * (s / 18446744073709551616))
          (omega arith) (omega arith))
    ]

-- the upper 32 bits
pub folded_words : (s : ℕ) → folded (s / 4294967296 + s % 4294967296) ≡ folded s
folded_words s =
    elim (zero_or_more s) [
      | inl e ↦ ap folded (omega arith)
      | inr h ↦ sym (same_folded (s / 4294967296 + s % 4294967296) s (65537 * (s / 4294967296)) (omega arith) (omega arith))
    ]

-- the upper 16 bits
pub folded_shorts : (s : ℕ) → folded (s / 65536 + s % 65536) ≡ folded s
folded_shorts s =
    elim (zero_or_more s) [
      | inl e ↦ ap folded (omega arith)
      | inr h ↦ sym (same_folded (s / 65536 + s % 65536) s (s / 65536) (omega arith) (omega arith))
    ]

-- the carry of a sum of 64 bits, and of 32, added to what is left of it
pub folded_long : (one other : ℕ) → one < 2 ^ 64 → other < 2 ^ 64 → (one + other) % 2 ^ 64 < one
    → folded ((one + other) % 2 ^ 64 + 1) ≡ folded (one + other)
folded_long one other p q less = sym (same_folded ((one + other) % 2 ^ 64 + 1) (one + other) 281479271743489 (omega arith) (omega arith))

pub folded_word : (one other : ℕ) → one < 2 ^ 32 → other < 2 ^ 32 → (one + other) % 2 ^ 32 < one
    → folded ((one + other) % 2 ^ 32 + 1) ≡ folded (one + other)
folded_word one other p q less = sym (same_folded ((one + other) % 2 ^ 32 + 1) (one + other) 65537 (omega arith) (omega arith))

pub folded_cases : (s : ℕ) → ((s ≡ 0) × (folded s ≡ 0)) ⊎ ((0 < s) × (folded s ≡ (s - 1) % 65535 + 1))
folded_cases s =
    elim (zero_or_more s) [ inl e ↦ inl (e, ap folded e ∙ folded_zero) | inr h ↦ inr (h, folded_pos s h) ]

pub folded_small : (s : ℕ) → s ≤ 65535 → folded s ≡ s
folded_small s h = elim (folded_cases s) [ inl p ↦ p.1 ∙ sym p.0 | inr p ↦ p.1 ∙ omega arith ]

pub folded_most : (s : ℕ) → folded s ≤ 65535
folded_most s = elim (folded_cases s) [ inl p ↦ omega arith | inr p ↦ omega arith ]

-- folding before an addition
pub folded_add : (s t : ℕ) → folded (folded s + t) ≡ folded (s + t)
folded_add s t =
    elim (folded_cases s) [
      | inl p ↦ ap (λ n. folded (n + t)) (p.1 ∙ sym p.0)
      | inr p ↦ sym (same_folded (folded s + t) (s + t) ((s - 1) / 65535) (omega arith) (omega arith))
    ]

-- the checksum that completes a sum
pub folded_closes : (s : ℕ) → folded (s + (65535 - folded s)) ≡ 65535
folded_closes s =
    let n : 0 < s + (65535 - folded s) = elim (folded_cases s) [ inl p ↦ omega arith | inr p ↦ omega arith ] in
    folded_pos _ n ∙ elim (folded_cases s) [ inl p ↦ omega arith | inr p ↦ omega arith ]

folded_differs : (s x y : ℕ) → x < 65535 → y < 65535 → x ≢ y → folded (s + x) ≢ folded (s + y)
folded_differs s x y p q n e =
    elim (folded_cases (s + x)) [
      | inl a ↦ elim (folded_cases (s + y)) [ inl b ↦ omega arith | inr b ↦ omega arith ]
      | inr a ↦ elim (folded_cases (s + y)) [ inl b ↦ omega arith | inr b ↦ omega arith ]
    ]

-- a byte counts by its position in its word
place_sum : (prefix back : List ℕ)
    → ((x : ℕ) → word_sum (prefix ++ x ∷ back) ≡ word_sum (prefix ++ 0 ∷ back) + x)
    ⊎ ((x : ℕ) → word_sum (prefix ++ x ∷ back) ≡ word_sum (prefix ++ 0 ∷ back) + 256 * x)
place_sum [] [] = inr (λ x. omega arith)
place_sum [] (b ∷ back) = inr (λ x. omega arith)
place_sum (a ∷ []) back = inl (λ x. omega arith)
place_sum (a ∷ b ∷ prefix) back =
    elim (place_sum prefix back) [ inl h ↦ inl (λ x. omega (arith, h x)) | inr h ↦ inr (λ x. omega (arith, h x)) ]

same_sum : (a b : List ℕ) → checksum_of a ≡ checksum_of b → folded (word_sum a) ≡ folded (word_sum b)
same_sum a b e = omega (arith, folded_most (word_sum a), folded_most (word_sum b))

pub one_byte : OneByteDetected
one_byte prefix back one other p q n e =
    let same = same_sum (prefix ++ one ∷ back) (prefix ++ other ∷ back) e in
    let base : ℕ = word_sum (prefix ++ 0 ∷ back) in
    elim (place_sum prefix back) [
      | inl h ↦ folded_differs base one other (omega arith) (omega arith) n (sym (ap folded (h one)) ∙ same ∙ ap folded (h other))
      | inr h ↦ folded_differs base (256 * one) (256 * other) (omega arith) (omega arith) (λ m. n (omega arith))
          (sym (ap folded (h one)) ∙ same ∙ ap folded (h other))
    ]
