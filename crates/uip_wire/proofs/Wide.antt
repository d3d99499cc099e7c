-- Eight bytes that are added as one number of 64 bits.
use Rattle.uip_wire.proofs.Prelude.{◌≡◌, ℕ, ◌+◌, ◌-◌, ◌*◌, ◌/◌, ◌%◌, ◌^◌, ◌<◌, ◌≤◌, ◌⊎◌, inl, inr, List, [], ◌∷◌, ◌++◌, length, drop}
use Rattle.uip_wire.proofs.Prelude.{length-drop, sym, ap, ◌∙◌, refl, arith, add_comm, drop-drop, little_number, folded, word_sum}
use Rattle.uip_wire.proofs.Prelude.{swapped_sum}
use Rattle.uip_wire.proofs.Folding.{folded_add, folded_cases, folded_most, same_folded}

zero_or_more : (n : ℕ) → (n ≡ 0) ⊎ (0 < n)
zero_or_more n = grind arith

-- what is added so far, where `rest` of the bytes is still to be added
pub record Adding (sum : ℕ) (rest bytes : List ℕ) : Type 0 where
  pub fits : sum + 2 ^ 61 * length rest ≤ 2 ^ 61 * length bytes
  pub same : folded (sum + swapped_sum rest) ≡ folded (swapped_sum bytes)

eight_words : (s a b c d : ℕ) (more : ℕ)
    → folded (s + (281474976710656 * a + 4294967296 * b + 65536 * c + d) + more) ≡ folded (s + (a + (b + (c + (d + more)))))
eight_words s a b c d more =
    elim (zero_or_more (s + (a + (b + (c + (d + more)))))) [
      | inl e ↦ ap folded (omega arith)
      | inr h ↦ same_folded _ _ (4295032833 * a + 65537 * b + c) (omega arith) h
    ]

-- what holds for four numbers and what follows them holds for every list that has four
by_four : (P : List ℕ → Type 0) → ((a b c d : ℕ) (more : List ℕ) → P (a ∷ b ∷ c ∷ d ∷ more)) → (list : List ℕ) → 4 ≤ length list → P list
by_four P holds [] h = absurd (omega arith)
by_four P holds (a ∷ []) h = absurd (omega arith)
by_four P holds (a ∷ b ∷ []) h = absurd (omega arith)
by_four P holds (a ∷ b ∷ c ∷ []) h = absurd (omega arith)
by_four P holds (a ∷ b ∷ c ∷ d ∷ more) h = holds a b c d more

-- the next eight bytes
eight_on : (sum a b c d : ℕ) (rest : List ℕ) → 4 ≤ length rest
    → folded (sum + little_number 8 (a ∷ b ∷ c ∷ d ∷ rest) + swapped_sum (drop 4 rest)) ≡ folded (sum + swapped_sum (a ∷ b ∷ c ∷ d ∷ rest))
eight_on sum a b c d =
    by_four (λ (rest : List ℕ). folded (sum + little_number 8 (a ∷ b ∷ c ∷ d ∷ rest) + swapped_sum (drop 4 rest))
    ≡ folded (sum + swapped_sum (a ∷ b ∷ c ∷ d ∷ rest)))
    (λ e f g i rest.
    ap folded (omega arith)
    ∙ eight_words sum (g + 256 * i) (e + 256 * f) (c + 256 * d) (a + 256 * b) (swapped_sum rest)
    ∙ ap folded (omega arith))

pub next_eight : (sum : ℕ) (rest : List ℕ) → 8 ≤ length rest
    → folded (sum + little_number 8 rest + swapped_sum (drop 8 rest)) ≡ folded (sum + swapped_sum rest)
next_eight sum rest h =
    by_four (λ (l : List ℕ). 8 ≤ length l → folded (sum + little_number 8 l + swapped_sum (drop 8 l)) ≡ folded (sum + swapped_sum l))
    (λ a b c d more some. eight_on sum a b c d more (omega (arith, some))) rest (omega (arith, h)) h

-- the next four bytes
pub next_four : (sum : ℕ) (rest : List ℕ) → 4 ≤ length rest
    → folded (sum + little_number 4 rest + swapped_sum (drop 4 rest)) ≡ folded (sum + swapped_sum rest)
next_four sum =
    by_four (λ (l : List ℕ). folded (sum + little_number 4 l + swapped_sum (drop 4 l)) ≡ folded (sum + swapped_sum l))
    (λ a b c d rest.
    ap folded (omega arith)
    ∙ eight_words sum 0 0 (c + 256 * d) (a + 256 * b) (swapped_sum rest)
    ∙ ap folded (omega arith))

-- eight bytes after an offset
eight_at : (sum k : ℕ) (bytes : List ℕ) → k + 8 ≤ length bytes
    → folded (sum + little_number 8 (drop k bytes) + swapped_sum (drop (k + 8) bytes)) ≡ folded (sum + swapped_sum (drop k bytes))
eight_at sum k bytes h =
    ap (λ (l : List ℕ). folded (sum + little_number 8 (drop k bytes) + swapped_sum l)) (sym (drop-drop 8 k bytes))
    ∙ next_eight sum (drop k bytes) (omega (arith, length-drop k bytes))

-- twice eight bytes
pub next_sixteen : (sum one two : ℕ) (bytes : List ℕ) → 16 ≤ length bytes
    → one ≡ little_number 8 bytes → two ≡ little_number 8 (drop 8 bytes)
    → folded (sum + (one + two) + swapped_sum (drop 16 bytes)) ≡ folded (sum + swapped_sum bytes)
next_sixteen sum one two bytes h a b =
    ap folded (omega arith)
    ∙ ap (λ (n : ℕ). folded (sum + one + n + swapped_sum (drop 16 bytes))) b
    ∙ eight_at (sum + one) 8 bytes (omega arith)
    ∙ ap (λ (n : ℕ). folded (sum + n + swapped_sum (drop 8 bytes))) a
    ∙ next_eight sum bytes (omega arith)

-- four times eight bytes
pub next_block : (sum one two three four : ℕ) (bytes : List ℕ) → 32 ≤ length bytes
    → one ≡ little_number 8 bytes → two ≡ little_number 8 (drop 8 bytes) → three ≡ little_number 8 (drop 16 bytes) → four ≡ little_number 8 (drop 24 bytes)
    → folded (sum + (one + two + three + four) + swapped_sum (drop 32 bytes)) ≡ folded (sum + swapped_sum bytes)
next_block sum one two three four bytes h a b c d =
    ap folded (omega arith)
    ∙ ap (λ (n : ℕ). folded (sum + one + two + three + n + swapped_sum (drop 32 bytes))) d
    ∙ eight_at (sum + one + two + three) 24 bytes (omega arith)
    ∙ ap (λ (n : ℕ). folded (sum + one + two + n + swapped_sum (drop 24 bytes))) c
    ∙ eight_at (sum + one + two) 16 bytes (omega arith)
    ∙ ap (λ (n : ℕ). folded (sum + one + n + swapped_sum (drop 16 bytes))) b
    ∙ eight_at (sum + one) 8 bytes (omega arith)
    ∙ ap (λ (n : ℕ). folded (sum + n + swapped_sum (drop 8 bytes))) a
    ∙ next_eight sum bytes (omega arith)

pub no_byte : (rest : List ℕ) → length rest < 1 → swapped_sum rest ≡ 0
no_byte [] h = refl
no_byte (a ∷ rest) h = absurd (omega arith)

-- exchanging the bytes of all words is multiplying by 256, but for carries
words_swapped : (bytes : List ℕ) → (k : ℕ) × (256 * swapped_sum bytes ≡ word_sum bytes + 65535 * k)
words_swapped [] = (0, refl)
words_swapped (last ∷ []) = (0, omega arith)
words_swapped (high ∷ low ∷ rest) = let more = words_swapped rest in (low + more.0, omega (arith, more.1))

-- and so is exchanging the bytes of the sum
bytes_swapped : (sum : ℕ) → sum ≤ 65535 → folded (256 * sum) ≡ sum % 256 * 256 + sum / 256
bytes_swapped sum h =
    elim (folded_cases (256 * sum)) [ inl p ↦ p.1 ∙ omega (arith, p.0) | inr p ↦ p.1 ∙ omega (arith, p.0) ]

-- 256 times a sum, before its carries are added back and after
folded_times : (s : ℕ) → folded (256 * folded s) ≡ folded (256 * s)
folded_times s =
    elim (folded_cases s) [
      | inl p ↦ ap (λ (n : ℕ). folded (256 * n)) (p.1 ∙ sym p.0)
      | inr p ↦ sym (same_folded (256 * folded s) (256 * s) (256 * ((s - 1) / 65535)) (omega (arith, p.1)) (omega (arith, p.1)))
    ]

pub swapped_back : (bytes : List ℕ) (sum : ℕ) → sum ≡ folded (swapped_sum bytes) → sum % 256 * 256 + sum / 256 ≡ folded (word_sum bytes)
swapped_back bytes sum e =
    let all = words_swapped bytes in
    sym (bytes_swapped sum (omega (arith, e, folded_most (swapped_sum bytes))))
    ∙ ap (λ (n : ℕ). folded (256 * n)) e ∙ folded_times (swapped_sum bytes)
    ∙ elim (zero_or_more (word_sum bytes)) [
      | inl none ↦ ap folded (omega (arith, none, no_swapped bytes none))
      | inr some ↦ same_folded (word_sum bytes) (256 * swapped_sum bytes) all.0 all.1 some
    ]
  where
    no_swapped : (bytes : List ℕ) → word_sum bytes ≡ 0 → 256 * swapped_sum bytes ≡ 0
    no_swapped [] h = refl
    no_swapped (last ∷ []) h = omega arith
    no_swapped (high ∷ low ∷ rest) h = omega (arith, no_swapped rest (omega arith))

-- no word has bytes of both pieces if the first has an even number of bytes
swapped_join : (bytes piece : List ℕ) → length bytes % 2 ≡ 0 → swapped_sum (bytes ++ piece) ≡ swapped_sum bytes + swapped_sum piece
swapped_join [] piece h = omega arith
swapped_join (a ∷ []) piece h = absurd (omega arith)
swapped_join (a ∷ b ∷ bytes) piece h = omega (arith, swapped_join bytes piece (omega arith))

-- the sums of two pieces, of which the first has an even number of bytes
pub joined_back : (first second : List ℕ) (one two sum : ℕ) → length first % 2 ≡ 0
    → folded one ≡ folded (swapped_sum first) → folded two ≡ folded (swapped_sum second) → sum ≡ folded (one + two)
    → sum % 256 * 256 + sum / 256 ≡ folded (word_sum (first ++ second))
joined_back first second one two sum h e f g =
    swapped_back (first ++ second) sum
    (g ∙ same_first one (swapped_sum first) two e
    ∙ ap folded (add_comm (swapped_sum first) two)
    ∙ same_first two (swapped_sum second) (swapped_sum first) f
    ∙ ap folded (add_comm (swapped_sum second) (swapped_sum first) ∙ sym (swapped_join first second h)))
  where
    same_first : (s t more : ℕ) → folded s ≡ folded t → folded (s + more) ≡ folded (t + more)
    same_first s t more e = sym (folded_add s more) ∙ ap (λ (n : ℕ). folded (n + more)) e ∙ folded_add t more
