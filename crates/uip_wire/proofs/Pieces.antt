-- The sum of bytes that are added in pieces.
use Rattle.uip_wire.proofs.Prelude.{◌≡◌, ℕ, ◌+◌, ◌*◌, ◌%◌, ◌≤◌, ◌⊎◌, inl, inr, Bool, true, not, ◌==◌, if◌then◌else◌, List, [], ◌∷◌, ◌++◌}
use Rattle.uip_wire.proofs.Prelude.{length, drop, slice_index, sym, ap, ◌∙◌, refl, arith, length-append, add_comm, folded, word_sum}
use Rattle.uip_wire.proofs.Prelude.{PartSum, sum_of}
use mathlib.Core.Bool.{beq}
use Rattle.uip_wire.proofs.Folding.{folded_add}

-- the first byte after an odd number of bytes
pub low_first : (piece : List ℕ) (b : Bool) (low sum : ℕ) → b ≡ true → 1 ≤ length piece → low ≡ slice_index piece 0
    → sum ≡ folded (word_sum (drop 1 piece)) → folded (low + sum) ≡ folded (if b then word_sum (0 ∷ piece) else word_sum piece)
low_first [] b low sum odd h e f = absurd (omega arith)
low_first (a ∷ rest) b low sum odd h e f =
    ap (λ n. folded n) (ap (λ n. low + n) f ∙ add_comm low (folded (word_sum rest)))
    ∙ folded_add (word_sum rest) low
    ∙ ap folded (omega arith)
    ∙ ap (λ v. folded (if v then word_sum (0 ∷ a ∷ rest) else word_sum (a ∷ rest))) (sym odd)

pub join_even : (bytes piece : List ℕ) → length bytes % 2 ≡ 0 → word_sum (bytes ++ piece) ≡ word_sum bytes + word_sum piece
join_even [] piece h = omega arith
join_even (a ∷ []) piece h = absurd (omega arith)
join_even (a ∷ b ∷ bytes) piece h = omega (arith, join_even bytes piece (omega arith))

after_low : (a : ℕ) (piece : List ℕ) → word_sum (a ∷ piece) ≡ 256 * a + word_sum (0 ∷ piece)
after_low a [] = omega arith
after_low a (p ∷ piece) = omega arith

pub join_odd : (bytes piece : List ℕ) → length bytes % 2 ≡ 1 → word_sum (bytes ++ piece) ≡ word_sum bytes + word_sum (0 ∷ piece)
join_odd [] piece h = absurd (omega arith)
join_odd (a ∷ []) piece h = after_low a piece
join_odd (a ∷ b ∷ bytes) piece h = omega (arith, join_odd bytes piece (omega arith))

even_or_odd : (n : ℕ) → (n % 2 ≡ 0) ⊎ (n % 2 ≡ 1)
even_or_odd n = grind arith

joined : (bytes piece : List ℕ)
    → word_sum bytes + (if length bytes % 2 == 1 then word_sum (0 ∷ piece) else word_sum piece) ≡ word_sum (bytes ++ piece)
joined bytes piece =
    elim (even_or_odd (length bytes)) [
      | inl h ↦ ap (λ n. word_sum bytes + (if n == 1 then word_sum (0 ∷ piece) else word_sum piece)) h ∙ sym (join_even bytes piece h)
      | inr h ↦ ap (λ n. word_sum bytes + (if n == 1 then word_sum (0 ∷ piece) else word_sum piece)) h ∙ sym (join_odd bytes piece h)
    ]

odd_by : (m n : ℕ) → m % 2 ≡ 0 → not (beq (m % 2 == 1) (n % 2 == 1)) ≡ ((m + n) % 2 == 1)
odd_by m n h =
    elim (even_or_odd n) [
      | inl k ↦ let s : (m + n) % 2 ≡ 0 = omega arith in rw (h, k, s) refl
      | inr k ↦ let s : (m + n) % 2 ≡ 1 = omega arith in rw (h, k, s) refl
    ]

odd_by_one : (m n : ℕ) → m % 2 ≡ 1 → not (beq (m % 2 == 1) (n % 2 == 1)) ≡ ((m + n) % 2 == 1)
odd_by_one m n h =
    elim (even_or_odd n) [
      | inl k ↦ let s : (m + n) % 2 ≡ 1 = omega arith in rw (h, k, s) refl
      | inr k ↦ let s : (m + n) % 2 ≡ 0 = omega arith in rw (h, k, s) refl
    ]

odd_sum : (m n : ℕ) → not (beq (m % 2 == 1) (n % 2 == 1)) ≡ ((m + n) % 2 == 1)
odd_sum m n = elim (even_or_odd m) [ inl h ↦ odd_by m n h | inr h ↦ odd_by_one m n h ]

same_part : (a a' : ℕ) (b b' : Bool) → a ≡ a' → b ≡ b' → ◌≡◌ {A = PartSum} (record { sum = a; is_odd = b }) (record { sum = a'; is_odd = b' })
same_part a a' b b' e f = cc

-- one piece more
pub add_piece : (bytes piece : List ℕ) (old : PartSum) (mid result : ℕ) → old ≡ sum_of bytes
    → mid ≡ folded (if old.is_odd then word_sum (0 ∷ piece) else word_sum piece) → result ≡ folded (old.sum + mid)
    → ◌≡◌ {A = PartSum} (record { sum = result; is_odd = not (beq old.is_odd (length piece % 2 == 1)) }) (sum_of (bytes ++ piece))
add_piece bytes piece old mid result e m r =
    let sum : old.sum ≡ folded (word_sum bytes) = ap (λ (p : PartSum). p.sum) e in
    let odd : old.is_odd ≡ (length bytes % 2 == 1) = ap (λ (p : PartSum). p.is_odd) e in
    let more : ℕ = (if length bytes % 2 == 1 then word_sum (0 ∷ piece) else word_sum piece) in
    let mid_is : mid ≡ folded more = m ∙ ap (λ b. folded (if b then word_sum (0 ∷ piece) else word_sum piece)) odd in
    same_part _ _ _ _
    (r ∙ ap (λ n. folded (n + mid)) sum ∙ folded_add (word_sum bytes) mid
    ∙ ap (λ n. folded (word_sum bytes + n)) mid_is
    ∙ ap folded (add_comm (word_sum bytes) (folded more)) ∙ folded_add more (word_sum bytes)
    ∙ ap folded (add_comm more (word_sum bytes) ∙ joined bytes piece))
    (ap (λ b. not (beq b (length piece % 2 == 1))) odd ∙ odd_sum (length bytes) (length piece)
    ∙ ap (λ n. n % 2 == 1) (sym (length-append bytes piece)))
