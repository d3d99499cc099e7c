-- How many texts are left to send, of pieces of some lengths, from an offset on.
use Rattle.std.proofs.Common.{◌≡◌, ℕ, suc, ◌+◌, ◌-◌, ◌*◌, ◌<◌, ◌≤◌, if◌then◌else◌, ◌⊎◌, inl, inr, List, [], ◌∷◌, ap, arith, nat_lt}
use Rattle.std.proofs.Math.Nat.{lt_of_mul-lt-mul_right, suc-mul}
use Rattle.std.proofs.lemmas.Bool.{cases_lt, lt-ltb, le-ltb}
use Rattle.std.proofs.lemmas.Grind.{div_ceil_times}
use Rattle.std.specs.Int.{div_ceil}

module _ (mss : ℕ) (some : 0 < mss) where
  -- of more there are not fewer texts, and of a whole text more there is one more
  ceil_rises : (a b : ℕ) → a ≤ b → div_ceil a mss ≤ div_ceil b mss
  ceil_rises a b h =
      let low = div_ceil_times a mss some in
      let high = div_ceil_times b mss some in
      let below : div_ceil a mss * mss < suc (div_ceil b mss) * mss = omega (arith, low.1, high.0, h, suc-mul (div_ceil b mss) mss) in
      omega (arith, lt_of_mul-lt-mul_right mss below)

  ceil_step : (a : ℕ) → div_ceil a mss < div_ceil (a + mss) mss
  ceil_step a =
      let low = div_ceil_times a mss some in
      let high = div_ceil_times (a + mss) mss some in
      let below : suc (div_ceil a mss) * mss < suc (div_ceil (a + mss) mss) * mss =
      omega (arith, low.1, high.0, suc-mul (div_ceil a mss) mss, suc-mul (div_ceil (a + mss) mss) mss) in
      omega (arith, lt_of_mul-lt-mul_right mss below)

  ceil_some : (a : ℕ) → 0 < a → 0 < div_ceil a mss
  ceil_some a h =
      let high = div_ceil_times a mss some in
      let below : 0 * mss < div_ceil a mss * mss = omega (arith, high.0, h) in
      omega (arith, lt_of_mul-lt-mul_right mss below)

  -- the texts that are left of pieces of these lengths, from place a on
  abbrev pub left_in : List ℕ → ℕ → ℕ
  left_in [] a = 0
  left_in (n ∷ ns) a = if nat_lt a n then div_ceil (n - a) mss + left_in ns 0 else left_in ns (a - n)

  pub inside : (n a : ℕ) (ns : List ℕ) → a < n → left_in (n ∷ ns) a ≡ div_ceil (n - a) mss + left_in ns 0
  inside n a ns h = ap (λ b. if b then div_ceil (n - a) mss + left_in ns 0 else left_in ns (a - n)) (lt-ltb a n h)

  pub behind : (n a : ℕ) (ns : List ℕ) → n ≤ a → left_in (n ∷ ns) a ≡ left_in ns (a - n)
  behind n a ns h = ap (λ b. if b then div_ceil (n - a) mss + left_in ns 0 else left_in ns (a - n)) (le-ltb a n h)

  -- from the start the most are left
  from_start : (n : ℕ) (ns : List ℕ) → left_in ns 0 ≤ left_in (n ∷ ns) 0
  from_start n ns =
      elim (cases_lt 0 n) [
        | inl h ↦ omega (arith, inside n 0 ns h)
        | inr h ↦ (let e : 0 - n ≡ 0 = omega (arith, h) in omega (arith, behind n 0 ns h, ap (λ k. left_in ns k) e))
      ]

  pub most_at_start : (ns : List ℕ) (a : ℕ) → left_in ns a ≤ left_in ns 0
  most_at_start [] a = omega arith
  most_at_start (n ∷ ns) a =
      elim (cases_lt a n) [
        | inl h ↦ omega (arith, inside n a ns h, inside n 0 ns (omega (arith, h)), ceil_rises (n - a) (n - 0) (omega arith))
        | inr h ↦ omega (arith, behind n a ns h, most_at_start ns (a - n), from_start n ns)
      ]

  -- all of them, counted
  pub counted : (n : ℕ) (ns : List ℕ) → left_in (n ∷ ns) 0 ≤ div_ceil n mss + left_in ns 0
  counted n ns =
      elim (cases_lt 0 n) [
        | inl h ↦ (let e : n - 0 ≡ n = omega arith in omega (arith, inside n 0 ns h, ap (λ k. div_ceil k mss) e))
        | inr h ↦ (let e : 0 - n ≡ 0 = omega (arith, h) in omega (arith, behind n 0 ns h, ap (λ k. left_in ns k) e))
      ]

  -- a piece that turned out no longer
  pub shorter : (len most : ℕ) (ns : List ℕ) → len ≤ most → left_in (len ∷ ns) 0 ≤ left_in (most ∷ ns) 0
  shorter len most ns h =
      elim (cases_lt 0 len) [
        | inl l ↦ omega (arith, inside len 0 ns l, inside most 0 ns (omega (arith, l, h)), ceil_rises (len - 0) (most - 0) (omega (arith, h)))
        | inr l ↦ (let e : 0 - len ≡ 0 = omega (arith, l) in omega (arith, behind len 0 ns l, ap (λ k. left_in ns k) e, from_start most ns))
      ]

  -- Text of x bytes is acknowledged, a whole text or all the output: one text less is left.
  pub one_less : (n a x output : ℕ) (ns : List ℕ) → 0 < x → a + x ≤ n + output → (x ≡ mss) ⊎ (a + x ≡ n + output) →
      (n ≤ a → left_in ns ((a - n) + x) < left_in ns (a - n)) → left_in (n ∷ ns) (a + x) < left_in (n ∷ ns) a
  one_less n a x output ns l within whole rest =
      elim (cases_lt a n) [
        | inl h ↦ elim (cases_lt (a + x) n) [
          | inl i ↦
              let is : x ≡ mss = elim whole [ inl e ↦ e | inr e ↦ absurd (let z : ⊥ = omega (arith, e, i) in z) ] in
              let e : n - a ≡ n - (a + x) + mss = omega (arith, is, i) in
              omega (arith, inside n (a + x) ns i, inside n a ns h, ceil_step (n - (a + x)), ap (λ k. div_ceil k mss) e)
          | inr i ↦ omega (arith, behind n (a + x) ns i, inside n a ns h, most_at_start ns (a + x - n), ceil_some (n - a) (omega (arith, h)))
        ]
        | inr h ↦ (let e : a + x - n ≡ a - n + x = omega (arith, h) in
            omega (arith, behind n (a + x) ns (omega (arith, h)), ap (λ k. left_in ns k) e, behind n a ns h, rest h))
      ]
