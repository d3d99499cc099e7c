-- The first offset that passes a test, one offset at a time: the invariant of the search loops.
use Rattle.script_lang.proofs.Prelude.{◌≡◌, ◌==◌, ℕ, nat_lt, zero, suc, ◌+◌, ◌-◌, ◌<◌, ◌≤◌, Bool, true, false, cond, ◌∷◌, [], List, Some}
use Rattle.script_lang.proofs.Prelude.{refl, ap, ◌∙◌, sym, inl, inr, arith, find, unwrap_or, range_with_len, cases_eq, cases_lt}
use Rattle.script_lang.proofs.Prelude.{cases_order, eq-eqb, le-ltb, lt-ltb, ne_eqb, true≢false, places, first_place}

pub places-first : (a b : ℕ) → a < b → places a b ≡ a ∷ places (a + 1) b
places-first a b h =
    let e : b - a ≡ suc (b - (a + 1)) = omega arith in
    ap (range_with_len a) e

pub places-none : (a b : ℕ) → b ≤ a → places a b ≡ []
places-none a b h =
    let e : b - a ≡ 0 = omega arith in
    ap (range_with_len a) e

first-of-cons : (test : ℕ → Bool) (a b : ℕ) (rest : List ℕ) → test a ≡ true → unwrap_or (find test (a ∷ rest)) b ≡ a
first-of-cons test a b rest h = ap (λ t. unwrap_or (cond t (Some a) (find test rest)) b) h

after-cons : (test : ℕ → Bool) (a b : ℕ) (rest : List ℕ) → test a ≡ false → unwrap_or (find test (a ∷ rest)) b ≡ unwrap_or (find test rest) b
after-cons test a b rest h = ap (λ t. unwrap_or (cond t (Some a) (find test rest)) b) h

pub first_place-here : (test : ℕ → Bool) (a b : ℕ) → a < b → test a ≡ true → first_place test a b ≡ a
first_place-here test a b h t =
    ap (λ ps. unwrap_or (find test ps) b) (places-first a b h) ∙ first-of-cons test a b (places (a + 1) b) t

pub first_place-later : (test : ℕ → Bool) (a b : ℕ) → a < b → test a ≡ false → first_place test a b ≡ first_place test (a + 1) b
first_place-later test a b h t =
    ap (λ ps. unwrap_or (find test ps) b) (places-first a b h) ∙ after-cons test a b (places (a + 1) b) t

pub first_place-end : (test : ℕ → Bool) (a b : ℕ) → b ≤ a → first_place test a b ≡ b
first_place-end test a b h = ap (λ ps. unwrap_or (find test ps) b) (places-none a b h)

-- r is the first place from a up to before b that passes, else b
pub record IsFirst (test : ℕ → Bool) (a b r : ℕ) : Type 0 where
  pub low : a ≤ r
  pub high : r ≤ b
  pub before : (k : ℕ) → a ≤ k → k < r → test k ≡ false
  pub here : r < b → test r ≡ true

IsFirst-step : (test : ℕ → Bool) (a b : ℕ) (rest : List ℕ) (t : Bool) → test a ≡ t → a < b
    → IsFirst test (a + 1) b (unwrap_or (find test rest) b) → IsFirst test a b (unwrap_or (cond t (Some a) (find test rest)) b)
IsFirst-step test a b rest true e lt later =
    record { low = omega arith; high = omega arith; before = λ k low high. absurd (omega arith); here = λ _. e }
IsFirst-step test a b rest false e lt later =
    record {
      low = omega (arith, later.low);
      high = later.high;
      before = λ k low high. elim (cases_eq k a) [
        | inl same ↦ ap test same ∙ e
        | inr other ↦ later.before k (omega arith) high
      ];
      here = later.here;
    }

IsFirst-range : (test : ℕ → Bool) (n a b : ℕ) → a + n ≡ b → IsFirst test a b (unwrap_or (find test (range_with_len a n)) b)
IsFirst-range test zero a b e =
    record { low = omega arith; high = omega arith; before = λ k low high. absurd (omega arith); here = λ lt. absurd (omega arith) }
IsFirst-range test (suc n) a b e =
    IsFirst-step test a b (range_with_len (a + 1) n) (test a) refl (omega arith) (IsFirst-range test n (a + 1) b (omega arith))

pub first_place-is : (test : ℕ → Bool) (a b : ℕ) → a ≤ b → IsFirst test a b (first_place test a b)
first_place-is test a b h = IsFirst-range test (b - a) a b (omega arith)

-- there is only one
pub same-first : (test : ℕ → Bool) (a b r s : ℕ) → IsFirst test a b r → IsFirst test a b s → r ≡ s
same-first test a b r s one other = elim (cases_order r s) [
  | inl same ↦ same
  | inr apart ↦ elim apart [
    | inl below ↦ absurd (true≢false (sym (one.here (omega (arith, other.high))) ∙ other.before r one.low below))
    | inr above ↦ absurd (true≢false (sym (other.here (omega (arith, one.high))) ∙ one.before s other.low above))
  ]
]

-- the first offset of a range and of its prefix
pub history-prefix : (test : ℕ → Bool) (a n b r s : ℕ) → n < b → a ≤ n → IsFirst test a (n + 1) r → IsFirst test a b s → (r == n + 1) ≡ nat_lt n s
history-prefix test a n b r s within some one other = elim (cases_eq r (n + 1)) [
  | inl same ↦ eq-eqb r (n + 1) same ∙ sym (lt-ltb n s (elim (cases_lt s (n + 1)) [
    | inl below ↦ absurd (true≢false (sym (other.here (omega (arith, below, within))) ∙ one.before s other.low (omega (arith, below, same))))
    | inr above ↦ omega (arith, above, some)
  ]))
  | inr apart ↦ ne_eqb r (n + 1) apart ∙ sym (elim (cases_lt r s) [
    | inl later ↦ absurd (true≢false (sym (one.here (omega (arith, one.high, apart))) ∙ other.before r one.low later))
    | inr first ↦ le-ltb n s (omega (arith, first, one.high, apart))
  ])
]

-- a prefix in which no offset passes is skipped
pub first_place-behind : (test : ℕ → Bool) (a m b : ℕ) → a ≤ m → m ≤ b → ((k : ℕ) → a ≤ k → k < m → test k ≡ false) → first_place test m b
    ≡ first_place test a b
first_place-behind test a m b low high none =
    let rest = first_place-is test m b high in
    same-first test a b (first_place test m b) (first_place test a b)
    (record {
      low = omega (arith, rest.low);
      high = rest.high;
      before = λ k from below. elim (cases_lt k m) [ inl early ↦ none k from early | inr late ↦ rest.before k late below ];
      here = rest.here;
    })
    (first_place-is test a b (omega arith))

-- an offset that passes in the prefix is the first of all
pub first_place-prefix : (test : ℕ → Bool) (a m b : ℕ) → a ≤ m → m ≤ b → first_place test a m < m → first_place test a m ≡ first_place test a b
first_place-prefix test a m b low high lt =
    let prefix = first_place-is test a m low in
    same-first test a b (first_place test a m) (first_place test a b)
    (record { low = prefix.low; high = omega arith; before = prefix.before; here = λ _. prefix.here lt })
    (first_place-is test a b (omega arith))
