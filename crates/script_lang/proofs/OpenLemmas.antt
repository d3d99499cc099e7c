-- What it means that a directive is open at an offset.
use Rattle.script_lang.proofs.Prelude.{◌≡◌, ℕ, zero, suc, ◌+◌, ◌-◌, ◌<◌, ◌≤◌, Bool, true, false, not, ◌&&◌, List, ap, ◌∙◌, sym, inl, inr}
use Rattle.script_lang.proofs.Prelude.{arith, range_with_len, list_any, cases_eq, or_left, or_right, or_cases, and_from, and_parts}
use Rattle.script_lang.proofs.Prelude.{false_from_ne_true, not_from_false, not-true, true≢false, places, is_directive_mark, is_line_end}
use Rattle.script_lang.proofs.Prelude.{is_inside_directive}

any-of-range : (test : ℕ → Bool) (n a k : ℕ) → a ≤ k → k < a + n → test k ≡ true → list_any test (range_with_len a n) ≡ true
any-of-range test zero a k low high t = absurd (omega arith)
any-of-range test (suc n) a k low high t =
    elim (cases_eq a k) [
      | inl e ↦ or_left (test a) (list_any test (range_with_len (a + 1) n)) (ap test e ∙ t)
      | inr ne ↦ or_right (test a) (list_any test (range_with_len (a + 1) n)) (any-of-range test n (a + 1) k (omega arith) (omega arith) t)
    ]

-- some place passes
abbrev pub Passes : (ℕ → Bool) → ℕ → ℕ → Type 0
Passes test a b = (k : ℕ) × (a ≤ k) × (k < b) × (test k ≡ true)

any-in-range : (test : ℕ → Bool) (n a : ℕ) → list_any test (range_with_len a n) ≡ true → Passes test a (a + n)
any-in-range test zero a t = absurd (true≢false (sym t))
any-in-range test (suc n) a t =
    elim (or_cases (test a) (list_any test (range_with_len (a + 1) n)) t) [
      | inl here ↦ (a, omega arith, omega arith, here)
      | inr later ↦
          let found = any-in-range test n (a + 1) later in
          (found.0, omega arith, omega arith, found.3)
    ]

pub any-true : (test : ℕ → Bool) (a b k : ℕ) → a ≤ k → k < b → test k ≡ true → list_any test (places a b) ≡ true
any-true test a b k low high t = any-of-range test (b - a) a k low (omega arith) t

pub any-passes : (test : ℕ → Bool) (a b : ℕ) → list_any test (places a b) ≡ true → Passes test a b
any-passes test a b t =
    let found = any-in-range test (b - a) a t in
    (found.0, found.1, omega arith, found.3)

pub any-false : (test : ℕ → Bool) (a b : ℕ) → ((k : ℕ) → a ≤ k → k < b → test k ≡ false) → list_any test (places a b) ≡ false
any-false test a b none =
    false_from_ne_true (list_any test (places a b)) (λ t.
    let found = any-passes test a b t in
    true≢false (sym found.3 ∙ none found.0 found.1 found.2))

-- `%!` is at q, before p, and no line ends between
pub record Opens (text : List ℕ) (p q : ℕ) : Type 0 where
  pub before : q < p
  pub mark : is_directive_mark text q ≡ true
  pub line : (k : ℕ) → q ≤ k → k < p → is_line_end text k ≡ false

no-line-end : (text : List ℕ) (q p : ℕ) → list_any (is_line_end text) (places q p) ≡ false → (k : ℕ) → q ≤ k → k < p → is_line_end text k ≡ false
no-line-end text q p none k low high =
    false_from_ne_true (is_line_end text k) (λ t. true≢false (sym (any-true (is_line_end text) q p k low high t) ∙ none))

pub open-by : (text : List ℕ) (p q : ℕ) → Opens text p q → is_inside_directive text p ≡ true
open-by text p q o =
    any-true (λ q. is_directive_mark text q && not (list_any (is_line_end text) (places q p))) 0 p q (omega arith) o.before
    (and_from (is_directive_mark text q) (not (list_any (is_line_end text) (places q p))) o.mark
    (not_from_false (list_any (is_line_end text) (places q p)) (any-false (is_line_end text) q p o.line)))

pub opens : (text : List ℕ) (p : ℕ) → is_inside_directive text p ≡ true → (q : ℕ) × Opens text p q
opens text p t =
    let found = any-passes (λ q. is_directive_mark text q && not (list_any (is_line_end text) (places q p))) 0 p t in
    let parts = and_parts (is_directive_mark text found.0) (not (list_any (is_line_end text) (places found.0 p))) found.3 in (
      found.0,
      record {
        before = found.2;
        mark = parts.0;
        line = no-line-end text found.0 p (not-true (list_any (is_line_end text) (places found.0 p)) parts.1);
      },
    )

pub closed-by : (text : List ℕ) (p : ℕ) → ((q : ℕ) → Opens text p q → ⊥) → is_inside_directive text p ≡ false
closed-by text p none = false_from_ne_true (is_inside_directive text p) (λ t. let o = opens text p t in none o.0 o.1)

pub not-opens : (text : List ℕ) (p q : ℕ) → is_inside_directive text p ≡ false → Opens text p q → ⊥
not-opens text p q closed o = true≢false (sym (open-by text p q o) ∙ closed)
