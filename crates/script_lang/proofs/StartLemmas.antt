-- Where the next piece starts, by the two kinds of piece.
use Rattle.script_lang.proofs.Prelude.{◌≡◌, ℕ, ◌+◌, ◌-◌, ◌<◌, ◌≤◌, true, false, not, ◌||◌, ◌&&◌, List, length, min, nat_lt, eqb, ap, ◌∙◌}
use Rattle.script_lang.proofs.Prelude.{sym, inl, inr, ◌⊎◌, arith, slice_index, cases_lt, cases_eq, and_from, and_left, and_right, and_parts}
use Rattle.script_lang.proofs.Prelude.{or_from, or_left, or_right, ne_eqb, eqb-true, not_from_true, not_from_false, true≢false, lt-ltb}
use Rattle.script_lang.proofs.Prelude.{get_or_past, is_directive_mark, is_line_end, is_inside_directive, begins, ends, line_end, IsPlace}
use Rattle.script_lang.proofs.Prelude.{starts, run_end}
use Rattle.script_lang.proofs.PlaceLemmas.{IsFirst, first_place-is, same-first}
use Rattle.script_lang.proofs.OpenLemmas.{open-by, closed-by, not-opens}

-- the piece from a on goes to b: no piece starts between, and one starts at b or the text ends there
pub record GoesTo (text : List ℕ) (a b : ℕ) : Type 0 where
  pub after : a < b
  pub inside : b ≤ length text
  pub between : (q : ℕ) → a < q → q < b → starts text q ≡ false
  pub next : b < length text → starts text b ≡ true
  pub place : IsPlace text b

no-start : (text : List ℕ) (q : ℕ) → 0 < q → begins text q ≡ false → ends text q ≡ false → starts text q ≡ false
no-start text q pos b e =
    or_from (eqb q 0 || begins text q) (ends text q)
    (or_from (eqb q 0) (begins text q) (ne_eqb q 0 (λ zero. omega arith)) b) e

no-begin-open : (text : List ℕ) (q : ℕ) → is_inside_directive text q ≡ true → begins text q ≡ false
no-begin-open text q o = and_right (is_directive_mark text q) (not (is_inside_directive text q)) (not_from_true (is_inside_directive text q) o)

no-begin : (text : List ℕ) (q : ℕ) → is_directive_mark text q ≡ false → begins text q ≡ false
no-begin text q m = and_left (is_directive_mark text q) (not (is_inside_directive text q)) m

no-end-line : (text : List ℕ) (q : ℕ) → is_line_end text (q - 1) ≡ false → ends text q ≡ false
no-end-line text q l =
    and_left (nat_lt 0 q && is_line_end text (q - 1)) (is_inside_directive text (q - 1)) (and_right (nat_lt 0 q) (is_line_end text (q - 1)) l)

no-end-closed : (text : List ℕ) (q : ℕ) → is_inside_directive text (q - 1) ≡ false → ends text q ≡ false
no-end-closed text q o = and_right (nat_lt 0 q && is_line_end text (q - 1)) (is_inside_directive text (q - 1)) o

start-begin : (text : List ℕ) (q : ℕ) → is_directive_mark text q ≡ true → is_inside_directive text q ≡ false → starts text q ≡ true
start-begin text q m o =
    or_left (eqb q 0 || begins text q) (ends text q)
    (or_right (eqb q 0) (begins text q) (and_from (is_directive_mark text q) (not (is_inside_directive text q)) m
    (not_from_false (is_inside_directive text q) o)))

start-end : (text : List ℕ) (q e : ℕ) → q ≡ e + 1 → is_line_end text e ≡ true → is_inside_directive text e ≡ true → starts text q ≡ true
start-end text q e is l o =
    let back : q - 1 ≡ e = omega arith in
    or_right (eqb q 0 || begins text q) (ends text q)
    (and_from (nat_lt 0 q && is_line_end text (q - 1)) (is_inside_directive text (q - 1))
    (and_from (nat_lt 0 q) (is_line_end text (q - 1)) (lt-ltb 0 q (omega arith)) (ap (is_line_end text) back ∙ l))
    (ap (is_inside_directive text) back ∙ o))

-- the two bytes of `%!` lie in the text, and end no line
record Mark (text : List ℕ) (p : ℕ) : Type 0 where
  inside : p + 2 ≤ length text
  first : is_line_end text p ≡ false
  second : is_line_end text (p + 1) ≡ false

mark-bytes : (text : List ℕ) (p : ℕ) → is_directive_mark text p ≡ true → Mark text p
mark-bytes text p m =
    let parts = and_parts (eqb (slice_index text p) 37) (eqb (slice_index text (p + 1)) 33) m in
    let percent = eqb-true (slice_index text p) 37 parts.0 in
    let bang = eqb-true (slice_index text (p + 1)) 33 parts.1 in
    record {
      inside = elim (cases_lt (p + 1) (length text)) [
        | inl lt ↦ omega arith
        | inr history ↦ let zero : slice_index text (p + 1) ≡ 0 = get_or_past text (p + 1) 0 history in absurd (omega (arith, zero, bang))
      ];
      first = ne_eqb (slice_index text p) 10 (λ e. omega (arith, percent, e));
      second = ne_eqb (slice_index text (p + 1)) 10 (λ e. omega (arith, bang, e));
    }

directive-goes-by : (text : List ℕ) (a e : ℕ) → is_directive_mark text a ≡ true → Mark text a → IsFirst (is_line_end text) (a + 2)
    (length text) e → GoesTo text a (min (e + 1) (length text))
directive-goes-by text a e m mark first =
    let low = first.low in
    let high = first.high in
    let no_end : (k : ℕ) → a ≤ k → k < e → is_line_end text k ≡ false =
    λ k from below. elim (cases_eq k a) [
      | inl same ↦ ap (is_line_end text) same ∙ mark.first
      | inr other ↦ elim (cases_eq k (a + 1)) [
        | inl same ↦ ap (is_line_end text) same ∙ mark.second
        | inr far ↦ first.before k (omega arith) below
      ]
    ] in
    let is_open_at : (q : ℕ) → a < q → q ≤ e → is_inside_directive text q ≡ true =
    λ q later within. open-by text q a (record { before = later; mark = m; line = λ k from below. no_end k from (omega arith) }) in
    record {
      after = omega (arith, mark.inside);
      inside = omega arith;
      between = λ q later earlier. no-start text q (omega arith)
          (no-begin-open text q (is_open_at q later (omega arith)))
          (no-end-line text q (no_end (q - 1) (omega arith) (omega arith)));
      next = λ short.
          let ending : e < length text = omega arith in
          start-end text (min (e + 1) (length text)) e (omega arith) (first.here ending) (is_open_at e (omega arith) (omega arith));
      place = (omega arith, place-after);
    }
  where
    place-after : ◌⊎◌ (is_inside_directive text (min (e + 1) (length text)) ≡ false) (min (e + 1) (length text) ≡ length text)
    place-after = elim (cases_lt (e + 1) (length text)) [
      | inl short ↦
          let is : min (e + 1) (length text) ≡ e + 1 = omega arith in
          inl (ap (is_inside_directive text) is ∙ closed-by text (e + 1) (λ q o.
          true≢false (sym (first.here (omega arith)) ∙ o.line e (omega (arith, o.before)) (omega arith))))
      | inr end ↦ inr (omega arith)
    ]

-- a directive goes to the place after its LF, or to the text's end
pub directive-goes : (text : List ℕ) (a : ℕ) → is_directive_mark text a ≡ true → GoesTo text a (min (line_end text (a + 2) + 1) (length text))
directive-goes text a m =
    let mark = mark-bytes text a m in
    directive-goes-by text a (line_end text (a + 2)) m mark (first_place-is (is_line_end text) (a + 2) (length text) mark.inside)

-- no directive opens if none is open and there is no `%!`
still-closed : (text : List ℕ) (a b : ℕ) → a ≤ b → is_inside_directive text a ≡ false
    → ((k : ℕ) → a ≤ k → k < b → is_directive_mark text k ≡ false) → is_inside_directive text b ≡ false
still-closed text a b le closed none = closed-by text b (λ q o.
    elim (cases_lt q a) [
      | inl earlier ↦ not-opens text a q closed (record { before = earlier; mark = o.mark; line = λ k low high. o.line k low (omega arith) })
      | inr later ↦ true≢false (sym o.mark ∙ none q later o.before)
    ])

run-goes-by : (text : List ℕ) (a r : ℕ) → is_directive_mark text a ≡ false → is_inside_directive text a ≡ false → a < length text
    → IsFirst (is_directive_mark text) a (length text) r → GoesTo text a r
run-goes-by text a r m closed lt first =
    let low = first.low in
    let high = first.high in
    let after : a < r =
    elim (cases_eq a r) [
      | inl same ↦ absurd (true≢false (sym (first.here (omega arith)) ∙ ap (is_directive_mark text) (sym same) ∙ m))
      | inr other ↦ omega arith
    ] in
    let stays : (q : ℕ) → a ≤ q → q ≤ r → is_inside_directive text q ≡ false =
    λ q later within. still-closed text a q later closed (λ k from below. first.before k from (omega arith)) in
    record {
      after = after;
      inside = high;
      between = λ q later earlier. no-start text q (omega arith)
          (no-begin text q (first.before q (omega arith) earlier))
          (no-end-closed text q (stays (q - 1) (omega arith) (omega arith)));
      next = λ short. start-begin text r (first.here short) (stays r low (omega arith));
      place = (high, inl (stays r low (omega arith)));
    }

-- a text run goes to the next `%!`, or to the text's end
pub run-goes : (text : List ℕ) (a : ℕ) → is_directive_mark text a ≡ false → is_inside_directive text a ≡ false → a < length text
    → GoesTo text a (run_end text a)
run-goes text a m closed lt =
    run-goes-by text a (run_end text a) m closed lt (first_place-is (is_directive_mark text) a (length text) (omega arith))

-- from any place of a run on, the run goes to the same place
pub run-same : (text : List ℕ) (a q : ℕ) → a ≤ q → q < run_end text a → a ≤ length text → run_end text q ≡ run_end text a
run-same text a q le lt in_text =
    same-first (is_directive_mark text) q (length text) (run_end text q) (run_end text a)
    (first_place-is (is_directive_mark text) q (length text) (omega (arith, whole.high)))
    (record { low = omega arith; high = whole.high; before = λ k from below. whole.before k (omega arith) below; here = whole.here })
  where
    whole : IsFirst (is_directive_mark text) a (length text) (run_end text a)
    whole = first_place-is (is_directive_mark text) a (length text) in_text

-- at any place of a run no directive begins, and none is open
pub run-inside : (text : List ℕ) (a q : ℕ) → is_inside_directive text a ≡ false → a ≤ q → q < run_end text a → a ≤ length text
    → (is_directive_mark text q ≡ false) × (is_inside_directive text q ≡ false)
run-inside text a q closed le lt in_text =
    let whole = first_place-is (is_directive_mark text) a (length text) in_text in
    (whole.before q le lt, still-closed text a q le closed (λ k from below. whole.before k from (omega arith)))
