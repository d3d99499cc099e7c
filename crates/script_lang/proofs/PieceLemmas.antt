-- Read from offset to offset, `piece_at` gives the pieces of the whole text.
use Rattle.script_lang.proofs.Prelude.{◌≡◌, ℕ, zero, suc, ◌+◌, ◌-◌, ◌<◌, ◌≤◌, Bool, true, false, ◌||◌, cond, List, [], ◌∷◌, length, min}
use Rattle.script_lang.proofs.Prelude.{filter, map, eqb, refl, ap, ◌∙◌, sym, subst, inl, inr, ◌⊎◌, arith, range_with_len, cases_Bool}
use Rattle.script_lang.proofs.Prelude.{cond-false, cases_eq, or_left, ne_eqb, eq-eqb, FoundOf, places, Text, is_directive_mark}
use Rattle.script_lang.proofs.Prelude.{is_inside_directive, line_end, directive, IsPlace, starts, run_end, piece_by, pieces_by}
use Rattle.script_lang.proofs.PlaceLemmas.{first_place-is, places-first, places-none}
use Rattle.script_lang.proofs.StartLemmas.{GoesTo, directive-goes, run-goes, run-inside, run-same}

filter-keeps : (test : ℕ → Bool) (a : ℕ) (rest : List ℕ) → test a ≡ true → filter test (a ∷ rest) ≡ a ∷ filter test rest
filter-keeps test a rest t = ap (λ b. cond b (a ∷ filter test rest) (filter test rest)) t

filter-drops : (test : ℕ → Bool) (a : ℕ) (rest : List ℕ) → test a ≡ false → filter test (a ∷ rest) ≡ filter test rest
filter-drops test a rest t = ap (λ b. cond b (a ∷ filter test rest) (filter test rest)) t

-- two tests that agree on a range keep the same places of it
filter-same : (p q : ℕ → Bool) (n a : ℕ) → ((k : ℕ) → a ≤ k → k < a + n → p k ≡ q k) → filter p (range_with_len a n) ≡ filter q (range_with_len a n)
filter-same p q zero a same = refl
filter-same p q (suc n) a same =
    ap (λ b. cond b (a ∷ filter p (range_with_len (a + 1) n)) (filter p (range_with_len (a + 1) n))) (same a (omega arith) (omega arith))
    ∙ ap (λ rest. cond (q a) (a ∷ rest) rest) (filter-same p q n (a + 1) (λ k low high. same k (omega arith) (omega arith)))

-- a range of which no place passes is passed over
filter-skips : (test : ℕ → Bool) (m n a : ℕ) → ((k : ℕ) → a ≤ k → k < a + m → test k ≡ false) → filter test (range_with_len a (m + n))
    ≡ filter test (range_with_len (a + m) n)
filter-skips test zero n a none =
    let e : 0 + n ≡ n = omega arith in
    let f : a ≡ a + 0 = omega arith in
    ap (λ k. filter test (range_with_len a k)) e ∙ ap (λ k. filter test (range_with_len k n)) f
filter-skips test (suc m) n a none =
    let e : suc m + n ≡ suc (m + n) = omega arith in
    let f : (a + 1) + m ≡ a + suc m = omega arith in
    ap (λ k. filter test (range_with_len a k)) e
    ∙ filter-drops test a (range_with_len (a + 1) (m + n)) (none a (omega arith) (omega arith))
    ∙ filter-skips test m n (a + 1) (λ k low high. none k (omega arith) (omega arith))
    ∙ ap (λ k. filter test (range_with_len k n)) f

-- a place at which reading begins, or where a piece starts
abbrev kept : List ℕ → ℕ → ℕ → Bool
kept text a q = eqb q a || starts text q

kept-here : (text : List ℕ) (a : ℕ) → kept text a a ≡ true
kept-here text a = or_left (eqb a a) (starts text a) (eq-eqb a a refl)

kept-other : (text : List ℕ) (a q : ℕ) → (q ≡ a → ⊥) → kept text a q ≡ starts text q
kept-other text a q ne = ap (λ t. t || starts text q) (ne_eqb q a ne)

kept-start : (text : List ℕ) (a q : ℕ) → (q ≡ a → starts text q ≡ true) → kept text a q ≡ starts text q
kept-start text a q h = elim (cases_eq q a) [
  | inl same ↦ ap (λ t. t || starts text q) (eq-eqb q a same) ∙ sym (h same)
  | inr other ↦ kept-other text a q other
]

pub pieces_by-step : {F : Type 0} (named : List ℕ → F) (text : List ℕ) (a b : ℕ) → GoesTo text a b → pieces_by named text a ≡ piece_by named
    text a ∷ pieces_by named text b
pieces_by-step named text a b goes =
    let after = goes.after in
    let inside = goes.inside in
    let n = length text in
    let m = b - (a + 1) in
    let is_len : n - (a + 1) ≡ m + (n - b) = omega arith in
    let is_from : (a + 1) + m ≡ b = omega arith in
    let first : filter (kept text a) (places a n) ≡ a ∷ filter (kept text a) (places (a + 1) n) =
    ap (filter (kept text a)) (places-first a n (omega arith))
    ∙ filter-keeps (kept text a) a (places (a + 1) n) (kept-here text a) in
    let rest : filter (kept text a) (places (a + 1) n) ≡ filter (kept text b) (places b n) =
    filter-same (kept text a) (starts text) (n - (a + 1)) (a + 1) (λ k low high. kept-other text a k (λ e. omega arith))
    ∙ ap (λ k. filter (starts text) (range_with_len (a + 1) k)) is_len
    ∙ filter-skips (starts text) m (n - b) (a + 1) (λ k low high. goes.between k (omega arith) (omega arith))
    ∙ ap (λ k. filter (starts text) (range_with_len k (n - b))) is_from
    ∙ sym (filter-same (kept text b) (starts text) (n - b) b
    (λ k low high. kept-start text b k (λ e. ap (starts text) e ∙ goes.next (omega arith)))) in
    ap (map (piece_by named text)) (first ∙ ap (λ ps. a ∷ ps) rest)

next-chosen : {F : Type 0} (t : Bool) (x y : FoundOf F) → t ≡ true → x.next ≡ (cond t x y).next
next-chosen t x y e = sym (ap (λ b. (cond b x y).next) e)

next-other : {F : Type 0} (t : Bool) (x y : FoundOf F) → t ≡ false → y.next ≡ (cond t x y).next
next-other t x y e = sym (ap (λ b. (cond b x y).next) e)

-- the piece that is read from a place on goes to the next piece
pub piece-goes : {F : Type 0} (named : List ℕ → F) (text : List ℕ) (a : ℕ) → is_inside_directive text a ≡ false → a < length text
    → GoesTo text a ((piece_by named text a).next)
piece-goes {F = F} named text a closed lt =
    let mark : FoundOf F = record { piece = directive named text a; next = min (line_end text (a + 2) + 1) (length text) } in
    let run : FoundOf F = record { piece = Text a (run_end text a - a); next = run_end text a } in
    elim (cases_Bool (is_directive_mark text a)) [
      | inl m ↦ subst (GoesTo text a) (next-chosen (is_directive_mark text a) mark run m) (directive-goes text a m)
      | inr m ↦ subst (GoesTo text a) (next-other (is_directive_mark text a) mark run m) (run-goes text a m closed lt)
    ]

-- the same at any place, for the piece that was found there
pub found-goes : {F : Type 0} (named : List ℕ → F) (text : List ℕ) (a : ℕ) (found : FoundOf F) → IsPlace text a → (a ≡ length text → ⊥)
    → found ≡ piece_by named text a → GoesTo text a found.next
found-goes named text a found place before e =
    subst (λ b. GoesTo text a b) (sym (ap (λ f. f.next) e)) (piece-goes named text a (closed place.1) (omega (arith, place.0, before)))
  where
    closed : ◌⊎◌ (is_inside_directive text a ≡ false) (a ≡ length text) → is_inside_directive text a ≡ false
    closed (inl c) = c
    closed (inr end) = absurd (before end)

pub found-pieces : {F : Type 0} (named : List ℕ → F) (text : List ℕ) (a : ℕ) (found : FoundOf F) → GoesTo text a found.next
    → found ≡ piece_by named text a → pieces_by named text a ≡ found ∷ pieces_by named text found.next
found-pieces named text a found goes e =
    pieces_by-step named text a found.next goes ∙ ap (λ f. f ∷ pieces_by named text found.next) (sym e)

-- what is left of a text run from any place of it
pub run-rest : {F : Type 0} (named : List ℕ → F) (text : List ℕ) (a q : ℕ) → is_inside_directive text a ≡ false → a ≤ q → q < run_end text a → a ≤ length text
    → pieces_by named text q ≡ record { piece = Text q (run_end text a - q); next = run_end text a } ∷ pieces_by named text (run_end text a)
run-rest {F = F} named text a q closed le lt in_text =
    let here = run-inside text a q closed le lt in_text in
    let same = run-same text a q le lt in_text in
    let high : run_end text a ≤ length text = (first_place-is (is_directive_mark text) a (length text) in_text).high in
    let run : FoundOf F = record { piece = Text q (run_end text q - q); next = run_end text q } in
    let mark : FoundOf F = record { piece = directive named text q; next = min (line_end text (q + 2) + 1) (length text) } in
    pieces_by-step named text q (run_end text q) (run-goes text q here.0 here.1 (omega arith))
    ∙ ap (λ f. f ∷ pieces_by named text (run_end text q)) (cond-false (is_directive_mark text q) mark run here.0)
    ∙ ap (λ r. (record { piece = Text q (r - q); next = r }) ∷ pieces_by named text r) same
