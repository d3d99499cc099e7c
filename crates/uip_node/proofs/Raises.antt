-- Counters raised together, index by index, and as counts.
-- [add: counter] A further number.
use Rattle.uip_node.proofs.Prelude.{◌≡◌, ℕ, suc, ◌+◌, ◌<◌, ◌==◌, ◌||◌, Bool, true, false, List, [], ◌∷◌, if◌then◌else◌, length, get_or, map}
use Rattle.uip_node.proofs.Prelude.{refl, sym, ap, ◌∙◌, arith, range_with_len, agree_below_at, eqb-true, cases_eq, eq-eqb, ne_eqb, set}
use Rattle.uip_node.proofs.Prelude.{subst, inl, inr, get_or-set_other, get_or-set_same, get_or-map, mod-add-mod, wrap, marks, raise}
use Rattle.uip_node.proofs.Prelude.{counter_places, counters, raises, times, HistoryEntry}

pub raise_by_place : (bs : List Bool) (ns ms : List ℕ) → length ms ≡ length ns → length bs ≡ length ns →
    ((k : ℕ) → k < length ns → get_or ms k 0 ≡ (if get_or bs k false then wrap (get_or ns k 0 + 1) else get_or ns k 0)) → ms ≡ raise bs ns
raise_by_place [] [] [] e f h = refl
raise_by_place [] [] (m ∷ ms) e f h = absurd (omega (arith, e))
raise_by_place [] (n ∷ ns) ms e f h = absurd (omega (arith, f))
raise_by_place (b ∷ bs) [] ms e f h = absurd (omega (arith, f))
raise_by_place (b ∷ bs) (n ∷ ns) [] e f h = absurd (omega (arith, e))
raise_by_place (b ∷ bs) (n ∷ ns) (m ∷ ms) e f h =
    let head : m ≡ (if b then wrap (n + 1) else n) = h 0 (omega arith) in
    let tail : ms ≡ raise bs ns = raise_by_place bs ns ms (omega (arith, e)) (omega (arith, f)) (λ k lt. h (suc k) (omega arith)) in
    cc

one_more : (b : Bool) (n : ℕ) → wrap (if b then n + 1 else n) ≡ (if b then wrap (wrap n + 1) else wrap n)
one_more true n = sym (mod-add-mod n 4294967296 1)
one_more false n = refl

-- one event more raises the counters that are its own
counts_more : (numbers : List ℕ) (p : HistoryEntry) (history : List HistoryEntry) →
    map (λ k. wrap (times (raises k) (p ∷ history))) numbers ≡ raise (map (λ k. raises k p) numbers) (map (λ k. wrap (times (raises k) history)) numbers)
counts_more [] p history = refl
counts_more (k ∷ numbers) p history =
    let tail = counts_more numbers p history in
    let head : wrap (times (raises k) (p ∷ history)) ≡ (if raises k p then wrap (wrap (times (raises k) history) + 1) else wrap
    (times (raises k) history)) = one_more (raises k p) (times (raises k) history) in
    cc

-- which of the twenty an event of the past raised
abbrev pub raised_at : HistoryEntry → List Bool
raised_at p = map (λ k. raises k p) (range_with_len 0 20)

pub counters_more : (p : HistoryEntry) (history : List HistoryEntry) → counters (p ∷ history) ≡ raise (raised_at p) (counters history)
counters_more p history = counts_more (range_with_len 0 20) p history

-- the twenty places in their order
abbrev in_order : ℕ → Bool
in_order k = get_or counter_places k 0 == k

pub marks_at : (a b c k : ℕ) → k < 20 → get_or (marks a b c) k false ≡ ((k == a) || (k == b) || (k == c))
marks_at a b c k h =
    let at : get_or counter_places k 0 ≡ k = eqb-true (get_or counter_places k 0) k (agree_below_at in_order (λ _. true) 20 k refl h) in
    get_or-map (λ (n : ℕ). (n == a) || (n == b) || (n == c)) counter_places k 0 false h ∙ ap (λ (n : ℕ). (n == a) || (n == b) || (n == c)) at

-- one counter that rises
pub risen_at : (ns : List ℕ) (place k : ℕ) → place < length ns → k < length ns
    → get_or (set ns place (wrap (get_or ns place 0 + 1))) k 0 ≡ (if k == place then wrap (get_or ns k 0 + 1) else get_or ns k 0)
risen_at ns place k p h =
    elim (cases_eq k place) [
      | inl e ↦ rw (eq-eqb k place e) (subst (λ (i : ℕ). get_or (set ns place (wrap (get_or ns place 0 + 1))) i 0 ≡ wrap (get_or ns i 0 + 1)) (sym e)
          (get_or-set_same ns place (wrap (get_or ns place 0 + 1)) 0 p))
      | inr n ↦ rw (ne_eqb k place n) (rw get_or-set_other refl)
    ]

pub stays_at : (n place k : ℕ) → (k ≡ place → ⊥) → n ≡ (if k == place then wrap (n + 1) else n)
stays_at n place k e = rw (ne_eqb k place e) refl

when : (b : Bool) (x y z : ℕ) → b ≡ true → z ≡ (if b then x else y) → z ≡ x
when true x y z e h = h
when false x y z e h = absurd (cc e)

unless : (b : Bool) (x y z : ℕ) → b ≡ false → z ≡ (if b then x else y) → z ≡ y
unless true x y z e h = absurd (cc e)
unless false x y z e h = h

-- an index that is kept apart from another one
kept_apart : (k a b place : ℕ) → k < 20 → k ≡ a → place ≡ (if b == a then 20 else b) → k ≡ place → ⊥
kept_apart k a b place h e f same =
    elim (cases_eq b a) [
      | inl i ↦ let none : place ≡ 20 = when (b == a) 20 b place (eq-eqb b a i) f in omega arith
      | inr n ↦ let own : place ≡ b = unless (b == a) 20 b place (ne_eqb b a n) f in n (omega arith)
    ]

still_apart : (k b other place : ℕ) → k < 20 → (k ≡ b → ⊥) → place ≡ (if b == other then 20 else b) → k ≡ place → ⊥
still_apart k b other place h ne f same =
    elim (cases_eq b other) [
      | inl i ↦ let none : place ≡ 20 = when (b == other) 20 b place (eq-eqb b other i) f in omega arith
      | inr n ↦ let own : place ≡ b = unless (b == other) 20 b place (ne_eqb b other n) f in ne (omega arith)
    ]

own_place : (k a b place : ℕ) → k ≡ b → (k ≡ a → ⊥) → place ≡ (if b == a then 20 else b) → k ≡ place
own_place k a b place e ne f =
    let n : b ≡ a → ⊥ = λ i. ne (omega arith) in
    let own : place ≡ b = unless (b == a) 20 b place (ne_eqb b a n) f in omega arith

either : (x y z : Bool) (m n r : ℕ) → r ≡ (if x then m else (if y then m else (if z then m else n))) → r ≡ (if x || y || z then m else n)
either true y z m n r e = e
either false true z m n r e = e
either false false z m n r e = e

-- a counter that rises once if it is at one of three indices
pub risen_once : (k a b c second mid third : ℕ) (n0 n1 n2 n3 : ℕ) → k < 20
    → second ≡ (if b == a then 20 else b) → mid ≡ (if c == a then 20 else c) → third ≡ (if mid == b then 20 else mid)
    → n1 ≡ (if k == a then wrap (n0 + 1) else n0) → n2 ≡ (if k == second then wrap (n1 + 1) else n1) → n3 ≡ (if k == third then wrap (n2 + 1) else n2)
    → n3 ≡ (if (k == a) || (k == b) || (k == c) then wrap (n0 + 1) else n0)
risen_once k a b c second mid third n0 n1 n2 n3 h is_second is_mid is_third e1 e2 e3 =
    either (k == a) (k == b) (k == c) (wrap (n0 + 1)) n0 n3
    (elim (cases_eq k a) [
      | inl i ↦
          let one : n1 ≡ wrap (n0 + 1) = when (k == a) (wrap (n0 + 1)) n0 n1 (eq-eqb k a i) e1 in
          let two : n2 ≡ n1 = unless (k == second) (wrap (n1 + 1)) n1 n2 (ne_eqb k second (kept_apart k a b second h i is_second)) e2 in
          let three : n3 ≡ n2 =
          unless (k == third) (wrap (n2 + 1)) n2 n3 (ne_eqb k third (still_apart k mid b third h (kept_apart k a c mid h i is_mid) is_third)) e3 in
          rw (eq-eqb k a i) (three ∙ two ∙ one)
      | inr na ↦ elim (cases_eq k b) [
        | inl i ↦
            let one : n1 ≡ n0 = unless (k == a) (wrap (n0 + 1)) n0 n1 (ne_eqb k a na) e1 in
            let two : n2 ≡ wrap (n1 + 1) = when (k == second) (wrap (n1 + 1)) n1 n2 (eq-eqb k second (own_place k a b second i na is_second)) e2 in
            let three : n3 ≡ n2 = unless (k == third) (wrap (n2 + 1)) n2 n3 (ne_eqb k third (kept_apart k b mid third h i is_third)) e3 in
            rw (ne_eqb k a na, eq-eqb k b i) (three ∙ two ∙ ap (λ (n : ℕ). wrap (n + 1)) one)
        | inr nb ↦
            let one : n1 ≡ n0 = unless (k == a) (wrap (n0 + 1)) n0 n1 (ne_eqb k a na) e1 in
            let two : n2 ≡ n1 = unless (k == second) (wrap (n1 + 1)) n1 n2 (ne_eqb k second (still_apart k b a second h nb is_second)) e2 in
            elim (cases_eq k c) [
              | inl i ↦
                  let at_mid : k ≡ mid = own_place k a c mid i na is_mid in
                  let three : n3 ≡ wrap (n2 + 1) = when (k == third) (wrap (n2 + 1)) n2 n3 (eq-eqb k third (own_place k b mid third at_mid nb is_third)) e3 in
                  rw (ne_eqb k a na, ne_eqb k b nb, eq-eqb k c i) (three ∙ ap (λ (n : ℕ). wrap (n + 1)) (two ∙ one))
              | inr nc ↦
                  let three : n3 ≡ n2 =
                  unless (k == third) (wrap (n2 + 1)) n2 n3 (ne_eqb k third (still_apart k mid b third h (still_apart k c a mid h nc is_mid) is_third)) e3 in
                  rw (ne_eqb k a na, ne_eqb k b nb, ne_eqb k c nc) (three ∙ two ∙ one)
            ]
      ]
    ])
