-- Facts about lists, parts of a text, and numbers modulo 2^32.
use Rattle.uip_node.proofs.Prelude.{◌≡◌, ℕ, zero, suc, ◌+◌, ◌<◌, ◌≤◌, Bool, true, false, if◌then◌else◌, not, ◌&&◌, ◌||◌, ◌⊎◌, inl, inr}
use Rattle.uip_node.proofs.Prelude.{List, [], ◌∷◌, ◌++◌, length, take, drop, refl, sym, ap, ◌∙◌, subst, arith, Some, slice_get}
use Rattle.uip_node.proofs.Prelude.{length-append, length-take, length-drop, append-nil, eqb, ltb, common_steps, take-append-le}
use Rattle.uip_node.proofs.Prelude.{take-append-drop, take-add, wrap, PlainSegment, has_syn, has_fin, occupies_sequence_space, IsPrefixOf}

-- a text is a slice of a page at an offset
pub record IsPart (page text : List ℕ) (at : ℕ) : Type 0 where
  pub fits : at + length text ≤ length page
  pub same : text ≡ take (length text) (drop at page)

drop-append-le : (n : ℕ) (xs ys : List ℕ) → n ≤ length xs → drop n (xs ++ ys) ≡ drop n xs ++ ys
drop-append-le n xs ys h = grind (arith, common_steps)

pub part_grows : (p more text : List ℕ) (at : ℕ) → IsPart p text at → IsPart (p ++ more) text at
part_grows p more text at h = record {
  fits = omega (arith, h.fits, length-append p more);
  same = (let a : at ≤ length p = omega (arith, h.fits) in
      let b : length text ≤ length (drop at p) = omega (arith, h.fits, length-drop at p) in
      rw (drop-append-le at p more a, take-append-le (length text) (drop at p) more b) h.same);
}

pub prefix_part : (p q text : List ℕ) (at : ℕ) → IsPrefixOf p q → IsPart p text at → IsPart q text at
prefix_part p q text at h g = subst (λ x. IsPart x text at) h.joined (part_grows p h.rest text at g)

pub part_prefix : (p xs : List ℕ) → IsPart p xs 0 → IsPrefixOf xs p
part_prefix p xs h = record { rest = drop (length xs) p; joined = (ap (λ l. l ++ drop (length xs) p) h.same ∙ take-append-drop (length xs) p) }

pub prefix_length : (xs ys : List ℕ) → IsPrefixOf xs ys → length xs ≤ length ys
prefix_length xs ys h = omega (arith, ap length h.joined, length-append xs h.rest)

pub prefix_refl : (xs : List ℕ) → IsPrefixOf xs xs
prefix_refl xs = record { rest = []; joined = append-nil xs }

pub part_joins : (p xs ys : List ℕ) → IsPart p xs 0 → IsPart p ys (length xs) → IsPart p (xs ++ ys) 0
part_joins p xs ys h g = record {
  fits = omega (arith, h.fits, g.fits, length-append xs ys);
  same = (let e : take (length xs + length ys) p ≡ take (length xs) p ++ take (length ys) (drop (length xs) p) = take-add (length xs) (length ys) p in
      let f : length (xs ++ ys) ≡ length xs + length ys = length-append xs ys in
      let a : xs ≡ take (length xs) p = h.same in
      let b : ys ≡ take (length ys) (drop (length xs) p) = g.same in
      ap (λ l. l ++ ys) a ∙ ap (λ l. take (length xs) p ++ l) b ∙ sym e ∙ ap (λ n. take n p) (sym f));
}

pub part_none : (p : List ℕ) → IsPart p [] 0
part_none p = record { fits = omega arith; same = refl }

prefix_is_part : (p xs : List ℕ) → IsPrefixOf xs p → IsPart p xs 0
prefix_is_part p xs h = subst (λ x. IsPart x xs 0) h.joined
    (let own : IsPart xs xs 0 = record { fits = omega arith; same = sym (Rattle.std.proofs.Math.Seq.take-length xs) } in part_grows xs h.rest xs 0 own)

-- a prefix of a text, and the part that follows it
pub prefix_joins : (p xs ys : List ℕ) → IsPrefixOf xs p → IsPart p ys (length xs) → IsPrefixOf (xs ++ ys) p
prefix_joins p xs ys h g = part_prefix p (xs ++ ys) (part_joins p xs ys (prefix_is_part p xs h) g)

pub same_place : (b x y : ℕ) → x < 4294967296 → y < 4294967296 → wrap (b + x) ≡ wrap (b + y) → x ≡ y
same_place b x y hx hy e = omega arith

pub wrap_wrap : (a b : ℕ) → wrap (wrap a + b) ≡ wrap (a + b)
wrap_wrap a b = omega arith

pub wrap_low : (a : ℕ) → wrap a < 4294967296
wrap_low a = omega arith

-- the list of what was sent, one longer
pub data AtEnd (X : Type 0) (xs : List X) (y : X) (k : ℕ) (x : X) : Type 0 where
  older : slice_get xs k ≡ Some x → AtEnd X xs y k x
  newest : k ≡ length xs → y ≡ x → AtEnd X xs y k x

pub get_push : {X : Type 0} (xs : List X) (y : X) (k : ℕ) (x : X) → slice_get (xs ++ y ∷ []) k ≡ Some x → AtEnd X xs y k x
get_push [] y zero x h = newest refl (cc)
get_push [] y (suc k) x h = absurd (cc)
get_push (a ∷ xs) y zero x h = older h
get_push (a ∷ xs) y (suc k) x h = elim (get_push xs y k x h) [ older e ↦ older e | newest i e ↦ newest (omega (arith, i)) e ]

pub both_ways : {P : Type 0} (b : Bool) → (b ≡ true → P) → (b ≡ false → P) → P
both_ways true t f = t refl
both_ways false t f = f refl

pub and_true : (a b : Bool) → a && b ≡ true → (a ≡ true) × (b ≡ true)
and_true true b h = (refl, h)
and_true false b h = absurd (cc)

pub and_false : (a b : Bool) → a && b ≡ false → (a ≡ false) ⊎ (b ≡ false)
and_false true b h = inr h
and_false false b h = inl refl

pub eqb-eq : (a b : ℕ) → eqb a b ≡ true → a ≡ b
eqb-eq a b h = grind (arith, common_steps)

pub empty_part : (r text : List ℕ) (at : ℕ) → length text ≡ 0 → at ≤ length r → IsPart r text at
empty_part r [] at e h = record { fits = omega arith; same = refl }
empty_part r (x ∷ xs) at e h = absurd (omega arith)

pub zero_or_more : (n : ℕ) → (n ≡ 0) ⊎ (0 < n)
zero_or_more n = grind arith

pub ltb-zero : (n : ℕ) → ltb 0 n ≡ false → n ≡ 0
ltb-zero n h = grind (arith, common_steps)

pub ltb-lt : (a b : ℕ) → ltb a b ≡ true → a < b
ltb-lt a b h = grind (arith, common_steps)

or_left : (a b : Bool) → a ≡ true → a || b ≡ true
or_left true b h = refl
or_left false b h = absurd (cc)

pub ltb-yes : (n : ℕ) → 0 < n → ltb 0 n ≡ true
ltb-yes n h = grind (arith, common_steps)

pub not-false : (b : Bool) → not b ≡ false → b ≡ true
not-false true h = refl
not-false false h = absurd (cc)

pub not-true : (b : Bool) → not b ≡ true → b ≡ false
not-true false h = refl
not-true true h = absurd (cc)

-- text that is not replied to at once is at the expected number
pub in_place : (s : PlainSegment) (n : ℕ) → occupies_sequence_space s && not (eqb s.seq n) ≡ false → 0 < length s.text → s.seq ≡ n
in_place s n f h =
    let a : occupies_sequence_space s ≡ true = or_left (ltb 0 (length s.text)) (has_syn s.flags || has_fin s.flags) (ltb-yes (length s.text) h) in
    elim (and_false (occupies_sequence_space s) (not (eqb s.seq n)) f) [ inl x ↦ absurd (cc) | inr y ↦ eqb-eq s.seq n (not-false (eqb s.seq n) y) ]

-- a fact about a choice, by its two cases. In place of `rw`, which takes records apart
pub choose : {A : Type 0} (P : A → Type 0) (b : Bool) (x y : A) → (b ≡ true → P x) → (b ≡ false → P y) → P (if b then x else y)
choose P true x y t f = t refl
choose P false x y t f = f refl

pub append_nothing : {X : Type 0} (xs : List X) → xs ++ [] ≡ xs
append_nothing [] = refl
append_nothing (x ∷ xs) = ap (λ l. x ∷ l) (append_nothing xs)

pub cut_part : (p : List ℕ) (at n : ℕ) → at + n ≤ length p → IsPart p (take n (drop at p)) at
cut_part p at n h =
    let e : length (take n (drop at p)) ≡ n = simp (length-take, length-drop) (omega arith) in
    record { fits = omega arith; same = ap (λ m. take m (drop at p)) (sym e) }

pub cut_length : (p : List ℕ) (at n : ℕ) → at + n ≤ length p → length (take n (drop at p)) ≡ n
cut_length p at n h = simp (length-take, length-drop) (omega arith)

pub only_some : {X : Type 0} (P : X → Type 0) (s x : X) → Some s ≡ Some x → P s → P x
only_some P s x e h = subst P (let f : s ≡ x = cc in f) h

pub nothing_placed : (s : PlainSegment) → has_syn s.flags ≡ false → has_fin s.flags ≡ false → s.text ≡ [] → occupies_sequence_space s ≡ true → ⊥
nothing_placed s a b c h =
    let z : ltb 0 (length s.text) || (has_syn s.flags || has_fin s.flags) ≡ false = ap
    (λ t. ltb 0 (length t) || (has_syn s.flags || has_fin s.flags)) c ∙ ap (λ x. x || has_fin s.flags) a ∙ b in absurd (cc)
