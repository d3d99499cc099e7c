-- Bytes of ASCII that are examined together have no mark among them.
use Rattle.uip_slip.proofs.Prelude.{◌≡◌, ℕ, ◌+◌, ◌%◌, ◌^◌, ◌≤◌, Bool, true, false, cond, not, leb, List, [], ◌∷◌, length, take, drop, map}
use Rattle.uip_slip.proofs.Prelude.{replicate, ◌-◌, refl, sym, ap, ◌∙◌, arith, length-take, length-drop, prefix_len, slice_range, nat_eq}
use Rattle.uip_slip.proofs.Prelude.{eqb-true, length-map, leading_from_mask_l, mask_l-mod, is_mark}
use lib.Lanes.{mask_l, top, zip2}

top_of : (a : Bool) → top 7 (cond a 255 0) ≡ a
top_of true = refl
top_of false = refl

-- the result of a comparison of all lanes with 128
abbrev great_of : List ℕ → ℕ → List Bool
great_of xs n = map (top 7) (zip2 (λ a b. cond (leb a b) 255 0) (replicate n 128) xs)

great_reported : (xs : List ℕ) → great_of xs (length xs) ≡ map (leb 128) xs
great_reported [] = refl
great_reported (x ∷ xs) = λ i. top_of (leb 128 x) i ∷ great_reported xs i

no_mark : (x : ℕ) → leb 128 x ≡ false → is_mark x ≡ false
no_mark x e = grind (arith, e)

-- where no byte is 128 or more, no byte is a mark
no_marks : (xs : List ℕ) → prefix_len (λ x. not (leb 128 x)) xs ≡ length xs → prefix_len (λ b. not (is_mark b)) xs ≡ length xs
no_marks [] e = refl
no_marks (x ∷ xs) e =
    elim (leb 128 x) as (λ v. leb 128 x ≡ v → cond (not v) (1 + prefix_len (λ y. not (leb 128 y)) xs) 0 ≡ length (x ∷ xs)
    → cond (not (is_mark x)) (1 + prefix_len (λ b. not (is_mark b)) xs) 0 ≡ length (x ∷ xs)) [
      | true ↦ λ b f. absurd (omega (arith, f))
      | false ↦ λ b f.
          ap (λ m. cond (not m) (1 + prefix_len (λ y. not (is_mark y)) xs) 0) (no_mark x b)
          ∙ omega (arith, no_marks xs (omega (arith, f)))
    ] refl e

not_not : (b : Bool) → not (not b) ≡ true → b ≡ true
not_not true e = refl
not_not false e = e

pub ascii : (bytes : List ℕ) (at : ℕ) → at + 64 ≤ length bytes
    → not (not (nat_eq (mask_l (great_of (take 64 (drop at bytes)) 64) % 2 ^ 64) 0)) ≡ true
    → 64 ≡ prefix_len (λ b. not (is_mark b)) (slice_range bytes at (at + 64))
ascii bytes at room e =
    let xs : List ℕ = take 64 (drop at bytes) in
    let long : length xs ≡ 64 = omega (arith, length-take 64 (drop at bytes), length-drop at bytes, room) in
    let zero : mask_l (great_of xs 64) % 2 ^ 64 ≡ 0 = eqb-true _ _ (not_not _ e) in
    let reported : mask_l (great_of xs 64) % 2 ^ 64 ≡ mask_l (map (leb 128) xs) =
    ap (λ k. mask_l (great_of xs k) % 2 ^ 64) (sym long) ∙ ap (λ ms. mask_l ms % 2 ^ 64) (great_reported xs)
    ∙ mask_l-mod (map (leb 128) xs) 64 (omega (arith, length-map xs (leb 128), long)) in
    sym (no_marks xs (leading_from_mask_l (leb 128) xs (sym reported ∙ zero)) ∙ long)
    ∙ ap (λ n. prefix_len (λ b. not (is_mark b)) (take n (drop at bytes))) (let width : 64 ≡ at + 64 - at = omega arith in width)
