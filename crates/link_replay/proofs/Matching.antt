-- Lists that agree at each index, element by element.
use Rattle.link_replay.proofs.Prelude.{◌≡◌, ℕ, zero, suc, List, [], ◌∷◌, Some, map, subst, refl, ap, ◌∙◌, arith, slice_get, Matched}

pub matched_nil : {X Y : Type 0} (P : X → Y → Type 0) → Matched P [] []
matched_nil P = record { same_length = refl; each = λ i x y a b. absurd (cc) }

each_cons : {X Y : Type 0} (P : X → Y → Type 0) (x : X) (y : Y) (xs : List X) (ys : List Y) → P x y → Matched P xs ys →
    (i : ℕ) (a : X) (b : Y) → slice_get (x ∷ xs) i ≡ Some a → slice_get (y ∷ ys) i ≡ Some b → P a b
each_cons {X} {Y} P x y xs ys p h zero a b f g =
    let u : x ≡ a = cc in
    let v : y ≡ b = cc in
    subst (λ (z : Y). P a z) v (subst (λ (z : X). P z y) u p)
each_cons P x y xs ys p h (suc i) a b f g = h.each i a b f g

pub matched_cons : {X Y : Type 0} (P : X → Y → Type 0) (x : X) (y : Y) (xs : List X) (ys : List Y) → P x y → Matched P xs ys → Matched P (x ∷ xs) (y ∷ ys)
matched_cons P x y xs ys p h = record { same_length = (let e = h.same_length in omega arith); each = each_cons P x y xs ys p h }

pub matched_head : {X Y : Type 0} (P : X → Y → Type 0) (x : X) (y : Y) (xs : List X) (ys : List Y) → Matched P (x ∷ xs) (y ∷ ys) → P x y
matched_head P x y xs ys h = h.each 0 x y refl refl

pub matched_tail : {X Y : Type 0} (P : X → Y → Type 0) (x : X) (y : Y) (xs : List X) (ys : List Y) → Matched P (x ∷ xs) (y ∷ ys) → Matched P xs ys
matched_tail P x y xs ys h = record { same_length = (let e = h.same_length in omega arith); each = λ i a b f g. h.each (suc i) a b f g }

-- the same from each element on
pub matched_same : {X : Type 0} (P : X → X → Type 0) (xs : List X) → ((x : X) → P x x) → Matched P xs xs
matched_same P [] h = matched_nil P
matched_same P (x ∷ xs) h = matched_cons P x x xs xs (h x) (matched_same P xs h)

-- a list, and what a function makes of it
pub matched_image : {X Y : Type 0} (f : X → Y) (xs : List X) → Matched (λ x y. f x ≡ y) xs (map f xs)
matched_image {X} {Y} f [] = matched_nil (λ (x : X) (y : Y). f x ≡ y)
matched_image {X} {Y} f (x ∷ xs) = matched_cons (λ (x : X) (y : Y). f x ≡ y) x (f x) xs (map f xs) refl (matched_image f xs)

-- two functions that make the same of what agrees
pub same_images : {X Y Z : Type 0} (P : X → Y → Type 0) (f : X → Z) (g : Y → Z) (xs : List X) (ys : List Y)
    → ((x : X) (y : Y) → P x y → f x ≡ g y) → Matched P xs ys
    → map f xs ≡ map g ys
same_images P f g [] [] same m = refl
same_images P f g [] (y ∷ ys) same m = absurd (let e = m.same_length in omega arith)
same_images P f g (x ∷ xs) [] same m = absurd (let e = m.same_length in omega arith)
same_images {X} {Y} {Z} P f g (x ∷ xs) (y ∷ ys) same m =
    ap (λ (z : Z). z ∷ map f xs) (same x y (matched_head P x y xs ys m))
    ∙ ap (λ (zs : List Z). g y ∷ zs) (same_images P f g xs ys same (matched_tail P x y xs ys m))
