-- The texts of a list's elements, one after another, and the digits of bytes.
use Rattle.link_replay.proofs.Prelude.{◌≡◌, ℕ, ◌+◌, ◌<◌, ◌≤◌, List, [], ◌∷◌, ◌++◌, length, take, drop, get_or, Option, Some, Result, Ok}
use Rattle.link_replay.proofs.Prelude.{Err, inl, inr, refl, sym, ap, ◌∙◌, arith, add-one, drop-cons, slice_index, slice_get, ◌/◌, ◌%◌}
use Rattle.link_replay.proofs.Prelude.{take-append-drop, drop_all, slice_get_cases, slice_get_within, get_or_from_slice_get, encode_with}
use Rattle.link_replay.proofs.Prelude.{encode_lower, Matched, numbered_texts, Wrote}
use Rattle.link_replay.proofs.Transmission.{Transmission, sending_more, sending_stops, sending_done}

pub encode_with-append : (t xs ys : List ℕ) → encode_with t (xs ++ ys) ≡ encode_with t xs ++ encode_with t ys
unfolding encode_with
encode_with-append t [] ys = refl
encode_with-append t (b ∷ xs) ys = ap (λ (l : List ℕ). slice_index t (b / 16) ∷ slice_index t (b % 16) ∷ l) (encode_with-append t xs ys)

-- the digits of a prefix and of the others
pub digits_parts : (n : ℕ) (xs prefix others : List ℕ) → prefix ≡ take n xs → others ≡ drop n xs → encode_lower xs ≡ encode_lower prefix ++ encode_lower others
digits_parts n xs prefix others f o =
    ap (λ l. encode_lower l) (sym (take-append-drop n xs) ∙ ap (λ l. l ++ drop n xs) (sym f) ∙ ap (λ l. prefix ++ l) (sym o))
    ∙ encode_with-append _ prefix others

-- what is in the other list
pub partner : {X Y : Type 0} (P : X → Y → Type 0) (xs : List X) (ys : List Y) (i : ℕ) (x : X) → Matched P xs ys → slice_get xs i ≡ Some x
    → (y : Y) × (slice_get ys i ≡ Some y) × P x y
partner {X} {Y} P xs ys i x m at =
    elim ((slice_get_cases ys i).1) as (λ _. (y : Y) × (slice_get ys i ≡ Some y) × P x y) [
      | inl there ↦ (there.0, there.2, m.each i x there.0 at there.2)
      | inr history ↦ absurd (let lt = slice_get_within xs i x at in omega (arith, lt, history.0, m.same_length))
    ]

texts_step : {X : Type 0} (text : ℕ → X → List ℕ) (n i : ℕ) (xs : List X) (x : X) → slice_get xs i ≡ Some x
    → numbered_texts text n (drop i xs) ≡ text n x ++ numbered_texts text (n + 1) (drop (i + 1) xs)
texts_step {X} text n i xs x at =
    let lt : i < length xs = slice_get_within xs i x at in
    let head : get_or xs i x ≡ x = get_or_from_slice_get xs i x x at in
    let step : drop i xs ≡ x ∷ drop (i + 1) xs = rw (add-one, drop-cons xs i x, head) refl in
    ap (λ (l : List X). numbered_texts text n l) step

-- a list whose texts are written, in its other form of the code
module _ {X Y : Type 0} (P : X → Y → Type 0) (xs : List X) (ys : List Y) (text : ℕ → Y → List ℕ) (m : Matched P xs ys) where
  -- one more
  pub texts_more : {T E : Type 0} (i : ℕ) (x : X) (first mid now : Option (List ℕ)) (t : T) → slice_get xs i ≡ Some x
      → Transmission first mid (numbered_texts text 1 ys) (numbered_texts text (i + 1) (drop i ys))
      → ((y : Y) → slice_get ys i ≡ Some y → P x y → Wrote {T = T} {E = E} mid now (Ok t) (text (i + 1) y))
      → Transmission first now (numbered_texts text 1 ys) (numbered_texts text (i + 1 + 1) (drop (i + 1) ys))
  texts_more i x first mid now t at s w =
      let there = partner P xs ys i x m at in
      sending_more first mid now (numbered_texts text 1 ys) (numbered_texts text (i + 1) (drop i ys)) (text (i + 1) there.0) _ t s
      (texts_step text (i + 1) i ys there.0 there.1) (w there.0 there.1 there.2)

  -- one failed
  pub texts_stop : {T U E D : Type 0} (i : ℕ) (x : X) (first mid now : Option (List ℕ)) (e : E) (d : D) (r : Result U D) → r ≡ Err d → slice_get xs i ≡ Some x
      → Transmission first mid (numbered_texts text 1 ys) (numbered_texts text (i + 1) (drop i ys))
      → ((y : Y) → slice_get ys i ≡ Some y → P x y → Wrote {T = T} {E = E} mid now (Err e) (text (i + 1) y))
      → Wrote first now r (numbered_texts text 1 ys)
  texts_stop i x first mid now e d r is at s w =
      let there = partner P xs ys i x m at in
      sending_stops first mid now (numbered_texts text 1 ys) (numbered_texts text (i + 1) (drop i ys)) (text (i + 1) there.0) _ e d r is s
      (texts_step text (i + 1) i ys there.0 there.1) (w there.0 there.1 there.2)

  -- all are written
  pub texts_end : {T E : Type 0} (i : ℕ) (first now : Option (List ℕ)) (t : T) → length xs ≤ i
      → Transmission first now (numbered_texts text 1 ys) (numbered_texts text (i + 1) (drop i ys)) → Wrote {T = T} {E = E} first now (Ok t)
      (numbered_texts text 1 ys)
  texts_end i first now t le s =
      let none : drop i ys ≡ [] = drop_all i ys (omega (arith, m.same_length)) in
      sending_done first now (numbered_texts text 1 ys) (numbered_texts text (i + 1) (drop i ys)) t s (ap (λ (l : List Y). numbered_texts text (i + 1) l) none)
