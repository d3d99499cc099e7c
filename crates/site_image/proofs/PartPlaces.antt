-- A part of an image by its place, and by what is left of the image from an earlier offset on.
use Rattle.site_image.proofs.Prelude.{◌≡◌, ℕ, ◌+◌, ◌-◌, ◌≤◌, List, length, take, drop, sym, ap, ◌∙◌, arith, drop-drop, IsPart}

-- the part of n bytes that begins k bytes after the place
pub part-is : (image : List ℕ) (at k n m : ℕ) → at + k + n ≤ length image → n ≡ m
    → IsPart image (record { at = at + k; len = n; next = at + k + n }) (take m (drop k (drop at image))) (drop (m + k) (drop at image))
part-is image at k n m within same = record {
  within = omega arith;
  next = within;
  value_is =
      let e : (at + k + n) - (at + k) ≡ m = omega arith in
      ap (λ x. take x (drop (at + k) image)) e ∙ ap (take m) (sym (drop-drop k at image));
  rest_is =
      let e : at + k + n ≡ at + (m + k) = omega arith in
      ap (λ x. drop x image) e ∙ sym (drop-drop (m + k) at image);
}
