-- An image that grows at its end preserves its files and their order.
use Rattle.file_tree.proofs.Prelude.{◌≡◌, ℕ, ◌+◌, ◌-◌, ◌≤◌, List, [], ◌∷◌, ◌++◌, length, take, drop, refl, sym, ap, subst, ◌∙◌, add-one}
use Rattle.file_tree.proofs.Prelude.{arith, slice_range, slice_get, insert, length-append, take-append-le, drop-append-le, length-drop}
use Rattle.file_tree.proofs.Prelude.{map_push, Place, File, IsWithin, file_in, files_in, FileId, IsOrder, IsSlot, AreWithin, IsIndex}
use Rattle.file_tree.proofs.TableLemmas.{within-push, table-insert}

part-grown : (image more : List ℕ) (at len : ℕ) → at + len ≤ length image → slice_range (image ++ more) at (at + len) ≡ slice_range image at (at + len)
part-grown image more at len within =
    let n : (at + len) - at ≡ len = omega arith in
    ap (λ k. take k (drop at (image ++ more))) n
    ∙ ap (take len) (drop-append-le at image more (omega arith))
    ∙ take-append-le len (drop at image) more (omega (arith, length-drop at image))
    ∙ ap (λ k. take k (drop at image)) (sym n)

file-grown : (image more : List ℕ) (place : Place) → IsWithin image place → file_in (image ++ more) place ≡ file_in image place
file-grown image more place within = λ i. record {
  name = part-grown image more place.name_at place.name_len within.name i;
  kind = part-grown image more place.kind_at place.kind_len within.kind i;
  content = part-grown image more place.at place.len within.content i;
}

pub within-grown : (image more : List ℕ) (places : List Place) → AreWithin image places → AreWithin (image ++ more) places
within-grown image more places within k p s =
    let here = within k p s in
    let n = length-append image more in
    record { name = omega (arith, here.name, n); kind = omega (arith, here.kind, n); content = omega (arith, here.content, n) }

pub files-grown : (image more : List ℕ) (places : List Place) → AreWithin image places → files_in (image ++ more) places ≡ files_in image places
files-grown image more [] within = refl
files-grown image more (p ∷ places) within =
    ap (λ f. f ∷ files_in (image ++ more) places) (file-grown image more p (within 0 p refl))
    ∙ ap (λ fs. file_in image p ∷ fs) (files-grown image more places (λ k q s. within (k + 1) q (ap (λ j. slice_get (p ∷ places) j) (add-one k) ∙ s)))

pub table-grown : (image more : List ℕ) (places : List Place) (order : List FileId) → IsIndex image places order → IsIndex (image ++ more) places order
table-grown image more places order table = record {
  within = within-grown image more places table.within;
  order_is = subst (λ fs. IsOrder fs order) (sym (files-grown image more places table.within)) table.order_is;
}

-- a further file at the end of the image, where no order is kept
pub file-push : (image grown : List ℕ) (more : List ℕ) (places : List Place) (place : Place) (file : File)
    → grown ≡ image ++ more → AreWithin image places → IsWithin grown place → file_in grown place ≡ file
    → AreWithin grown (places ++ place ∷ []) × (files_in grown (places ++ place ∷ []) ≡ files_in image places ++ file ∷ [])
file-push image grown more places place file is all within file_is =
    let kept : files_in grown places ≡ files_in image places = ap (λ x. files_in x places) is ∙ files-grown image more places all in
    let old : AreWithin grown places = subst (λ x. AreWithin x places) (sym is) (within-grown image more places all) in (
      within-push grown places place old within,
      map_push (file_in grown) places place ∙ ap (λ fs. fs ++ file_in grown place ∷ []) kept ∙ ap (λ f. files_in image places ++ f ∷ []) file_is,
    )

-- a further file at the end of the image
pub table-push : (image grown : List ℕ) (more : List ℕ) (places : List Place) (order : List FileId) (place : Place) (file : File) (slot number : ℕ)
    → grown ≡ image ++ more → IsIndex image places order → IsSlot (files_in image places) order file.name slot → IsWithin grown place
    → file_in grown place ≡ file → length places ≡ number
    → IsIndex grown (places ++ place ∷ []) (insert order slot (record { 0 = number }))
    × (files_in grown (places ++ place ∷ []) ≡ files_in image places ++ file ∷ [])
table-push image grown more places order place file slot number is table s within file_is count =
    let kept : files_in grown places ≡ files_in image places = ap (λ x. files_in x places) is ∙ files-grown image more places table.within in
    let old : IsIndex grown places order = subst (λ x. IsIndex x places order) (sym is) (table-grown image more places order table) in (
      table-insert grown places order place slot number old within
          (subst (λ fs. IsSlot fs order (file_in grown place).name slot) (sym kept)
          (subst (λ n. IsSlot (files_in image places) order n slot) (sym (ap (λ (f : File). f.name) file_is)) s)) count,
      map_push (file_in grown) places place ∙ ap (λ fs. fs ++ file_in grown place ∷ []) kept ∙ ap (λ f. files_in image places ++ f ∷ []) file_is,
    )
