-- The entries that were read so far, one more, and all of them.
use Rattle.file_tree.proofs.Prelude.{◌≡◌, ℕ, suc, ◌+◌, ◌-◌, ◌<◌, ◌≤◌, List, [], ◌∷◌, ◌++◌, length, drop, Some, Ok, Err, refl, sym, ap}
use Rattle.file_tree.proofs.Prelude.{subst, inl, inr, ◌∙◌, arith, insert, cases_lt, map_push, length-map, length_push, get_or_append_left}
use Rattle.file_tree.proofs.Prelude.{get_or_push, slice_get-get_or, slice_get_within, get_or_from_slice_get, SiteWhy, Place, Version, File}
use Rattle.file_tree.proofs.Prelude.{unless, fault, entry_fault, entry_file, after_entry, entries, IsWithin, file_in, files_in, FileId}
use Rattle.file_tree.proofs.Prelude.{IsOrder, IsSlot, AreWithin, IsIndex, IsEntry}
use Rattle.std.specs.List.{slice_get}
use Rattle.file_tree.proofs.OrderLemmas.{order-empty, order-insert}

-- of n entries this many were read, and the next one begins there
pub record Reading (image : List ℕ) (version : Version) (count number next : ℕ) (places : List Place) (order : List FileId) : Type 0 where
  pub same : entries version (count - number) (files_in image places) (drop next image) ≡ entries version count [] (drop 10 image)
  pub number_is : length places ≡ number
  pub table : IsIndex image places order
  pub inside : next ≤ length image

pub within-push : (image : List ℕ) (places : List Place) (place : Place) → AreWithin image places → IsWithin image place
    → AreWithin image (places ++ place ∷ [])
within-push image places place all one k p s =
    elim (cases_lt k (length places)) [
      | inl old ↦
          let same : slice_get places k ≡ Some p =
          slice_get-get_or places k p old ∙ ap Some (sym (get_or_append_left places (place ∷ []) p k old)
          ∙ get_or_from_slice_get (places ++ place ∷ []) k p p s) in
          all k p same
      | inr new ↦
          let lt = slice_get_within (places ++ place ∷ []) k p s in
          let more = length_push places place in
          let last : length places ≡ k = omega arith in
          let is : place ≡ p = sym (get_or_push places place p k last) ∙ get_or_from_slice_get (places ++ place ∷ []) k p p s in
          subst (IsWithin image) is one
    ]

pub table-empty : (image : List ℕ) → IsIndex image [] []
table-empty image = record { within = λ k p s. absurd cc; order_is = order-empty }

-- a further place, whose file goes to its rank
pub table-insert : (image : List ℕ) (places : List Place) (order : List FileId) (place : Place) (slot number : ℕ)
    → IsIndex image places order → IsWithin image place
    → IsSlot (files_in image places) order (file_in image place).name slot → length places ≡ number
    → IsIndex image (places ++ place ∷ []) (insert order slot (record { 0 = number }))
table-insert image places order place slot number table one s is = record {
  within = within-push image places place table.within one;
  order_is =
      let grown = order-insert (files_in image places) order (file_in image place) slot table.order_is s in
      let count : length (files_in image places) ≡ number = length-map places (file_in image) ∙ is in
      subst (λ fs. IsOrder fs (insert order slot (record { 0 = number }))) (sym (map_push (file_in image) places place))
      (subst (λ n. IsOrder (files_in image places ++ file_in image place ∷ []) (insert order slot (record { 0 = n }))) count grown);
}

-- what reading gives where an entry is left
one-entry : (version : Version) (left : ℕ) (earlier : List File) (bytes : List ℕ) → entries version (suc left) earlier bytes
    ≡ unless (entry_fault version earlier bytes) (length earlier + 1) (entries version left (earlier ++ entry_file version bytes ∷ [])
    (after_entry version bytes))
unfolding entries
one-entry version left earlier bytes = refl

no-entry : (version : Version) (earlier : List File) (bytes : List ℕ) → entries version 0 earlier bytes ≡ Ok (earlier, bytes)
unfolding entries
no-entry version earlier bytes = refl

pub reading-goes-on : (image : List ℕ) (version : Version) (count number next : ℕ) (places : List Place) (order : List FileId) (place : Place) (slot after : ℕ)
    → Reading image version count number next places order → number < count
    → IsEntry image version (files_in image places) order next place slot after
    → Reading image version count (number + 1) after (places ++ place ∷ []) (insert order slot (record { 0 = number }))
reading-goes-on image version count number next places order place slot after r lt e =
    let left : ℕ = count - (number + 1) in
    let one_less : count - number ≡ suc left = omega arith in
    let files = files_in image places in
    let bytes = drop next image in
    let step : entries version (suc left) files bytes ≡ entries version left (files ++ entry_file version bytes ∷ []) (after_entry version bytes) =
    one-entry version left files bytes
    ∙ ap (λ o. unless o (length files + 1) (entries version left (files ++ entry_file version bytes ∷ []) (after_entry version bytes))) e.none in
    let number_is = r.number_is in
    let more = length_push places place in
    record {
      same =
          ap (λ fs. entries version left fs (drop after image)) (map_push (file_in image) places place ∙ ap (λ f. files ++ f ∷ []) e.file_is)
          ∙ ap (entries version left (files ++ entry_file version bytes ∷ [])) e.rest_is
          ∙ sym step
          ∙ ap (λ n. entries version n files bytes) (sym one_less)
          ∙ r.same;
      number_is = omega arith;
      table = table-insert image places order place slot number r.table e.within e.slot_is r.number_is;
      inside = e.next_in;
    }

pub reading-fails : (image : List ℕ) (version : Version) (count number next : ℕ) (places : List Place) (order : List FileId) (why : SiteWhy)
    → Reading image version count number next places order → number < count
    → entry_fault version (files_in image places) (drop next image) ≡ Some why
    → entries version count [] (drop 10 image) ≡ Err (fault why (number + 1))
reading-fails image version count number next places order why r lt e =
    let left : ℕ = count - (number + 1) in
    let one_less : count - number ≡ suc left = omega arith in
    let files = files_in image places in
    let bytes = drop next image in
    let counted : length files ≡ number = length-map places (file_in image) ∙ r.number_is in
    sym r.same
    ∙ ap (λ n. entries version n files bytes) one_less
    ∙ one-entry version left files bytes
    ∙ ap (λ o. unless o (length files + 1) (entries version left (files ++ entry_file version bytes ∷ []) (after_entry version bytes))) e
    ∙ ap (λ n. Err (fault why (n + 1))) counted

pub reading-ends : (image : List ℕ) (version : Version) (count number next : ℕ) (places : List Place) (order : List FileId)
    → Reading image version count number next places order → count ≤ number
    → entries version count [] (drop 10 image) ≡ Ok (files_in image places, drop next image)
reading-ends image version count number next places order r done =
    let none_left : count - number ≡ 0 = omega arith in
    sym r.same ∙ ap (λ n. entries version n (files_in image places) (drop next image)) none_left ∙ no-entry version (files_in image places) (drop next image)

-- the same of an entry and of a fault, where the lists were seen through a slice
pub entry-seen : (image : List ℕ) (version : Version) (places seen : List Place) (order seen_order : List FileId) (next : ℕ) (place : Place) (slot after : ℕ)
    → seen ≡ places → seen_order ≡ order → IsEntry image version (files_in image seen) seen_order next place slot after
    → IsEntry image version (files_in image places) order next place slot after
entry-seen image version places seen order seen_order next place slot after p q e =
    subst (λ o. IsEntry image version (files_in image places) o next place slot after) q
    (subst (λ fs. IsEntry image version (files_in image fs) seen_order next place slot after) p e)
