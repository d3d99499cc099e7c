-- Scripts without a fault, up to an index of the files.
use Rattle.file_tree.proofs.Prelude.{◌≡◌, ℕ, ◌+◌, ◌<◌, ◌≤◌, List, length, get_or, Option, Some, None, refl, sym, ap, inl, inr, ◌∙◌, arith}
use Rattle.file_tree.proofs.Prelude.{slice_get, option_map, cases_eq, slice_get-get_or, slice_get_within, get_or_from_slice_get}
use Rattle.file_tree.proofs.Prelude.{slice_get-map, same_Some, Calling, Place, SiteWhy, script_fault_by, file_in, files_in, HasSoundScripts}

abbrev fault_at : {F : Type 0} → Calling F → List ℕ → List Place → Place → Option SiteWhy
fault_at c image places place = script_fault_by c (files_in image places) (file_in image place)

abbrev pub AreSoundTo : {F : Type 0} → Calling F → List ℕ → List Place → ℕ → Type 0
AreSoundTo c image places index = (k : ℕ) (place : Place) → k < index → slice_get places k ≡ Some place → fault_at c image places place ≡ None

pub sound-goes-on : {F : Type 0} (c : Calling F) (image : List ℕ) (places : List Place) (index : ℕ) (d : Place) → AreSoundTo c image places index
    → fault_at c image places (get_or places index d) ≡ None → AreSoundTo c image places (index + 1)
sound-goes-on c image places index d sound here k place less s =
    elim (cases_eq k index) [
      | inl e ↦
          let same : get_or places index d ≡ place = ap (λ j. get_or places j d) (sym e) ∙ get_or_from_slice_get places k place d s in
          ap (fault_at c image places) (sym same) ∙ here
      | inr ne ↦ sound k place (omega (arith, less, ne)) s
    ]

pub sound-ends : {F : Type 0} (c : Calling F) (image : List ℕ) (places : List Place) (index : ℕ) → AreSoundTo c image places index
    → length places ≤ index → HasSoundScripts c (files_in image places)
sound-ends c image places index sound done k file s = by_place (slice_get places k) refl (sym (slice_get-map (file_in image) places k) ∙ s)
  where
    by_place : (o : Option Place) → slice_get places k ≡ o → option_map (file_in image) o ≡ Some file → script_fault_by c (files_in image places) file ≡ None
    by_place None e h = absurd cc
    by_place (Some place) e h =
        let within = slice_get_within places k place e in
        ap (script_fault_by c (files_in image places)) (sym (same_Some (file_in image place) file h)) ∙ sound k place (omega (arith, within, done)) e

pub sound-fails : {F : Type 0} (c : Calling F) (image : List ℕ) (places : List Place) (index : ℕ) (d : Place) (why : SiteWhy) → index < length places
    → fault_at c image places (get_or places index d) ≡ Some why → HasSoundScripts c (files_in image places) → ⊥
sound-fails c image places index d why less e sound =
    let there = slice_get-map (file_in image) places index ∙ ap (option_map (file_in image)) (slice_get-get_or places index d less) in
    let none : fault_at c image places (get_or places index d) ≡ None = sound index (file_in image (get_or places index d)) there in
    none_some why (sym none ∙ e)
  where
    none_some : (w : SiteWhy) → ◌≡◌ {A = Option SiteWhy} None (Some w) → ⊥
    none_some w h = absurd cc
