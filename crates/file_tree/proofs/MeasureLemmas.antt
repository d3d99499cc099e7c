-- The greatest lengths that were stored in the places so far.
use Rattle.file_tree.proofs.Prelude.{◌≡◌, ◌≢◌, ℕ, ◌+◌, ◌<◌, ◌≤◌, List, [], ◌∷◌, length, get_or, drop, set, map, Option, Some, None, Ok, Err}
use Rattle.file_tree.proofs.Prelude.{refl, sym, ap, subst, inl, inr, ◌∙◌, arith, slice_get, cases_eq, map-set, set-get_or, get_or-map}
use Rattle.file_tree.proofs.Prelude.{length-map, length-set, get_or-set_same, get_or-set_other, drop_more, drop_all, slice_get-get_or}
use Rattle.file_tree.proofs.Prelude.{slice_get_within, get_or_from_slice_get, SiteWhy, Place, File, page_length, script_fault, unless}
use Rattle.file_tree.proofs.Prelude.{fault, scripts, IsWithin, file_in, files_in, FileId, IsOrder, IsIndex, AreMeasured}

-- the places up to an index hold their lengths, and the scripts up to there have no fault
pub record Measuring (image : List ℕ) (start places : List Place) (order : List FileId) (index : ℕ) : Type 0 where
  pub same : files_in image places ≡ files_in image start
  pub count : length places ≡ length start
  pub table : IsIndex image places order
  pub sound : scripts (files_in image start) 0 (files_in image start) ≡ scripts (files_in image start) index (drop index (files_in image start))
  pub measured : (k : ℕ) (place : Place) → k < index → slice_get places k ≡ Some place → place.greatest ≡ page_length (files_in image start)
      (file_in image place)

pub measuring-starts : (image : List ℕ) (places : List Place) (order : List FileId) → IsIndex image places order → Measuring image places places order 0
measuring-starts image places order table = record {
  same = refl;
  count = refl;
  table = table;
  sound = refl;
  measured = λ k p lt s. absurd (omega arith);
}

abbrev with_length : Place → ℕ → Place
with_length place n = record place { greatest = n }

no_file : File
no_file = record { name = []; kind = []; content = [] }

-- a length changes no file
same-files : (image : List ℕ) (places : List Place) (index n : ℕ) (d : Place) → index < length places
    → files_in image (set places index (with_length (get_or places index d) n)) ≡ files_in image places
same-files image places index n d lt =
    let f = file_in image in
    let file = file_in image (get_or places index d) in
    map-set f places index (with_length (get_or places index d) n)
    ∙ ap (set (map f places) index) (sym (get_or-map f places index d (record { name = []; kind = []; content = [] }) lt))
    ∙ set-get_or (map f places) index (record { name = []; kind = []; content = [] })

get-set : (places : List Place) (index k : ℕ) (new p : Place) → slice_get (set places index new) k ≡ Some p → index < length places
    → ◌≡◌ {A = Option Place} (slice_get (set places index new) k) (Some p) → (k ≡ index → p ≡ new) × (k ≢ index → slice_get places k ≡ Some p)
get-set places index k new p s lt t =
    let kept = length-set places index new in
    let within = slice_get_within (set places index new) k p s in
    let is = get_or_from_slice_get (set places index new) k p p s in (
      λ e. sym is ∙ ap (λ j. get_or (set places index new) j p) e ∙ get_or-set_same places index new p lt,
      λ ne. slice_get-get_or places k p (omega arith) ∙ ap Some (sym (get_or-set_other places index k new p ne) ∙ is),
    )

one-script : (all : List File) (i : ℕ) (file : File) (files : List File) → scripts all i (file ∷ files) ≡ unless (script_fault all file)
    (i + 1) (scripts all (i + 1) files)
unfolding scripts
one-script all i file files = refl

no-script : (all : List File) (i : ℕ) → scripts all i [] ≡ Ok tt
unfolding scripts
no-script all i = refl

-- the script at an index, and those after it
script-at : (image : List ℕ) (start places : List Place) (order : List FileId) (index : ℕ) (d : Place) → Measuring image start places order
    index → index < length places
    → scripts (files_in image start) index (drop index (files_in image start))
    ≡ unless (script_fault (files_in image start) (file_in image (get_or places index d))) (index + 1)
    (scripts (files_in image start) (index + 1) (drop (index + 1) (files_in image start)))
script-at image start places order index d m lt =
    let all = files_in image start in
    let none : File = record { name = []; kind = []; content = [] } in
    let count = m.count in
    let counted : length all ≡ length start = length-map start (file_in image) in
    let here : get_or all index none ≡ file_in image (get_or places index d) =
    ap (λ fs. get_or fs index none) (sym m.same) ∙ get_or-map (file_in image) places index d none lt in
    ap (scripts all index) (drop_more all index none (omega arith))
    ∙ one-script all index (get_or all index none) (drop (index + 1) all)
    ∙ ap (λ f. unless (script_fault all f) (index + 1) (scripts all (index + 1) (drop (index + 1) all))) here

pub measuring-goes-on : (image : List ℕ) (start places : List Place) (order : List FileId) (index n : ℕ) (d : Place)
    → Measuring image start places order index → index < length places
    → script_fault (files_in image places) (file_in image (get_or places index d)) ≡ None
    → n ≡ page_length (files_in image places) (file_in image (get_or places index d))
    → Measuring image start (set places index (with_length (get_or places index d) n)) order (index + 1)
measuring-goes-on image start places order index n d m lt none is =
    let all = files_in image start in
    let here = get_or places index d in
    let new = with_length here n in
    let kept = same-files image places index n d lt in
    let within_here : IsWithin image here = m.table.within index here (slice_get-get_or places index d lt) in
    record {
      same = kept ∙ m.same;
      count = length-set places index new ∙ m.count;
      table = record {
        within = λ k p s.
            let known = get-set places index k new p s lt s in
            elim (cases_eq k index) [
              | inl e ↦ subst (IsWithin image) (sym (known.0 e)) (record { name = within_here.name; kind = within_here.kind; content = within_here.content })
              | inr ne ↦ m.table.within k p (known.1 ne)
            ];
        order_is = subst (λ fs. IsOrder fs order) (sym kept) m.table.order_is;
      };
      sound = m.sound ∙ script-at image start places order index d m lt
          ∙ ap (λ o. unless o (index + 1) (scripts all (index + 1) (drop (index + 1) all))) (ap (λ fs. script_fault fs (file_in image here))
          (sym m.same) ∙ none);
      measured = λ k p less s.
          let known = get-set places index k new p s lt s in
          elim (cases_eq k index) [
            | inl e ↦
                ap (λ (q : Place). q.greatest) (known.0 e) ∙ is ∙ ap (λ fs. page_length fs (file_in image here)) m.same
                ∙ ap (λ (q : Place). page_length all (file_in image q)) (sym (known.0 e))
            | inr ne ↦ m.measured k p (omega arith) (known.1 ne)
          ];
    }

pub measuring-fails : (image : List ℕ) (start places : List Place) (order : List FileId) (index : ℕ) (d : Place) (why : SiteWhy)
    → Measuring image start places order index → index < length places
    → script_fault (files_in image places) (file_in image (get_or places index d)) ≡ Some why
    → Err (fault why (index + 1)) ≡ scripts (files_in image start) 0 (files_in image start)
measuring-fails image start places order index d why m lt e =
    let all = files_in image start in
    let here = get_or places index d in
    sym (m.sound ∙ script-at image start places order index d m lt
    ∙ ap (λ o. unless o (index + 1) (scripts all (index + 1) (drop (index + 1) all))) (ap (λ fs. script_fault fs (file_in image here)) (sym m.same) ∙ e))

pub measuring-ends : (image : List ℕ) (start places : List Place) (order : List FileId) (index : ℕ) → Measuring image start places order
    index → length places ≤ index
    → Ok tt ≡ scripts (files_in image start) 0 (files_in image start)
measuring-ends image start places order index m done =
    let all = files_in image start in
    let count = m.count in
    let counted : length all ≡ length start = length-map start (file_in image) in
    sym (m.sound ∙ ap (scripts all index) (drop_all index all (omega arith)) ∙ no-script all index)

pub measuring-measured : (image : List ℕ) (start places : List Place) (order : List FileId) (index : ℕ) → Measuring image start places order
    index → length places ≤ index → AreMeasured image places
measuring-measured image start places order index m done k p s =
    let lt = slice_get_within places k p s in
    m.measured k p (omega arith) s ∙ ap (λ fs. page_length fs (file_in image p)) (sym m.same)
