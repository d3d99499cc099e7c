-- The file of a name, by its id.
use Rattle.file_tree.proofs.Prelude.{◌≡◌, ℕ, zero, suc, ◌+◌, ◌-◌, ◌<◌, ◌≤◌, false, List, [], ◌∷◌, length, get_or, drop, Some, None, refl}
use Rattle.file_tree.proofs.Prelude.{sym, ap, inl, inr, ◌∙◌, arith, find, slice_range, slice_get, bytes_eq, cases_order, or_parts}
use Rattle.file_tree.proofs.Prelude.{false_from_ne_true, cond-true, cond-false, length-take, length-drop, length-map, get_or-map}
use Rattle.file_tree.proofs.Prelude.{slice_get-get_or, bytes_eq-Decides, option_map_or, Place, File, has_name, file_named, IsWithin}
use Rattle.file_tree.proofs.Prelude.{file_in, files_in, FileId, name_of, id_at, name_at, AreWithin, IsOrder, IsIndex}
use Rattle.file_tree.proofs.NameLemmas.{not-before-itself}

-- no two files have one name
pub same-id : (files : List File) (order : List FileId) (j k : ℕ) → IsOrder files order → j < length files → k < length files
    → name_of files j ≡ name_of files k → j ≡ k
same-id files order j k is p q e =
    let a = is.each j p in
    let b = is.each k q in
    let name_a : name_at files order a.0 ≡ name_of files j = ap (name_of files) a.2 in
    let name_b : name_at files order b.0 ≡ name_of files k = ap (name_of files) b.2 in
    let same : name_at files order a.0 ≡ name_at files order b.0 = name_a ∙ e ∙ sym name_b in
    elim (cases_order a.0 b.0) [
      | inl one ↦ sym a.2 ∙ ap (id_at order) one ∙ b.2
      | inr apart ↦ elim apart [
        | inl below ↦ absurd (not-before-itself (name_at files order a.0) (name_at files order b.0) same (is.rising a.0 b.0 below b.1))
        | inr above ↦ absurd (not-before-itself (name_at files order b.0) (name_at files order a.0) (sym same) (is.rising b.0 a.0 above a.1))
      ]
    ]

-- the first file of a name
named-first : (files : List File) (id : ℕ) (name : List ℕ) (d : File) → id < length files → name_of files id ≡ name
    → ((k : ℕ) → k < id → name_of files k ≡ name → ⊥)
    → file_named files name ≡ Some (get_or files id d)
named-first [] id name d lt e none = absurd (omega arith)
named-first (f ∷ files) zero name d lt e none =
    cond-true (bytes_eq f.name name) (Some f) (find (λ (g : File). bytes_eq g.name name) files) ((bytes_eq-Decides f.name name).1 e)
named-first (f ∷ files) (suc id) name d lt e none =
    cond-false (bytes_eq f.name name) (Some f) (find (λ (g : File). bytes_eq g.name name) files)
    (false_from_ne_true (bytes_eq f.name name) (λ t. none 0 (omega arith) ((bytes_eq-Decides f.name name).0 t)))
    ∙ named-first files id name d (omega arith) e (λ k less same. none (suc k) (omega arith) same)

pub named-at : (files : List File) (order : List FileId) (id : ℕ) (name : List ℕ) (d : File) → IsOrder files order → id < length files → name_of files id ≡ name
    → file_named files name ≡ Some (get_or files id d)
named-at files order id name d is lt e = named-first files id name d lt e (λ k less same.
    let one = same-id files order k id is (omega arith) lt (same ∙ sym e) in
    omega arith)

-- how long a part of an image is
pub slice-length : (image : List ℕ) (at len : ℕ) → at + len ≤ length image → length (slice_range image at (at + len)) ≡ len
slice-length image at len within = omega (arith, length-take ((at + len) - at) (drop at image), length-drop at image)

-- a place lies within the image
pub place-at : (image : List ℕ) (places : List Place) (id : ℕ) (d : Place) → AreWithin image places → id < length places → IsWithin image (get_or places id d)
place-at image places id d within lt = within id (get_or places id d) (slice_get-get_or places id d lt)

-- the place with the id has the length of the file of the name
pub named-length : (image : List ℕ) (places : List Place) (order : List FileId) (id : ℕ) (name : List ℕ) (d : Place)
    → IsIndex image places order → id < length places
    → name_of (files_in image places) id ≡ name → (get_or places id d).len ≡ option_map_or (λ file. length file.content)
    (file_named (files_in image places) name) 0
named-length image places order id name d table lt e =
    let files = files_in image places in
    let counted : length files ≡ length places = length-map places (file_in image) in
    let in_files : id < length files = omega arith in
    let named : file_named files name ≡ Some (file_in image (get_or places id d)) =
    named-at files order id name (record { name = []; kind = []; content = [] }) table.order_is in_files e
    ∙ ap Some (get_or-map (file_in image) places id d (record { name = []; kind = []; content = [] }) lt) in
    let place = get_or places id d in
    let within = place-at image places id d table.within lt in
    sym (slice-length image place.at place.len within.content) ∙ sym (ap (λ found. option_map_or (λ (file : File). length file.content) found 0) named)

-- no file has a name that is not in the order
pub named-nowhere : (files : List File) (name : List ℕ) → has_name files name ≡ false → file_named files name ≡ None
named-nowhere [] name e = refl
named-nowhere (f ∷ files) name e =
    let parts = or_parts (bytes_eq f.name name) (has_name files name) e in
    cond-false (bytes_eq f.name name) (Some f) (find (λ (g : File). bytes_eq g.name name) files) parts.0 ∙ named-nowhere files name parts.1

-- the file of the id that was found
pub named-get : (files : List File) (order : List FileId) (id : ℕ) (name : List ℕ) → IsOrder files order → id < length files → name_of files id ≡ name
    → slice_get files id ≡ file_named files name
named-get files order id name is lt e =
    let d : File = record { name = []; kind = []; content = [] } in
    slice_get-get_or files id d lt ∙ sym (named-at files order id name d is lt e)
