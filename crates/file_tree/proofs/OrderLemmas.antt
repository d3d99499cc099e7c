-- The order of names: which names are in it, and a further name at its rank.
use Rattle.file_tree.proofs.Prelude.{◌≡◌, ℕ, zero, suc, ◌+◌, ◌-◌, ◌<◌, ◌≤◌, true, false, List, [], ◌∷◌, ◌++◌, length, refl, sym, ap, subst}
use Rattle.file_tree.proofs.Prelude.{inl, inr, ◌∙◌, arith, insert, bytes_eq, cases_lt, cases_eq, or_cases, or_left, or_right, true≢false}
use Rattle.file_tree.proofs.Prelude.{false_from_ne_true, get_or_append_left, get_or_push, length_push, length-insert, get_or-insert_below}
use Rattle.file_tree.proofs.Prelude.{get_or-insert_at, get_or-insert_above, bytes_eq-Decides, File, has_name, FileId, IsBefore, name_of}
use Rattle.file_tree.proofs.Prelude.{id_at, name_at, IsOrder, IsSlot}
use Rattle.file_tree.proofs.NameLemmas.{not-before-itself}

-- ---- the names of files

pub has-name-at : (files : List File) (id : ℕ) (name : List ℕ) → id < length files → name_of files id ≡ name → has_name files name ≡ true
has-name-at [] id name lt e = absurd (omega arith)
has-name-at (f ∷ files) zero name lt e = or_left (bytes_eq f.name name) (has_name files name) ((bytes_eq-Decides f.name name).1 e)
has-name-at (f ∷ files) (suc id) name lt e =
    or_right (bytes_eq f.name name) (has_name files name) (has-name-at files id name (omega arith) e)

pub name-id : (files : List File) (name : List ℕ) → has_name files name ≡ true → (id : ℕ) × (id < length files) × (name_of files id ≡ name)
name-id [] name t = absurd (true≢false (sym t))
name-id (f ∷ files) name t =
    elim (or_cases (bytes_eq f.name name) (has_name files name) t) [
      | inl here ↦ (0, omega arith, (bytes_eq-Decides f.name name).0 here)
      | inr later ↦ let found = name-id files name later in (suc found.0, omega (arith, found.1), found.2)
    ]

-- ---- which names are in the order

pub found-name : (files : List File) (order : List FileId) (name : List ℕ) (rank : ℕ) → IsOrder files order → rank < length order
    → name_at files order rank ≡ name → has_name files name ≡ true
found-name files order name rank is lt e = has-name-at files (id_at order rank) name (is.ids rank lt) e

pub slot-fresh : (files : List File) (order : List FileId) (name : List ℕ) (slot : ℕ) → IsOrder files order → IsSlot files order name slot
    → has_name files name ≡ false
slot-fresh files order name slot is s = false_from_ne_true (has_name files name) (λ t.
    let found = name-id files name t in
    let ranked = is.each found.0 found.1 in
    let rank = ranked.0 in
    let same : name_at files order rank ≡ name = ap (name_of files) ranked.2 ∙ found.2 in
    elim (cases_lt rank slot) [
      | inl below ↦ not-before-itself (name_at files order rank) name same (s.below rank below)
      | inr above ↦ not-before-itself name (name_at files order rank) (sym same) (s.above rank above ranked.1)
    ])

pub order-empty : IsOrder [] []
order-empty = record {
  count = refl;
  ids = λ rank lt. absurd (omega arith);
  each = λ id lt. absurd (omega arith);
  rising = λ low high less lt. absurd (omega arith);
}

-- ---- a further file, whose id goes to the rank of its name

module _ (files : List File) (order : List FileId) (file : File) (slot : ℕ) (is : IsOrder files order) (s : IsSlot files order file.name slot) where
  the_id : FileId
  the_id = record { 0 = length files }

  abbrev new_files : List File
  new_files = files ++ file ∷ []

  abbrev new_order : List FileId
  new_order = insert order slot (record { 0 = length files })

  no_id : FileId
  no_id = record { 0 = 0 }

  kept-name : (id : ℕ) → id < length files → name_of new_files id ≡ name_of files id
  kept-name id lt = ap (λ (f : File). f.name) (get_or_append_left files (file ∷ []) (record { name = []; kind = []; content = [] }) id lt)

  own-name : name_of new_files (length files) ≡ file.name
  own-name = ap (λ (f : File). f.name) (get_or_push files file (record { name = []; kind = []; content = [] }) (length files) refl)

  id-below : (rank : ℕ) → rank < slot → id_at new_order rank ≡ id_at order rank
  id-below rank lt = ap (λ (i : FileId). i.0) (get_or-insert_below order slot (record { 0 = length files }) (record { 0 = 0 }) rank lt s.within)

  id-here : id_at new_order slot ≡ length files
  id-here = ap (λ (i : FileId). i.0) (get_or-insert_at order slot (record { 0 = length files }) (record { 0 = 0 }) s.within)

  id-above : (rank : ℕ) → slot ≤ rank → id_at new_order (rank + 1) ≡ id_at order rank
  id-above rank le = ap (λ (i : FileId). i.0) (get_or-insert_above order slot (record { 0 = length files }) (record { 0 = 0 }) rank le s.within)

  new-length : length new_order ≡ length order + 1
  new-length = length-insert order slot (record { 0 = length files }) s.within

  name-below : (rank : ℕ) → rank < slot → name_at new_files new_order rank ≡ name_at files order rank
  name-below rank lt =
      let within = s.within in
      ap (name_of new_files) (id-below rank lt) ∙ kept-name (id_at order rank) (is.ids rank (omega arith))

  name-here : name_at new_files new_order slot ≡ file.name
  name-here = ap (name_of new_files) id-here ∙ own-name

  name-above : (rank : ℕ) → slot ≤ rank → rank < length order → name_at new_files new_order (rank + 1) ≡ name_at files order rank
  name-above rank le lt = ap (name_of new_files) (id-above rank le) ∙ kept-name (id_at order rank) (is.ids rank lt)

  before-at : (a b c d : List ℕ) → a ≡ c → b ≡ d → IsBefore c d → IsBefore a b
  before-at a b c d p q before = subst (λ x. IsBefore x b) (sym p) (subst (λ x. IsBefore c x) (sym q) before)

  -- every rank is below the slot, the slot, or one above a rank of the old order
  new-rising : (low high : ℕ) → low < high → high < length new_order → IsBefore (name_at new_files new_order low) (name_at new_files new_order high)
  new-rising low high less lt =
      let grown = new-length in
      let name = λ (rank : ℕ). name_at new_files new_order rank in
      let old = λ (rank : ℕ). name_at files order rank in
      elim (cases_lt high slot) [
        | inl both_below ↦
            let within = s.within in
            before-at (name low) (name high) (old low) (old high) (name-below low (omega arith)) (name-below high both_below)
            (is.rising low high less (omega arith))
        | inr not_below ↦ elim (cases_eq slot high) [
          | inl here ↦
              let below : low < slot = omega arith in
              subst (λ k. IsBefore (name low) (name k)) here
              (before-at (name low) (name slot) (old low) file.name (name-below low below) name-here (s.below low below))
          | inr beyond ↦
              let h : ℕ = high - 1 in
              let up : h + 1 ≡ high = omega arith in
              let above : slot ≤ h = omega arith in
              let h_in : h < length order = omega (arith, lt, grown) in
              subst (λ k. IsBefore (name low) (name k)) up
              (elim (cases_lt low slot) [
                | inl below ↦ before-at (name low) (name (h + 1)) (old low) (old h) (name-below low below) (name-above h above h_in)
                    (is.rising low h (omega arith) h_in)
                | inr not_under ↦ elim (cases_eq slot low) [
                  | inl here ↦ subst (λ k. IsBefore (name k) (name (h + 1))) here
                      (before-at (name slot) (name (h + 1)) file.name (old h) name-here (name-above h above h_in) (s.above h above h_in))
                  | inr history ↦
                      let l : ℕ = low - 1 in
                      let low_up : l + 1 ≡ low = omega arith in
                      subst (λ k. IsBefore (name k) (name (h + 1))) low_up
                      (before-at (name (l + 1)) (name (h + 1)) (old l) (old h) (name-above l (omega arith) (omega (arith, h_in)))
                      (name-above h above h_in) (is.rising l h (omega arith) h_in))
                ]
              ])
        ]
      ]

  new-ids : (rank : ℕ) → rank < length new_order → id_at new_order rank < length new_files
  new-ids rank lt =
      let grown = new-length in
      let more = length_push files file in
      let within = s.within in
      elim (cases_lt rank slot) [
        | inl below ↦ let same = id-below rank below in let old = is.ids rank (omega arith) in omega arith
        | inr not_below ↦ elim (cases_eq slot rank) [
          | inl here ↦ let same = id-here in let at : id_at new_order rank ≡ length files = ap (id_at new_order) (sym here) ∙ same in omega arith
          | inr beyond ↦
              let r : ℕ = rank - 1 in
              let up : r + 1 ≡ rank = omega arith in
              let same : id_at new_order rank ≡ id_at order r = ap (id_at new_order) (sym up) ∙ id-above r (omega arith) in
              let old = is.ids r (omega arith) in
              omega arith
        ]
      ]

  new-each : (id : ℕ) → id < length new_files → (rank : ℕ) × (rank < length new_order) × (id_at new_order rank ≡ id)
  new-each id lt =
      let grown = new-length in
      let more = length_push files file in
      let within = s.within in
      elim (cases_eq id (length files)) [
        | inl own ↦ (slot, omega arith, id-here ∙ sym own)
        | inr old ↦
            let ranked = is.each id (omega arith) in
            let rank = ranked.0 in
            let rank_in : rank < length order = ranked.1 in
            elim (cases_lt rank slot) [
              | inl below ↦ (rank, omega arith, id-below rank below ∙ ranked.2)
              | inr above ↦ (rank + 1, omega arith, id-above rank above ∙ ranked.2)
            ]
      ]

  pub order-insert : IsOrder (files ++ file ∷ []) (insert order slot (record { 0 = length files }))
  order-insert =
      let grown = new-length in
      let more = length_push files file in
      let count = is.count in
      record { count = omega arith; ids = new-ids; each = new-each; rising = new-rising }
