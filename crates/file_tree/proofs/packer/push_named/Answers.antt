use Rattle.file_tree.proofs.Prelude.{◌≡◌, ◌++◌, ◌∷◌, [], sym, ap, subst, ◌∙◌, insert, One, entry, files_in, IsSlot, IsIndex, file_of}
use Rattle.file_tree.proofs.GrowLemmas.{table-push}
use Rattle.file_tree.proofs.packer.push_named.Goals as goal
use Rattle.file_tree.proofs.packer.push_named.Goals.{In_ok-push}

-- the table with the further file
pushed : (c : In_ok-push) → IsIndex c.push_file.new.image.items (c.args.draft.now.files.items ++ c.in_ok-place.place ∷ [])
    (insert c.args.draft.now.order.items c.in-Ok.slot (record { 0 = c.len-number.result }))
    × (files_in c.push_file.new.image.items (c.args.draft.now.files.items ++ c.in_ok-place.place ∷ [])
    ≡ files_in c.args.draft.now.image.items c.args.draft.now.files.items ++ file_of c.args.name.now c.args.content.now ∷ [])
pushed c =
    let old = c.args.draft.now in
    let file = file_of c.args.name.now c.args.content.now in
    let slot : IsSlot (files_in old.image.items old.files.items) old.order.items c.args.name.now c.in-Ok.slot =
    subst (λ os. IsSlot (files_in old.image.items old.files.items) os c.args.name.now c.in-Ok.slot) c.deref-3.ensures.value
    (subst (λ fs. IsSlot (files_in old.image.items fs) c.deref-3.result.now c.args.name.now c.in-Ok.slot) c.deref-2.ensures.value
    (subst (λ x. IsSlot (files_in x c.deref-2.result.now) c.deref-3.result.now c.args.name.now c.in-Ok.slot) c.deref.ensures.value c.in-Ok.ensures.slot)) in
    table-push old.image.items c.push_file.new.image.items (entry One file) old.files.items old.order.items c.in_ok-place.place file
    c.in-Ok.slot c.len-number.result
    c.in_ok-place.ensures.items c.requires.table slot c.in_ok-place.ensures.place c.in_ok-place.ensures.file
    (sym c.args.draft.now.files.ok.0 ∙ sym c.len-number.ensures)

pub returns-clause-files : goal.returns-clause-files
returns-clause-files c = ap (files_in c.push_file.new.image.items) c.in_ok-push.ensures.items ∙ (pushed c).1

pub returns-clause-table : goal.returns-clause-table
returns-clause-table c =
    subst (λ os. IsIndex c.push_file.new.image.items c.push.new.self.items os) (sym c.in_ok-insert.ensures.items)
    (subst (λ fs. IsIndex c.push_file.new.image.items fs (insert c.args.draft.now.order.items c.in-Ok.slot
    (record { 0 = c.len-number.result }))) (sym c.in_ok-push.ensures.items) (pushed c).0)
