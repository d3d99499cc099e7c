use Rattle.file_tree.proofs.Prelude.{sym, ◌∙◌, files_in}
use Rattle.file_tree.proofs.OrderLemmas.{found-name, slot-fresh}
use Rattle.file_tree.proofs.ListLemmas.{name-twice, name-sound}
use Rattle.file_tree.proofs.packer.slot_of.Goals as goal

pub returns-in-Ok-clause-err : goal.returns-in-Ok-clause-err
returns-in-Ok-clause-err c =
    let files = files_in c.args.image.now c.args.files.now in
    name-twice files c.args.name.now (sym c.is_name.ensures ∙ c.if-not-is_name.false)
    (found-name files c.args.order.now c.args.name.now c.in-Ok.field-0 c.requires.order_is c.in-Ok.ensures.found.0 c.in-Ok.ensures.found.1)

pub returns-in-Err-clause-sound : goal.returns-in-Err-clause-sound
returns-in-Err-clause-sound c =
    let files = files_in c.args.image.now c.args.files.now in
    name-sound files c.args.name.now (sym c.is_name.ensures ∙ c.if-not-is_name.false)
    (slot-fresh files c.args.order.now c.args.name.now c.in-Err.slot c.requires.order_is c.in-Err.ensures.missing)
