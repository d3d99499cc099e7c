use Rattle.file_tree.proofs.Prelude.{◌<◌, length, arith, length-map, file_in, files_in, id_at}
use Rattle.file_tree.proofs.OrderLemmas.{found-name, slot-fresh}
use Rattle.file_tree.proofs.NamedLemmas.{named-length, place-at}
use Rattle.file_tree.proofs.pages.included_len.Goals as goal
use Rattle.file_tree.proofs.pages.included_len.Goals.{In-Ok}

pub returns-in-Ok-clause-missing : goal.returns-in-Ok-clause-missing
returns-in-Ok-clause-missing c =
    found-name (files_in c.args.image.now c.args.files.now) c.args.order.now c.args.name.now c.in-Ok.rank c.requires.table.order_is
    c.in-Ok.ensures.found.0 c.in-Ok.ensures.found.1

-- the id that was found is that of a file
found-id : (c : In-Ok) → id_at c.args.order.now c.in-Ok.rank < length c.args.files.now
found-id c =
    let below = c.requires.table.order_is.ids c.in-Ok.rank c.in-Ok.ensures.found.0 in
    let counted = length-map c.args.files.now (file_in c.args.image.now) in
    omega (arith, below, counted)

pub returns-in-Ok-clause-len : goal.returns-in-Ok-clause-len
returns-in-Ok-clause-len c =
    named-length c.args.image.now c.args.files.now c.args.order.now (id_at c.args.order.now c.in-Ok.rank) c.args.name.now
    (record { name_at = 0; name_len = 0; kind_at = 0; kind_len = 0; at = 0; len = 0; greatest = 0 }) c.requires.table
    (found-id (goal.at.returns-in-Ok-clause-len c).In-Ok) c.in-Ok.ensures.found.1

pub returns-in-Ok-clause-bound : goal.returns-in-Ok-clause-bound
returns-in-Ok-clause-bound c =
    let within = place-at c.args.image.now c.args.files.now (id_at c.args.order.now c.in-Ok.rank)
    (record { name_at = 0; name_len = 0; kind_at = 0; kind_len = 0; at = 0; len = 0; greatest = 0 }) c.requires.table.within
    (found-id (goal.at.returns-in-Ok-clause-bound c).In-Ok) in
    omega (arith, within.content, c.requires.image_fits)

pub returns-in-Err-clause-missing : goal.returns-in-Err-clause-missing
returns-in-Err-clause-missing c =
    slot-fresh (files_in c.args.image.now c.args.files.now) c.args.order.now c.args.name.now c.in-Err.field-0 c.requires.table.order_is c.in-Err.ensures.missing
