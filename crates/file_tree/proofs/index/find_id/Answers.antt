use Rattle.file_tree.proofs.Prelude.{[], Some, sym, ap, ◌∙◌, option_map, slice_get-get_or, File, files_in, id_at}
use Rattle.file_tree.proofs.OrderLemmas.{found-name, slot-fresh}
use Rattle.file_tree.proofs.NamedLemmas.{named-get, named-nowhere}
use Rattle.file_tree.proofs.index.find_id.Goals as goal

pub returns-in-Ok-clause-found : goal.returns-in-Ok-clause-found
returns-in-Ok-clause-found c =
    let files = files_in c.args.image.now c.args.files.now in
    let id = id_at c.args.order.now c.in-Ok.rank in
    ap (option_map (λ (f : File). f.name)) (slice_get-get_or files id (record { name = []; kind = []; content = [] })
    (c.requires.order_is.ids c.in-Ok.rank c.in-Ok.ensures.found.0))
    ∙ ap Some c.in-Ok.ensures.found.1

pub returns-in-Ok-clause-there : goal.returns-in-Ok-clause-there
returns-in-Ok-clause-there c =
    sym (found-name (files_in c.args.image.now c.args.files.now) c.args.order.now c.args.name.now c.in-Ok.rank c.requires.order_is
    c.in-Ok.ensures.found.0 c.in-Ok.ensures.found.1)

pub returns-in-Ok-clause-file : goal.returns-in-Ok-clause-file
returns-in-Ok-clause-file c =
    named-get (files_in c.args.image.now c.args.files.now) c.args.order.now (id_at c.args.order.now c.in-Ok.rank) c.args.name.now c.requires.order_is
    (c.requires.order_is.ids c.in-Ok.rank c.in-Ok.ensures.found.0) c.in-Ok.ensures.found.1

pub returns-in-Err-clause-there : goal.returns-in-Err-clause-there
returns-in-Err-clause-there c =
    sym (slot-fresh (files_in c.args.image.now c.args.files.now) c.args.order.now c.args.name.now c.in-Err.field-0 c.requires.order_is c.in-Err.ensures.missing)

pub returns-in-Err-clause-file : goal.returns-in-Err-clause-file
returns-in-Err-clause-file c =
    let files = files_in c.args.image.now c.args.files.now in
    sym (named-nowhere files c.args.name.now (slot-fresh files c.args.order.now c.args.name.now c.in-Err.field-0 c.requires.order_is c.in-Err.ensures.missing))
