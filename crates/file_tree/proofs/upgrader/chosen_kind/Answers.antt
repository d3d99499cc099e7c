use Rattle.file_tree.proofs.Prelude.{sym, slice_get, files_of}
use Rattle.file_tree.proofs.GoodLemmas.{chosen-by-word, chosen-by-own}
use Rattle.file_tree.proofs.upgrader.chosen_kind.Goals as goal

pub returns-in-Some : goal.returns-in-Some
returns-in-Some c =
    chosen-by-word c.args.words.now (slice_get (files_of c.args.site.now) c.args.id.0) c.name.result.now c.in-Some.kind.now c.name.ensures
    (sym c.in-Some.ensures)

pub returns : goal.returns
returns c =
    chosen-by-own c.args.words.now (slice_get (files_of c.args.site.now) c.args.id.0) c.name.result.now c.kind.result.now c.name.ensures
    (sym c.in_default.ensures) c.kind.ensures
