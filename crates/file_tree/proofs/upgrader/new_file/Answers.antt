use Rattle.file_tree.proofs.Prelude.{files_of}
use Rattle.file_tree.proofs.GoodLemmas.{retyped-by-parts}
use Rattle.file_tree.proofs.upgrader.new_file.Goals as goal

pub returns : goal.returns
returns c = retyped-by-parts c.args.words.now (files_of c.args.site.now) c.args.id.0 c.name.result.now c.chosen_kind.result.now
    c.bytes.result.now c.name.ensures c.chosen_kind.ensures c.bytes.ensures
