use Rattle.file_tree.proofs.Prelude.{length, ap, arith}
use Rattle.file_tree.proofs.KindLemmas.{kind-short}
use Rattle.file_tree.proofs.pages.page_kind.Goals as goal

pub returns-then-is_empty-clause-bound : goal.returns-then-is_empty-clause-bound
returns-then-is_empty-clause-bound c = omega (arith, kind-short c.args.name.now, ap length c.content_kind.ensures)
