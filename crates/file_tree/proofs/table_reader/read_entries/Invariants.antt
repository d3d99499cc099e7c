use Rattle.file_tree.proofs.Prelude.{◌≤◌, vec_capacity}
use Rattle.file_tree.proofs.TableLemmas.{Reading}
use Rattle.file_tree.proofs.table_reader.read_entries.Given as goal

abbrev pub invariant-loop-number : goal.invariant-loop-number
invariant-loop-number l = Reading l.image l.version l.count l.number l.next l.files.items l.order.items × (l.count ≤ vec_capacity l.files)
    × (l.count ≤ vec_capacity l.order)
