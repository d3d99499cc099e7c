use Rattle.file_tree.proofs.Prelude.{◌≡◌, ◌≤◌, length, insert, vec_capacity}
use Rattle.file_tree.proofs.table_reader.insert_reserved.Given as goal

abbrev pub invariant-loop-at : goal.invariant-loop-at
invariant-loop-at l = (l.slot ≤ l.at) × (l.at ≤ length l.fn.order.items) × (l.order.items ≡ insert l.fn.order.items l.at l.fn.id)
    × (vec_capacity l.order ≡ vec_capacity l.fn.order)

abbrev pub decreases-loop-at : goal.decreases-loop-at
decreases-loop-at l = l.at
