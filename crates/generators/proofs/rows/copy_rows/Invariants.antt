use Rattle.generators.proofs.Prelude.{◌≡◌, ◌≤◌, length, take}
use Rattle.generators.proofs.rows.copy_rows.Given as goal

abbrev pub invariant-loop-row : goal.invariant-loop-row
invariant-loop-row l = (l.list.items ≡ take l.row-index l.row-items) × (length l.row-items ≤ 10)
