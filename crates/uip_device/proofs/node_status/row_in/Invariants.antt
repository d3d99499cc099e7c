-- The rest of the rows decides.
use Rattle.std.proofs.Common.{◌≡◌, drop}
use Rattle.uip_device.specs.Prelude.{row_in}
use Rattle.uip_device.proofs.node_status.row_in.Given as goal

abbrev pub invariant-loop-row : goal.invariant-loop-row
invariant-loop-row l = row_in l.slot (drop l.row-index l.rows) ≡ row_in l.slot l.rows
