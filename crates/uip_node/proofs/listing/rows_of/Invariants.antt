use Rattle.uip_node.proofs.Prelude.{◌≡◌, ◌≤◌, ◌++◌, drop, length, live_rows}
use Rattle.uip_node.proofs.listing.rows_of.Given as goal

abbrev pub invariant-loop-slot : goal.invariant-loop-slot
invariant-loop-slot g l = record { so_far : l.list.items ++ live_rows l.slot (drop l.slot l.conns) ≡ live_rows 0 l.conns; few : length l.list.items ≤ l.slot }
