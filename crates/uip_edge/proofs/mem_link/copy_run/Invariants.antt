use Rattle.uip_edge.proofs.Prelude.{◌≡◌, map, take, Byte}
use Rattle.uip_edge.proofs.mem_link.copy_run.Given as goal

abbrev pub invariant-loop-at : goal.invariant-loop-at
invariant-loop-at l = take l.at l.items ≡ map Byte (take l.at l.buf)
