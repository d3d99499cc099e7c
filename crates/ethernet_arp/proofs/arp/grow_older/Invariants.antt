use Rattle.ethernet_arp.proofs.Prelude.{◌≡◌, ◌++◌, drop, map, take, aged}
use Rattle.ethernet_arp.proofs.arp.grow_older.Given as goal

abbrev pub invariant-loop-at : goal.invariant-loop-at
invariant-loop-at l = l.entries ≡ map aged (take l.at l.initial.entries) ++ drop l.at l.initial.entries
