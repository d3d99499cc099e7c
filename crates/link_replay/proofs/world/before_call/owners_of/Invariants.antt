use Rattle.link_replay.proofs.Prelude.{◌≡◌, ◌≤◌, ◌++◌, drop, length, map, owner_in}
use Rattle.link_replay.proofs.world.before_call.owners_of.Given as goal

abbrev pub invariant-loop-conn : goal.invariant-loop-conn
invariant-loop-conn g l = record {
  so_far : l.pairs.items ++ map owner_in (drop l.conn-index l.conns) ≡ map owner_in l.conns;
  few : length l.pairs.items ≤ l.conn-index;
}
