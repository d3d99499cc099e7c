use Rattle.link_replay.proofs.Prelude.{◌≡◌, length}
use Rattle.link_replay.proofs.Opened.{FreshTo}
use Rattle.link_replay.proofs.world.initial.sides_for.Given as goal

abbrev pub invariant-loop-at : goal.invariant-loop-at
invariant-loop-at l = record {
  same_length : length l.sides.items ≡ l.at;
  each : FreshTo l.clients l.sides.items;
}
