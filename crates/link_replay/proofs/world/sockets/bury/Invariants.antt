use Rattle.link_replay.proofs.Prelude.{◌≡◌, ◌++◌, drop, map, take, OnlyEpoch, buried, Matched}
use Rattle.link_replay.proofs.world.sockets.bury.Given as goal

abbrev pub invariant-loop-side : goal.invariant-loop-side
invariant-loop-side l = record {
  kept : Matched OnlyEpoch l.initial.sides l.sides;
  so_far : l.sides ≡ map (buried l.gone) (take l.side-index l.initial.sides) ++ drop l.side-index l.initial.sides;
}
