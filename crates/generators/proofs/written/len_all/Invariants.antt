-- The lengths so far.
use Rattle.generators.proofs.Prelude.{◌≡◌, ◌*◌, ◌≤◌, flat_map, length, take}
use Rattle.generators.proofs.written.len_all.Given as goal

abbrev pub invariant-loop-item : goal.invariant-loop-item
invariant-loop-item g l = record {
  length : l.len ≡ length (flat_map g.T.Written.text (take l.item-index l.items));
  bound : l.len ≤ g.T.Written.longest * l.item-index;
}
