use Rattle.generators.proofs.Prelude.{◌≡◌, ◌+◌, ◌*◌, ◌≤◌, ◌++◌, ℕ, List, flat_map, length, take, HoldsPart}
use Rattle.generators.proofs.written.put_all.Given as goal

abbrev pub invariant-loop-item : goal.invariant-loop-item
invariant-loop-item g l = record {
  at : l.come.at ≡ l.fn.place.at;
  so_far : l.come.so_far ≡ l.fn.place.so_far + length (flat_map g.T.Written.text (take l.item-index l.items));
  bound : length (flat_map g.T.Written.text (take l.item-index l.items)) ≤ g.T.Written.longest * l.item-index;
  part : (before : List ℕ) → HoldsPart before l.fn.place l.initial.out
      → HoldsPart (before ++ flat_map g.T.Written.text (take l.item-index l.items)) l.come l.out;
}
