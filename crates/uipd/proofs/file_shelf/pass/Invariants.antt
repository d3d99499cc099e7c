use Rattle.uipd.proofs.Prelude.{◌≡◌, ℕ, ◌+◌, List, length, Consumes}
use Rattle.uipd.proofs.file_shelf.pass.Given as goal

abbrev pub invariant-loop-left : goal.invariant-loop-left
invariant-loop-left g l = record {
  dropped : List ℕ;
  consumed : Consumes (g.F.Read.remaining l.initial.file) (g.F.Read.remaining l.file) dropped;
  sum : length dropped + l.left ≡ l.bytes;
}

abbrev pub decreases-loop-left : goal.decreases-loop-left
decreases-loop-left g l = l.left
