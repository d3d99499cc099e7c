use Rattle.link_replay.proofs.Prelude.{◌≡◌, ◌*◌, ◌≤◌, length, sum_by, take}
use Rattle.link_replay.proofs.report.tally.bytes_taken.Given as goal

abbrev pub invariant-loop-side : goal.invariant-loop-side
invariant-loop-side l = record {
  taken : l.total ≡ sum_by (λ side. length side.received) (take l.side-index l.sides);
  bounded : l.total ≤ l.side-index * 18446744073709551616;
}
