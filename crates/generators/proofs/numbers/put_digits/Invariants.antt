use Rattle.generators.proofs.Prelude.{◌+◌, ◌++◌, ◌<◌, ◌≡◌, ◌≤◌, decimal, drop, length, take}
use Rattle.generators.proofs.numbers.put_digits.Given as goal

abbrev pub invariant-loop-left : goal.invariant-loop-left
invariant-loop-left l = record {
  digits : decimal l.left ++ drop (l.at + 1) l.places ≡ decimal l.number;
  room : length (decimal l.left) ≤ l.at + 1;
  low : l.at < 10;
  long : length l.places ≡ 10;
  kept : take (l.at + 1) l.places ≡ take (l.at + 1) l.fn.places;
}

abbrev pub decreases-loop-left : goal.decreases-loop-left
decreases-loop-left l = l.left
