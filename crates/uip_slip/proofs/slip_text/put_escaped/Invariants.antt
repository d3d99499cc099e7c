use Rattle.uip_slip.proofs.Prelude.{◌≡◌, ◌++◌, ◌+◌, ◌*◌, ◌≤◌, List, ℕ, length, take, escaped}
use Rattle.uip_slip.proofs.slip_text.put_escaped.Given as goal

abbrev pub invariant-loop-rest : goal.invariant-loop-rest
invariant-loop-rest l = record {
  prefix : List ℕ;
  pieces : l.piece ≡ prefix ++ l.rest;
  made : take l.end l.out ≡ take l.len l.fn.out ++ escaped prefix;
  long : length l.out ≡ length l.fn.out;
  bound : l.end + 2 * length l.rest ≤ l.len + 2 * length l.piece;
}

abbrev pub decreases-loop-rest : goal.decreases-loop-rest
decreases-loop-rest l = length l.rest
