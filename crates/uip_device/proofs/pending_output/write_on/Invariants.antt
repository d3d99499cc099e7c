use Rattle.uip_device.proofs.Prelude.{◌≡◌, ◌++◌, ◌+◌, ◌*◌, ◌-◌, ◌≤◌, List, ℕ, length, take, drop, rest_text}
use Rattle.uip_device.proofs.pending_output.write_on.Given as goal

abbrev pub invariant-loop-out : goal.invariant-loop-out
invariant-loop-out l = record {
  prefix : List ℕ;
  pieces : l.datagram ≡ prefix ++ l.rest;
  made : take l.end l.out ++ rest_text l.rest ≡ take l.len l.fn.out ++ rest_text (drop l.at l.datagram);
  long : length l.out ≡ length l.fn.out;
  fits : l.end ≤ length l.out;
  grows : l.len ≤ l.end;
  bound : l.end + 2 * length l.rest ≤ l.len + 2 * (length l.datagram - l.at);
}

abbrev pub decreases-loop-out : goal.decreases-loop-out
decreases-loop-out l = length l.rest
