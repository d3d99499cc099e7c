use Rattle.uip_slip.proofs.Prelude.{◌≡◌, ◌≤◌, ◌+◌, ◌*◌, ◌++◌, length, take, escaped}
use Rattle.uip_slip.proofs.slip_text.put_bytes.Given as goal

abbrev pub invariant-loop-byte : goal.invariant-loop-byte
invariant-loop-byte l = record {
  made : take l.end l.out ≡ take l.len l.fn.out ++ escaped (take l.byte-index l.piece);
  long : length l.out ≡ length l.fn.out;
  bound : l.end ≤ l.len + 2 * l.byte-index;
}
