use Rattle.uip_slip.proofs.Prelude.{◌≡◌, ◌+◌, ◌*◌, ◌≤◌, length, take, escaped}
use Rattle.uip_slip.proofs.encoder.encoded_len.Given as goal

abbrev pub invariant-loop-byte : goal.invariant-loop-byte
invariant-loop-byte l = record {
  small : l.len ≤ 2 * l.byte-index + 2;
  same : l.len ≡ length (escaped (take l.byte-index l.datagram)) + 2;
}
