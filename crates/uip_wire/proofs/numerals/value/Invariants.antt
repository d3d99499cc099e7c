use Rattle.uip_wire.proofs.Prelude.{◌≡◌, take, digits_value}
use Rattle.uip_wire.proofs.numerals.value.Given as goal

abbrev pub invariant-loop-byte : goal.invariant-loop-byte
invariant-loop-byte l = l.number ≡ digits_value 10 (take l.byte-index l.text)
