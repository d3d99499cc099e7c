use Rattle.device_values.proofs.Prelude.{◌≡◌, ◌++◌, take}
use Rattle.device_values.proofs.spelling.push_all.Given as goal

abbrev pub invariant-loop-byte : goal.invariant-loop-byte
invariant-loop-byte l = l.out.items ≡ l.initial.out.items ++ take l.byte-index l.piece
