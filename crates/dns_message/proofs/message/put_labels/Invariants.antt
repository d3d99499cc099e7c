use Rattle.dns_message.proofs.Prelude.{◌≡◌, ◌+◌, ◌++◌, length, flat_map, label_bytes, labels}
use Rattle.dns_message.proofs.message.put_labels.Given as goal

abbrev pub invariant-loop-dot : goal.invariant-loop-dot
invariant-loop-dot l = record {
  text : l.out.items ++ flat_map label_bytes (labels l.rest) ≡ l.fn.out.items ++ flat_map label_bytes (labels l.text);
  room : length l.out.items + length l.rest ≡ length l.fn.out.items + length l.text;
}

abbrev pub decreases-loop-dot : goal.decreases-loop-dot
decreases-loop-dot l = length l.rest
