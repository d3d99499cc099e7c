use Rattle.dns_message.proofs.Prelude.{◌≡◌, length, list_all, is_label, labels}
use Rattle.dns_message.proofs.name.has_labels.Given as goal

abbrev pub invariant-loop-dot : goal.invariant-loop-dot
invariant-loop-dot l = list_all is_label (labels l.rest) ≡ list_all is_label (labels l.text)

abbrev pub decreases-loop-dot : goal.decreases-loop-dot
decreases-loop-dot l = length l.rest
