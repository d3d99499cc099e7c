use Rattle.uip_slip.proofs.Prelude.{◌≡◌, ◌<◌, ◌-◌, ℕ, false, slice_index, is_mark}
use Rattle.uip_slip.proofs.marks.plain_after.Given as goal

abbrev pub invariant-loop-at : goal.invariant-loop-at
invariant-loop-at l = (k : ℕ) → k < l.at → is_mark (slice_index l.bytes k) ≡ false

abbrev pub decreases-loop-at : goal.decreases-loop-at
decreases-loop-at l = l.last - l.at
