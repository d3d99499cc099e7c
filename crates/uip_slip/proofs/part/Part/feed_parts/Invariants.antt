use Rattle.uip_slip.proofs.Prelude.{◌≡◌, ◌<◌, ◌≤◌, ◌++◌, ℕ, List, false, length, take, ◌-◌, WasFed, frames, state_in}
use Rattle.uip_slip.proofs.part.Part.feed_parts.Given as goal

abbrev pub invariant-loop-count : goal.invariant-loop-count
invariant-loop-count l = record {
  size : length l.area ≡ 1500;
  within : l.count ≤ length l.bytes;
  leaves : 0 < l.count → l.self.reported ≡ false;
  frames : (before : List ℕ) → WasFed before (state_in l.fn.area l.fn.self) → WasFed (before ++ take l.count l.bytes) (state_in l.area l.self)
      × (frames (before ++ take l.count l.bytes) ≡ frames before);
}

abbrev pub decreases-loop-count : goal.decreases-loop-count
decreases-loop-count l = length l.bytes - l.count
