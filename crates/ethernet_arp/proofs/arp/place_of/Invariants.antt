use Rattle.ethernet_arp.proofs.Prelude.{◌≡◌, ℕ, ◌<◌, get_or, false, is_of, Entry}
use Rattle.ethernet_arp.proofs.arp.place_of.Given as goal

abbrev pub invariant-loop-at : goal.invariant-loop-at
invariant-loop-at l = (k : ℕ) (none : Entry) → k < l.at → is_of l.addr.0 (get_or l.entries k none) ≡ false
