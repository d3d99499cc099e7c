use Rattle.tcp_segment.proofs.Prelude.{◌≡◌, length, mss_in}
use Rattle.tcp_segment.proofs.options.read_mss.Given as goal

abbrev pub invariant-options : goal.invariant-options
invariant-options l = mss_in l.rest ≡ mss_in l.fn.options

abbrev pub decreases-options : goal.decreases-options
decreases-options l = length l.rest
