-- What is written for worked lines.
use Rattle.ethernet_arp.proofs.Prelude.{◌≡◌, ℕ, Bool, ◌++◌, map, refl, AppSpec, Byte, head_or_fate, folded, ping, pong, question, reply}
use Rattle.ethernet_arp.proofs.Prelude.{request, written_for}

pub answers : (m : AppSpec) (served : ℕ → Bool) → written_for m served (map Byte request) ≡ reply
answers m served = refl

pub asks : (m : AppSpec) (served : ℕ → Bool) → written_for m served (map Byte ping) ≡ question
unfolding head_or_fate folded
asks m served = refl

pub pings : (m : AppSpec) (served : ℕ → Bool) → written_for m served (map Byte (request ++ ping)) ≡ reply ++ pong
unfolding head_or_fate folded
pings m served = refl
