-- The next segment of a peer that follows TCP passes.
use Rattle.std.specs.Prelude.{ℕ, ◌≡◌, ◌+◌, ◌<◌, false, true, List}
use Rattle.uip_wire.specs.Prelude.{wrap}
use Rattle.app_events.specs.Prelude.{is_time_wait}
use Rattle.tcp_segment.specs.declared.segment.Segment.{Segment}
use Rattle.tcp_machine.specs.Prelude.{Connection, plain, rcv_nxt, snd_una}
use Rattle.node_laws.specs.HonestPeers.{Asker, SendsNext}
use Rattle.node_laws.specs.LossyPeers.{expected_next, sent_next}
use Rattle.node_laws.specs.Traces.{Exchange}
use Rattle.segment_guard.specs.Verdict.{passes}
use Rattle.guarded_node.specs.Verdicts.{expected_by}

-- The connection has received and sent what these exchanges show.
pub record IsAfter (a : Asker) (before : List Exchange) (c : Connection) : Type 0 where
  pub rcv_nxt : rcv_nxt c ≡ expected_next a before
  pub snd_nxt : wrap (snd_una c + c.len) ≡ sent_next a before
  pub len : c.len < 65536
  pub early : is_time_wait c.state ≡ false

-- What a cooperating peer sends next passes, whatever was dropped before: `ArrivesUnderLoss` holds through the guard, since all else that
-- the guard drops a link may lose.
abbrev pub NextOfAskerPasses : Type 0
NextOfAskerPasses = (a : Asker) (x : Exchange) (before : List Exchange) (c : Connection) (s : Segment) (text : List ℕ) → IsAfter a before c
    → (next : SendsNext a x before) → plain s text ≡ next.segment → passes (expected_by c) s ≡ true
