-- What one datagram does, whatever it is and whoever sent it: the laws of the guard, over the run of a guarded node for it. A call of a
-- device that brings one datagram is such a run.
use Rattle.std.specs.Prelude.{ℕ, ◌≡◌, ◌⊎◌, Bool, true, false, All, List, [], ◌∷◌, None, Ok, Some, is_some, position}
use Rattle.app_events.specs.Prelude.{AppSpec, IsByte}
use Rattle.uip_ipv4.specs.Prelude.{head_or_fate}
use Rattle.uip_ipv4.specs.declared.head.IpHead.{IpHead}
use Rattle.uip_ipv4.specs.declared.proto.Proto.TheVariants.{Tcp}
use Rattle.tcp_segment.specs.Prelude.{plain_of, segment_or_fate}
use Rattle.tcp_segment.specs.declared.flags.TheConstants.{SYN}
use Rattle.tcp_segment.specs.declared.segment.Segment.{Segment}
use Rattle.tcp_machine.specs.Prelude.{Sockets, serves}
use Rattle.uip_node.specs.Prelude.{AbstractNode, Ran, Reply, connection_in, slot_for_syn, sockets_of}
use Rattle.segment_guard.specs.Verdict.{is_foreign}
use Rattle.slot_guard.specs.Displaced.{displaced_by}
use Rattle.guarded_node.specs.Arrivals.{guarded_run}
use Rattle.guarded_node.specs.Arrivals.Arrival.{Received}
use Rattle.guarded_node.specs.Laws.{AnswersSyn}
use Rattle.guarded_node.specs.Verdicts.{claim_of, expected_by, held_by}
use Rattle.guarded_node.specs.Wire.{arriving}
use Rattle.guarded_node.specs.declared.guard.Rules.{Rules}
use Rattle.guard_laws.specs.Blind.{NamesBoth, NamesNext}

-- The datagram passes the checks of its headers, and is this segment.
pub record IsSegmentOf (n : AbstractNode) (bytes : List ℕ) (head : IpHead) (s : Segment) : Type 0 where
  pub head_is : head_or_fate bytes n.addr.0 ≡ Ok head
  pub proto : head.proto ≡ Tcp
  pub segment_is : segment_or_fate head bytes ≡ Ok s

-- No connection of the node changed, nor the counters of its application.
pub record IsUnchanged (before after : AbstractNode) : Type 0 where
  pub connections : after.connections ≡ before.connections
  pub numbers : after.numbers ≡ before.numbers

-- A datagram of a connection names RCV.NXT by a RST, or has both numbers within their windows, or changes nothing.
abbrev pub NoDatagramIsBlind : Type 0
NoDatagramIsBlind = (rules : Rules) (m : AppSpec) (served : ℕ → Bool) (n : AbstractNode) (wire : List ℕ) (head : IpHead) (s : Segment)
    (slot : ℕ) → All IsByte wire → IsSegmentOf n (arriving rules.key wire) head s
    → position (serves (sockets_of head.source s)) n.connections ≡ Some slot
    → NamesNext (expected_by (connection_in slot n)) s ⊎ (NamesBoth (expected_by (connection_in slot n)) s
    ⊎ IsUnchanged n (guarded_run rules m served (Received wire ∷ []) n).node)

-- There is a slot for the SYN, or a connection that may be given up for it.
abbrev pub CanOpen : Rules → AbstractNode → IpHead → Segment → Type 0
CanOpen rules n head s =
    (is_some (slot_for_syn n.connections) ≡ true)
    ⊎ ((slot : ℕ) × (displaced_by held_by (claim_of rules n.addr head.source s) n.connections ≡ Some slot))

-- One reply was sent, a SYN-ACK for this SYN.
pub record IsAnsweredBySynAck (p : Sockets) (s : Segment) (bytes : List ℕ) (ran : Ran) : Type 0 where
  pub reply : Reply
  pub sent : ran.sent ≡ reply ∷ []
  pub answers : AnswersSyn p (plain_of s bytes) (Some reply)

-- A plain SYN of no connection to a served port is answered by a SYN-ACK, if it can open a connection.
abbrev pub SynIsAnswered : Type 0
SynIsAnswered = (rules : Rules) (m : AppSpec) (served : ℕ → Bool) (n : AbstractNode) (wire : List ℕ) (head : IpHead) (s : Segment)
    → IsSegmentOf n (arriving rules.key wire) head s → is_foreign head.source n.addr ≡ false → s.flags ≡ SYN → served s.to.0 ≡ true
    → position (serves (sockets_of head.source s)) n.connections ≡ None → CanOpen rules n head s
    → IsAnsweredBySynAck (sockets_of head.source s) s (arriving rules.key wire) (guarded_run rules m served (Received wire ∷ []) n)
