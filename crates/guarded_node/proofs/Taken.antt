-- The events for a datagram, one by one, and a run over events in two parts.
use Rattle.std.proofs.Common.{◌≡◌, ℕ, ◌<◌, Bool, true, false, All, List, [], ◌∷◌, ◌++◌, length, Option, Some, None, Result, Ok, Err}
use Rattle.std.proofs.Common.{position, if◌then◌else◌, refl}
use Rattle.std.proofs.lemmas.List.Elements.{All-cons, All-nil}
use Rattle.uip_wire.specs.declared.addr.Addr.{Addr}
use Rattle.app_events.specs.Prelude.{AppSpec, is_live}
use Rattle.uip_ipv4.specs.Prelude.{head_or_fate}
use Rattle.uip_ipv4.specs.declared.fate.IpFate.{IpFate}
use Rattle.uip_ipv4.specs.declared.head.IpHead.{IpHead}
use Rattle.uip_ipv4.specs.declared.proto.Proto.{Proto}
use Rattle.uip_ipv4.specs.declared.proto.Proto.TheVariants.{Icmp, Tcp}
use Rattle.tcp_segment.specs.Prelude.{segment_or_fate}
use Rattle.tcp_segment.specs.declared.fate.TcpFate.{TcpFate}
use Rattle.tcp_segment.specs.declared.segment.Segment.{Segment}
use Rattle.tcp_machine.specs.Prelude.{serves}
use Rattle.uip_node.specs.Prelude.{AbstractNode, Event, connection_in, event_of, run, sockets_of, step}
use Rattle.segment_guard.specs.Verdict.{is_foreign, passes}
use Rattle.slot_guard.specs.Displaced.{displaced_by}
use Rattle.guarded_node.specs.Guarded.{by_verdict, gives_up, guarded}
use Rattle.guarded_node.specs.Verdicts.{claim_of, displacing, expected_by, finds_no_slot, held_by, verdict, verdict_at, verdict_by_head}
use Rattle.guarded_node.specs.Verdicts.{verdict_by_proto, verdict_of, verdict_on}
use Rattle.guarded_node.specs.Wire.{arriving}
use Rattle.guarded_node.specs.declared.guard.Rules.{Rules}
use Rattle.guarded_node.specs.declared.verdict.Verdict.{Verdict}
use Rattle.guarded_node.specs.declared.verdict.Verdict.TheVariants.{Drop, Pass, Displace}
use Rattle.guarded_node.proofs.Ranks.{displaced_is_live}
use Rattle.guarded_node.proofs.Resets.{there}

-- The connection that a verdict gives up is not CLOSED.
abbrev pub GivesUpLive : AbstractNode → Verdict → Type 0
GivesUpLive n Drop = Unit {0}
GivesUpLive n Pass = Unit {0}
GivesUpLive n (Displace slot) = (slot < length n.connections) × (is_live (connection_in slot n).state ≡ true)

either_live : (n : AbstractNode) (b : Bool) (x y : Verdict) → GivesUpLive n x → GivesUpLive n y → GivesUpLive n (if b then x else y)
either_live n true x y h k = h
either_live n false x y h k = k

claimed : (rules : Rules) (n : AbstractNode) (peer : Addr) (s : Segment) (o : Option ℕ)
    → displaced_by held_by (claim_of rules n.addr peer s) n.connections ≡ o → GivesUpLive n (displacing o)
claimed rules n peer s None e = tt
claimed rules n peer s (Some slot) e =
    let f = displaced_is_live n.connections (claim_of rules n.addr peer s) slot e in
    (f.0, f.1 (connection_in slot n) (there n slot f.0))

at_live : (rules : Rules) (served : ℕ → Bool) (n : AbstractNode) (peer : Addr) (s : Segment) (o : Option ℕ) → GivesUpLive n (verdict_at rules served n peer s o)
at_live rules served n peer s (Some slot) = either_live n (passes (expected_by (connection_in slot n)) s) Pass Drop tt tt
at_live rules served n peer s None =
    either_live n (finds_no_slot served n s) (displacing (displaced_by held_by (claim_of rules n.addr peer s) n.connections)) Pass
    (claimed rules n peer s (displaced_by held_by (claim_of rules n.addr peer s) n.connections) refl) tt

of_live : (rules : Rules) (served : ℕ → Bool) (n : AbstractNode) (head : IpHead) (r : Result Segment TcpFate) → GivesUpLive n (verdict_of rules served n head r)
unfolding verdict
of_live rules served n head (Err fate) = tt
of_live rules served n head (Ok s) = at_live rules served n head.source s (position (serves (sockets_of head.source s)) n.connections)

proto_live : (rules : Rules) (served : ℕ → Bool) (n : AbstractNode) (bytes : List ℕ) (head : IpHead) (proto : Proto)
    → GivesUpLive n (verdict_by_proto rules served n bytes head proto)
proto_live rules served n bytes head Icmp = tt
proto_live rules served n bytes head Tcp = of_live rules served n head (segment_or_fate head bytes)

head_live : (rules : Rules) (served : ℕ → Bool) (n : AbstractNode) (bytes : List ℕ) (r : Result IpHead IpFate)
    → GivesUpLive n (verdict_by_head rules served n bytes r)
head_live rules served n bytes (Err fate) = tt
head_live rules served n bytes (Ok head) =
    either_live n (is_foreign head.source n.addr) Drop (verdict_by_proto rules served n bytes head head.proto) tt
    (proto_live rules served n bytes head head.proto)

by_cases : (P : Event → Type 0) (n : AbstractNode) (event : Event) (v : Verdict) → GivesUpLive n v → P event
    → ((slot : ℕ) → slot < length n.connections → is_live (connection_in slot n).state ≡ true → P (gives_up (connection_in slot n)))
    → All P (by_verdict n event v)
by_cases P n event Drop live of reset = All-nil P
by_cases P n event Pass live of reset = All-cons P event [] of (All-nil P)
by_cases P n event (Displace slot) live of reset =
    All-cons P (gives_up (connection_in slot n)) (event ∷ []) (reset slot live.0 live.1) (All-cons P event [] of (All-nil P))

-- What holds of the event of the datagram, and of the RST of each connection that is not CLOSED, holds of all events for it.
pub guarded_all : (P : Event → Type 0) (rules : Rules) (served : ℕ → Bool) (n : AbstractNode) (wire : List ℕ) → P (event_of n.addr (arriving rules.key wire))
    → ((slot : ℕ) → slot < length n.connections → is_live (connection_in slot n).state ≡ true → P (gives_up (connection_in slot n)))
    → All P (guarded rules served n wire)
guarded_all P rules served n wire of reset =
    let bytes : List ℕ = arriving rules.key wire in
    by_cases P n (event_of n.addr bytes) (verdict_on rules served n bytes) (head_live rules served n bytes (head_or_fate bytes n.addr.0)) of reset

-- a run over events, and then others
pub run_then : (m : AppSpec) (served : ℕ → Bool) (xs ys : List Event) (n : AbstractNode)
    → (run m served (xs ++ ys) n).node ≡ (run m served ys (run m served xs n).node).node
run_then m served [] ys n = refl
run_then m served (x ∷ xs) ys n = run_then m served xs ys (step m served n x).node
