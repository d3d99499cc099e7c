-- The next segment of a cooperating peer passes: the guard finds its connection, which expects just that segment.
use Rattle.std.proofs.Common.{◌≡◌, ℕ, Bool, true, false, List, Option, Some, None, Result, Ok, Err, position, if◌then◌else◌}
use Rattle.std.proofs.Common.{refl, ap, ◌∙◌}
use Rattle.std.specs.Prelude.{slice_get, slice_index_or}
use Rattle.std.specs.Option.{option_map_or}
use Rattle.std.proofs.lemmas.Option.{get_or_from_slice_get, slice_get-get_or}
use Rattle.uip_wire.specs.declared.addr.Addr.{Addr}
use Rattle.uip_ipv4.specs.Prelude.{head_or_fate, payload_of}
use Rattle.uip_ipv4.specs.declared.fate.IpFate.{IpFate}
use Rattle.uip_ipv4.specs.declared.head.IpHead.{IpHead}
use Rattle.uip_ipv4.specs.declared.proto.Proto.{Proto}
use Rattle.uip_ipv4.specs.declared.proto.Proto.TheVariants.{Icmp, Tcp}
use Rattle.icmp_echo.specs.Prelude.{echo_fate}
use Rattle.icmp_echo.specs.declared.fate.IcmpFate.{IcmpFate}
use Rattle.tcp_segment.specs.Prelude.{PlainSegment, plain_of, segment_or_fate}
use Rattle.tcp_segment.specs.declared.fate.TcpFate.{TcpFate}
use Rattle.tcp_segment.specs.declared.segment.Segment.{Segment}
use Rattle.tcp_machine.specs.Prelude.{Connection, Sockets, closed, same_sockets, serves}
use Rattle.uip_node.specs.Prelude.{AbstractNode, EchoAsked, Event, IcmpRefused, by_head, by_proto, by_segment, connection_in, event_of}
use Rattle.uip_node.specs.Prelude.{sockets_of}
use Rattle.uip_node.proofs.Connections.{Single}
use Rattle.uip_node.proofs.Finding.{found, not_found}
use Rattle.uip_node.proofs.SocketPairs.{same_is}
use Rattle.node_laws.specs.Prelude.{Asker, Exchange, SendsNext, received_from}
use Rattle.segment_guard.specs.Verdict.{is_foreign, passes}
use Rattle.guarded_node.specs.Verdicts.{expected_by, verdict_at, verdict_by_head, verdict_by_proto, verdict_of, verdict_on}
unfoldable use Rattle.guarded_node.specs.Verdicts.{verdict}
use Rattle.guarded_node.specs.declared.guard.Rules.{Rules}
use Rattle.guarded_node.specs.declared.verdict.Verdict.{Verdict}
use Rattle.guarded_node.specs.declared.verdict.Verdict.TheVariants.{Drop, Pass}
use Rattle.guard_laws.specs.Peers.{IsAfter}
use Rattle.guard_laws.proofs.Peers.{next_of_asker_passes}

-- the one connection of a pair of sockets is the first that the search finds
at_slot : (p : Sockets) (cs : List Connection) (slot : ℕ) (c : Connection) (o : Option ℕ) → Single cs → slice_get cs slot ≡ Some c
    → serves p c ≡ true → position (serves p) cs ≡ o → o ≡ Some slot
at_slot p cs slot c None single there is e = absurd (let z : serves p c ≡ false = not_found (serves p) cs e slot c there in cc)
at_slot p cs slot c (Some j) single there is e =
    let f = found (serves p) cs j e in
    let y : Connection = slice_index_or cs j closed in
    let at : slice_get cs j ≡ Some y = slice_get-get_or cs j closed f.0 in
    ap (λ (k : ℕ). Some k) (single p j slot y c at there (f.1 y at) is)

module _ (rules : Rules) (served : ℕ → Bool) (n : AbstractNode) (a : Asker) (p : Sockets) (before : List Exchange) (x : Exchange)
    (slot : ℕ) (c : Connection) (single : Single n.connections) (there : slice_get n.connections slot ≡ Some c) (is : serves p c ≡ true)
    (after : IsAfter a before c) (home : is_foreign p.peer n.addr ≡ false) (next : SendsNext a x before) (bytes : List ℕ) where
  -- the segment of the datagram is that one
  abbrev Brings : Event → Type 0
  Brings event = received_from p event ≡ Some next.segment

  of_connection : (s : Segment) (text : List ℕ) → plain_of s text ≡ next.segment → passes (expected_by (connection_in slot n)) s ≡ true
  of_connection s text same =
      let here : connection_in slot n ≡ c = get_or_from_slice_get n.connections slot c closed there in
      ap (λ (d : Connection). passes (expected_by d) s) here ∙ next_of_asker_passes a x before c s _ after next same

  found_so : (peer : Addr) (s : Segment) (text : List ℕ) → sockets_of peer s ≡ p → plain_of s text ≡ next.segment
      → verdict rules served n peer s ≡ Pass
  unfolding verdict
  found_so peer s text pair same =
      let at : position (serves (sockets_of peer s)) n.connections ≡ Some slot =
      ap (λ (q : Sockets). position (serves q) n.connections) pair
      ∙ at_slot p n.connections slot c (position (serves p) n.connections) single there is refl in
      ap (verdict_at rules served n peer s) at ∙ ap {A = Bool} {B = Verdict} (λ b. if b then Pass else Drop) (of_connection s text same)

  by_pair : (peer : Addr) (s : Segment) (b : Bool) → same_sockets (sockets_of peer s) p ≡ b
      → ◌≡◌ {A = Option PlainSegment} (if b then Some (plain_of s bytes) else None) (Some next.segment)
      → (if is_foreign peer n.addr then Drop else verdict rules served n peer s) ≡ Pass
  by_pair peer s false e h = absurd (cc)
  by_pair peer s true e h =
      let pair : sockets_of peer s ≡ p = same_is (sockets_of peer s) p e in
      let same : plain_of s bytes ≡ next.segment = cc in
      let near : is_foreign peer n.addr ≡ false = ap (λ (q : Sockets). is_foreign q.peer n.addr) pair ∙ home in
      ap {A = Bool} {B = Verdict} (λ b. if b then Drop else verdict rules served n peer s) near ∙ found_so peer s bytes pair same

  by_result : (head : IpHead) (r : Result Segment TcpFate) → Brings (by_segment head bytes r)
      → (if is_foreign head.source n.addr then Drop else verdict_of rules served n head r) ≡ Pass
  by_result head (Err fate) h = absurd (cc)
  by_result head (Ok s) h = by_pair head.source s (same_sockets (sockets_of head.source s) p) refl h

  no_echo : (fate : Option IcmpFate) (request : List ℕ) → Brings (option_map_or IcmpRefused fate (EchoAsked request)) → ⊥
  no_echo None request h = cc
  no_echo (Some fate) request h = cc

  by_protocol : (head : IpHead) (proto : Proto) → Brings (by_proto proto head bytes)
      → (if is_foreign head.source n.addr then Drop else verdict_by_proto rules served n bytes head proto) ≡ Pass
  by_protocol head Icmp h = absurd (no_echo (echo_fate (payload_of head bytes)) _ h)
  by_protocol head Tcp h = by_result head (segment_or_fate head bytes) h

  by_checks : (r : Result IpHead IpFate) → Brings (by_head bytes r) → verdict_by_head rules served n bytes r ≡ Pass
  by_checks (Err fate) h = absurd (cc)
  by_checks (Ok head) h = by_protocol head head.proto h

  pub next_is_passed : Brings (event_of n.addr bytes) → verdict_on rules served n bytes ≡ Pass
  next_is_passed h = by_checks (head_or_fate bytes n.addr.0) h
