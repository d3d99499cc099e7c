-- The events of a guarded node are of a line: what it receives consists of bytes, and the RST that gives up a connection is that of a datagram
-- which the peer of the connection could send.
use Rattle.std.proofs.Common.{◌≡◌, ℕ, zero, suc, ◌<◌, inr, Bool, true, false, List, [], ◌∷◌, All, replicate, Some, None, if◌then◌else◌}
use Rattle.std.proofs.Common.{refl, sym, ap, ◌∙◌, subst, arith}
use Rattle.std.specs.Prelude.{slice_get, slice_index_or}
use Rattle.std.proofs.lemmas.List.Elements.{All-nil}
use Rattle.uip_wire.specs.declared.addr.Addr.{Addr}
use Rattle.app_events.specs.Prelude.{AppSpec, IsAddr, IsByte, IsU32, is_live}
use Rattle.tcp_segment.specs.Prelude.{Datagram, IsReadBack, PlainSegment, datagram_bytes, head_of}
use Rattle.tcp_machine.specs.Prelude.{Connection, Sockets, closed, same_sockets}
use Rattle.uip_node.specs.Prelude.{AbstractNode, Arrived, EchoAsked, Event, IcmpRefused, IpRefused, IsSteady, Overlong, Periodic}
use Rattle.uip_node.specs.Prelude.{TcpRefused, by_head, by_segment, connection_in, datagram_to, initial_node, serving, step}
use Rattle.uip_node.proofs.Basics.{both_ways, wrap_low}
use Rattle.uip_node.proofs.Connections.{none_serves, serving_free, serving_is}
use Rattle.uip_node.proofs.DatagramsBack.{IsPlace, bytes_low, datagram_back}
use Rattle.uip_node.proofs.FitNodes.{index_fits}
use Rattle.uip_node.proofs.Fits.{FitConn}
use Rattle.uip_node.proofs.SocketPairs.{same_is, serves_yes}
use Rattle.uip_node.proofs.SoundSegments.{IsSoundSegment}
use Rattle.node_laws.specs.Prelude.{Exchange, IsOfLine, exchange, of_bytes, received_from}
use Rattle.node_laws.proofs.GoodNodes.{Good, good_on, good_start}
use Rattle.node_laws.proofs.Lines.{Comes, OfMedium, comes}
use Rattle.node_laws.proofs.Lines.OfMedium.{born, delivers_text, evicted, passes_by, refused, ticks, unanswered}
use Rattle.node_laws.proofs.Wire.{IsWire, line_wire, wire_event}
use Rattle.guarded_node.specs.Guarded.{gives_up, guarded, reset_by}
use Rattle.guarded_node.specs.Wire.{arriving}
use Rattle.guarded_node.specs.declared.guard.Rules.{Rules}
use Rattle.guarded_node.proofs.ArrivingBytes.{arriving_low}
use Rattle.guarded_node.proofs.Taken.{guarded_all}

-- ---- the connections of a node that any events of a line reach

-- Each connection that is not CLOSED has an own port that fits its type.
pub record Ported (n : AbstractNode) : Type 0 where
  pub good : Good n
  pub ports : (p : Sockets) → is_live (serving p n.connections).state ≡ true → p.own_port.0 < 65536

port_of : (p q : Sockets) → same_sockets q p ≡ true → q.own_port.0 < 65536 → p.own_port.0 < 65536
port_of p q e low = subst (λ (x : Sockets). x.own_port.0 < 65536) (same_is q p e) low

port_came : (p : Sockets) (event : Event) (s : PlainSegment) → IsWire event → received_from p event ≡ Some s → p.own_port.0 < 65536
port_came p (Arrived q t) s w e =
    both_ways (same_sockets q p) (λ h. port_of p q h w.2)
    (λ h. absurd (let z : None ≡ Some s = sym (ap (λ (b : Bool). if b then Some t else None) h) ∙ e in cc))
port_came p (IpRefused fate) s w e = absurd (cc)
port_came p (IcmpRefused fate) s w e = absurd (cc)
port_came p (TcpRefused fate) s w e = absurd (cc)
port_came p (EchoAsked datagram) s w e = absurd (cc)
port_came p Overlong s w e = absurd (cc)
port_came p (Periodic slot) s w e = absurd (cc)

-- it opens by a segment that came, or was not CLOSED before
port_on : (m : AppSpec) (served : ℕ → Bool) (p : Sockets) (c d : Connection) (x : Exchange) → OfMedium m served p c d x
    → ((s : PlainSegment) → x.received ≡ Some s → p.own_port.0 < 65536)
    → (is_live c.state ≡ true → p.own_port.0 < 65536) → is_live d.state ≡ true → p.own_port.0 < 65536
port_on m served p c d x does came h l = elim does [
  | passes_by e f ↦ h (ap (λ (z : Connection). is_live z.state) (sym f) ∙ l)
  | evicted e f ↦ absurd (let z : is_live d.state ≡ false = ap (λ (y : Connection). is_live y.state) f in cc)
  | unanswered s q e f ↦ absurd (let z : is_live d.state ≡ false = ap (λ (y : Connection). is_live y.state) f ∙ q in cc)
  | refused s r q e f ↦ absurd (let z : is_live d.state ≡ false = ap (λ (y : Connection). is_live y.state) f ∙ q in cc)
  | born iss s plain port fit e f ↦ came s (ap (λ (y : Exchange). y.received) e)
  | delivers_text s numbers at alive fit words is q ↦ h alive
  | ticks numbers at alive fit words is q ↦ h alive
]

pub ported_start : (own : Addr) (numbers : List ℕ) → All IsU32 numbers → Ported (initial_node own numbers)
ported_start own numbers words = record {
  good = good_start own numbers words;
  ports = λ p l.
      absurd (let z : is_live (serving p (replicate 10 closed)).state ≡ false = ap (λ (c : Connection). is_live c.state)
      (serving_free (replicate 10 closed) p (none_serves 10 p)) in cc);
}

pub ported_on : (m : AppSpec) → IsSteady m → (served : ℕ → Bool) (own : Addr) (n : AbstractNode) (event : Event) → IsOfLine own event
    → Ported n → Ported (step m served n event).node
ported_on m steady served own n event of h =
    let w : IsWire event = line_wire own event of in
    let c : Comes m served n event (step m served n event) = comes m served steady n event (wire_event event w) h.good.single h.good.fit in
    record {
      good = good_on m steady served n event (wire_event event w) h.good;
      ports = λ p l. port_on m served p (serving p n.connections) (serving p (step m served n event).node.connections)
          (exchange p event (step m served n event).sent) (c.each p)
          (λ s e. port_came p event s w e) (h.ports p) l;
    }

-- ---- the RST of a connection that is not CLOSED

in_slot : (cs : List Connection) (slot : ℕ) → is_live (slice_index_or cs slot closed).state ≡ true → slice_get cs slot ≡ Some (slice_index_or cs slot closed)
in_slot [] slot live = absurd (cc)
in_slot (c ∷ cs) zero live = refl
in_slot (c ∷ cs) (suc slot) live = in_slot cs slot live

port_in : (n : AbstractNode) (slot : ℕ) → Ported n → is_live (connection_in slot n).state ≡ true → (connection_in slot n).sockets.own_port.0 < 65536
port_in n slot h live =
    let c : Connection = connection_in slot n in
    let here : serving c.sockets n.connections ≡ c = serving_is n.connections c.sockets slot c h.good.single
    (in_slot n.connections slot live) (serves_yes c.sockets c live refl) in
    h.ports c.sockets (ap (λ (x : Connection). is_live x.state) here ∙ live)

-- the sockets of the connection as its peer has them
abbrev of_peer : Addr → Sockets → Sockets
of_peer own p = record { peer = own; peer_port = p.own_port; own_port = p.peer_port }

reset_sound : (c : Connection) → IsSoundSegment (reset_by c)
reset_sound c = record {
  seq = wrap_low _;
  ack = omega arith;
  flags = omega arith;
  window = omega arith;
  mss = tt;
  short = omega arith;
  alone = inr refl;
  text = All-nil IsByte;
}

reset_of_line : (own : Addr) (c : Connection) → IsAddr own → IsAddr c.sockets.peer → c.sockets.peer_port.0 < 65536
    → c.sockets.own_port.0 < 65536 → IsOfLine own (gives_up c)
reset_of_line own c is peer from to =
    let d : Datagram = datagram_to c.sockets.peer (of_peer own c.sockets) 0 (reset_by c) in
    let place : IsPlace d = record {
      source = peer.four;
      target = is.four;
      source_bytes = peer.all_bytes;
      target_bytes = is.all_bytes;
      from = from;
      to = to;
      id = omega arith;
    } in
    let sound : IsSoundSegment (reset_by c) = reset_sound c in
    let b : IsReadBack d = datagram_back d place sound in
    of_bytes (datagram_bytes d) (bytes_low d place sound)
    (sym (ap (by_head (datagram_bytes d)) b.head ∙ ap (by_segment (head_of d) (datagram_bytes d)) b.fields
    ∙ ap (λ (s : PlainSegment). Arrived c.sockets s) b.segment))

given_up_of_line : (n : AbstractNode) (slot : ℕ) → IsAddr n.addr → Ported n → is_live (connection_in slot n).state ≡ true
    → IsOfLine n.addr (gives_up (connection_in slot n))
given_up_of_line n slot is h live =
    let fit : FitConn (connection_in slot n) = index_fits n.connections slot h.good.fit.conns in
    reset_of_line n.addr (connection_in slot n) is fit.addr fit.port (port_in n slot h live)

-- ---- the events

pub guarded_of_line : (rules : Rules) (served : ℕ → Bool) (n : AbstractNode) (wire : List ℕ) → IsAddr n.addr → Ported n → All IsByte wire
    → All (IsOfLine n.addr) (guarded rules served n wire)
guarded_of_line rules served n wire is h bytes =
    guarded_all (IsOfLine n.addr) rules served n wire (of_bytes (arriving rules.key wire) (arriving_low rules.key wire bytes) refl)
    (λ slot within live. given_up_of_line n slot is h live)
