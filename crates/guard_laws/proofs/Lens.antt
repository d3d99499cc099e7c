-- The lens shifts by the pair of sockets, and back again.
use Rattle.std.proofs.Common.{◌≡◌, ℕ, ◌+◌, ◌-◌, ◌<◌, ◌≤◌, ◌&&◌, ◌==◌, true, List, Option, Some, None, refl, sym, ap, ◌∙◌}
use Rattle.std.proofs.Common.{arith}
use Rattle.std.specs.Prelude.{bytes_eq}
use Rattle.std.proofs.lemmas.Bool.{and_parts, eqb-true}
use Rattle.std.proofs.lemmas.Slice.Eq.{bytes_eq-Decides}
use Rattle.uip_wire.specs.Prelude.{wrap}
use Rattle.uip_wire.specs.declared.addr.Addr.{Addr}
use Rattle.sip_hash.specs.declared.key.Key.{Key}
use Rattle.segment_guard.specs.Lens.{pair_shift}
use Rattle.tcp_segment.specs.Prelude.{PlainSegment}
use Rattle.tcp_machine.specs.Prelude.{Sockets}
use Rattle.uip_node.specs.Prelude.{Arrived, EchoAsked, Event, IcmpRefused, IpRefused, Overlong, Periodic, Reply, TcpRefused, event_of}
use Rattle.uip_node.specs.Prelude.{reply_bytes}
use Rattle.uip_node.specs.Events.Reply.{Echo, TcpReply}
use Rattle.node_laws.proofs.Wire.{IsWire, bytes_wire}
use Rattle.guarded_node.specs.Wire.{shift_for}
use Rattle.guarded_node.specs.WireLaws.{IsSendable, on_wire, received}
use Rattle.guarded_node.proofs.Arriving.{arriving_is}
use Rattle.guarded_node.proofs.Leaving.{leaving_is}
use Rattle.guard_laws.specs.Lens.{LensIsShift, lens}
use Rattle.guard_laws.specs.Shifted.{IsShift, event_on_wire, reply_on_wire}

is_same : (xs ys : List ℕ) → bytes_eq xs ys ≡ true → xs ≡ ys
is_same xs ys e = (bytes_eq-Decides xs ys).0 e

same_pair : (key : Key) (own a b : Addr) (c d e f : ℕ) → a.0 ≡ b.0 → c ≡ d → e ≡ f
    → pair_shift key own a (record { 0 = c }) (record { 0 = e }) ≡ pair_shift key own b (record { 0 = d }) (record { 0 = f })
same_pair key own a b c d e f p q r =
    ap (λ (l : List ℕ). pair_shift key own (record { 0 = l }) (record { 0 = c }) (record { 0 = e })) p
    ∙ ap (λ (n : ℕ). pair_shift key own b (record { 0 = n }) (record { 0 = e })) q
    ∙ ap (λ (n : ℕ). pair_shift key own b (record { 0 = d }) (record { 0 = n })) r

is_shift : (key : Option Key) (own : Addr) → IsShift (lens key own)
is_shift None own p q h = refl
is_shift (Some key) own p q h =
    let peers = and_parts (bytes_eq p.peer.0 q.peer.0) ((p.peer_port.0 == q.peer_port.0) && (p.own_port.0 == q.own_port.0)) h in
    let ports = and_parts (p.peer_port.0 == q.peer_port.0) (p.own_port.0 == q.own_port.0) peers.1 in
    same_pair key own p.peer q.peer p.peer_port.0 q.peer_port.0 p.own_port.0 q.own_port.0 (is_same p.peer.0 q.peer.0 peers.0)
    (eqb-true p.peer_port.0 q.peer_port.0 ports.0) (eqb-true p.own_port.0 q.own_port.0 ports.1)

back : (ack shift : ℕ) → ack < 4294967296 → shift ≤ 4294967296 → wrap (wrap (ack + (4294967296 - shift)) + shift) ≡ ack
back ack shift low few = omega (arith, low, few)

still : (n : ℕ) → n < 4294967296 → wrap (n + 0) ≡ n
still n low = omega (arith, low)

with_ack : (p : Sockets) (s : PlainSegment) (x : ℕ) → x ≡ s.ack → Arrived p (record s { ack = x }) ≡ Arrived p s
with_ack p s x e = ap (λ (n : ℕ). Arrived p (record s { ack = n })) e

event_back : (key : Option Key) (own : Addr) (event : Event) → IsWire event → event_on_wire (lens key own) (received key own event) ≡ event
event_back None own (Arrived p s) w = with_ack p s (wrap (s.ack + 0)) (still s.ack w.3)
event_back None own (IpRefused fate) w = refl
event_back None own (IcmpRefused fate) w = refl
event_back None own (TcpRefused fate) w = refl
event_back None own (EchoAsked datagram) w = refl
event_back None own Overlong w = refl
event_back None own (Periodic slot) w = refl
event_back (Some key) own (Arrived p s) w =
    let shift : ℕ = shift_for (Some key) own p in
    with_ack p s (wrap (wrap (s.ack + (4294967296 - shift)) + shift)) (back s.ack shift w.3 (omega arith))
event_back (Some key) own (IpRefused fate) w = refl
event_back (Some key) own (IcmpRefused fate) w = refl
event_back (Some key) own (TcpRefused fate) w = refl
event_back (Some key) own (EchoAsked datagram) w = refl
event_back (Some key) own Overlong w = refl
event_back (Some key) own (Periodic slot) w = refl

reply_is : (key : Option Key) (own : Addr) (reply : Reply) → IsSendable own reply → on_wire key own reply ≡ reply_on_wire (lens key own) reply
reply_is None own (TcpReply p id again s) h = ap (λ (n : ℕ). TcpReply p id again (record s { seq = n })) (sym (still s.seq h.1))
reply_is None own (Echo request) h = refl
reply_is (Some key) own (TcpReply p id again s) h = refl
reply_is (Some key) own (Echo request) h = refl

pub lens_is_shift : LensIsShift
lens_is_shift = record {
  shift = is_shift;
  event = λ key own wire bytes.
      ap (λ (e : Event). event_on_wire (lens key own) e) (arriving_is key own wire bytes) ∙ event_back key own (event_of own wire) (bytes_wire own wire bytes);
  reply = λ key own reply h. leaving_is key own reply h ∙ ap (λ (r : Reply). reply_bytes own r) (reply_is key own reply h);
}
