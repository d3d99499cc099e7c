-- The bytes of each datagram are read as what was sent.
use Rattle.link_world.proofs.Prelude.{◌≡◌, ℕ, zero, suc, ◌<◌, ◌≤◌, List, [], length, take, refl, sym, ap, ◌∙◌, subst, arith, Option, Some}
use Rattle.link_world.proofs.Prelude.{None, slice_get, if◌then◌else◌, length-append, length-take, length-drop, take-length, option_map_or}
use Rattle.link_world.proofs.Prelude.{Addr, echo_reply, IsReadBack, head_of, PlainSegment, Datagram, datagram_bytes, IsAddr, Sockets}
use Rattle.link_world.proofs.Prelude.{EchoAsked, Arrived, IcmpRefused, event_of, by_head, by_segment, datagram_to, Setup, World, Side}
use Rattle.link_world.proofs.Prelude.{Content, client_sockets, OfSegment, OfPing, OfEcho, ping_from, server_of, client_bytes, node_bytes}
use Rattle.link_world.proofs.Prelude.{bytes_by, receives_datagram, received_by, Who, FromClient, FromNode, Pinger, IsRead, BytesAreRead}
use Rattle.link_world.proofs.Prelude.{is_same, IsSoundSegment, IsPlace, datagram_back, datagram_short}
use Rattle.link_world.proofs.Sound.{IsSoundClient}
use Rattle.link_world.proofs.SoundWorlds.{SoundSent, SoundWorld}
use Rattle.link_world.proofs.SoundWorlds.SoundSent.{of_segment, of_ping, of_echo}
use Rattle.link_world.proofs.ReadBack.{IsPingBack, ping_head, ping_back}
use Rattle.link_world.proofs.Runs.{reached_sound}
use Rattle.link_world.proofs.Senders.{Asked, IsAsked, has_senders}

-- the event of a sound datagram at its target
arrives : (d : Datagram) → IsReadBack d → (addr : Addr) → addr.0 ≡ d.target →
    event_of addr (datagram_bytes d) ≡ Arrived
    (record { peer = record { 0 = d.source }; peer_port = record { 0 = d.from }; own_port = record { 0 = d.to } }) d.segment
arrives d b addr e =
    ap (λ own. by_head (datagram_bytes d) (Rattle.uip_ipv4.specs.Head.head_or_fate (datagram_bytes d) own)) e
    ∙ ap (by_head (datagram_bytes d)) b.head
    ∙ ap (by_segment (head_of d) (datagram_bytes d)) b.fields
    ∙ ap (λ s. Arrived (record { peer = record { 0 = d.source }; peer_port = record { 0 = d.from }; own_port = record { 0 = d.to } }) s) b.segment

abbrev pub to_node : Side → ℕ → PlainSegment → Datagram
to_node side id s = datagram_to side.client.setup.addr (server_of side.client.setup) id s

abbrev pub to_client : Addr → Side → ℕ → PlainSegment → Datagram
to_client addr side id s = datagram_to addr (client_sockets side) id s

pub to_node_place : (side : Side) (id : ℕ) (s : PlainSegment) → id < 65536 → IsSoundClient side.client → IsPlace (to_node side id s)
to_node_place side id s l c = record {
  source = c.addr.four;
  target = c.server.four;
  source_bytes = c.addr.all_bytes;
  target_bytes = c.server.all_bytes;
  from = c.port;
  to = c.server_port;
  id = l;
}

pub to_client_place : (addr : Addr) (side : Side) (id : ℕ) (s : PlainSegment) → IsAddr addr → id < 65536 → IsSoundClient side.client
    → IsPlace (to_client addr side id s)
to_client_place addr side id s a l c = record {
  source = a.four;
  target = c.addr.four;
  source_bytes = a.all_bytes;
  target_bytes = c.addr.all_bytes;
  from = c.server_port;
  to = c.port;
  id = l;
}

address : (a b : Addr) → a ≡ b → b.0 ≡ a.0
address a b e = ap (λ (x : Addr). x.0) (sym e)

-- the node reads what a client sent
node_reads : (addr : Addr) (side : Side) (id : ℕ) (s : PlainSegment) → id < 65536 → IsSoundSegment s → IsSoundClient side.client
    → side.client.setup.server ≡ addr →
    event_of addr (datagram_bytes (to_node side id s)) ≡ Arrived (client_sockets side) s
node_reads addr side id s l g c e =
    arrives (to_node side id s) (datagram_back (to_node side id s) (to_node_place side id s l c) g) addr (address side.client.setup.server addr e)

-- a client receives a segment of its server
received_is : (setup : Setup) (p : Sockets) (s : PlainSegment) → p ≡ server_of setup → received_by setup (Arrived p s) ≡ Some s
received_is setup p s e = ap (λ b. if b then Some s else None) (is_same p (server_of setup) e)

-- a client reads what the node sent to it
client_reads : (addr : Addr) (side : Side) (id : ℕ) (s : PlainSegment) → IsAddr addr → id < 65536 → IsSoundSegment s
    → IsSoundClient side.client → side.client.setup.server ≡ addr →
    receives_datagram side.client.setup (datagram_bytes (to_client addr side id s)) ≡ Some s
client_reads addr side id s a l g c e =
    let setup : Setup = side.client.setup in
    ap (received_by setup) (arrives (to_client addr side id s)
    (datagram_back (to_client addr side id s) (to_client_place addr side id s a l c) g) setup.addr refl)
    ∙ received_is setup (record { peer = addr; peer_port = setup.server_port; own_port = setup.port }) s
    (ap (λ x. record { peer = x; peer_port = setup.server_port; own_port = setup.port }) (sym e))

-- the node reads a ping as one
ping_reads : (source addr : Addr) → IsPingBack source addr → event_of addr (ping_from source addr) ≡ EchoAsked (ping_from source addr)
ping_reads source addr b =
    ap (by_head (ping_from source addr)) b.head
    ∙ ap (λ o. option_map_or IcmpRefused o (EchoAsked (take (ping_head source addr).total (ping_from source addr)))) b.passes
    ∙ ap (λ n. EchoAsked (take n (ping_from source addr))) (sym b.long)
    ∙ ap EchoAsked (take-length (ping_from source addr))

-- ---- of each datagram

abbrev IsGood : World → Who → Content → Type 0
IsGood w who content = IsRead w who content (bytes_by w who content) × (length (bytes_by w who content) ≤ 1500)

abbrev AtNode : Addr → List ℕ → PlainSegment → Option Side → Type 0
AtNode addr bytes s at = ((side : Side) → at ≡ Some side → side.client.setup.server ≡ addr
    → event_of addr bytes ≡ Arrived (client_sockets side) s) × (length bytes ≤ 1500)

abbrev AtClient : Addr → List ℕ → PlainSegment → Option Side → Type 0
AtClient addr bytes s at = ((side : Side) → at ≡ Some side → side.client.setup.server ≡ addr → receives_datagram side.client.setup bytes
    ≡ Some s) × (length bytes ≤ 1500)

some_side : (P : Side → Type 0) (a b : Side) → Some a ≡ Some b → P a → P b
some_side P a b e h = subst P (let f : a ≡ b = cc in f) h

at_node : (addr : Addr) (id : ℕ) (s : PlainSegment) (at : Option Side) → id < 65536 → IsSoundSegment s
    → ((x : Side) → at ≡ Some x → IsSoundClient x.client) → AtNode addr (option_map_or (client_bytes id s) at []) s at
at_node addr id s None l g h = ((λ side e f. absurd (cc)), omega arith)
at_node addr id s (Some side) l g h = (
  (λ x e. some_side (λ (y : Side). y.client.setup.server ≡ addr → event_of addr (datagram_bytes (to_node side id s))
      ≡ Arrived (client_sockets y) s) side x e (node_reads addr side id s l g (h side refl))),
  datagram_short (to_node side id s) (to_node_place side id s l (h side refl)) g,
)

at_client : (addr : Addr) (id : ℕ) (s : PlainSegment) (at : Option Side) → IsAddr addr → id < 65536 → IsSoundSegment s
    → ((x : Side) → at ≡ Some x → IsSoundClient x.client) → AtClient addr (option_map_or (node_bytes addr id s) at []) s at
at_client addr id s None a l g h = ((λ side e f. absurd (cc)), omega arith)
at_client addr id s (Some side) a l g h = (
  (λ x e. some_side (λ (y : Side). y.client.setup.server ≡ addr
      → receives_datagram y.client.setup (datagram_bytes (to_client addr side id s)) ≡ Some s) side x e (client_reads addr side id s a l g (h side refl))),
  datagram_short (to_client addr side id s) (to_client_place addr side id s a l (h side refl)) g,
)

segment_good : (w : World) (who : Who) (id : ℕ) (s : PlainSegment) → id < 65536 → IsSoundSegment s → SoundWorld w → IsGood w who (OfSegment id s)
segment_good w (FromClient zero) id s l g h = ((λ side e f. absurd (cc)), omega arith)
segment_good w (FromClient (suc n)) id s l g h = at_node w.node.addr id s (slice_get w.sides n) l g (λ x e. h.sides n x e)
segment_good w (FromNode zero) id s l g h = ((λ side e f. absurd (cc)), omega arith)
segment_good w (FromNode (suc n)) id s l g h = at_client w.node.addr id s (slice_get w.sides n) h.addr l g (λ x e. h.sides n x e)
segment_good w Pinger id s l g h = (tt, omega arith)

ping_good : (w : World) (source : Addr) → IsAddr source → SoundWorld w → IsGood w Pinger (OfPing (ping_from source w.node.addr))
ping_good w source a h = let b : IsPingBack source w.node.addr = ping_back source w.node.addr a h.addr in
    (ping_reads source w.node.addr b, omega (arith, b.long))

-- a request that was sent is a ping
pub ping_long : (addr : Addr) (who : Who) (content : Content) (request : List ℕ) → IsAddr addr → content ≡ OfPing request
    → SoundSent addr who content → length request ≡ 28
ping_long addr who content request a e s = elim s [
  | of_segment id t q l g ↦ absurd (let z : OfSegment id t ≡ OfPing request = sym q ∙ e in cc)
  | of_ping source r q b ↦ (let z : OfPing request ≡ OfPing (ping_from source addr) = sym e ∙ q in let y : request ≡ ping_from source addr =
      cc in ap (λ (x : List ℕ). length x) y ∙ (ping_back source addr b a).long)
  | of_echo other r q ↦ absurd (let z : OfEcho other ≡ OfPing request = sym q ∙ e in cc)
]

echo_long : (request : List ℕ) → length request ≡ 28 → length (echo_reply request) ≤ 1500
echo_long request h = simp (length-append, length-take, length-drop) (omega (arith, h))

sent_good : (w : World) (who : Who) (content : Content) → SoundWorld w → SoundSent w.node.addr who content → Asked w.sent content → IsGood w who content
sent_good w who content h s a = elim s [
  | of_segment id t q l g ↦ subst (λ c. IsGood w who c) (sym q) (segment_good w who id t l g h)
  | of_ping source r q b ↦ subst (λ x. IsGood w x content) (sym r) (subst (λ c. IsGood w Pinger c) (sym q) (ping_good w source b h))
  | of_echo request r q ↦ (let x : IsAsked w.sent request = subst (λ c. Asked w.sent c) q a in
      let long : length request ≡ 28 = ping_long w.node.addr x.asker.who x.asker.content request h.addr x.is (h.sent x.index x.asker x.get) in
      subst (λ y. IsGood w y content) (sym r) (subst (λ c. IsGood w (FromNode 0) c) (sym q) (tt, echo_long request long)))
]

pub bytes_are_read : BytesAreRead
bytes_are_read m pages lawful page w r k e x =
    let h : SoundWorld w = reached_sound m pages lawful page w r in
    sent_good w e.who e.content h (h.sent k e x) ((has_senders m pages lawful w r).sent k e x).1
