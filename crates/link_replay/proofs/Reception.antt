-- What a datagram is, as its receiver reads it.
use Rattle.link_replay.proofs.Prelude.{◌≡◌, ℕ, List, Bool, true, false, if◌then◌else◌, Some, None, refl, ap, ◌∙◌, subst, option_map, Addr}
use Rattle.link_replay.proofs.Prelude.{Sockets, same_sockets, PlainSegment, event_of, Event, Arrived, Setup, World, Side, Content, numbered}
use Rattle.link_replay.proofs.Prelude.{client_sockets, OfSegment, OfPing, OfEcho, received_by, server_of, FromClient, FromNode, IsRead}
use Rattle.link_replay.proofs.Prelude.{IsSentBy, Kind, EchoReply, kind_sent, segment_kind}

abbrev pub addr_of : Side → Addr
addr_of side = side.client.setup.addr

if_received : (b : Bool) (s t : PlainSegment) → (if b then Some s else None) ≡ Some t → s ≡ t
if_received true s t e = cc
if_received false s t e = absurd cc

-- what a client receives arrived at its address
pub received_arrived : (setup : Setup) (event : Event) (s : PlainSegment) → received_by setup event ≡ Some s → (sockets : Sockets) × (event ≡ Arrived sockets s)
received_arrived setup (Arrived sockets t) s e = (sockets, ap (λ x. Arrived sockets x) (if_received (same_sockets sockets (server_of setup)) t s e))
received_arrived setup _ s e = absurd cc

-- a datagram of a client
pub client_kind : (w : World) (number : ℕ) (content : Content) (bytes : List ℕ) (kind : Kind)
    → ((sockets : Sockets) (s : PlainSegment) → event_of w.node.addr bytes ≡ Arrived sockets s → kind ≡ segment_kind s)
    → ((side : Side) → numbered w.sides number ≡ Some side → side.client.setup.server ≡ w.node.addr)
    → IsRead w (FromClient number) content bytes → IsSentBy w.sides (FromClient number) content → kind ≡ kind_sent content
client_kind w number (OfSegment id s) bytes kind reads server read by = reads (client_sockets by.0) s (read by.0 by.1 (server by.0 by.1))
client_kind w number (OfPing datagram) bytes kind reads server read by = absurd by
client_kind w number (OfEcho request) bytes kind reads server read by = absurd by

-- the client that a datagram goes to is there
pub node_kind : (w : World) (number : ℕ) (content : Content) (bytes : List ℕ) (own : Addr) (kind : Kind)
    → Some own ≡ option_map addr_of (numbered w.sides number)
    → ((sockets : Sockets) (s : PlainSegment) → event_of own bytes ≡ Arrived sockets s → kind ≡ segment_kind s)
    → ((side : Side) → numbered w.sides number ≡ Some side → side.client.setup.server ≡ w.node.addr)
    → IsRead w (FromNode number) content bytes → IsSentBy w.sides (FromNode number) content → kind ≡ kind_sent content
node_kind w number (OfSegment id s) bytes own kind found reads server read by =
    let side = by.0 in
    let here : Some own ≡ Some (addr_of side) = found ∙ ap (λ o. option_map addr_of o) by.1 in
    let same : addr_of side ≡ own = cc in
    let arrived = received_arrived side.client.setup (event_of side.client.setup.addr bytes) s (read side by.1 (server side by.1)) in
    reads arrived.0 s (subst (λ (a : Addr). event_of a bytes ≡ Arrived arrived.0 s) same arrived.1)
node_kind w number (OfPing datagram) bytes own kind found reads server read by = absurd by
node_kind w number (OfEcho request) bytes own kind found reads server read by =
    let none : option_map addr_of (numbered w.sides number) ≡ None = ap (λ n. option_map addr_of (numbered w.sides n)) by in
    absurd cc

-- no client is there
pub no_client_kind : (w : World) (number : ℕ) (content : Content) → None ≡ option_map addr_of (numbered w.sides number)
    → IsSentBy w.sides (FromNode number) content → EchoReply ≡ kind_sent content
no_client_kind w number (OfSegment id s) found by =
    let here : None ≡ Some (addr_of by.0) = found ∙ ap (λ o. option_map addr_of o) by.1 in
    absurd cc
no_client_kind w number (OfPing datagram) found by = absurd by
no_client_kind w number (OfEcho request) found by = refl
