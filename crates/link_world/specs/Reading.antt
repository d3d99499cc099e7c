-- What the bytes of a datagram contain, and who sends what to whom.
use Rattle.std.specs.Prelude.{◌≡◌, ℕ, ◌≤◌, List, length, Some, slice_get}
use Rattle.uip_wire.specs.declared.sizes.TheConstants.{LARGEST_DATAGRAM}
use Rattle.app_events.specs.Prelude.{AppSpec, Pages, IsPaged}
use Rattle.uip_node.specs.Prelude.{EchoAsked, Arrived, event_of, HasBytes}
use Rattle.link_world.specs.World.{World, Side, Sent, Content, numbered, client_sockets}
use Rattle.link_world.specs.World.Content.{OfSegment, OfPing, OfEcho}
use Rattle.link_world.specs.Bytes.{sent_bytes, receives_datagram}
use Rattle.link_world.specs.declared.who.Who.{Who}
use Rattle.link_world.specs.declared.who.Who.TheVariants.{FromClient, FromNode, Pinger}
use Rattle.link_world.specs.Headline.{IsReached}

-- The receiver reads in the bytes of a datagram what was sent. Between a client and the node this requires that the server of the client
-- is the node.
abbrev pub IsRead : World → Who → Content → List ℕ → Type 0
IsRead w (FromClient number) (OfSegment id s) bytes =
    (side : Side) → numbered w.sides number ≡ Some side → side.client.setup.server ≡ w.node.addr
    → event_of w.node.addr bytes ≡ Arrived (client_sockets side) s
IsRead w (FromNode number) (OfSegment id s) bytes =
    (side : Side) → numbered w.sides number ≡ Some side → side.client.setup.server ≡ w.node.addr
    → receives_datagram side.client.setup bytes ≡ Some s
IsRead w Pinger (OfPing datagram) bytes = event_of w.node.addr bytes ≡ EchoAsked datagram
IsRead w who content bytes = Unit {0}  -- nothing else is delivered

-- Bytes are read: if the pages are bytes, so is every datagram sent, and none is longer than the largest datagram.
abbrev pub BytesAreRead : Type 0
BytesAreRead =
    (m : AppSpec) (pages : Pages) → IsPaged m pages → HasBytes pages → (w : World) → IsReached m pages w →
    (k : ℕ) (e : Sent) → slice_get w.sent k ≡ Some e → IsRead w e.who e.content (sent_bytes w e)
    × (length (sent_bytes w e) ≤ LARGEST_DATAGRAM)

-- A client has this number.
abbrev pub IsNumberOf : List Side → ℕ → Type 0
IsNumberOf sides number = (side : Side) × (numbered sides number ≡ Some side)

-- A segment is from a client or to one. An echo request is from a pinger, and an echo reply is for no client.
abbrev pub IsSentBy : List Side → Who → Content → Type 0
IsSentBy sides (FromClient number) (OfSegment id s) = IsNumberOf sides number
IsSentBy sides (FromNode number) (OfSegment id s) = IsNumberOf sides number
IsSentBy sides (FromNode number) (OfEcho request) = number ≡ 0
IsSentBy sides Pinger (OfPing datagram) = Unit {0}
IsSentBy sides who content = ⊥

-- Sent to clients: this holds for every datagram; the segments of the node are for clients only.
abbrev pub SentToClients : Type 0
SentToClients =
    (m : AppSpec) (pages : Pages) → IsPaged m pages → (w : World) → IsReached m pages w →
    (k : ℕ) (e : Sent) → slice_get w.sent k ≡ Some e → IsSentBy w.sides e.who e.content
