-- What holds for every schedule.
-- [add: state] State: whether a client may wait for the node in it, in `may_wait`.
-- [add: schedule-line] Line of a schedule: whether it is one of a plain schedule.
-- [add: act] Act: `IsPlainAct` and `IsAct`.
use Rattle.std.specs.List.{All, list_any}
use Rattle.std.specs.Prelude.{◌≡◌, ℕ, suc, ◌+◌, ◌<◌, ◌≤◌, ◌⊎◌, ◌==◌, Bool, true, false, if◌then◌else◌}
use Rattle.std.specs.Prelude.{List, [], ◌∷◌, length, Option, Some, None, Ok, slice_get}
use Rattle.uip_wire.specs.Prelude.{wrap}
use Rattle.tcp_segment.specs.Prelude.{PlainSegment, has_rst, has_ack, segment_or_fate}
use Rattle.app_events.specs.Prelude.{AppSpec, IsPrefixOf, Pages, IsPaged, IsByte, IsAddr}
use Rattle.link_client.specs.Prelude.{AbstractClient, has_closed}
use Rattle.app_events.specs.declared.state.State.{State}
use Rattle.app_events.specs.declared.state.State.TheVariants.{Closed, FinWait2, TimeWait}
use Rattle.tcp_machine.specs.Prelude.{Connection, is_live, count_of, tries_of, occupies_sequence_space}
use Rattle.tcp_machine.specs.Prelude.{segment_of, limit_of, outstanding, grows_older}
use Rattle.uip_node.specs.Events.{Event as NodeEvent, Reply}
use Rattle.uip_node.specs.Prelude.{IpRefused, IcmpRefused, TcpRefused, EchoAsked, Arrived, Overlong, Periodic, Silent, ticks_of, TcpReply}
use Rattle.uip_node.specs.Prelude.{initial_number, ident_of, counters, raised_by, AbstractNode, step, serving, HasBytes, Alike, IsSteady}
use Rattle.uip_ipv4.specs.Prelude.{IsHeadOf, payload_of}
use Rattle.uip_ipv4.specs.declared.head.IpHead.{IpHead}
use Rattle.uip_ipv4.specs.declared.proto.Proto.{Proto}
use Rattle.uip_ipv4.specs.declared.proto.Proto.TheVariants.{Icmp as IcmpProto, Tcp as TcpProto}
use Rattle.icmp_echo.specs.Prelude.{echo_fate}
use Rattle.tcp_segment.specs.declared.segment.Segment.{Segment}
use Rattle.link_world.specs.Bytes.{sent_bytes}
use Rattle.link_world.specs.World.{World, Side, Sent, numbered, client_sockets, is_clean}
use Rattle.link_world.specs.World.Content.{OfSegment}
use Rattle.link_world.specs.declared.who.Who.{Who}
use Rattle.link_world.specs.declared.who.Who.TheVariants.{FromClient, FromNode, Pinger}
use Rattle.link_world.specs.Acts.{does, runs}
use Rattle.link_world.specs.History.{Start, started, era, page_of, is_whole}
use Rattle.link_world.specs.Schedule.{plays}
use Rattle.link_world.specs.declared.act.Act.{Act}
use Rattle.link_schedule.specs.declared.event.Event.{Event}

-- an act that damages nothing
abbrev pub IsPlainAct : Act → Type 0
IsPlainAct (Act.Damage number at mask) = ⊥
IsPlainAct (Act.Opens number) = Unit {0}
IsPlainAct (Act.Again number) = Unit {0}
IsPlainAct (Act.Closes number) = Unit {0}
IsPlainAct (Act.Aborts number) = Unit {0}
IsPlainAct (Act.Window number window) = Unit {0}
IsPlainAct (Act.Ping source) = Unit {0}
IsPlainAct (Act.Give number) = Unit {0}
IsPlainAct Act.Tick = Unit {0}

-- An act whose numbers fit their types; a changed byte differs from the byte before.
abbrev pub IsAct : Act → Type 0
IsAct (Act.Damage number at mask) = (1 ≤ mask) × (mask < 256)
IsAct (Act.Opens number) = Unit {0}
IsAct (Act.Again number) = Unit {0}
IsAct (Act.Closes number) = Unit {0}
IsAct (Act.Aborts number) = Unit {0}
IsAct (Act.Window number window) = window < 65536
IsAct (Act.Ping source) = IsAddr source
IsAct (Act.Give number) = Unit {0}
IsAct Act.Tick = Unit {0}

-- The world that a list of acts reaches from the initial world, each act accepted. If the output of the application may contain numbers
-- above 255, the schedule damages nothing.
pub record IsReached (m : AppSpec) (pages : Pages) (w : World) : Type 0 where
  pub served : ℕ → Bool
  pub start : Start
  pub schedule : List Act
  pub are_acts : All IsAct schedule
  pub bytes : HasBytes pages ⊎ All IsPlainAct schedule
  pub accepted : runs m served schedule (started start) ≡ Ok w

-- The world that acts without damage reach, for any output of the application.
pub record IsReachedPlainly (m : AppSpec) (w : World) : Type 0 where
  pub served : ℕ → Bool
  pub start : Start
  pub schedule : List Act
  pub plain : All IsPlainAct schedule
  pub accepted : runs m served schedule (started start) ≡ Ok w

-- each act of a line has this property
abbrev pub OfLine : (Act → Type 0) → Event → Type 0
OfLine P (Event.Opens number) = P (Act.Opens number)
OfLine P (Event.Again number) = P (Act.Again number)
OfLine P (Event.Closes number) = P (Act.Closes number)
OfLine P (Event.Aborts number) = P (Act.Aborts number)
OfLine P (Event.Window number window) = P (Act.Window number window)
OfLine P (Event.Ping source) = P (Act.Ping source)
OfLine P (Event.Give number) = P (Act.Give number)
OfLine P (Event.Damage number at mask) = P (Act.Damage number at mask)
OfLine P (Event.Tick n) = P Act.Tick
OfLine P Event.Round = (number : ℕ) → P (Act.Give number)
OfLine P Event.Twice = (number : ℕ) → P (Act.Give number)
OfLine P Event.Reverse = (number : ℕ) → P (Act.Give number)
OfLine P Event.Half = (number : ℕ) → P (Act.Give number)
OfLine P Event.Lose = Unit {0}

-- The world that the lines of a schedule reach, each line accepted.
pub record IsSchedulePlayed (m : AppSpec) (pages : Pages) (w : World) : Type 0 where
  pub served : ℕ → Bool
  pub start : Start
  pub lines : List Event
  pub are_acts : All (OfLine IsAct) lines
  pub bytes : HasBytes pages ⊎ All (OfLine IsPlainAct) lines
  pub accepted : plays m served lines (started start) ≡ Ok w

-- Acts reach every world that lines reach, except for the mark, which no law uses.
abbrev pub LinesAreActs : Type 0
LinesAreActs = (m : AppSpec) (pages : Pages) (w : World) → IsSchedulePlayed m pages w → IsReached m pages (record w { mark = 0 })

-- A client has received a prefix of its page, and the whole page if it saw a normal close.
pub record IsServed (pages : Pages) (w : World) (side : Side) : Type 0 where
  pub prefix : IsPrefixOf side.client.received (page_of pages w side)
  pub all : has_closed side.client.state ≡ true → side.client.received ≡ page_of pages w side
  pub whole : has_closed side.client.state ≡ true → is_whole pages w side ≡ true

-- Prefix and whole page: this holds for every clean client.
abbrev pub PrefixAndWhole : Type 0
PrefixAndWhole =
    (m : AppSpec) (pages : Pages) → IsPaged m pages → (w : World) → IsReached m pages w →
    (k : ℕ) (side : Side) → slice_get w.sides k ≡ Some side → is_clean side ≡ true → IsServed pages w side

-- Datagram j was sent earlier than datagram i, by the same connection, in the same epoch of the same client. It occupies the same sequence
-- number and has the same flags and text.
pub record IsRepeatOf (w : World) (e : Sent) (s : PlainSegment) (i j : ℕ) : Type 0 where
  pub earlier : j < i
  pub sent : Sent
  pub there : slice_get w.sent j ≡ Some sent
  pub who : sent.who ≡ e.who
  pub epoch : sent.epoch ≡ e.epoch
  pub id : ℕ
  pub segment : PlainSegment
  pub content : sent.content ≡ OfSegment id segment
  pub placed : occupies_sequence_space segment ≡ true
  pub seq : segment.seq ≡ s.seq
  pub alike : Alike segment s

-- If the node marks a datagram to a client as a retransmission, it was sent before, with the same number, flags and text.
abbrev pub RepeatsSameBytes : World → Type 0
RepeatsSameBytes w =
    (k : ℕ) (side : Side) → slice_get w.sides k ≡ Some side →
    (i : ℕ) (e : Sent) (id : ℕ) (s : PlainSegment) → slice_get w.sent i ≡ Some e → e.who ≡ FromNode (suc k) → e.content ≡ OfSegment id s
    → e.again ≡ true →
    (j : ℕ) × IsRepeatOf w e s i j

-- Same bytes: this holds in every world, also for clients that are not clean.
abbrev pub SameBytes : Type 0
SameBytes = (m : AppSpec) (pages : Pages) → IsPaged m pages → (w : World) → IsReached m pages w → RepeatsSameBytes w

-- If nothing is damaged, it holds without pages or a bound on the output, for every application that never retracts output.
abbrev pub SameBytesPlainly : Type 0
SameBytesPlainly = (m : AppSpec) → IsSteady m → (w : World) → IsReachedPlainly m w → RepeatsSameBytes w

-- If two datagrams to a client in one epoch occupy the same sequence number, the later one is marked. They have the same flags and text.
abbrev pub MarksRepeats : World → Type 0
MarksRepeats w =
    (k : ℕ) (side : Side) → slice_get w.sides k ≡ Some side →
    (i j : ℕ) (e f : Sent) (id id' : ℕ) (s t : PlainSegment) → slice_get w.sent i ≡ Some e → slice_get w.sent j ≡ Some f → j < i
    → e.who ≡ FromNode (suc k) → f.who ≡ FromNode (suc k) →
    e.content ≡ OfSegment id s → f.content ≡ OfSegment id' t → e.epoch ≡ f.epoch → s.seq ≡ t.seq →
    occupies_sequence_space s ≡ true → occupies_sequence_space t ≡ true →
    (e.again ≡ true) × Alike t s

-- The marks are exact in every world.
abbrev pub AgainExactly : Type 0
AgainExactly = (m : AppSpec) (pages : Pages) → IsPaged m pages → (w : World) → IsReached m pages w → MarksRepeats w

-- If nothing is damaged, this too holds without pages or a bound on the output.
abbrev pub AgainExactlyPlainly : Type 0
AgainExactlyPlainly = (m : AppSpec) → IsSteady m → (w : World) → IsReachedPlainly m w → MarksRepeats w

-- the connection that serves a client
abbrev pub server_side : World → Side → Connection
server_side w side = serving (client_sockets side) w.node.connections

-- How a client relates to a connection with this ISS. It accepted `ahead` numbers after the SYN, and acknowledged no more than these.
-- While the connection is not CLOSED, the client lacks at most what is outstanding there.
pub record IsInStep (w : World) (number : ℕ) (client : AbstractClient) (c : Connection) (iss : ℕ) : Type 0 where
  pub ahead : ℕ
  pub expected : client.expected ≡ wrap (iss + 1 + ahead)
  pub acknowledges : (i : ℕ) (e : Sent) (id : ℕ) (s : PlainSegment) → slice_get w.sent i ≡ Some e → e.who ≡ FromClient number
      → e.content ≡ OfSegment id s →
      has_rst s.flags ≡ false → has_ack s.flags ≡ true → (at : ℕ) × (at ≤ ahead) × (s.ack ≡ wrap (iss + 1 + at))
  pub least : is_live c.state ≡ true → c.acked ≤ 1 + ahead
  pub most : is_live c.state ≡ true → 1 + ahead ≤ c.acked + c.len

-- One segment: every clean client relates in this way to the connection of the epoch in which it opened.
abbrev pub OneSegment : Type 0
OneSegment =
    (m : AppSpec) (pages : Pages) → IsPaged m pages → (w : World) → IsReached m pages w →
    (k : ℕ) (side : Side) → slice_get w.sides k ≡ Some side → is_clean side ≡ true → (o : ℕ) → side.opened ≡ Some o →
    IsInStep w (suc k) side.client (server_side w side) (era side.history (server_side w side) o).iss

-- the states in which something may be outstanding
abbrev pub may_wait : State → Bool
may_wait Closed = false
may_wait FinWait2 = false
may_wait TimeWait = false
may_wait _ = true

-- Something is outstanding, the timer expired, and retransmissions are left.
pub record IsExpired (c : Connection) : Type 0 where
  pub waits : may_wait c.state ≡ true
  pub some : 0 < c.len
  pub count : count_of c ≡ 0
  pub tries : tries_of c < limit_of c.state

-- The periodic call of a slot sends what is outstanding there, marked as a retransmission.
pub record SendsAgain (m : AppSpec) (c : Connection) (sent : Option Reply) : Type 0 where
  pub id : ℕ
  pub segment : PlainSegment
  pub sends : sent ≡ Some (TcpReply c.sockets id true segment)
  pub is : segment_of m (grows_older c) (outstanding true c.state) ≡ Some segment

-- Tick: an expired timer below its limit sends in that tick, at every node.
abbrev pub Tick : Type 0
Tick =
    (m : AppSpec) (served : ℕ → Bool) (n : AbstractNode) (slot : ℕ) (c : Connection) → slice_get n.connections slot ≡ Some c → IsExpired c →
    SendsAgain m c (step m served n (Periodic slot)).sent

-- A datagram passes every check at the address in its header, and has no bytes after its length.
abbrev pub PassesBy : Proto → IpHead → List ℕ → Type 0
PassesBy TcpProto head bytes = (s : Segment) × (segment_or_fate head bytes ≡ Ok s)
PassesBy IcmpProto head bytes = echo_fate (payload_of head bytes) ≡ None

pub record IsWholeDatagram (bytes : List ℕ) : Type 0 where
  pub head : IpHead
  pub is : IsHeadOf head bytes
  pub total : head.total ≡ length bytes
  pub passes : PassesBy head.proto head bytes
  pub all_bytes : All IsByte bytes

-- Only the history of the node differs, without a new tick, periodic call or sent datagram.
pub record IsLoss (w v : World) : Type 0 where
  pub sides : v.sides ≡ w.sides
  pub sent : v.sent ≡ w.sent
  pub mark : v.mark ≡ w.mark
  pub addr : v.node.addr ≡ w.node.addr
  pub numbers : v.node.numbers ≡ w.node.numbers
  pub connections : v.node.connections ≡ w.node.connections
  pub ticks : ticks_of v.node.history ≡ ticks_of w.node.history
  pub initial : initial_number v.node.history ≡ initial_number w.node.history
  pub ident : ident_of v.node.history ≡ ident_of w.node.history

-- The datagram failed a check.
abbrev pub is_refused : NodeEvent → Bool
is_refused (IpRefused fate) = true
is_refused (IcmpRefused fate) = true
is_refused (TcpRefused fate) = true
is_refused (EchoAsked datagram) = false
is_refused (Arrived sockets s) = false
is_refused Overlong = false
is_refused (Periodic place) = false

-- the counters from number n on; those with these numbers rise by one
abbrev pub rise : List ℕ → ℕ → List ℕ → List ℕ
rise numbers n [] = []
rise numbers n (x ∷ xs) = (if list_any (λ k. k == n) numbers then wrap (x + 1) else x) ∷ rise numbers (n + 1) xs

-- The history of the node has one more refused datagram, without a reply: only these counters rise.
pub record OneRefusal (w v : World) : Type 0 where
  pub event : NodeEvent
  pub refused : is_refused event ≡ true
  pub history : v.node.history ≡ record { event = event; answer = Silent } ∷ w.node.history
  pub counted : counters v.node.history ≡ rise (raised_by event) 0 (counters w.node.history)

-- The node counts what was sent to it, and nothing else.
abbrev pub CountsBy : Who → World → World → Type 0
CountsBy (FromClient number) w v = OneRefusal w v
CountsBy Pinger w v = OneRefusal w v
CountsBy (FromNode number) w v = v.node.history ≡ w.node.history

-- Damage is a loss. A datagram that passes every check is delivered with one byte changed. It changes no client, no connection and no
-- list. If it was sent to the node, the history has one more refused datagram.
abbrev pub DamageIsLoss : Type 0
DamageIsLoss =
    (m : AppSpec) (served : ℕ → Bool) (w : World) (k at mask : ℕ) (e : Sent) → numbered w.sent k ≡ Some e
    → IsWholeDatagram (sent_bytes w e) → at < length (sent_bytes w e) → 1 ≤ mask → mask < 256 →
    IsLoss w (does m served w (Act.Damage k at mask)) × CountsBy e.who w (does m served w (Act.Damage k at mask))

-- This holds in every world that is reached: each datagram there passes every check.
abbrev pub DamageIsLossThere : Type 0
DamageIsLossThere =
    (m : AppSpec) (pages : Pages) → IsPaged m pages → HasBytes pages → (w : World) → IsReached m pages w →
    (served : ℕ → Bool) (k at mask : ℕ) (e : Sent) → numbered w.sent k ≡ Some e → at < length (sent_bytes w e) → 1 ≤ mask → mask < 256 →
    IsLoss w (does m served w (Act.Damage k at mask)) × CountsBy e.who w (does m served w (Act.Damage k at mask))
