-- The abstract node, and its transition at each event.
use Rattle.std.specs.Prelude.{ℕ, ◌&&◌, Bool, false, not, List, [], ◌∷◌, replicate, position, slice_set}
use Rattle.std.specs.Prelude.{slice_index_or, Option, Some, None, option_map, if◌then◌else◌}
use Rattle.std.specs.Option.{option_map_or}
use Rattle.uip_wire.specs.declared.addr.Addr.{Addr}
use Rattle.tcp_segment.specs.Prelude.{PlainSegment, has_rst}
use Rattle.app_events.specs.Prelude.{AppSpec}
use Rattle.app_events.specs.declared.now.Now.{Now}
use Rattle.tcp_table.specs.Prelude.{slot_by}
use Rattle.tcp_machine.specs.Prelude.{Sockets, Connection, closed, is_live, serves, rows_from, is_plain_syn}
use Rattle.tcp_machine.specs.Prelude.{reset_for_no_connection, segment_of, is_again, Outcome, asked, accept, on_segment, on_tick}
use Rattle.uip_node.specs.Events.{Event, Answer, HistoryEntry, Reply}
use Rattle.uip_node.specs.Events.Event.{EchoAsked, Arrived, Periodic}
use Rattle.uip_node.specs.Events.Answer.{Silent, NoSlot, EchoReplied, Spoke}
use Rattle.uip_node.specs.Events.Reply.{Echo, TcpReply}
use Rattle.uip_node.specs.Counters.{counters, ticks_of, initial_number, ident_of}

-- The state of a node.
pub record AbstractNode : Type 0 where
  pub addr : Addr
  pub numbers : List ℕ  -- the shared numbers of its application
  pub connections : List Connection  -- ten, by their slots
  pub history : List HistoryEntry  -- the newest entry first

-- the initial state: ten CLOSED connections and no history
abbrev pub initial_node : Addr → List ℕ → AbstractNode
initial_node addr numbers = record { addr = addr; numbers = numbers; connections = replicate 10 closed; history = [] }

-- The result of a transition: the node, the datagram sent, and the connection that became CLOSED, with its last values.
pub record NodeStep : Type 0 where
  pub node : AbstractNode
  pub sent : Option Reply
  pub gone : Option Connection

abbrev pub remembers : AbstractNode → Event → Answer → AbstractNode
remembers n event answer = record n { history = record { event = event; answer = answer } ∷ n.history }

-- Nothing is sent, and only the history changes.
abbrev pub passes : AbstractNode → Event → Answer → NodeStep
passes n event answer = record { node = remembers n event answer; sent = None; gone = None }

-- The snapshot at an event for the connection in a slot. It counts the event, and not its reply.
abbrev pub snapshot : AbstractNode → Event → ℕ → Connection → Now
snapshot n event slot c =
    let seen : List HistoryEntry = record { event = event; answer = Silent } ∷ n.history in
    record { ticks = ticks_of seen; net = counters seen; rows = rows_from 0 (slice_set n.connections slot c) }

-- The connection that was in a slot is CLOSED now.
abbrev pub gone_by : Connection → Connection → Option Connection
gone_by old new = if is_live old.state && not (is_live new.state) then Some new else None

-- The connection in a slot took a step.
unfoldable pub happened : AppSpec → AbstractNode → Event → ℕ → Connection → Outcome → NodeStep
happened m n event slot old o =
    let output : Option PlainSegment = segment_of m o.connection o.step in
    let again : Bool = is_again o.step in
    let history : List HistoryEntry = record { event = event; answer = option_map_or (λ s. Spoke again) output Silent } ∷ n.history in
    record {
      node = record n { numbers = o.numbers; connections = slice_set n.connections slot o.connection; history = history };
      sent = option_map (λ s. TcpReply o.connection.sockets (ident_of history) again s) output;
      gone = gone_by old o.connection;
    }

abbrev pub connection_in : ℕ → AbstractNode → Connection
connection_in slot n = slice_index_or n.connections slot closed

-- the slot for a plain SYN, by the states and ages of the connections
abbrev pub slot_for_syn : List Connection → Option ℕ
slot_for_syn cs = slot_by (λ c. c.state) (λ c. c.age) cs

-- A connection opens in a slot. A connection in TIME-WAIT there is gone.
unfoldable pub opens_in : AppSpec → AbstractNode → Sockets → PlainSegment → ℕ → NodeStep
opens_in m n sockets s slot =
    let old : Connection = connection_in slot n in
    let step : NodeStep = happened m n (Arrived sockets s) slot old (accept (initial_number n.history) sockets s n.numbers) in
    record step { gone = (if is_live old.state then Some old else None) }

abbrev pub opens : AppSpec → AbstractNode → Sockets → PlainSegment → Option ℕ → NodeStep
opens m n sockets s None = passes n (Arrived sockets s) NoSlot
opens m n sockets s (Some slot) = opens_in m n sockets s slot

abbrev pub refuses : AbstractNode → Sockets → PlainSegment → NodeStep
refuses n sockets s =
    let history : List HistoryEntry = record { event = Arrived sockets s; answer = Spoke false } ∷ n.history in
    record {
      node = record n { history = history };
      sent = Some (TcpReply sockets (ident_of history) false (reset_for_no_connection s));
      gone = None;
    }

-- A segment belongs to no connection.
unfoldable pub for_no_connection : AppSpec → (ℕ → Bool) → AbstractNode → Sockets → PlainSegment → NodeStep
for_no_connection m served n sockets s =
    if is_plain_syn s && served sockets.own_port.0 then opens m n sockets s (slot_for_syn n.connections)
    else if has_rst s.flags then passes n (Arrived sockets s) Silent
    else refuses n sockets s

abbrev pub arrives_at : AppSpec → (ℕ → Bool) → AbstractNode → Sockets → PlainSegment → Option ℕ → NodeStep
arrives_at m served n sockets s None = for_no_connection m served n sockets s
arrives_at m served n sockets s (Some slot) =
    let c : Connection = connection_in slot n in
    happened m n (Arrived sockets s) slot c (asked m (snapshot n (Arrived sockets s) slot) (on_segment m c n.numbers s))

-- A segment belongs to the connection that is not CLOSED and has its sockets.
abbrev pub arrives : AppSpec → (ℕ → Bool) → AbstractNode → Sockets → PlainSegment → NodeStep
arrives m served n sockets s = arrives_at m served n sockets s (position (serves sockets) n.connections)

-- the periodic call of a slot
abbrev pub periodic : AppSpec → AbstractNode → ℕ → NodeStep
periodic m n slot =
    let c : Connection = connection_in slot n in
    happened m n (Periodic slot) slot c (asked m (snapshot n (Periodic slot) slot) (on_tick m c n.numbers))

-- The transition function of the node: an echo request is answered, a segment arrives, a slot is called, or the event is only counted.
abbrev pub step : AppSpec → (ℕ → Bool) → AbstractNode → Event → NodeStep
step m served n (EchoAsked datagram) =
    record { node = remembers n (EchoAsked datagram) EchoReplied; sent = Some (Echo datagram); gone = None }
step m served n (Arrived sockets s) = arrives m served n sockets s
step m served n (Periodic slot) = periodic m n slot
step m served n event = passes n event Silent

abbrev pub joined : {X : Type 0} → Option X → List X → List X
joined None xs = xs
joined (Some x) xs = x ∷ xs

-- The result of events in order: the node, and everything sent, the oldest first.
pub record Ran : Type 0 where
  pub node : AbstractNode
  pub sent : List Reply

abbrev pub run : AppSpec → (ℕ → Bool) → List Event → AbstractNode → Ran
run m served [] n = record { node = n; sent = [] }
run m served (e ∷ es) n =
    let first : NodeStep = step m served n e in
    let rest : Ran = run m served es first.node in
    record { node = rest.node; sent = joined first.sent rest.sent }
