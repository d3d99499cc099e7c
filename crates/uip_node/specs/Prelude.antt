-- The names of the definitions of this crate that other files cite, passed on from one place. Declares nothing.
pub use Rattle.uip_node.specs.Answering.{AnswersIn, AnswersPolled, GoesOnBy}
pub use Rattle.uip_node.specs.ConstantValues.{ConstantValues}
pub use Rattle.uip_node.specs.Counted.{CountsAnswer, CountsEvent, CountsRepresent, again_place, icmp_place, ip_place, seen, tcp_place}
pub use Rattle.uip_node.specs.Counters.{called_by, counters, ident_of, initial_number, raised_by, raised_by_answer, raises, ticks_of, times}
pub use Rattle.uip_node.specs.Edge.{by_head, by_proto, by_segment, datagram_to, event_of, reply_bytes, sockets_of}
pub use Rattle.uip_node.specs.Events.{Answer, Event, HistoryEntry, Reply, tick}
pub use Rattle.uip_node.specs.Events.Answer.{EchoReplied, NoSlot, Silent, Spoke}
pub use Rattle.uip_node.specs.Events.Event.{Arrived, EchoAsked, IcmpRefused, IpRefused, Overlong, Periodic, TcpRefused}
pub use Rattle.uip_node.specs.Events.Reply.{Echo, TcpReply}
pub use Rattle.uip_node.specs.Inner.{OpensIn, PreparesIn, SettlesIn, SpeaksIn, StaysPrepared, TakesIn}
pub use Rattle.uip_node.specs.Laws.{Alike, HasBytes, IsEvent, IsSlice, SendsBytes, serving}
pub use Rattle.uip_node.specs.Node.{AbstractNode, NodeStep, Ran, arrives, arrives_at, connection_in, gone_by, initial_node}
pub use Rattle.uip_node.specs.Node.{joined, opens, passes, periodic, refuses, remembers, run, slot_for_syn, snapshot, step}
unfoldable pub use Rattle.uip_node.specs.Node.{for_no_connection, happened, opens_in}
pub use Rattle.uip_node.specs.Raising.{counter_places, marks, raise}
pub use Rattle.uip_node.specs.Represents.{Represents, Steps}
pub use Rattle.uip_node.specs.Slots.{AllSound, AllWellFormed, IsIn, IsNamed, IsWellFormedConn, MeetsAt, NoneAt}
pub use Rattle.uip_node.specs.Slots.{OthersRest, OthersStay, SlotsRepresent, TookStep, live_rows, row_in, snapshot_at}
pub use Rattle.uip_node.specs.Spoken.{IsSent, IsSpoken}
pub use Rattle.uip_node.specs.State.{Counts, Node}
pub use Rattle.uip_node.specs.Steady.{IsSteady}
