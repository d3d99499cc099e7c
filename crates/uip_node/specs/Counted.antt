-- The counters of a node represent its history.
-- [add: fate] Fate: the number of its counter.
-- [add: counter] Counter: its number, if a fate raises it.
use Rattle.std.specs.Prelude.{ℕ, ◌≡◌, Bool, List, ◌∷◌, if◌then◌else◌}
use Rattle.uip_ipv4.specs.declared.fate.IpFate.{IpFate}
use Rattle.uip_ipv4.specs.declared.fate.IpFate.TheVariants as Ip
use Rattle.icmp_echo.specs.declared.fate.IcmpFate.{IcmpFate}
use Rattle.icmp_echo.specs.declared.fate.IcmpFate.TheVariants as Icmp
use Rattle.tcp_segment.specs.declared.fate.TcpFate.{TcpFate}
use Rattle.tcp_segment.specs.declared.fate.TcpFate.TheVariants as Tcp
use Rattle.uip_node.specs.declared.counter.TheConstants.{IP_SHORT, IP_VERSION, IP_LENGTH, IP_FRAGMENT, IP_CHECKSUM}
use Rattle.uip_node.specs.declared.counter.TheConstants.{IP_NOT_OURS, IP_PROTOCOL, ICMP_REFUSED, ICMP_CHECKSUM}
use Rattle.uip_node.specs.declared.counter.TheConstants.{TCP_REFUSED, TCP_CHECKSUM, TCP_AGAIN, NO_COUNTER}
use Rattle.uip_node.specs.Counters.{counters, ident_of, ticks_of}
use Rattle.uip_node.specs.Events.{Answer, Event, HistoryEntry}
use Rattle.uip_node.specs.Events.Answer.{Silent}
use Rattle.uip_node.specs.State.{Counts}

pub record CountsRepresent (counts : Counts) (history : List HistoryEntry) : Type 0 where
  pub net : counts.net ≡ counters history
  pub ticks : counts.ticks ≡ ticks_of history
  pub ident : counts.ident ≡ ident_of history

-- the indices of the counters of the fates
abbrev pub ip_place : IpFate → ℕ
ip_place Ip.Short = IP_SHORT
ip_place Ip.Version = IP_VERSION
ip_place Ip.Length = IP_LENGTH
ip_place Ip.Fragment = IP_FRAGMENT
ip_place Ip.Checksum = IP_CHECKSUM
ip_place Ip.NotOurs = IP_NOT_OURS
ip_place Ip.Protocol = IP_PROTOCOL

abbrev pub icmp_place : IcmpFate → ℕ
icmp_place Icmp.Short = ICMP_REFUSED
icmp_place Icmp.NotEcho = ICMP_REFUSED
icmp_place Icmp.Checksum = ICMP_CHECKSUM

abbrev pub tcp_place : TcpFate → ℕ
tcp_place Tcp.Short = TCP_REFUSED
tcp_place Tcp.Offset = TCP_REFUSED
tcp_place Tcp.Checksum = TCP_CHECKSUM

-- the index of the counter of retransmissions
abbrev pub again_place : Bool → ℕ
again_place again = if again then TCP_AGAIN else NO_COUNTER

-- a history with one more event, to which nothing was sent yet
abbrev pub seen : Event → List HistoryEntry → List HistoryEntry
seen event history = record { event = event; answer = Silent } ∷ history

-- If the counters represented the history before, they represent it with this event.
abbrev pub CountsEvent : List ℕ → List ℕ → Event → Type 0
CountsEvent old new event = (history : List HistoryEntry) → old ≡ counters history → new ≡ counters (seen event history)

-- If the counters represented a history with no reply to its last event, they represent it with this reply.
abbrev pub CountsAnswer : List ℕ → List ℕ → Answer → Type 0
CountsAnswer old new answer =
    (history : List HistoryEntry) (event : Event) → old ≡ counters (seen event history)
    → new ≡ counters (record { event = event; answer = answer } ∷ history)
