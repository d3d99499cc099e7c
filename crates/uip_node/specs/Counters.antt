-- All numbers of a node are counts over its history.
-- [add: fate] Fate: the counters that it raises, in `raised_by`.
-- [add: counter] Counter: the events that raise it, in `raised_by` or `raised_by_answer`, and its value in `counters`.
use Rattle.std.specs.Prelude.{ℕ, ◌+◌, ◌%◌, ◌==◌, ◌++◌, Bool, false, List, [], ◌∷◌, map, Option, Some, None, is_some, if◌then◌else◌}
use Rattle.std.specs.List.{list_any, range_with_len}
use Rattle.std.specs.Option.{option_map_or}
use Rattle.uip_wire.specs.Prelude.{wrap}
use Rattle.uip_ipv4.specs.declared.fate.IpFate.TheVariants as Ip
use Rattle.icmp_echo.specs.declared.fate.IcmpFate.TheVariants as Icmp
use Rattle.tcp_segment.specs.declared.fate.TcpFate.TheVariants as Tcp
use Rattle.uip_node.specs.Events.{Event, Answer, HistoryEntry}
use Rattle.uip_node.specs.declared.counter.TheConstants.{IP_IN, IP_OUT, OVERLONG_FRAMES, IP_SHORT, IP_VERSION, IP_LENGTH, IP_FRAGMENT}
use Rattle.uip_node.specs.declared.counter.TheConstants.{IP_CHECKSUM, IP_NOT_OURS, IP_PROTOCOL, ICMP_IN, ICMP_OUT, ICMP_REFUSED}
use Rattle.uip_node.specs.declared.counter.TheConstants.{ICMP_CHECKSUM, TCP_IN, TCP_OUT, TCP_REFUSED, TCP_CHECKSUM, TCP_AGAIN, NO_SLOT_LEFT}
use Rattle.uip_node.specs.Events.Event.{IpRefused, IcmpRefused, TcpRefused, EchoAsked, Arrived, Overlong, Periodic}
use Rattle.uip_node.specs.Events.Answer.{Silent, NoSlot, EchoReplied, Spoke}

-- the number of entries of the history that pass the test
abbrev pub times : (HistoryEntry → Bool) → List HistoryEntry → ℕ
times test [] = 0
times test (p ∷ history) = if test p then times test history + 1 else times test history

-- The counters that an event raises before the application is called.
abbrev pub raised_by : Event → List ℕ
raised_by (IpRefused Ip.Short) = IP_IN ∷ IP_SHORT ∷ []
raised_by (IpRefused Ip.Version) = IP_IN ∷ IP_VERSION ∷ []
raised_by (IpRefused Ip.Length) = IP_IN ∷ IP_LENGTH ∷ []
raised_by (IpRefused Ip.Fragment) = IP_IN ∷ IP_FRAGMENT ∷ []
raised_by (IpRefused Ip.Checksum) = IP_IN ∷ IP_CHECKSUM ∷ []
raised_by (IpRefused Ip.NotOurs) = IP_IN ∷ IP_NOT_OURS ∷ []
raised_by (IpRefused Ip.Protocol) = IP_IN ∷ IP_PROTOCOL ∷ []
raised_by (IcmpRefused Icmp.Checksum) = IP_IN ∷ ICMP_IN ∷ ICMP_CHECKSUM ∷ []
raised_by (IcmpRefused fate) = IP_IN ∷ ICMP_IN ∷ ICMP_REFUSED ∷ []
raised_by (EchoAsked datagram) = IP_IN ∷ ICMP_IN ∷ []
raised_by (TcpRefused Tcp.Checksum) = IP_IN ∷ TCP_IN ∷ TCP_CHECKSUM ∷ []
raised_by (TcpRefused fate) = IP_IN ∷ TCP_IN ∷ TCP_REFUSED ∷ []
raised_by (Arrived sockets segment) = IP_IN ∷ TCP_IN ∷ []
raised_by Overlong = OVERLONG_FRAMES ∷ []
raised_by (Periodic place) = []

-- The counters that the reply to it raises afterwards.
abbrev pub raised_by_answer : Answer → List ℕ
raised_by_answer Silent = []
raised_by_answer EchoReplied = IP_OUT ∷ ICMP_OUT ∷ []
raised_by_answer (Spoke again) = IP_OUT ∷ TCP_OUT ∷ (if again then TCP_AGAIN ∷ [] else [])
raised_by_answer NoSlot = NO_SLOT_LEFT ∷ []

abbrev pub raises : ℕ → HistoryEntry → Bool
raises place p = list_any (λ n. n == place) (raised_by p.event ++ raised_by_answer p.answer)

-- the twenty counters, by their indices
abbrev pub counters : List HistoryEntry → List ℕ
counters history = map (λ place. wrap (times (raises place) history)) (range_with_len 0 20)

-- the slot of a periodic call
abbrev pub called_by : Event → Option ℕ
called_by (Periodic place) = Some place
called_by _ = None

-- the ticks, the ISS of the next connection, and the identification of the last TCP datagram, which counts those sent
abbrev pub ticks_of : List HistoryEntry → ℕ
ticks_of history = wrap (times (λ p. option_map_or (λ place. place == 0) (called_by p.event) false) history)

abbrev pub initial_number : List HistoryEntry → ℕ
initial_number history = wrap (times (λ p. is_some (called_by p.event)) history)

abbrev pub ident_of : List HistoryEntry → ℕ
ident_of history = times (λ p. list_any (λ n. n == TCP_OUT) (raised_by_answer p.answer)) history % 65536
