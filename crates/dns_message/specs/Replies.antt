-- The datagrams of a query and its reply, and the answer of a datagram.
use Rattle.std.specs.Prelude.{ℕ, List, Option, option_and_then}
use Rattle.uip_wire.specs.declared.addr.Addr.{Addr}
use Rattle.udp_datagram.specs.Prelude.{udp_data, udp_datagram}
use Rattle.udp_datagram.specs.declared.way.UdpFlow.{UdpFlow}
use Rattle.dns_message.specs.Messages.{answer_by_message, query_message}
use Rattle.dns_message.specs.declared.answer.Answer.{Answer}
use Rattle.dns_message.specs.declared.query.Asking.{Asking}
use Rattle.dns_message.specs.declared.query.TheConstants.{ASKING_PORT, SERVER_PORT}

-- From a port of a host to a port of another.
abbrev pub way_between : Addr → ℕ → Addr → ℕ → UdpFlow
way_between source from target to = record {
  source = source;
  target = target;
  from = record { 0 = from };
  to = record { 0 = to };
}

-- From the querying host to the server, and back.
abbrev pub way_there : Asking → UdpFlow
way_there asking = way_between asking.own ASKING_PORT asking.server SERVER_PORT

abbrev pub way_back : Asking → UdpFlow
way_back asking = way_between asking.server SERVER_PORT asking.own ASKING_PORT

-- The datagram that queries a name, with an identification of its IP header.
unfoldable pub query_datagram : Asking → List ℕ → ℕ → List ℕ
query_datagram asking text ident = udp_datagram (way_there asking) ident (query_message asking.id text)

-- The answer of a datagram to the question for a name, if it is a matching reply with an answer.
unfoldable pub answer_to : Asking → List ℕ → List ℕ → Option Answer
answer_to asking text datagram = option_and_then (answer_by_message asking.id text) (udp_data (way_back asking) datagram)
