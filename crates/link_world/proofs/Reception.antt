-- A client's code receives in a datagram what the world defines.
use Rattle.link_world.proofs.Prelude.{ℕ, List, Option, Some, None, Result, Ok, Err, take, option_map_or, ◌≡◌, refl, head_or_fate}
use Rattle.link_world.proofs.Prelude.{payload_of, IpFate, IpHead, Proto, Icmp, echo_fate, IcmpFate, segment_or_fate, TcpFate, Segment}
use Rattle.link_world.proofs.Prelude.{EchoAsked, IcmpRefused, by_head, by_proto, by_segment, Setup, received_in, received_by_proto}
use Rattle.link_world.proofs.Prelude.{received_by_head, client_receives}
use Rattle.uip_ipv4.specs.declared.proto.Proto.TheVariants.{Tcp}
use Rattle.link_world.specs.Bytes.{received_by, receives_datagram as world_receives}

of_segment : (setup : Setup) (head : IpHead) (bytes : List ℕ) (r : Result Segment TcpFate) → received_in setup head bytes r ≡ received_by
    setup (by_segment head bytes r)
of_segment setup head bytes (Ok s) = refl
of_segment setup head bytes (Err fate) = refl

of_echo : (setup : Setup) (head : IpHead) (bytes : List ℕ) (o : Option IcmpFate) → received_by_proto Icmp setup head bytes ≡ received_by
    setup (option_map_or IcmpRefused o (EchoAsked (take head.total bytes)))
of_echo setup head bytes None = refl
of_echo setup head bytes (Some fate) = refl

of_proto : (p : Proto) (setup : Setup) (head : IpHead) (bytes : List ℕ) → received_by_proto p setup head bytes ≡ received_by setup (by_proto p head bytes)
of_proto Icmp setup head bytes = of_echo setup head bytes (echo_fate (payload_of head bytes))
of_proto Tcp setup head bytes = of_segment setup head bytes (segment_or_fate head bytes)

of_head : (setup : Setup) (bytes : List ℕ) (r : Result IpHead IpFate) → received_by_head setup bytes r ≡ received_by setup (by_head bytes r)
of_head setup bytes (Ok head) = of_proto head.proto setup head bytes
of_head setup bytes (Err fate) = refl

-- what the client's code receives is what the world defines
pub same_receiving : (setup : Setup) (bytes : List ℕ) → client_receives setup bytes ≡ world_receives setup bytes
same_receiving setup bytes = of_head setup bytes (head_or_fate bytes setup.addr.0)
