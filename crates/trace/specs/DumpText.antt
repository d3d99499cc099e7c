-- The text of a dump: one line for each frame of a serial line.
-- [add: fate] The word of a fate.
use Rattle.std.specs.Prelude.{ℕ, List, [], ◌∷◌, ◌++◌, length, slice_index, Option, Some, Result, Ok, Err, codes, decimal}
use Rattle.std.specs.List.{enumerate_from, flat_map}
use Rattle.uip_wire.specs.Prelude.{address_at, quad_text}
use Rattle.uip_ipv4.specs.Prelude.{head_or_fate, payload_of}
use Rattle.uip_ipv4.specs.declared.fate.IpFate.{IpFate}
use Rattle.uip_ipv4.specs.declared.fate.IpFate.TheVariants as ip
use Rattle.uip_ipv4.specs.declared.head.IpHead.{IpHead}
use Rattle.uip_ipv4.specs.declared.proto.Proto.{Proto}
use Rattle.uip_ipv4.specs.declared.proto.Proto.TheVariants.{Icmp, Tcp}
use Rattle.icmp_echo.specs.Prelude.{echo_fate}
use Rattle.icmp_echo.specs.declared.fate.IcmpFate.{IcmpFate}
use Rattle.icmp_echo.specs.declared.fate.IcmpFate.TheVariants as icmp
use Rattle.tcp_segment.specs.Prelude.{segment_or_fate, flag_letters}
use Rattle.tcp_segment.specs.declared.fate.TcpFate.{TcpFate}
use Rattle.tcp_segment.specs.declared.fate.TcpFate.TheVariants as tcp
use Rattle.tcp_segment.specs.declared.segment.Segment.{Segment}
use Rattle.uip_edge.specs.declared.item.Item.{Item}
use Rattle.uip_slip.specs.Prelude.{Frame, Datagram, Overlong, frames}
use Rattle.uip_edge.specs.Prelude.{bytes_among}

-- a dash, if there are none
abbrev pub letters_or_dash : List ℕ → List ℕ
letters_or_dash [] = codes "-"
letters_or_dash (letter ∷ letters) = letter ∷ letters

-- Why a datagram is dropped. A datagram for another node is never reported, since its own destination is used as the node's
-- address.
abbrev pub ip_word : IpFate → List ℕ
ip_word ip.Short = codes "short"
ip_word ip.Version = codes "version"
ip_word ip.Length = codes "length"
ip_word ip.Fragment = codes "fragment"
ip_word ip.Checksum = codes "checksum"
ip_word ip.NotOurs = []
ip_word ip.Protocol = codes "protocol"

abbrev pub tcp_word : TcpFate → List ℕ
tcp_word tcp.Short = codes "short"
tcp_word tcp.Offset = codes "offset"
tcp_word tcp.Checksum = codes "checksum"

-- a sound message: the two addresses, its type and its code (RFC 792)
abbrev pub message_words : IpHead → List ℕ → List ℕ
message_words head message =
    quad_text head.source.0 ++ codes " " ++ quad_text head.target.0 ++ codes " "
    ++ decimal (slice_index message 0) ++ codes " " ++ decimal (slice_index message 1)

-- what is reported of a message, which may be another than an echo request
abbrev pub icmp_words : IpHead → List ℕ → Option IcmpFate → List ℕ
icmp_words head message (Some icmp.Short) = codes "short"
icmp_words head message (Some icmp.Checksum) = codes "checksum"
icmp_words head message fate = message_words head message

-- an address and a port
abbrev pub socket_text : List ℕ → ℕ → List ℕ
socket_text address port = quad_text address ++ codes ":" ++ decimal port

-- sequence number, acknowledgement number, and the length of the text
abbrev pub numbers_text : Segment → List ℕ
numbers_text s = decimal s.seq.0 ++ codes " " ++ decimal s.ack.0 ++ codes " " ++ decimal s.text_len

-- a sound segment: the two sockets, its flags and its numbers
abbrev pub segment_words : IpHead → Segment → List ℕ
segment_words head s =
    socket_text head.source.0 s.from.0 ++ codes " " ++ socket_text head.target.0 s.to.0 ++ codes " "
    ++ letters_or_dash (flag_letters s.flags) ++ codes " " ++ numbers_text s

abbrev pub tcp_words : IpHead → Result Segment TcpFate → List ℕ
tcp_words head (Err fate) = tcp_word fate
tcp_words head (Ok s) = segment_words head s

-- what is reported of a datagram whose header is sound
abbrev pub payload_words : Proto → IpHead → List ℕ → List ℕ
payload_words Icmp head bytes = codes " icmp " ++ icmp_words head (payload_of head bytes) (echo_fate (payload_of head bytes))
payload_words Tcp head bytes = codes " tcp " ++ tcp_words head (segment_or_fate head bytes)

abbrev pub datagram_words : Result IpHead IpFate → List ℕ → List ℕ
datagram_words (Err fate) bytes = codes " ip " ++ ip_word fate
datagram_words (Ok head) bytes = payload_words head.proto head bytes

-- The line of a frame with its number. That of a datagram has its length, and the first check that it fails or what it is,
-- with its own destination as the node's address.
abbrev pub dump_line : ℕ → Frame → List ℕ
dump_line number Overlong = decimal number ++ codes " overlong\n"
dump_line number (Datagram bytes) =
    decimal number ++ codes " " ++ decimal (length bytes) ++ datagram_words (head_or_fate bytes (address_at bytes 16)) bytes ++ codes "\n"

-- the lines of the frames, numbered from 1
abbrev pub dump_text : List Item → List ℕ
dump_text items = flat_map (λ numbered. dump_line numbered.0 numbered.1) (enumerate_from 1 (frames (bytes_among items)))
