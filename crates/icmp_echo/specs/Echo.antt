-- The reply to an echo request (RFC 792, page 14).
-- [add: fate] ICMP: its check in the list of checks.
use Rattle.std.specs.Prelude.{ℕ, ◌==◌, ◌||◌, not, nat_lt, if◌then◌else◌, List, ◌∷◌, ◌++◌, Option}
use Rattle.std.specs.Prelude.{None, Some, length, take, drop, slice_index, slice_range}
use Rattle.packet_buffer.specs.Prelude.{Buffer, datagram_in}
use Rattle.uip_ipv4.specs.Prelude.{payload_of}
use Rattle.uip_ipv4.specs.declared.head.IpHead.{IpHead}
use Rattle.uip_wire.specs.Prelude.{checksum_of, word_bytes}
use Rattle.icmp_echo.specs.declared.fate.IcmpFate.{IcmpFate}
use Rattle.icmp_echo.specs.declared.fate.IcmpFate.TheVariants.{Short, Checksum, NotEcho}

-- The first check that a message fails, if it fails one.
abbrev pub echo_fate : List ℕ → Option IcmpFate
echo_fate message =
    if nat_lt (length message) 8 then Some Short
    else if not (checksum_of message == 0) then Some Checksum
    else if not (slice_index message 0 == 8) || not (slice_index message 1 == 0) then Some NotEcho
    else None

-- That of the message in a packet with this header.
abbrev pub fate_in : IpHead → Buffer → Option IcmpFate
fate_in head packet = echo_fate (payload_of head (datagram_in packet))

-- The message of a reply: type 0, code 0, its checksum, and the identifier, number and data of the request.
abbrev pub echo_message : List ℕ → List ℕ
echo_message rest = 0 ∷ 0 ∷ word_bytes (checksum_of (0 ∷ 0 ∷ 0 ∷ 0 ∷ rest)) ++ rest

-- The reply to a whole request: its header with the two addresses exchanged, and the message.
abbrev pub echo_reply : List ℕ → List ℕ
echo_reply request = take 12 request ++ slice_range request 16 20 ++ slice_range request 12 16 ++ echo_message (drop 24 request)

-- The packet after its request was answered.
abbrev pub answered : IpHead → Buffer → Buffer
answered head packet = record { area = echo_reply (take head.total packet.area) ++ drop head.total packet.area; len = head.total }
