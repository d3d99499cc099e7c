-- UDP over IPv4 (RFC 768): the datagram that carries a payload of a flow, and the payload of a received datagram.
use Rattle.std.specs.Prelude.{◌≡◌, ◌≤◌, ◌+◌, ◌==◌, ◌||◌, ◌&&◌, if◌then◌else◌, [], Bool, bytes_eq, false, List, nat_lt, not, true, ℕ}
use Rattle.std.specs.Prelude.{◌∷◌, ◌++◌, length, take, slice_index, slice_range, Option, Some, None, Result, Ok, Err}
use Rattle.uip_wire.specs.Prelude.{address_at, checksum_of, word_at, bytes_of}
use Rattle.uip_ipv4.specs.Prelude.{head_or_fate, numbered_head}
use Rattle.uip_ipv4.specs.declared.fate.IpFate.{IpFate}
use Rattle.uip_ipv4.specs.declared.fate.IpFate.TheVariants.{Protocol}
use Rattle.uip_ipv4.specs.declared.head.IpHead.{IpHead}
use Rattle.udp_datagram.specs.declared.way.UdpFlow.{UdpFlow}

-- The pseudo header, which is summed before a datagram of this length: the addresses, the protocol's number 17 and the length.
abbrev pub udp_pseudo_header : UdpFlow → ℕ → List ℕ
udp_pseudo_header way len = way.source.0 ++ way.target.0 ++ bytes_of (17 ∷ len ∷ [])

-- The header with this checksum, and the payload.
abbrev pub udp_with : ℕ → UdpFlow → List ℕ → List ℕ
udp_with sum way payload = bytes_of (way.from.0 ∷ way.to.0 ∷ (8 + length payload) ∷ sum ∷ []) ++ payload

-- A checksum of 0 is sent as 65535, since 0 means that there is none.
abbrev pub sent_sum : ℕ → ℕ
sent_sum sum = if sum == 0 then 65535 else sum

abbrev pub udp_sum : UdpFlow → List ℕ → ℕ
udp_sum way payload = sent_sum (checksum_of (udp_pseudo_header way (8 + length payload) ++ udp_with 0 way payload))

-- The whole datagram, with an identification of the IP header.
unfoldable pub udp_datagram : UdpFlow → ℕ → List ℕ → List ℕ
udp_datagram way id payload =
    numbered_head (28 + length payload) id 17 way.source.0 way.target.0 ++ udp_with (udp_sum way payload) way payload

-- The header passes every check but that of its protocol.
abbrev pub is_of_other_protocol : Result IpHead IpFate → Bool
is_of_other_protocol (Err Protocol) = true
is_of_other_protocol (Err fate) = false
is_of_other_protocol (Ok head) = false

-- A whole datagram to this address carries UDP (RFC 790).
abbrev pub carries_udp : List ℕ → List ℕ → Bool
carries_udp own datagram = is_of_other_protocol (head_or_fate datagram own) && slice_index datagram 9 == 17

-- The total length in the header is within what was received.
abbrev pub IsWholeUdp : List ℕ → Type 0
IsWholeUdp datagram = (20 ≤ word_at datagram 2) × (word_at datagram 2 ≤ length datagram)

-- The bytes after the IP header, up to the total length.
abbrev pub after_header : List ℕ → List ℕ
after_header datagram = slice_range datagram 20 (word_at datagram 2)

-- The payload, if ports, length and checksum are right; a checksum of 0 means that there is none.
abbrev pub udp_in : UdpFlow → List ℕ → Option (List ℕ)
udp_in way udp =
    if nat_lt (length udp) 8 then None
    else if not (word_at udp 0 == way.from.0) || not (word_at udp 2 == way.to.0) then None
    else if nat_lt (word_at udp 4) 8 || nat_lt (length udp) (word_at udp 4) then None
    else if not (word_at udp 6 == 0) && not (checksum_of (udp_pseudo_header way (word_at udp 4) ++ take (word_at udp 4) udp) == 0) then None
    else Some (slice_range udp 8 (word_at udp 4))

-- The payload of this flow that a received datagram carries.
unfoldable pub udp_data : UdpFlow → List ℕ → Option (List ℕ)
udp_data way datagram =
    if not (carries_udp way.target.0 datagram) then None
    else if not (bytes_eq (address_at datagram 12) way.source.0) then None
    else udp_in way (after_header datagram)

-- A payload that was sent in a flow is received in it.
abbrev pub ReadsBack : Type 0
ReadsBack = (way : UdpFlow) (id : ℕ) (payload : List ℕ) → length way.source.0 ≡ 4 → length way.target.0 ≡ 4
    → udp_data way (udp_datagram way id payload) ≡ Some payload
