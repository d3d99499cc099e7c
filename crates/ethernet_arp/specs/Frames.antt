-- Ethernet frames (RFC 894) and the ARP packets in them (RFC 826): what a received one decodes to, and those that are sent.
use Rattle.std.specs.Prelude.{ℕ, ◌+◌, ◌==◌, ◌&&◌, ◌||◌, nat_le, nat_lt, Bool, if◌then◌else◌, List, [], ◌∷◌, ◌++◌, length, drop, slice_index}
use Rattle.std.specs.Prelude.{bytes_eq, Option}
use Rattle.std.specs.Option.{option_map_or}
use Rattle.uip_wire.specs.Prelude.{address_at, word_at, word_bytes}
use Rattle.uip_wire.specs.declared.sizes.TheConstants.{LARGEST_DATAGRAM}
use Rattle.line_medium.specs.Prelude.{MediumInput, Datagram, Own}
use Rattle.ethernet_arp.specs.Learning.{Act, Asked, Pair, Replied, known}
use Rattle.ethernet_arp.specs.declared.sizes.TheConstants.{SMALLEST_DATAGRAM}

-- A host: its IP address and its hardware address.
pub record Host : Type 0 where
  pub addr : List ℕ
  pub mac : List ℕ

-- The six bytes at an offset.
abbrev pub mac_at : List ℕ → ℕ → List ℕ
mac_at bytes at =
    slice_index bytes at ∷ slice_index bytes (at + 1) ∷ slice_index bytes (at + 2)
    ∷ slice_index bytes (at + 3) ∷ slice_index bytes (at + 4) ∷ slice_index bytes (at + 5) ∷ []

abbrev pub broadcast : List ℕ
broadcast = 255 ∷ 255 ∷ 255 ∷ 255 ∷ 255 ∷ 255 ∷ []

abbrev pub no_mac : List ℕ
no_mac = 0 ∷ 0 ∷ 0 ∷ 0 ∷ 0 ∷ 0 ∷ []

-- The types of a payload: 0800 is a datagram, 0806 an ARP packet.
abbrev pub is_datagram : ℕ → Bool
is_datagram kind = kind == 2048

abbrev pub is_arp : ℕ → Bool
is_arp kind = kind == 2054

-- A frame.
abbrev pub frame_with : List ℕ → List ℕ → ℕ → List ℕ → List ℕ
frame_with to from kind payload = to ++ from ++ word_bytes kind ++ payload

-- The first fields of an ARP packet: Ethernet, IP, and the lengths of their addresses.
abbrev pub arp_begin : List ℕ
arp_begin = 0 ∷ 1 ∷ 8 ∷ 0 ∷ 6 ∷ 4 ∷ []

-- An ARP packet: operation 1 is a request and 2 a reply; the pairs of the sender and the target.
abbrev pub arp_packet : ℕ → List ℕ → List ℕ → List ℕ → List ℕ → List ℕ
arp_packet operation sender_mac sender target_mac target = arp_begin ++ word_bytes operation ++ sender_mac ++ sender ++ target_mac ++ target

-- The reply to a request from this pair.
abbrev pub arp_reply : Host → Pair → List ℕ
arp_reply k pair = frame_with pair.mac k.mac 2054 (arp_packet 2 k.mac k.addr pair.mac pair.addr)

-- The request for the hardware address of a target.
abbrev pub arp_request : Host → List ℕ → List ℕ
arp_request k target = frame_with broadcast k.mac 2054 (arp_packet 1 k.mac k.addr no_mac target)

-- What a sound ARP packet decodes to whose target is the host's IP address.
abbrev pub arp_brings : ℕ → Pair → List (MediumInput Act)
arp_brings operation sender =
    if operation == 1 then Own (Asked sender) ∷ []
    else if operation == 2 then Own (Replied sender) ∷ []
    else []

abbrev pub is_arp_for : List ℕ → List ℕ → Bool
is_arp_for addr packet =
    nat_le 28 (length packet) && word_at packet 0 == 1 && word_at packet 2 == 2048 && slice_index packet 4 == 6 && slice_index packet 5 == 4
    && bytes_eq (address_at packet 24) addr

abbrev pub sender_of : List ℕ → Pair
sender_of packet = record { addr = address_at packet 14; mac = mac_at packet 8 }

-- What a payload of this type decodes to.
abbrev pub payload_brings : Host → ℕ → List ℕ → List (MediumInput Act)
payload_brings k kind payload =
    if is_datagram kind && nat_lt 0 (length payload) then Datagram payload ∷ []
    else if is_arp kind && is_arp_for k.addr payload then arp_brings (word_at payload 6) (sender_of payload)
    else []

-- What a frame of at least 14 bytes decodes to: nothing, unless it is sent to the host or to all.
abbrev pub frame_brings : Host → List ℕ → List (MediumInput Act)
frame_brings k frame =
    if bytes_eq (mac_at frame 0) k.mac || bytes_eq (mac_at frame 0) broadcast then payload_brings k (word_at frame 12) (drop 14 frame)
    else []

-- The frame for a datagram with this next hop: to this hardware address of the hop, or the request for that address.
abbrev pub wrapped_to : Host → List ℕ → Option (List ℕ) → List ℕ → List ℕ
wrapped_to k hop to datagram = option_map_or (λ mac. frame_with mac k.mac 2048 datagram) to (arp_request k hop)

-- After these events: to the hardware address of the hop that is known then.
abbrev pub wrapped_via : Host → List Act → List ℕ → List ℕ → List ℕ
wrapped_via k acts hop datagram = wrapped_to k hop (known acts hop) datagram

-- The same if every address is on the link: the next hop is the target.
abbrev pub wrapped : Host → List Act → List ℕ → List ℕ
wrapped k acts datagram = wrapped_via k acts (address_at datagram 16) datagram

-- A frame after its length.
abbrev pub framed : List ℕ → List ℕ
framed frame = word_bytes (length frame) ++ frame

-- A datagram has a header with its target, and fits in a frame.
abbrev pub is_sendable : List ℕ → Bool
is_sendable datagram = nat_le SMALLEST_DATAGRAM (length datagram) && nat_le (length datagram) LARGEST_DATAGRAM
