-- The text of a capture file in the libpcap format: a header of 24 bytes, and a record for each datagram of a serial line.
use Rattle.std.specs.Prelude.{◌*◌, ◌/◌, ◌%◌, ◌∷◌, ◌++◌, [], flat_map, length, List, ℕ}
use Rattle.uip_edge.specs.declared.item.Item.{Item}
use Rattle.uip_slip.specs.Prelude.{Frame, Datagram, Overlong, frames}
use Rattle.uip_wire.specs.Prelude.{long_bytes}
use Rattle.trace.specs.Seen.{seen_on}
use Rattle.trace.specs.declared.byte_order.ByteOrder.{ByteOrder}
use Rattle.trace.specs.declared.byte_order.ByteOrder.TheVariants.{Big, Little}
use Rattle.uip_edge.specs.Prelude.{bytes_among}

-- the magic number A1B2C3D4 of a file whose times are in microseconds, and the version 2.4
abbrev pub signature : ByteOrder → List ℕ
signature Big = 0xA1 ∷ 0xB2 ∷ 0xC3 ∷ 0xD4 ∷ 0 ∷ 2 ∷ 0 ∷ 4 ∷ []
signature Little = 0xD4 ∷ 0xC3 ∷ 0xB2 ∷ 0xA1 ∷ 2 ∷ 0 ∷ 4 ∷ 0 ∷ []

-- link type 101: each record is a datagram with nothing before it
abbrev pub link_type : ByteOrder → List ℕ
link_type Big = 0 ∷ 0 ∷ 0 ∷ 101 ∷ []
link_type Little = 101 ∷ 0 ∷ 0 ∷ 0 ∷ []

-- the header: no offset of the time zone, no accuracy, and records of up to 65535 bytes
abbrev pub capture_header : List ℕ
capture_header = signature Big ++ 0 ∷ 0 ∷ 0 ∷ 0 ∷ 0 ∷ 0 ∷ 0 ∷ 0 ∷ 0 ∷ 0 ∷ 255 ∷ 255 ∷ link_type Big

-- A record: seconds, microseconds, the length twice, and the datagram. Each silence before the datagram's END took half a second.
abbrev pub record_bytes : ℕ → List ℕ → List ℕ
record_bytes silences datagram =
    long_bytes (silences / 2 % 4294967296) ++ long_bytes (500000 * (silences % 2)) ++ long_bytes (length datagram)
    ++ long_bytes (length datagram) ++ datagram

-- an overlong frame has no record
abbrev pub frame_record : ℕ → Frame → List ℕ
frame_record silences (Datagram bytes) = record_bytes silences bytes
frame_record silences Overlong = []

-- the header and the records
abbrev pub capture_file : List Item → List ℕ
capture_file items = capture_header ++ flat_map (λ seen. frame_record seen.silences seen.frame) (seen_on items)

-- the datagrams of a line, in order
abbrev pub datagrams_in : Frame → List (List ℕ)
datagrams_in (Datagram bytes) = bytes ∷ []
datagrams_in Overlong = []

abbrev pub datagrams_on : List Item → List (List ℕ)
datagrams_on items = flat_map datagrams_in (frames (bytes_among items))
