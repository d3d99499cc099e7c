-- A packet as its callers see it: the bytes of the area, and the length of the datagram at its start.
use Rattle.std.specs.Prelude.{ℕ, List, ◌≤◌, take}
use Rattle.packet_buffer.specs.declared.packet.TheConstants.{LEAST_AREA}
use Rattle.uip_wire.specs.declared.sizes.TheConstants.{LARGEST_DATAGRAM}

pub record Buffer : Type 0 where
  pub area : List ℕ
  pub len : ℕ

-- The current datagram.
abbrev pub datagram_in : Buffer → List ℕ
datagram_in packet = take packet.len packet.area

-- The sizes, in bytes, that an area may have.
abbrev pub HasSize : ℕ → Type 0
HasSize size = (LEAST_AREA ≤ size) × (size ≤ LARGEST_DATAGRAM)
