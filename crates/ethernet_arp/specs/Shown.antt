-- What can be read from an Ethernet line after a whole frame.
use Rattle.std.specs.Prelude.{◌≡◌, ◌≤◌, ℕ, if◌then◌else◌, List, take, drop}
use Rattle.uip_wire.specs.declared.sizes.TheConstants.{LARGEST_DATAGRAM}
use Rattle.ethernet_arp.specs.declared.ether_line.EtherLine.{EtherLine}

-- The text of a reply, or the payload of the frame.
abbrev pub shown_of : EtherLine → List ℕ
shown_of line = if line.replied then take line.count line.out else take line.count (drop 14 line.part.area)

abbrev pub IsShown : EtherLine → ℕ → Type 0
IsShown line n = (n ≡ line.count) × (line.count ≤ LARGEST_DATAGRAM)
