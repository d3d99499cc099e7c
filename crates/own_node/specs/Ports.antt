-- Which frames are for a port that is not open, and which connections are at open ports.
use Rattle.std.specs.Prelude.{◌≡◌, ℕ, ◌==◌, ◌&&◌, not, nat_le, Bool, List, length, slice_index, true}
use Rattle.own_app.specs.Prelude.{is_open_port}
use Rattle.tcp_machine.specs.Prelude.{is_live}
use Rattle.uip_node.specs.Prelude.{AbstractNode, connection_in}
use Rattle.uip_wire.specs.Prelude.{word_at}

-- A frame on Ethernet (RFC 894) carries a segment of TCP: its datagram has no options (RFC 791, section 3.1), and does not end before the
-- destination port.
abbrev pub carries_segment : List ℕ → Bool
carries_segment frame =
    nat_le 38 (length frame) && word_at frame 12 == 2048 && slice_index frame 14 == 69 && slice_index frame 23 == 6

-- the destination port of the segment (RFC 793, section 3.1)
abbrev pub target_port : List ℕ → ℕ
target_port frame = word_at frame 36

-- The frame carries a segment, and these ports, which are open, do not contain its destination.
abbrev pub is_for_closed_port : List ℕ → List ℕ → Bool
is_for_closed_port ports frame = carries_segment frame && not (is_open_port ports (target_port frame))

-- Each connection that is not CLOSED is at one of these ports.
abbrev pub AreAtOpenPorts : List ℕ → AbstractNode → Type 0
AreAtOpenPorts ports n =
    (slot : ℕ) → is_live (connection_in slot n).state ≡ true → is_open_port ports (connection_in slot n).sockets.own_port.0 ≡ true
