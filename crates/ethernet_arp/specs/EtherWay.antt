-- Ethernet with ARP over a line of bytes as a medium: each frame follows its length in two bytes.
use Rattle.std.specs.Prelude.{ℕ, ◌+◌, ◌*◌, ◌==◌, ◌&&◌, nat_le, Bool, false, if◌then◌else◌, List, [], ◌∷◌, ◌++◌, length, drop}
use Rattle.line_medium.specs.Prelude.{MediumInput, MediumSpec}
use Rattle.ethernet_arp.specs.Frames.{Host, frame_brings, framed, is_sendable, arp_reply, wrapped}
use Rattle.ethernet_arp.specs.Learning.{Act, Asked, Ticked}
use Rattle.ethernet_arp.specs.declared.sizes.TheConstants.{LARGEST_FRAME, SMALLEST_FRAME}

-- Bytes that begin with a length are a whole frame if that many bytes follow.
abbrev pub is_whole : List ℕ → Bool
is_whole (high ∷ low ∷ frame) = length frame == 256 * high + low
is_whole part = false

-- The bytes after the last whole frame, which wait for more.
abbrev pub open_from : List ℕ → List ℕ → List ℕ
open_from part [] = part
open_from part (b ∷ bytes) = open_from (if is_whole (part ++ b ∷ []) then [] else part ++ b ∷ []) bytes

-- A frame of 14 to 1514 bytes is accepted, and any other is dropped.
abbrev pub is_taken : List ℕ → Bool
is_taken frame = nat_le SMALLEST_FRAME (length frame) && nat_le (length frame) LARGEST_FRAME

-- What a part decodes to that is now whole.
abbrev pub closed_by : Host → List ℕ → List (MediumInput Act)
closed_by k part = if is_whole part && is_taken (drop 2 part) then frame_brings k (drop 2 part) else []

-- What a host writes at an event of its own: the reply to a request.
abbrev pub writes_at : Host → Act → List ℕ
writes_at k (Asked pair) = framed (arp_reply k pair)
writes_at k act = []

-- The text of a datagram after these events.
abbrev pub ether_text : Host → List Act → List ℕ → List ℕ
ether_text k acts datagram = if is_sendable datagram then framed (wrapped k acts datagram) else []

abbrev pub ether_medium : Host → MediumSpec Act
ether_medium k = record {
  decodes = λ before b. closed_by k (open_from [] before ++ b ∷ []);
  at_tick = Ticked ∷ [];
  output_at = λ act. writes_at k act;
  text = λ acts datagram. ether_text k acts datagram;
}
