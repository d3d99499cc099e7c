-- The law of sending, over the text of a whole line: each frame with a datagram goes to the hardware address that its target taught last.
use Rattle.std.specs.Prelude.{◌≡◌, ℕ, Bool, true, if◌then◌else◌, List, [], ◌∷◌, ◌++◌, length, drop, Some, slice_get}
use Rattle.app_events.specs.Prelude.{AppSpec}
use Rattle.uip_edge.specs.declared.item.Item.{Item}
use Rattle.uip_node.specs.Prelude.{AbstractNode}
use Rattle.uip_wire.specs.Prelude.{address_at, word_at}
use Rattle.uip_wire.specs.declared.addr.Addr.{Addr}
use Rattle.serve_loop.specs.Prelude.{StationEvent, Station, station_after_all, output, output_of_event, station_events_of_line}
use Rattle.ethernet_arp.specs.EtherWay.{ether_medium, is_whole}
use Rattle.ethernet_arp.specs.Frames.{Host, framed, is_datagram, mac_at}
use Rattle.ethernet_arp.specs.Learning.{Act, known}

-- The frames of a text, each after its length.
abbrev pub frames_from : List ℕ → List ℕ → List (List ℕ)
frames_from part [] = []
frames_from part (b ∷ bytes) =
    if is_whole (part ++ b ∷ []) then drop 2 (part ++ b ∷ []) ∷ frames_from [] bytes else frames_from (part ++ b ∷ []) bytes

-- The target of the datagram in a frame.
abbrev pub target_in : List ℕ → List ℕ
target_in frame = address_at (drop 14 frame) 16

-- The frame is the output at one of the events, after those before it and all their output. It goes to the hardware address of its target
-- that is known then.
pub record GoesHome (m : AppSpec) (served : ℕ → Bool) (k : Host) (own : Addr)
    (station_events : List (StationEvent Act)) (s : Station Act) (i : ℕ)
    (frame : List ℕ) : Type 0 where
  pub done : List (StationEvent Act)
  pub now : StationEvent Act
  pub later : List (StationEvent Act)
  pub split : station_events ≡ done ++ now ∷ later
  pub place : length (frames_from [] (output m served (ether_medium k) own done s)) ≡ i
  pub sent : output_of_event m served (ether_medium k) own (station_after_all m served done s) now ≡ framed frame
  pub to : known (station_after_all m served done s).acts (target_in frame) ≡ Some (mac_at frame 0)

-- Every frame with a datagram in the output for events.
pub record AllGoHome (m : AppSpec) (served : ℕ → Bool) (k : Host) (own : Addr)
    (station_events : List (StationEvent Act)) (s : Station Act) : Type 0 where
  pub each : (i : ℕ) (frame : List ℕ) → slice_get (frames_from [] (output m served (ether_medium k) own station_events s)) i ≡ Some frame
      → is_datagram (word_at frame 12) ≡ true
      → GoesHome m served k own station_events s i frame

-- In the output for a whole line each frame with a datagram goes to the hardware address that its target taught last.
abbrev pub DatagramsGoHome : Type 0
DatagramsGoHome =
    (m : AppSpec) (served : ℕ → Bool) (k : Host) (own : Addr) (pace : ℕ) (items : List Item) (n : AbstractNode)
    → length k.mac ≡ 6 → length k.addr ≡ 4
    → AllGoHome m served k own (station_events_of_line (ether_medium k) own pace items) (record { acts = []; node = n })
