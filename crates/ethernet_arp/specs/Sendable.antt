-- The laws of sizes and of bytes: each reply of a node on an Ethernet line fits in a frame, and frames of bytes decode to bytes.
use Rattle.std.specs.Prelude.{◌≡◌, ℕ, Bool, true, List, [], ◌∷◌, ◌++◌, Some, length}
use Rattle.app_events.specs.Prelude.{AppSpec}
use Rattle.uip_edge.specs.declared.item.Item.{Item}
use Rattle.uip_wire.specs.declared.addr.Addr.{Addr}
use Rattle.uip_node.specs.Prelude.{reply_bytes, Event, Reply, initial_node, step}
use Rattle.serve_loop.specs.Prelude.{StationEvent, OfNode, Station, station_after_all, BringsBytes, station_events_of_line}
use Rattle.ethernet_arp.specs.EtherWay.{ether_medium}
use Rattle.ethernet_arp.specs.Frames.{Host, is_sendable}
use Rattle.ethernet_arp.specs.Learning.{Act}

-- Each reply of the node at one of the events has 20 to 1500 bytes.
pub record AllSendable (m : AppSpec) (served : ℕ → Bool) (own : Addr)
    (station_events : List (StationEvent Act)) (s : Station Act) : Type 0 where
  pub each : (done : List (StationEvent Act)) (event : Event) (later : List (StationEvent Act)) (reply : Reply)
      → station_events ≡ done ++ OfNode event ∷ later
      → (step m served (station_after_all m served done s).node event).sent ≡ Some reply
      → is_sendable (reply_bytes own reply) ≡ true

-- Each reply of a node on a line has 20 to 1500 bytes, and is sent in a frame.
abbrev pub DatagramsFitFrames : Type 0
DatagramsFitFrames =
    (m : AppSpec) (served : ℕ → Bool) (k : Host) (own : Addr) (pace : ℕ) (items : List Item) (numbers : List ℕ) → length own.0 ≡ 4
    → AllSendable m served own (station_events_of_line (ether_medium k) own pace items)
    (record { acts = []; node = initial_node own numbers })

-- Frames that are fed bytes decode to bytes.
abbrev pub FramesBringBytes : Type 0
FramesBringBytes = (k : Host) → BringsBytes (ether_medium k)
