-- Ethernet with ARP over whole frames, and how it compares with a line, on which each frame follows its length.
use Rattle.std.specs.Prelude.{◌≡◌, ℕ, Bool, true, if◌then◌else◌, List, [], ◌∷◌, length, Option, option_map, Some, ⊤}
use Rattle.app_events.specs.Prelude.{AppSpec}
use Rattle.uip_wire.specs.Prelude.{word_at}
use Rattle.uip_wire.specs.declared.addr.Addr.{Addr}
use Rattle.serve_loop.specs.Prelude.{Station, output, initial_station}
use Rattle.ethernet_arp.specs.Prelude.{ether_medium, is_taken, Host, arp_reply, frame_brings, framed, is_datagram, is_sendable, mac_at}
use Rattle.ethernet_arp.specs.Prelude.{wrapped_via, Act, Asked, Ticked, host_of, known, target_in}
use Rattle.frame_device.specs.FrameSpecs.{FrameSpec, GuardedLink, as_medium, guarded_link, lensed}
use Rattle.guarded_node.specs.declared.guard.Rules.{Rules}
use Rattle.sip_hash.specs.SipHash.{key_of}
use Rattle.sip_hash.specs.declared.key.Key.{Key}
use Rattle.ethernet_arp.specs.declared.mac.Mac.{Mac}
use Rattle.frame_device.specs.declared.ether.Ethernet.{Ethernet}
use Rattle.frame_device.specs.declared.network.Network.{Network}
use Rattle.frame_device.specs.NextHop.{Interface, IsOneLink, hop_of, interface_at, next_hop}
use Rattle.frame_device.specs.FrameCalls.{FrameCall, FrameMove, Writing, frame_sent, station_after_move, station_events_by}

abbrev pub interface_of : Ethernet → Interface
interface_of ether = record { host = host_of ether.arp; network = ether.network }

-- the reply to a request
abbrev pub reply_at : Host → Act → List ℕ
reply_at k (Asked pair) = arp_reply k pair
reply_at k act = []

abbrev pub ether_frames : Interface → FrameSpec Act
ether_frames k = record {
  decodes = λ frame. if is_taken frame then frame_brings k.host frame else [];
  at_tick = Ticked ∷ [];
  output_at = λ act. reply_at k.host act;
  text = λ acts datagram. if is_sendable datagram then wrapped_via k.host acts (hop_of k datagram) datagram else [];
}

-- Ethernet with a guard of these rules.
abbrev pub guarded_ether : Interface → Rules → GuardedLink Act
guarded_ether k rules = guarded_link (ether_frames k) rules

-- How a program opens a device on Ethernet: its addresses, its network, and the secret of its guard, if it gives one.
pub record Setup : Type 0 where
  pub own : Addr
  pub mac : Mac
  pub network : Network
  pub secret : Option (List ℕ)

abbrev pub interface_by : Setup → Interface
interface_by setup = interface_at setup.own setup.mac setup.network

abbrev pub key_by : Setup → Option Key
key_by setup = option_map key_of setup.secret

-- a frame as it is on a line; nothing if there is none
abbrev pub on_line : List ℕ → List ℕ
on_line [] = []
on_line (b ∷ frame) = framed (b ∷ frame)

-- If every address is on the link: the output of a call, at most one frame, is on a line what `ether_medium` with the same lens sends for
-- the same events.
abbrev pub SentAsOnLine : Type 0
SentAsOnLine =
    (m : AppSpec) (served : ℕ → Bool) (k : Interface) (rules : Rules) (own : Addr) (call : FrameCall) (s : Station Act)
    → IsOneLink k.network
    → on_line (output m served (lensed rules.key (as_medium (ether_frames k))) own
    (station_events_by (guarded_ether k rules) served s.node call) s)
    ≡ output m served (lensed rules.key (ether_medium k.host)) own (station_events_by (guarded_ether k rules) served s.node call) s

-- a frame with a datagram goes to the hardware address that is known for its next hop after these events of the link
abbrev pub IsHome : Interface → List Act → List ℕ → Type 0
IsHome k acts frame =
    is_datagram (word_at frame 12) ≡ true → known acts (next_hop k.network k.host.addr (target_in frame)) ≡ Some (mac_at frame 0)

-- so do all frames that are sent at moves, each after the events up to then
abbrev pub AllHome : AppSpec → (ℕ → Bool) → Interface → Rules → Writing → Addr → List FrameMove → Station Act → Type 0
AllHome m served k rules gives own [] s = ⊤
AllHome m served k rules gives own (move ∷ moves) s =
    let next : Station Act = station_after_move m served (guarded_ether k rules) gives move s in
    IsHome k next.acts (frame_sent m served (guarded_ether k rules) gives own move s)
    × AllHome m served k rules gives own moves next

-- Each frame with a datagram that is sent at a move of a fresh device goes to the hardware address that its next hop taught last.
abbrev pub FramesGoHome : Type 0
FramesGoHome =
    (m : AppSpec) (served : ℕ → Bool) (k : Interface) (rules : Rules) (gives : Writing) (own : Addr) (numbers : List ℕ)
    (moves : List FrameMove)
    → length k.host.mac ≡ 6 → AllHome m served k rules gives own moves (initial_station own numbers)
