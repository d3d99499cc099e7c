-- The open ports of a device: a port is opened, and a frame for one that is not open is dropped.
use Rattle.std.specs.Prelude.{◌≡◌, ◌∷◌, Bool, false, List, None, not, Some, ℕ}
use Rattle.c_calls.specs.Prelude.{DropsOr, StillHas}
use Rattle.frame_device.specs.Prelude.{AnswersFrame, InputsFrame}
use Rattle.frame_device.specs.contracts.ether.EthernetFrames.TheImpl.{ghosts as ether_link}
use Rattle.own_app.specs.Prelude.{can_listen, with_port}
use Rattle.own_node.specs.Prelude.{is_for_closed_port}
use Rattle.uip_both_c.specs.BothSpec.{both}
use Rattle.uip_both_c.specs.Kept.{BothEther, BothShared, Kept}
use Rattle.uip_wire.specs.declared.port.TheConstants.{WEB_PORT}

-- the open ports of the program's application
abbrev pub ports_of : BothEther → List ℕ
ports_of d = d.node.shared.second.ports.items

-- The device with the open ports of another.
abbrev pub with_ports_of : BothEther → BothEther → BothEther
with_ports_of other d =
    let shared : BothShared = record d.node.shared { second = record d.node.shared.second { ports = other.node.shared.second.ports } } in
    record d { node = record d.node { shared = shared } }

-- The open ports are those before and this one. Nothing else changed.
pub record OpensPort (port : ℕ) (old new : BothEther) : Type 0 where
  pub ports : ports_of new ≡ with_port port (ports_of old)
  pub rest : new ≡ with_ports_of new old

-- There was a device and there still is one, at which this port was opened.
abbrev pub BothListens : ℕ → Kept → Kept → Type 0
BothListens port old new = StillHas Some (λ before after. OpensPort port before after) old new

-- There is a device at which this port cannot be opened.
abbrev pub has_no_room : ℕ → Kept → Bool
has_no_room port None = false
has_no_room port (Some d) = not (can_listen port (ports_of d))

-- The frame is for a port that is not open. That of the pages always is.
abbrev pub is_dropped : List ℕ → List ℕ → Bool
is_dropped ports frame = is_for_closed_port (WEB_PORT ∷ ports) frame

-- A frame for a port that is not open is dropped: no bytes were written, and nothing changed. Any other frame was received, and the call
-- wrote this frame, or no bytes.
abbrev pub InputsOrDrops : List ℕ → BothEther → BothEther → List ℕ → Type 0
InputsOrDrops frame old new handed =
    DropsOr (AnswersFrame both ether_link (InputsFrame frame) old new handed) (is_dropped (ports_of old) frame) old new handed

-- There was a device and there still is one, which received this frame or dropped it.
abbrev pub BothInputs : List ℕ → Kept → Kept → List ℕ → Type 0
BothInputs frame old new handed = StillHas Some (λ before after. InputsOrDrops frame before after handed) old new
