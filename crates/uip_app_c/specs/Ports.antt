-- The open ports of a device: a port is opened, and a frame for one that is not open is dropped.
use Rattle.std.specs.Prelude.{◌≡◌, Bool, false, List, None, not, Some, ℕ}
use Rattle.c_calls.specs.Prelude.{DropsOr, StillHas}
use Rattle.frame_device.specs.Prelude.{AnswersFrame, InputsFrame}
use Rattle.frame_device.specs.contracts.ether.EthernetFrames.TheImpl.{ghosts as ether_link}
use Rattle.own_app.specs.Prelude.{can_listen, with_port}
use Rattle.own_app.specs.contracts.app.OwnAppApp.TheImpl.{ghosts}
use Rattle.own_node.specs.Prelude.{is_for_closed_port}
use Rattle.uip_app_c.specs.Kept.{Kept, OwnEther}

abbrev pub ports_of : OwnEther → List ℕ
ports_of d = d.node.shared.ports.items

-- The open ports are those before and this one. Nothing else changed.
pub record OpensPort (port : ℕ) (old new : OwnEther) : Type 0 where
  pub ports : ports_of new ≡ with_port port (ports_of old)
  pub rest : new ≡ record old { node = record old.node { shared = record old.node.shared { ports = new.node.shared.ports } } }

-- There was a device and there still is one, at which this port was opened.
abbrev pub OwnListens : ℕ → Kept → Kept → Type 0
OwnListens port old new = StillHas Some (λ before after. OpensPort port before after) old new

-- There is a device at which this port cannot be opened.
abbrev pub has_no_room : ℕ → Kept → Bool
has_no_room port None = false
has_no_room port (Some d) = not (can_listen port (ports_of d))

-- A frame for a port that is not open is dropped: no bytes were written, and nothing changed. Any other frame was received, and the call
-- wrote this frame, or no bytes.
abbrev pub InputsOrDrops : List ℕ → OwnEther → OwnEther → List ℕ → Type 0
InputsOrDrops frame old new handed =
    DropsOr (AnswersFrame ghosts ether_link (InputsFrame frame) old new handed) (is_for_closed_port (ports_of old) frame) old new handed

-- There was a device and there still is one, which received this frame or dropped it.
abbrev pub OwnInputs : List ℕ → Kept → Kept → List ℕ → Type 0
OwnInputs frame old new handed = StillHas Some (λ before after. InputsOrDrops frame before after handed) old new
