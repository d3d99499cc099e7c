-- The lens of the guard is such a shift: what a node has is on the wire what the wire has.
use Rattle.std.specs.Prelude.{ℕ, ◌≡◌, All, List, Option}
use Rattle.uip_wire.specs.declared.addr.Addr.{Addr}
use Rattle.app_events.specs.Prelude.{IsByte}
use Rattle.sip_hash.specs.declared.key.Key.{Key}
use Rattle.tcp_machine.specs.Prelude.{Sockets}
use Rattle.uip_node.specs.Prelude.{Reply, event_of, reply_bytes}
use Rattle.guarded_node.specs.Wire.{arriving, leaving, shift_for}
use Rattle.guarded_node.specs.WireLaws.{IsSendable}
use Rattle.guard_laws.specs.Shifted.{IsShift, event_on_wire, reply_on_wire}

-- The shift of the lens at an address.
abbrev pub lens : Option Key → Addr → Sockets → ℕ
lens key own p = shift_for key own p

pub record LensIsShift : Type 0 where
  -- It depends on the pair of sockets alone.
  pub shift : (key : Option Key) (own : Addr) → IsShift (lens key own)
  -- The event that the node has is, on the wire, the event of the datagram of the wire.
  pub event : (key : Option Key) (own : Addr) (wire : List ℕ) → All IsByte wire
      → event_on_wire (lens key own) (event_of own (arriving key wire)) ≡ event_of own wire
  -- The bytes on the wire of a reply of the node are those of the reply as it is on the wire.
  pub reply : (key : Option Key) (own : Addr) (reply : Reply) → IsSendable own reply
      → leaving key (reply_bytes own reply) ≡ reply_bytes own (reply_on_wire (lens key own) reply)
