-- What a call does to what a handle keeps.
use Rattle.std.specs.Prelude.{◌≡◌, ◌||◌, [], Bool, false, is_some, List, None, Option, Some, true, ℕ}
use Rattle.c_calls.specs.Prelude.{HasOne, ReadsConnection, StillHas, guard_count}
use Rattle.c_calls.specs.declared.received.UipReceived.{UipReceived}
use Rattle.uip_wire.specs.declared.addr.Addr.{Addr}
use Rattle.ethernet_arp.specs.declared.mac.Mac.{Mac}
use Rattle.sip_hash.specs.SipHash.{key_of}
use Rattle.sip_hash.specs.declared.key.Key.{Key}
use Rattle.guarded_node.specs.declared.guard.Rules.{Rules}
use Rattle.frame_device.specs.declared.network.Network.{Network}
use Rattle.frame_device.specs.Prelude.{AnswersFrame, CallsSlot, FrameCall, GainsSecret, IsFreshFrameDevice, interface_at}
use Rattle.frame_device.specs.contracts.ether.EthernetFrames.TheImpl.{ghosts as ether_link}
use Rattle.own_app.specs.contracts.app.OwnAppApp.TheImpl.{ghosts}
use Rattle.own_app.specs.Prelude.{no_message, numbers_of, own_spec}
use Rattle.own_node.specs.Prelude.{OfNode, WritesMessage, can_write_in, is_ready_in, pending_in, port_in}
use Rattle.uip_app_c.specs.Kept.{Kept, OwnEther}
use Rattle.uip_app_c.specs.Ports.{ports_of}

-- The rules of the guard under this key, if there is one. No connection is given up because its host holds many: all are the program's.
abbrev pub own_rules : Option Key → Rules
own_rules key = record { key = key; pages = None }

-- It represents the initial node at this address, and a link with this hardware address, on this network, that has learned nothing. No
-- port is open, and the guard has no secret.
pub record IsFreshOwnEther (own : Addr) (mac : Mac) (network : Network) (d : OwnEther) : Type 0 where
  pub fresh : IsFreshFrameDevice ghosts ether_link (interface_at own mac network) own_spec (numbers_of 0 no_message) (own_rules None) own d
  pub ports : ports_of d ≡ []

-- There was no device, and there is a fresh one at this address and hardware address, with this mask and this router.
abbrev pub OpensOwn : List ℕ → List ℕ → List ℕ → List ℕ → Kept → Kept → Type 0
OpensOwn own mac mask router old new =
    (old ≡ None)
    × HasOne OwnEther (IsFreshOwnEther (record { 0 = own }) (record { 0 = mac })
    (record { mask = record { 0 = mask }; router = record { 0 = router } })) new

-- There was a device and there still is one, whose guard gained this secret; or none was given, and nothing changed.
abbrev pub ProtectsOwn : Option (List ℕ) → Kept → Kept → Type 0
ProtectsOwn None old new = new ≡ old
ProtectsOwn (Some secret) old new = StillHas Some (λ before after. GainsSecret (key_of secret) before after) old new

-- There is a device for which a secret comes too late.
abbrev pub is_late : Kept → Bool
is_late None = false
is_late (Some d) = d.is_used || is_some d.guard.rules.key

-- There is a device, and this is the count of its guard with this number.
abbrev pub ReadsGuard : ℕ → ℕ → Kept → Type 0
ReadsGuard number read kept = HasOne OwnEther (λ d. read ≡ guard_count number d.guard.counts) kept

-- There was a device and there still is one, and the call wrote this frame, or no bytes.
abbrev pub OwnAnswers : FrameCall → Kept → Kept → List ℕ → Type 0
OwnAnswers call old new handed = StillHas Some (λ before after. AnswersFrame ghosts ether_link call before after handed) old new

-- There was a device and there still is one. The connection in this slot could capture a message. It was written, and the periodic call of
-- the slot wrote this frame, or no bytes.
pub record OwnWrites (slot taken : ℕ) (text : List ℕ) (last : Bool) (old new : Kept) (handed : List ℕ) : Type 0 where
  pub before : OwnEther
  pub between : OwnEther
  pub after : OwnEther
  pub was : old ≡ Some before
  pub is : new ≡ Some after
  pub could : OfNode before.node (λ n. can_write_in slot taken n ≡ true)
  pub link : between.frames ≡ before.frames
  pub guarded : between.guard ≡ before.guard
  pub writes : WritesMessage slot taken text last before.node between.node
  pub answers : AnswersFrame ghosts ether_link (CallsSlot slot) between after handed

-- There is a device, and the connection in this slot cannot capture a message that answers this number of bytes.
abbrev pub CannotWrite : ℕ → ℕ → Kept → Type 0
CannotWrite slot taken kept = HasOne OwnEther (λ d. OfNode d.node (λ n. can_write_in slot taken n ≡ false)) kept

-- There is a device, and this is what was read of the connection in a slot.
abbrev pub ReadsSlot : ℕ → UipReceived → List ℕ → List ℕ → Kept → Type 0
ReadsSlot slot result area area' kept =
    HasOne OwnEther (λ d. ReadsConnection (λ P. OfNode d.node P) (is_ready_in slot) (port_in slot) (pending_in slot) result area area') kept
