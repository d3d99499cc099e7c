-- What a call does to what a handle keeps.
use Rattle.std.specs.Prelude.{◌≡◌, ◌||◌, [], Bool, false, is_some, List, None, Option, Some, true, ℕ}
use Rattle.app_pair.specs.PairNumbers.{change_own}
use Rattle.c_calls.specs.Prelude.{HasOne, ReadsConnection, StillHas, guard_count}
use Rattle.c_calls.specs.declared.received.UipReceived.{UipReceived}
use Rattle.ethernet_arp.specs.declared.mac.Mac.{Mac}
use Rattle.frame_device.specs.Prelude.{AnswersFrame, CallsSlot, ChangesNumbers, FrameCall, GainsSecret, IsFreshFrameDevice, interface_at}
use Rattle.frame_device.specs.contracts.ether.EthernetFrames.TheImpl.{ghosts as ether_link}
use Rattle.frame_device.specs.declared.network.Network.{Network}
use Rattle.file_tree.specs.Prelude.{files_of}
use Rattle.own_node.specs.Prelude.{WritesMessageWith, can_write_at, is_ready_at, pending_at, seen_in_pair}
use Rattle.site_image.specs.Prelude.{File}
use Rattle.uip_both_c.specs.BothSpec.{OfBoth, both, both_spec, first_both_numbers, own_in, own_port_in, site_of}
use Rattle.uip_both_c.specs.Kept.{BothEther, Kept}
use Rattle.uip_both_c.specs.Ports.{ports_of}
use Rattle.uip_device.specs.Prelude.{write_value}
use Rattle.uip_wire.specs.declared.addr.Addr.{Addr}
use Rattle.uip_wire.specs.declared.port.TheConstants.{WEB_PORT}
use Rattle.sip_hash.specs.SipHash.{key_of}
use Rattle.sip_hash.specs.declared.key.Key.{Key}
use Rattle.guarded_node.specs.declared.guard.Rules.{Rules}

-- The rules of the guard under this key, if there is one. At port 80 a connection may be given up because its host holds many.
abbrev pub both_rules : Option Key → Rules
both_rules key = record { key = key; pages = Some (record { 0 = WEB_PORT }) }

-- It serves these files and represents the initial node at this address, and a link with this hardware address, on this network, that has
-- learned nothing. No port of the program's application is open, and the guard has no secret.
pub record IsFreshBothEther (files : List File) (own : Addr) (mac : Mac) (network : Network) (d : BothEther) : Type 0 where
  pub files_are : files_of (site_of d.node) ≡ files
  pub fresh : IsFreshFrameDevice both ether_link (interface_at own mac network) (both_spec files) (first_both_numbers files)
      (both_rules None) own d
  pub ports : ports_of d ≡ []

-- There was no device, and there is a fresh one with these files at this address and hardware address, on this network.
abbrev pub OpensBothAs : List File → Addr → Mac → Network → Kept → Kept → Type 0
OpensBothAs files own mac network old new = (old ≡ None) × HasOne BothEther (IsFreshBothEther files own mac network) new

-- There was a device and there still is one, whose guard gained this secret; or none was given, and nothing changed.
abbrev pub ProtectsBoth : Option (List ℕ) → Kept → Kept → Type 0
ProtectsBoth None old new = new ≡ old
ProtectsBoth (Some secret) old new = StillHas Some (λ before after. GainsSecret (key_of secret) before after) old new

-- There is a device for which a secret comes too late.
abbrev pub is_late : Kept → Bool
is_late None = false
is_late (Some d) = d.is_used || is_some d.guard.rules.key

-- There is a device, and this is the count of its guard with this number.
abbrev pub ReadsGuard : ℕ → ℕ → Kept → Type 0
ReadsGuard number read kept = HasOne BothEther (λ d. read ≡ guard_count number d.guard.counts) kept

-- There was a device and there still is one, and the call wrote this frame, or no bytes.
abbrev pub BothAnswers : FrameCall → Kept → Kept → List ℕ → Type 0
BothAnswers call old new handed = StillHas Some (λ before after. AnswersFrame both ether_link call before after handed) old new

-- There was a device and there still is one, in which the value of this number is now this text.
abbrev pub BothGives : ℕ → List ℕ → Kept → Kept → Type 0
BothGives number text old new =
    StillHas Some (λ before after. ChangesNumbers both ether_link (change_own false (write_value number text)) before after) old new

-- There was a device and there still is one. The connection in this slot could capture a message. It was written, and the periodic call of
-- the slot wrote this frame, or no bytes.
pub record BothWrites (slot taken : ℕ) (text : List ℕ) (last : Bool) (old new : Kept) (handed : List ℕ) : Type 0 where
  pub before : BothEther
  pub between : BothEther
  pub after : BothEther
  pub was : old ≡ Some before
  pub is : new ≡ Some after
  pub could : OfBoth before (λ n. can_write_at taken (own_in slot n) ≡ true)
  pub link : between.frames ≡ before.frames
  pub guarded : between.guard ≡ before.guard
  pub writes : WritesMessageWith both seen_in_pair (change_own true) slot taken text last before.node between.node
  pub answers : AnswersFrame both ether_link (CallsSlot slot) between after handed

-- There is a device, and the connection in this slot cannot capture a message that answers this number of bytes.
abbrev pub CannotWrite : ℕ → ℕ → Kept → Type 0
CannotWrite slot taken kept = HasOne BothEther (λ d. OfBoth d (λ n. can_write_at taken (own_in slot n) ≡ false)) kept

-- There is a device, and this is what was read of the connection in a slot.
abbrev pub ReadsSlot : ℕ → UipReceived → List ℕ → List ℕ → Kept → Type 0
ReadsSlot slot result area area' kept =
    HasOne BothEther (λ d. ReadsConnection (OfBoth d) (λ n. is_ready_at (own_in slot n)) (own_port_in slot)
    (λ n. pending_at (own_in slot n)) result area area') kept
