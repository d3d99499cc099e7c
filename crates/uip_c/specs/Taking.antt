-- What is taken out of a handle for a call.
use Rattle.std.specs.Prelude.{◌≡◌, ◌⊎◌, ◌==◌, Bool, false, None, None as NothingLeft, Option, Some, true, ℕ, ⊤}
use Rattle.guarded_node.specs.declared.guard.GuardCounts.{GuardCounts}
use Rattle.uip_device.specs.Prelude.{IsSoundWebDevice, WebDevice, WebNode}
use Rattle.c_calls.specs.Prelude.{IsTextStatus}
use Rattle.uip_c.specs.Handles.{HasText}
use Rattle.uip_c.specs.Kept.{EtherWeb, Kept, NoDevice, OnEther, OnLine, is_on_ether}
use Rattle.uip_c.specs.declared.handle.AnyDevice.{AnyDevice}
use Rattle.uip_c.specs.declared.handle.AnyDevice.TheVariants.{Ether, Line}
use Rattle.c_calls.specs.declared.status.TheConstants.{BAD_ARGUMENT, OK, NO_DEVICE, OUTPUT_PENDING, WRONG_LINK}

-- This device for a line was taken out.
pub record TakesLine (taken : WebDevice) (old new : Kept) : Type 0 where
  pub was : old ≡ OnLine taken
  pub none : new ≡ NoDevice
  pub sound : IsSoundWebDevice taken

-- This device for a line was taken out, and it has no output pending.
pub record TakesIdle (taken : WebDevice) (old new : Kept) : Type 0 where
  pub was : old ≡ OnLine taken
  pub none : new ≡ NoDevice
  pub sound : IsSoundWebDevice taken
  pub idle : taken.left ≡ NothingLeft

-- This device on Ethernet was taken out.
pub record TakesEther (taken : EtherWeb) (old new : Kept) : Type 0 where
  pub was : old ≡ OnEther taken
  pub none : new ≡ NoDevice

-- There is no device of the kind that the call needs. The status reports that there is none, or one of the other kind. The handle is
-- unchanged.
pub record TakesNone (is_wrong : Kept → Bool) (status : ℕ) (old new : Kept) : Type 0 where
  pub known : (status ≡ NO_DEVICE) ⊎ (status ≡ WRONG_LINK)
  pub no_device : status ≡ NO_DEVICE → old ≡ NoDevice
  pub wrong_link : status ≡ WRONG_LINK → is_wrong old ≡ true
  pub same : new ≡ old

-- The call is refused with this status, which reports that there is no device for a line, or that output is pending. The handle is
-- unchanged.
pub record TakesNoIdle (status : ℕ) (old new : Kept) : Type 0 where
  pub known : IsTextStatus status
  pub not_fine : status ≡ OK → ⊥
  pub not_bad : (status == BAD_ARGUMENT) ≡ false
  pub no_device : status ≡ NO_DEVICE → old ≡ NoDevice
  pub wrong_link : status ≡ WRONG_LINK → is_on_ether old ≡ true
  pub text_left : status ≡ OUTPUT_PENDING → HasText old
  pub same : new ≡ old

-- What a handle keeps that keeps the device that was taken out; its node; what its guard counted; a device for a line has sound connections.
abbrev pub kept_of : AnyDevice → Kept
kept_of (Line b) = OnLine b.value
kept_of (Ether b) = OnEther b.value

abbrev pub kept_by : Option AnyDevice → Kept
kept_by None = NoDevice
kept_by (Some any) = kept_of any

abbrev pub node_of : AnyDevice → WebNode
node_of (Line b) = b.value.node
node_of (Ether b) = b.value.node

abbrev pub counts_of : AnyDevice → GuardCounts
counts_of (Line b) = b.value.guard.counts
counts_of (Ether b) = b.value.guard.counts

abbrev pub IsSoundAny : AnyDevice → Type 0
IsSoundAny (Line b) = IsSoundWebDevice b.value
IsSoundAny (Ether b) = ⊤
