-- What a call over Ethernet does to what a handle keeps.
use Rattle.std.specs.Prelude.{◌≡◌, ℕ, List, [], ◌∷◌, None, Option, Some}
use Rattle.sip_hash.specs.declared.key.Key.{Key}
use Rattle.site_image.specs.Prelude.{File}
use Rattle.uip_wire.specs.declared.addr.Addr.{Addr}
use Rattle.ethernet_arp.specs.declared.mac.Mac.{Mac}
use Rattle.frame_device.specs.declared.network.Network.{Network}
use Rattle.frame_device.specs.Prelude.{AnsweredFrame, AnswersFrame, DoesNothing, FrameCall, FrameMove, Gives, Makes}
use Rattle.frame_device.specs.contracts.ether.EthernetFrames.TheImpl.{ghosts as ether_link}
use Rattle.uip_device.specs.contracts.value_pages.ValuePagesApp.TheImpl.{ghosts}
use Rattle.c_calls.specs.Prelude.{StillHas}
use Rattle.c_calls.specs.declared.status.TheConstants.{OK}
use Rattle.uip_c.specs.EtherWebs.{IsFreshEtherWeb}
use Rattle.uip_c.specs.Handles.{HandleGives}
use Rattle.uip_c.specs.Kept.{IsEther, Kept, NoDevice, OnEther}

-- There is a fresh device on Ethernet with these files at this address and hardware address, on this network, with this secret or none.
abbrev pub IsEtherReady : List File → Addr → Mac → Network → Option Key → Kept → Type 0
IsEtherReady files own mac network key kept = IsEther (IsFreshEtherWeb files own mac network key) kept

-- There was no device, and there is a fresh one, without a secret.
abbrev pub OpensEtherAs : List File → Addr → Mac → Network → Kept → Kept → Type 0
OpensEtherAs files own mac network old new = (old ≡ NoDevice) × IsEtherReady files own mac network None new

-- A handle that was just opened on Ethernet is ready, with this secret.
abbrev pub EtherReadies : Key → ℕ → Kept → Kept → Type 0
EtherReadies key status old new =
    (files : List File) (own : Addr) (mac : Mac) (network : Network) → IsEtherReady files own mac network None old
    → (status ≡ OK) × IsEtherReady files own mac network (Some key) new

-- There was a device on Ethernet and there still is one, and the call wrote this frame, or no bytes.
abbrev pub EtherAnswers : FrameCall → Kept → Kept → List ℕ → Type 0
EtherAnswers call old new handed = StillHas OnEther (λ before after. AnswersFrame ghosts ether_link call before after handed) old new

-- What a move did, by the clauses of its call. A call that was refused or that only read left the handle unchanged. Such a call, and one
-- that set a value, wrote nothing.
abbrev pub DidFrame : FrameMove → Kept → Kept → List ℕ → Type 0
DidFrame (Makes DoesNothing) old new handed = (new ≡ old) × (handed ≡ [])
DidFrame (Makes call) old new handed = EtherAnswers call old new handed
DidFrame (Gives number text) old new handed = HandleGives number text old new × (handed ≡ [])

-- Moves one after the other, on a handle that nothing else touches.
abbrev pub DidFrames : List AnsweredFrame → Kept → Kept → Type 0
DidFrames [] a c = a ≡ c
DidFrames (it ∷ all) a c = (b : Kept) × DidFrame it.move a b it.handed × DidFrames all b c

-- P holds for every handle that was just opened on Ethernet, and has a secret or none, after any moves on it.
abbrev pub OfFrameMoves : (List File → Addr → Mac → Network → Option Key → List AnsweredFrame → Kept → Type 0) → Type 0
OfFrameMoves P =
    (files : List File) (own : Addr) (mac : Mac) (network : Network) (key : Option Key) (all : List AnsweredFrame) (old new : Kept)
    → IsEtherReady files own mac network key old → DidFrames all old new → P files own mac network key all new
