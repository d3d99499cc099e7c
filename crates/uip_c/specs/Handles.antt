-- What a call does to what a handle keeps. Calls over Ethernet: `specs/FrameHandles.antt`.
use Rattle.std.specs.Prelude.{◌≡◌, ◌⊎◌, ◌∷◌, [], Bool, is_some, List, None, Option, Some, true, ℕ}
use Rattle.site_image.specs.Prelude.{File}
use Rattle.frame_device.specs.Prelude.{ChangesNumbers, GainsSecret}
use Rattle.frame_device.specs.contracts.ether.EthernetFrames.TheImpl.{ghosts as ether_link}
use Rattle.uip_device.specs.contracts.value_pages.ValuePagesApp.TheImpl.{ghosts}
use Rattle.uip_wire.specs.declared.addr.Addr.{Addr}
use Rattle.uip_device.specs.Prelude.{Call, DoesNothing, Answered, Answers, AnswersOver, Changes, left_text_of}
use Rattle.uip_device.specs.Prelude.{Move, Gives, Makes, IsFreshWebDevice, IsProtected, write_value}
use Rattle.sip_hash.specs.declared.key.Key.{Key}
use Rattle.c_calls.specs.Prelude.{StillHas}
use Rattle.c_calls.specs.declared.status.TheConstants.{OK}
use Rattle.uip_c.specs.Kept.{IsLine, Kept, NoDevice, OnEther, OnLine}

-- There is a fresh device for a line with these files at this address, with this secret or none.
abbrev pub IsReady : List File → Addr → Option Key → Kept → Type 0
IsReady files own key kept = IsLine (IsFreshWebDevice files own key) kept

-- There was no device, and there is a fresh one for a line with these files at this address, without a secret.
abbrev pub OpensAs : List File → Addr → Kept → Kept → Type 0
OpensAs files own old new = (old ≡ NoDevice) × IsReady files own None new

-- There was a device for a line without a secret, or one on Ethernet, and there still is one, which has this secret. All else is as it
-- was.
abbrev pub ProtectsLine : Key → Kept → Kept → Type 0
ProtectsLine key old new = StillHas OnLine (IsProtected key) old new

abbrev pub ProtectsEther : Key → Kept → Kept → Type 0
ProtectsEther key old new = StillHas OnEther (GainsSecret key) old new

abbrev pub HandleProtects : Key → Kept → Kept → Type 0
HandleProtects key old new = ProtectsLine key old new ⊎ ProtectsEther key old new

-- A handle that was just opened is ready, with this secret.
abbrev pub Readies : Key → ℕ → Kept → Kept → Type 0
Readies key status old new =
    (files : List File) (own : Addr) → IsReady files own None old → (status ≡ OK) × IsReady files own (Some key) new

-- There was a device for a line and there still is one, and the call wrote these bytes.
abbrev pub HandleAnswers : Call → Kept → Kept → List ℕ → Type 0
HandleAnswers call old new handed = StillHas OnLine (λ before after. Answers ghosts call before after handed) old new

-- The same for a call that writes the packet, or not. If it does while a frame is partly received, that frame is lost.
abbrev pub HandleAnswersOver : Call → Bool → Kept → Kept → List ℕ → Type 0
HandleAnswersOver call writes old new handed = StillHas OnLine (λ before after. AnswersOver ghosts call writes before after handed) old new

-- There was a device and there still is one of the same kind, in which the value of this number is now this text.
abbrev pub HandleGives : ℕ → List ℕ → Kept → Kept → Type 0
HandleGives number text (OnLine before) (OnLine after) = Changes ghosts (write_value number text) before after
HandleGives number text (OnEther before) (OnEther after) = ChangesNumbers ghosts ether_link (write_value number text) before after
HandleGives number text _ _ = ⊥

-- What a move did, by the clauses of its call. A call that was refused or that only read left the handle unchanged. Such a call, and one
-- that set a value, wrote nothing.
abbrev pub Did : Move → Kept → Kept → List ℕ → Type 0
Did (Makes DoesNothing) old new handed = (new ≡ old) × (handed ≡ [])
Did (Makes call) old new handed = HandleAnswers call old new handed
Did (Gives number text) old new handed = HandleGives number text old new × (handed ≡ [])

-- Moves one after the other, on a handle that nothing else touches.
abbrev pub DidAll : List Answered → Kept → Kept → Type 0
DidAll [] a c = a ≡ c
DidAll (it ∷ all) a c = (b : Kept) × Did it.move a b it.handed × DidAll all b c

-- P holds for every handle that was just opened, and has a secret or none, after any moves on it.
abbrev pub OfMoves : (List File → Addr → Option Key → List Answered → Kept → Type 0) → Type 0
OfMoves P =
    (files : List File) (own : Addr) (key : Option Key) (all : List Answered) (old new : Kept) → IsReady files own key old
    → DidAll all old new → P files own key all new

-- The output that is still pending in a handle's device.
abbrev pub left_text_in : Kept → List ℕ
left_text_in (OnLine d) = left_text_of d
left_text_in _ = []

-- The output that was pending after each of these moves.
abbrev pub lefts_in : (all : List Answered) (a c : Kept) → DidAll all a c → List (List ℕ)
lefts_in [] a c same = []
lefts_in (it ∷ all) a c more = left_text_in more.0 ∷ lefts_in all more.0 c more.2

-- There is a device, and it has output pending.
abbrev pub HasText : Kept → Type 0
HasText kept = IsLine (λ d. is_some d.left ≡ true) kept
