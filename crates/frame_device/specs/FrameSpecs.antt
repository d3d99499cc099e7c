-- The specification of a link that carries datagrams in whole frames.
use Rattle.std.specs.Prelude.{◌≡◌, ◌≤◌, ◌+◌, ◌⊎◌, ◌==◌, ◌&&◌, if◌then◌else◌, ◌∷◌, [], All, drop, length, List, nat_le, nat_lt, take}
use Rattle.std.specs.Prelude.{Option, ℕ, ⊤}
use Rattle.std.proofs.lemmas.List.Elements.{All-cons, All-nil}
use Rattle.app_events.specs.Prelude.{IsByte}
use Rattle.uip_node.proofs.Basics.{choose}
use Rattle.uip_wire.specs.declared.sizes.TheConstants.{LARGEST_DATAGRAM}
use Rattle.line_medium.specs.Prelude.{MediumInput, Datagram, Own, MediumSpec, all_written}
use Rattle.serve_loop.specs.Prelude.{CarriesBytes, NoAct}
use Rattle.guarded_node.specs.Wire.{leaving}
use Rattle.guarded_node.specs.declared.guard.Rules.{Rules}
use Rattle.sip_hash.specs.declared.key.Key.{Key}
use Rattle.frame_device.specs.declared.frames.Decoded.{Decoded}
use Rattle.frame_device.specs.declared.frames.Decoded.TheVariants as brought

-- The specification of a link whose own events are in A.
pub record FrameSpec (A : Type 0) : Type 0 where
  pub decodes : List ℕ → List (MediumInput A)  -- what a frame decodes to
  pub at_tick : List A  -- what it does at a tick, before the periodic calls
  pub output_at : A → List ℕ  -- the frame that it sends at an event of its own, or no bytes
  pub text : List A → List ℕ → List ℕ  -- the frame for a datagram after its own events so far, or no bytes

-- the same as the specification of a line, on which a single byte decodes to nothing: the output for events is defined by it
abbrev pub as_medium : {A : Type 0} → FrameSpec A → MediumSpec A
as_medium w = record { decodes = λ before b. []; at_tick = w.at_tick; output_at = w.output_at; text = w.text }

-- A medium, if what a node sends goes to it through the lens of a guard.
abbrev pub lensed : {A : Type 0} → Option Key → MediumSpec A → MediumSpec A
lensed key w = record w { text = λ acts datagram. w.text acts (leaving key datagram) }

-- A link, and the rules of the guard between it and a node.
pub record GuardedLink (A : Type 0) : Type 0 where
  pub link : FrameSpec A
  pub rules : Rules

abbrev pub guarded_link : {A : Type 0} → FrameSpec A → Rules → GuardedLink A
guarded_link link rules = record { link = link; rules = rules }

-- what is sent on it
abbrev pub wire_medium : {A : Type 0} → GuardedLink A → MediumSpec A
wire_medium w = lensed w.rules.key (as_medium w.link)

abbrev pub acts_output : {A : Type 0} → FrameSpec A → List A → List ℕ
acts_output w acts = all_written (as_medium w) acts

-- what it does before the periodic call of a slot: a tick begins with that of slot 0
abbrev pub acts_before : {A : Type 0} → FrameSpec A → ℕ → List A
acts_before w slot = if slot == 0 then w.at_tick else []

-- nothing is sent for it, and it is no datagram
abbrev pub IsSilent : {A : Type 0} → FrameSpec A → List (MediumInput A) → Type 0
IsSilent {A = A} w cs = (cs ≡ []) ⊎ ((a : A) × (cs ≡ Own a ∷ []) × (w.output_at a ≡ []))

-- what is reported of a frame, and what the buffer contains then
abbrev pub ReportsFrame : {A : Type 0} → FrameSpec A → List ℕ → Decoded → List (MediumInput A) → Type 0
ReportsFrame w buf brought.Nothing cs = IsSilent w cs
ReportsFrame {A = A} w buf (brought.Own n) cs = (a : A) × (cs ≡ Own a ∷ []) × (take n buf ≡ w.output_at a)
ReportsFrame w buf (brought.Datagram at n) cs = cs ≡ Datagram (take n (drop at buf)) ∷ []

-- it fits in a buffer of this length
abbrev pub FitsFrame : ℕ → Decoded → Type 0
FitsFrame room brought.Nothing = ⊤
FitsFrame room (brought.Own n) = n ≤ room
FitsFrame room (brought.Datagram at n) = (at + n ≤ room) × (n ≤ LARGEST_DATAGRAM)

-- a frame of bytes decodes to bytes
abbrev pub DecodesBytes : {A : Type 0} → FrameSpec A → Type 0
DecodesBytes w = (frame : List ℕ) → All IsByte frame → All CarriesBytes (w.decodes frame)

-- a link that carries bare datagrams
abbrev pub datagram_frames : FrameSpec NoAct
datagram_frames = record {
  decodes = λ frame. if nat_lt 0 (length frame) && nat_le (length frame) LARGEST_DATAGRAM then Datagram frame ∷ [] else [];
  at_tick = [];
  output_at = λ a. [];
  text = λ acts datagram. datagram;
}

pub datagram_frames_decode : DecodesBytes datagram_frames
datagram_frames_decode frame h =
    choose (λ (l : List (MediumInput NoAct)). All CarriesBytes l) (nat_lt 0 (length frame) && nat_le (length frame) LARGEST_DATAGRAM) _ _
    (λ e. All-cons CarriesBytes (Datagram frame) [] h (All-nil CarriesBytes)) (λ e. All-nil CarriesBytes)
