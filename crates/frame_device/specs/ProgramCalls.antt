-- Calls of a program on a device, one after the other. A call may change the numbers of the application, and then makes a call of the
-- device.
use Rattle.std.specs.Prelude.{◌≡◌, ℕ, Bool, List, [], ◌∷◌, map, ⊤}
use Rattle.app_events.specs.Prelude.{AppSpec}
use Rattle.ethernet_arp.specs.Prelude.{Act}
use Rattle.uip_wire.specs.declared.addr.Addr.{Addr}
use Rattle.serve_loop.specs.Prelude.{Station}
use Rattle.guarded_node.specs.declared.guard.GuardCounts.{GuardCounts}
use Rattle.guarded_node.specs.declared.guard.Rules.{Rules}
use Rattle.frame_device.specs.EtherFrames.{IsHome, guarded_ether}
use Rattle.frame_device.specs.FrameCalls.{AnsweredFrame, FrameCall, Makes, counts_by_call, output_of_call, station_after_frame_call}
use Rattle.frame_device.specs.FrameCalls.{with_numbers}
use Rattle.frame_device.specs.FrameSpecs.{GuardedLink}
use Rattle.frame_device.specs.NextHop.{Interface}

-- what the calls of a program do
pub record Program (Call C : Type 0) : Type 0 where
  pub change : Call → Station C → List ℕ → List ℕ  -- how a call at this station changes the numbers of the application
  pub makes : Call → FrameCall  -- the call of the device that it makes then

-- a call, and the frame that it wrote, or no bytes
pub record AnsweredBy (Call : Type 0) : Type 0 where
  pub call : Call
  pub handed : List ℕ

abbrev pub program_calls : {Call : Type 0} → List (AnsweredBy Call) → List Call
program_calls all = map (λ it. it.call) all

-- Calls one after the other, on a handle that nothing else touches. `Did` states what one call does to what the handle keeps.
abbrev pub DidInTurn : {Call K : Type 0} → (Call → K → K → List ℕ → Type 0) → List (AnsweredBy Call) → K → K → Type 0
DidInTurn Did [] a c = a ≡ c
DidInTurn {K = K} Did (it ∷ all) a c = (b : K) × Did it.call a b it.handed × DidInTurn Did all b c

-- the calls of the device, with the frames that they wrote
abbrev pub frames_made : {Call C : Type 0} → Program Call C → List (AnsweredBy Call) → List AnsweredFrame
frames_made program all = map (λ it. record { move = Makes (program.makes it.call); handed = it.handed }) all

-- ---- by definition

module _ {Call C : Type 0} (program : Program Call C) (m : AppSpec) (served : ℕ → Bool) (w : GuardedLink C) (own : Addr) where
  -- the station at which a call makes its call of the device
  abbrev pub before_program_call : Call → Station C → Station C
  before_program_call call s = with_numbers (program.change call s) s

  -- the station after a call, and after calls
  abbrev pub after_program_call : Call → Station C → Station C
  after_program_call call s = station_after_frame_call m served w (program.makes call) (before_program_call call s)

  abbrev pub after_program_calls : List Call → Station C → Station C
  after_program_calls [] s = s
  after_program_calls (call ∷ calls) s = after_program_calls calls (after_program_call call s)

  -- what the guard counted after a call, and after calls
  abbrev pub counts_by_program_call : Call → Station C → GuardCounts → GuardCounts
  counts_by_program_call call s counts = counts_by_call w served (before_program_call call s).node (program.makes call) counts

  abbrev pub counts_after_program_calls : List Call → Station C → GuardCounts → GuardCounts
  counts_after_program_calls [] s counts = counts
  counts_after_program_calls (call ∷ calls) s counts =
      counts_after_program_calls calls (after_program_call call s) (counts_by_program_call call s counts)

  -- the frame that is sent at a call, or no bytes, and at each of these
  abbrev pub program_frame : Call → Station C → List ℕ
  program_frame call s = output_of_call m served w own (program.makes call) (before_program_call call s)

  abbrev pub program_frames : List Call → Station C → List (List ℕ)
  program_frames [] s = []
  program_frames (call ∷ calls) s = program_frame call s ∷ program_frames calls (after_program_call call s)

  -- the stations at which these calls make their calls of the device
  abbrev pub program_stations : List Call → Station C → List (Station C)
  program_stations [] s = []
  program_stations (call ∷ calls) s = before_program_call call s ∷ program_stations calls (after_program_call call s)

  -- P holds of each of these calls, and of the station at which it is made.
  abbrev pub OfEach : (Call → Station C → Type 0) → List Call → Station C → Type 0
  OfEach P [] s = ⊤
  OfEach P (call ∷ calls) s = P call s × OfEach P calls (after_program_call call s)

-- Over Ethernet: each frame with a datagram goes to the hardware address that its next hop taught last.
abbrev pub GoHome : {Call : Type 0} → Program Call Act → AppSpec → (ℕ → Bool) → Interface → Rules → Addr → List Call → Station Act → Type 0
GoHome program m served k rules own calls s =
    OfEach program m served (guarded_ether k rules) own
    (λ call at. IsHome k (after_program_call program m served (guarded_ether k rules) own call at).acts
    (program_frame program m served (guarded_ether k rules) own call at)) calls s
