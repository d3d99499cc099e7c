-- What a decoder knows of the bytes that it was fed, and what its results state.
use Rattle.std.specs.Prelude.{◌≡◌, ◌<◌, ◌≤◌, ℕ, ◌+◌, ◌-◌, ◌==◌, ◌||◌, nat_lt, if◌then◌else◌, List, []}
use Rattle.std.specs.Prelude.{◌∷◌, ◌++◌, take, length, slice_index, Bool, true, false, ⊤}
use Rattle.uip_wire.specs.declared.sizes.TheConstants.{LARGEST_DATAGRAM}
use Rattle.uip_slip.specs.Frames.{Frame, Datagram, Overlong, frames, is_plain, unescaped, open_part}
use Rattle.std.specs.List.{list_all}
use Rattle.uip_slip.specs.declared.fed.Fed.{Fed}
use Rattle.uip_slip.specs.declared.fed.FedRun.{FedRun}
use Rattle.uip_slip.specs.declared.fed.Fed.TheVariants as fed

-- A decoder as its callers see it: the bytes so far, and whether they are more than the largest datagram has; whether an ESC waits; and
-- whether the bytes are a datagram that was just decoded.
pub record State : Type 0 where
  pub bytes : List ℕ
  pub over : Bool
  pub waits : Bool
  pub reported : Bool

-- What a decoder knows besides its area: the number of bytes so far, and the rest of its state.
pub record PartState : Type 0 where
  pub len : ℕ
  pub over : Bool
  pub waits : Bool
  pub reported : Bool

-- a decoder with this area
abbrev pub state_in : List ℕ → PartState → State
state_in area p = record { bytes = take p.len area; over = p.over; waits = p.waits; reported = p.reported }

-- The area has no byte of an open frame that can still become a datagram.
abbrev pub is_free : PartState → Bool
is_free p = p.over || p.reported || (p.len == 0)

-- Bytes of a line that spoil the frame within which they come: they are too many for a datagram, and have no END and no ESC.
pub record IsNoise (bytes : List ℕ) : Type 0 where
  pub long : LARGEST_DATAGRAM + 1 < length bytes
  pub plain : list_all is_plain bytes ≡ true

-- An ESC at the end of a part waits for its second byte.
abbrev pub waits_after : List ℕ → Bool
waits_after [] = false
waits_after (a ∷ []) = a == 219
waits_after (a ∷ b ∷ rest) = if a == 219 then waits_after rest else waits_after (b ∷ rest)

-- The bytes of the open part.
abbrev pub open_bytes : State → List ℕ
open_bytes s = if s.reported then [] else s.bytes

-- The decoder was fed these bytes. Of an open part that is too long, it has no bytes.
pub record WasFed (bytes : List ℕ) (s : State) : Type 0 where
  pub prefix : s.over ≡ false → open_bytes s ≡ unescaped (open_part bytes)
  pub over : s.over ≡ nat_lt LARGEST_DATAGRAM (length (unescaped (open_part bytes)))
  pub waits : s.waits ≡ waits_after (open_part bytes)

-- The frame that a result reports.
abbrev pub reported_by : Fed → State → List Frame
reported_by fed.More s = []
reported_by (fed.Datagram n) s = Datagram s.bytes ∷ []
reported_by fed.Overlong s = Overlong ∷ []

-- Only a decoded datagram leaves bytes to be read.
abbrev pub Leaves : Fed → State → Type 0
Leaves (fed.Datagram n) s = (s.reported ≡ true) × (n ≡ length s.bytes) × (0 < n) × (n ≤ LARGEST_DATAGRAM)
Leaves fed.More s = s.reported ≡ false
Leaves fed.Overlong s = s.reported ≡ false

-- The byte that completes a frame is an END.
abbrev pub EndsFrame : Fed → ℕ → Type 0
EndsFrame fed.More byte = ⊤
EndsFrame (fed.Datagram n) byte = byte ≡ 192
EndsFrame fed.Overlong byte = byte ≡ 192

-- After whatever was fed before, a decoder was fed these bytes, and the frame that they complete is reported.
abbrev pub FeedsBytes : State → List ℕ → Fed → State → Type 0
FeedsBytes old bytes fed new = (before : List ℕ) → WasFed before old
    → WasFed (before ++ bytes) new × (frames (before ++ bytes) ≡ frames before ++ reported_by fed new)

-- A prefix of these bytes was fed, at least one, as if one by one; the frame that the last of them completes is reported.
pub record FeedsPrefix (old : State) (bytes : List ℕ) (run : FedRun) (new : State) : Type 0 where
  pub some : 0 < run.count
  pub within : run.count ≤ length bytes
  pub frames : FeedsBytes old (take run.count bytes) run.fed new
  pub leaves : Leaves run.fed new
  pub end : EndsFrame run.fed (slice_index bytes (run.count - 1))
