-- What one byte, or a run of bytes, does to a decoder: the clauses of the decoder's private calls.
use Rattle.std.specs.Prelude.{◌≡◌, ◌<◌, ◌≤◌, ◌+◌, ℕ, ◌==◌, ◌||◌, nat_lt, if◌then◌else◌, List, [], ◌∷◌, ◌++◌, take, length, true, false}
use Rattle.uip_wire.specs.declared.sizes.TheConstants.{LARGEST_DATAGRAM}
use Rattle.uip_slip.specs.Frames.{meant}
use Rattle.uip_slip.specs.Decoding.{State, open_bytes}
use Rattle.uip_slip.specs.declared.fed.Fed.{Fed}
use Rattle.uip_slip.specs.declared.fed.Fed.TheVariants as fed

-- A datagram that was decoded is discarded.
abbrev pub reopened : State → State
reopened s = record { bytes = open_bytes s; over = s.over; waits = s.waits; reported = false }

-- One more byte of the frame.
abbrev pub pushed : State → ℕ → State
pushed s b =
    if nat_lt (length s.bytes) LARGEST_DATAGRAM then record { bytes = s.bytes ++ b ∷ []; over = s.over; waits = false; reported = false }
    else record { bytes = s.bytes; over = true; waits = false; reported = false }

-- One more byte of the part.
abbrev pub taken : State → ℕ → State
taken s b =
    if s.waits then pushed s (meant b)
    else if b == 219 then record { bytes = s.bytes; over = s.over; waits = true; reported = false }
    else pushed s b

-- More bytes of the frame, as they are.
abbrev pub joined_parts : State → List ℕ → State
joined_parts s run = record s {
  bytes = take LARGEST_DATAGRAM (s.bytes ++ run);
  over = s.over || nat_lt LARGEST_DATAGRAM (length s.bytes + length run);
}

-- What the result of an END states of the decoder.
abbrev pub Closes : State → Fed → State → Type 0
Closes s fed.More new = (s.over ≡ false) × (s.bytes ≡ []) × (new ≡ record { bytes = []; over = false; waits = false; reported = false })
Closes s fed.Overlong new = (s.over ≡ true) × (new ≡ record { bytes = []; over = false; waits = false; reported = false })
Closes s (fed.Datagram n) new = (s.over ≡ false) × (n ≡ length s.bytes) × ((0 < n) × (n ≤ LARGEST_DATAGRAM))
    × (new ≡ record { bytes = s.bytes; over = false; waits = false; reported = true })
