-- The calls of a device, and what they bring to its guarded node.
use Rattle.std.specs.Prelude.{◌≡◌, ◌⊎◌, ℕ, Bool, true, false, ◌+◌, ◌-◌, List, [], ◌∷◌, ◌++◌, length, map, slice_index, if◌then◌else◌}
use Rattle.uip_edge.specs.declared.item.Item.{Item}
use Rattle.uip_edge.specs.declared.item.Item.TheVariants.{Byte, Quiet}
use Rattle.uip_slip.specs.Prelude.{Frame, Datagram, Overlong, completed}
use Rattle.serve_loop.specs.Prelude.{is_beat}
use Rattle.guarded_node.specs.Arrivals.{Arrival, Received, TooLong, Due}

-- A call. Over a serial line bytes are fed, a slot is called, or pending output is drained. Over a datagram link a datagram is received,
-- or a slot is called. A refused call, or one that reads a count, does nothing.
pub data Call : Type 0 where
  Feeds : List ℕ → Call
  Calls : ℕ → Call
  Drains : Call
  Inputs : List ℕ → Call
  CallsForDatagram : ℕ → Call
  DoesNothing : Call

-- whether the call is over a datagram link
abbrev pub is_by_datagram : Call → Bool
is_by_datagram (Inputs datagram) = true
is_by_datagram (CallsForDatagram slot) = true
is_by_datagram _ = false

-- the bytes that a call feeds over a serial line
abbrev pub bytes_of_call : Call → List ℕ
bytes_of_call (Feeds bytes) = bytes
bytes_of_call _ = []

-- This number of bytes was consumed: all of them, or those up to an END.
abbrev pub StopsAtEnd : List ℕ → ℕ → Type 0
StopsAtEnd bytes taken = (taken ≡ length bytes) ⊎ (slice_index bytes (taken - 1) ≡ 192)

-- what a frame of the line brings
abbrev pub arrival_of : Frame → Arrival
arrival_of (Datagram bytes) = Received bytes
arrival_of Overlong = TooLong

-- a tick is a periodic call of each slot, in order
abbrev pub tick_arrivals : List Arrival
tick_arrivals = map Due (0 ∷ 1 ∷ 2 ∷ 3 ∷ 4 ∷ 5 ∷ 6 ∷ 7 ∷ 8 ∷ 9 ∷ [])

-- what the items of a line bring at a pace, after the bytes before; with pace 0 no byte causes a tick
abbrev pub arrivals_after : ℕ → List ℕ → List Item → List Arrival
arrivals_after pace before [] = []
arrivals_after pace before (Byte b ∷ items) =
    map arrival_of (completed before b) ++ (if is_beat pace (length before + 1) then tick_arrivals else [])
    ++ arrivals_after pace (before ++ b ∷ []) items
arrivals_after pace before (Quiet ∷ items) = tick_arrivals ++ arrivals_after pace before items

-- What a call brings, after the bytes fed before: the frames that its bytes complete, its datagram, or the call of its slot. Draining
-- brings nothing.
abbrev pub arrivals_by : List ℕ → Call → List Arrival
arrivals_by before (Feeds bytes) = arrivals_after 0 before (map Byte bytes)
arrivals_by before (Calls slot) = Due slot ∷ []
arrivals_by before Drains = []
arrivals_by before (Inputs datagram) = Received datagram ∷ []
arrivals_by before (CallsForDatagram slot) = Due slot ∷ []
arrivals_by before DoesNothing = []

-- what calls bring in order, after the bytes fed before
abbrev pub arrivals_of_calls : List ℕ → List Call → List Arrival
arrivals_of_calls before [] = []
arrivals_of_calls before (call ∷ calls) = arrivals_by before call ++ arrivals_of_calls (before ++ bytes_of_call call) calls

-- the ten calls of a tick
abbrev pub tick_calls : List Call
tick_calls = map Calls (0 ∷ 1 ∷ 2 ∷ 3 ∷ 4 ∷ 5 ∷ 6 ∷ 7 ∷ 8 ∷ 9 ∷ [])

-- The calls for the items of a line at a pace, after a number of bytes. Each byte is fed. Each silence, and each byte that the pace
-- selects, causes the ten calls of a tick.
abbrev pub calls_after : ℕ → ℕ → List Item → List Call
calls_after pace count [] = []
calls_after pace count (Byte b ∷ items) =
    Feeds (b ∷ []) ∷ (if is_beat pace (count + 1) then tick_calls else []) ++ calls_after pace (count + 1) items
calls_after pace count (Quiet ∷ items) = tick_calls ++ calls_after pace count items

-- a call as calls with single bytes; draining causes no event
abbrev pub byte_calls : Call → List Call
byte_calls (Feeds bytes) = map (λ b. Feeds (b ∷ [])) bytes
byte_calls (Calls slot) = Calls slot ∷ []
byte_calls Drains = []
byte_calls (Inputs datagram) = Inputs datagram ∷ []
byte_calls (CallsForDatagram slot) = CallsForDatagram slot ∷ []
byte_calls DoesNothing = []
