-- What moves bring consists of bytes, and the values that they set fit their types.
use Rattle.std.proofs.Common.{ℕ, All, List, [], ◌∷◌, ◌++◌, map}
use Rattle.std.proofs.lemmas.List.Elements.{All-append, All-cons, All-head, All-nil, All-tail}
use Rattle.app_events.specs.Prelude.{IsByte}
use Rattle.guarded_node.specs.Arrivals.{Arrival, BringsBytes}
use Rattle.guard_laws.specs.Through.{Coming, Comes, FitsTypes, SetsNumbers}
use Rattle.uip_device.specs.Calls.{arrivals_by, bytes_of_call}
use Rattle.uip_device.specs.Moves.{Gives, Makes, Move, Writing}
use Rattle.uip_device.specs.Prelude.{IsOfBytes, KeepsU32}
use Rattle.uip_device.proofs.BringLaws.{bytes_low, call_brings}
use Rattle.uip_c.specs.OnWire.{comings_of}

all_fit : (arrivals : List Arrival) → All BringsBytes arrivals → All FitsTypes (map Comes arrivals)
all_fit [] low = All-nil FitsTypes
all_fit (arrival ∷ arrivals) low =
    All-cons FitsTypes (Comes arrival) (map Comes arrivals) (All-head BringsBytes arrival arrivals low)
    (all_fit arrivals (All-tail BringsBytes arrival arrivals low))

pub comings_fit : (gives : Writing) → KeepsU32 gives → (before : List ℕ) (moves : List Move) → All IsByte before → All IsOfBytes moves
    → All FitsTypes (comings_of gives before moves)
comings_fit gives words before [] h are = All-nil FitsTypes
comings_fit gives words before (Makes call ∷ moves) h are =
    let is : IsOfBytes (Makes call) = All-head IsOfBytes (Makes call) moves are in
    All-append FitsTypes (map Comes (arrivals_by before call)) (comings_of gives (before ++ bytes_of_call call) moves)
    (all_fit (arrivals_by before call) (call_brings before call is h))
    (comings_fit gives words (before ++ bytes_of_call call) moves
    (All-append IsByte before (bytes_of_call call) h (bytes_low (Makes call) is)) (All-tail IsOfBytes (Makes call) moves are))
comings_fit gives words before (Gives number text ∷ moves) h are =
    All-cons FitsTypes (SetsNumbers (gives number text)) (comings_of gives before moves)
    (λ numbers low. words number text numbers (All-head IsOfBytes (Gives number text) moves are) low)
    (comings_fit gives words before moves h (All-tail IsOfBytes (Gives number text) moves are))
