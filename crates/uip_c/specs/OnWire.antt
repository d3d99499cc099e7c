-- What moves bring to the guarded node of a device, on the wire.
use Rattle.std.specs.Prelude.{ℕ, List, [], ◌∷◌, ◌++◌, map}
use Rattle.guard_laws.specs.Through.{Coming, Comes, SetsNumbers}
use Rattle.uip_device.specs.Calls.{arrivals_by, bytes_of_call}
use Rattle.uip_device.specs.Moves.{Gives, Makes, Move, Writing}

-- What moves bring in order, after the bytes fed before; setting a value changes the numbers of the application.
abbrev pub comings_of : Writing → List ℕ → List Move → List Coming
comings_of gives before [] = []
comings_of gives before (Makes call ∷ moves) = map Comes (arrivals_by before call) ++ comings_of gives (before ++ bytes_of_call call) moves
comings_of gives before (Gives number text ∷ moves) = SetsNumbers (gives number text) ∷ comings_of gives before moves
