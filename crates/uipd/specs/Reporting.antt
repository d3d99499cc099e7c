-- The view of a link over a reader, and the result of a read.
use Rattle.std.specs.Prelude.{◌≡◌, ℕ, suc, zero, if◌then◌else◌, Bool, List, map, take, Option, None, option_map, Result, Ok, Err, IsErr}
use Rattle.std.specs.Io.KnownBytes.{Consumes, IsAtEnd, Keeps}
use Rattle.uip_edge.specs.declared.failed.Failed.{Failed}
use Rattle.uip_edge.specs.declared.got.Got.{Got}
use Rattle.uip_edge.specs.declared.got.Got.TheVariants.{Bytes, End, Quiet}
use Rattle.uip_edge.specs.declared.item.Item.{Item}
use Rattle.uip_edge.specs.declared.item.Item.TheVariants.{Byte}

-- The bytes that a reader has left, if they are known. A line from a terminal may be silent at any time, so its items are unknown.
abbrev pub items_left : Bool → Option (List ℕ) → Option (List Item)
items_left tty reported = if tty then None else option_map (map Byte) reported

-- An empty read is a silence of a terminal, otherwise the end. A failed read is a failure.
abbrev pub IsGot : {E : Type 0} → Bool → Result ℕ E → Result Got Failed → Type 0
IsGot tty (Ok zero) got = got ≡ Ok (if tty then Quiet else End)
IsGot tty (Ok (suc n)) got = got ≡ Ok (Bytes (suc n))
IsGot tty (Err e) got = IsErr got

-- The bytes of a result are those that the reader lost. A silence and the end consume none, and occur only if it has none left. A failure
-- consumes none.
abbrev pub GivesRead : Option (List ℕ) → Option (List ℕ) → Result Got Failed → List ℕ → Type 0
GivesRead old new (Ok (Bytes n)) buf = Consumes old new (take n buf)
GivesRead old new (Ok Quiet) buf = Keeps old new × IsAtEnd old
GivesRead old new (Ok End) buf = Keeps old new × IsAtEnd old
GivesRead old new (Err e) buf = Keeps old new
