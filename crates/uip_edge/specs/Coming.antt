-- What a call of a link takes from the items to come.
use Rattle.std.specs.Prelude.{◌≡◌, ◌<◌, ◌≤◌, ◌++◌, ℕ, List, [], ◌∷◌, take, map, Option, None, Some, Result, Ok, Err, ⊤}
use Rattle.uip_edge.specs.declared.item.Item.{Item}
use Rattle.uip_edge.specs.declared.item.Item.TheVariants as item
use Rattle.uip_edge.specs.declared.got.Got.{Got}
use Rattle.uip_edge.specs.declared.got.Got.TheVariants as got
use Rattle.uip_edge.specs.declared.failed.Failed.{Failed}

-- The items that a result represents, with its bytes at the start of the buffer.
abbrev pub items_of : Result Got Failed → List ℕ → List Item
items_of (Ok (got.Bytes n)) buf = map item.Byte (take n buf)
items_of (Ok got.Quiet) buf = item.Quiet ∷ []
items_of (Ok got.End) buf = []
items_of (Err e) buf = []

-- Bytes are at least one, and fit in the buffer.
abbrev pub CountFits : Result Got Failed → ℕ → Type 0
CountFits (Ok (got.Bytes n)) room = (0 < n) × (n ≤ room)
CountFits (Ok got.Quiet) room = ⊤
CountFits (Ok got.End) room = ⊤
CountFits (Err e) room = ⊤

-- The bytes among the items; a silence has none.
abbrev pub bytes_among : List Item → List ℕ
bytes_among [] = []
bytes_among (item.Byte b ∷ items) = b ∷ bytes_among items
bytes_among (item.Quiet ∷ items) = bytes_among items

-- If the items to come are known, they begin with these, which are removed.
abbrev pub Consumes : Option (List Item) → Option (List Item) → List Item → Type 0
Consumes None new xs = ⊤
Consumes (Some all) None xs = ⊥
Consumes (Some all) (Some left) xs = all ≡ xs ++ left

-- The end is reported only if no item is known to come.
abbrev pub IsAtEnd : Result Got Failed → Option (List Item) → Type 0
IsAtEnd (Ok got.End) (Some all) = all ≡ []
IsAtEnd (Ok got.End) None = ⊤
IsAtEnd (Ok (got.Bytes n)) reported = ⊤
IsAtEnd (Ok got.Quiet) reported = ⊤
IsAtEnd (Err e) reported = ⊤

-- These are all items that were known to come.
abbrev pub TookAll : Option (List Item) → List Item → Type 0
TookAll None taken = ⊤
TookAll (Some all) taken = all ≡ taken
