-- The items of a line are bytes and silences.
use Rattle.std.specs.Prelude.{◌<◌, All, List, ℕ, ⊤}
use Rattle.app_events.specs.Prelude.{IsByte}
use Rattle.uip_edge.specs.declared.item.Item.{Item}
use Rattle.uip_edge.specs.declared.item.Item.TheVariants.{Byte, Quiet}
use Rattle.line_medium.specs.Prelude.{MediumInput, Datagram, Overlong, Own, MediumSpec}

-- A byte is below 256.
abbrev pub IsItem : Item → Type 0
IsItem (Byte b) = b < 256
IsItem Quiet = ⊤

-- A received datagram consists of bytes.
abbrev pub CarriesBytes : {A : Type 0} → MediumInput A → Type 0
CarriesBytes (Datagram bytes) = All IsByte bytes
CarriesBytes Overlong = ⊤
CarriesBytes (Own a) = ⊤

-- A medium that is fed bytes decodes datagrams of bytes.
abbrev pub BringsBytes : {A : Type 0} → MediumSpec A → Type 0
BringsBytes w = (before : List ℕ) (b : ℕ) → All IsByte before → b < 256 → All CarriesBytes (w.decodes before b)
