-- The result of `take` for a frame.
use Rattle.std.specs.Prelude.{◌≡◌, ◌+◌, ◌<◌, ◌⊎◌, ℕ, List, [], ◌∷◌, length, drop, Some, ⊤}
use Rattle.uip_wire.specs.Prelude.{written}
use Rattle.line_medium.specs.Prelude.{MediumInput, Datagram, Own}
use Rattle.ethernet_arp.specs.Frames.{Host, arp_reply}
use Rattle.ethernet_arp.specs.Learning.{Act, Asked, Pair, Replied, taught}
use Rattle.ethernet_arp.specs.Table.{in_table}
use Rattle.ethernet_arp.specs.declared.arp.Arp.{Arp}
use Rattle.ethernet_arp.specs.declared.received.Sorted.{Sorted}
use Rattle.ethernet_arp.specs.declared.received.Sorted.TheVariants as sorted
use Rattle.ethernet_arp.specs.declared.received.Taken.{Taken}
use Rattle.ethernet_arp.specs.declared.received.Taken.TheVariants as taken

-- What a payload of this kind decodes to.
abbrev pub came_of : List ℕ → Sorted → List (MediumInput Act)
came_of payload sorted.Nothing = []
came_of payload sorted.Datagram = Datagram payload ∷ []
came_of payload (sorted.Asked addr mac) = Own (Asked (record { addr = addr.0; mac = mac.0 })) ∷ []
came_of payload (sorted.Replied addr mac) = Own (Replied (record { addr = addr.0; mac = mac.0 })) ∷ []

-- A datagram is not empty.
abbrev pub SomeBytes : Sorted → List ℕ → Type 0
SomeBytes sorted.Nothing payload = ⊤
SomeBytes sorted.Datagram payload = 0 < length payload
SomeBytes (sorted.Asked addr mac) payload = ⊤
SomeBytes (sorted.Replied addr mac) payload = ⊤

-- It sends nothing, and is no datagram.
abbrev pub IsQuiet : List (MediumInput Act) → Type 0
IsQuiet cs = (cs ≡ []) ⊎ ((pair : Pair) × (cs ≡ Own (Replied pair) ∷ []))

-- What a frame decodes to teaches a table its pair, or leaves the table unchanged.
abbrev pub IsTaught : List (MediumInput Act) → Arp → Arp → Type 0
IsTaught (Own act ∷ cs) old new = (pair : Pair) → taught act ≡ Some pair → in_table new pair.addr ≡ Some pair.mac
IsTaught cs old new = new ≡ old

-- The result for a frame, what it decodes to, and the area before and after.
abbrev pub ReportsTaken : Host → List ℕ → Taken → List (MediumInput Act) → List ℕ → List ℕ → Type 0
ReportsTaken k frame taken.Nothing cs old new = IsQuiet cs × (new ≡ old)
ReportsTaken k frame (taken.Reply n) cs old new =
    (pair : Pair) × (cs ≡ Own (Asked pair) ∷ []) × (n ≡ length (arp_reply k pair)) × (new ≡ written old 0 (arp_reply k pair))
ReportsTaken k frame (taken.Datagram at n) cs old new =
    (cs ≡ Datagram (drop at frame) ∷ []) × (at + n ≡ length frame) × (0 < n) × (new ≡ old)
