-- The content of the links and sinks in memory, and what a link in memory returns.
use Rattle.std.specs.Prelude.{ℕ, ◌+◌, min, List, [], ◌∷◌}
use Rattle.uip_edge.specs.declared.item.Item.{Item}
use Rattle.uip_edge.specs.declared.item.Item.TheVariants as item
use Rattle.uip_edge.specs.declared.got.Got.{Got}
use Rattle.uip_edge.specs.declared.got.Got.TheVariants as got

-- A link in memory: the items to come, the most bytes of a call, and the numbers of the calls that are to fail; how many calls were made,
-- and how many failed.
pub record LinkContent : Type 0 where
  pub left : List Item
  pub most : ℕ
  pub fails : List ℕ
  pub calls : ℕ
  pub faults : ℕ

-- A link of which no call fails.
pub record SureContent : Type 0 where
  pub left : List Item
  pub most : ℕ

-- A sink in memory: what was written, its capacity in bytes, and its calls as above.
pub record SinkContent : Type 0 where
  pub text : List ℕ
  pub room : ℕ
  pub fails : List ℕ
  pub calls : ℕ
  pub faults : ℕ

-- The number of bytes before the first silence.
abbrev pub byte_run : List Item → ℕ
byte_run [] = 0
byte_run (item.Byte b ∷ items) = byte_run items + 1
byte_run (item.Quiet ∷ items) = 0

-- What a call with this room returns from these items: the end, a silence, or as many bytes as there are and fit.
abbrev pub given : ℕ → List Item → Got
given room [] = got.End
given room (item.Quiet ∷ items) = got.Quiet
given room (item.Byte b ∷ items) = got.Bytes (min room (byte_run (item.Byte b ∷ items)))

-- The number of items that a result takes.
abbrev pub item_count : Got → ℕ
item_count (got.Bytes n) = n
item_count got.Quiet = 1
item_count got.End = 0
