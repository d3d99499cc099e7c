-- What resolving names does to the streams, and how it ends.
use Rattle.std.specs.Prelude.{◌≡◌, ◌<◌, ◌≤◌, ◌⊎◌, ℕ, List, [], ◌∷◌, ◌++◌, true, false, Option, length, map}
use Rattle.uip_edge.specs.Prelude.{Rose, Consumes, TookAll, WritesAll, WritesPrefix}
use Rattle.uip_edge.specs.declared.item.Item.{Item}
use Rattle.uip_edge.specs.declared.item.Item.TheVariants.{Byte, Quiet}
use Rattle.uip_edge.specs.declared.serve_end.ServeEnd.{ServeEnd}
use Rattle.uip_edge.specs.declared.serve_end.ServeEnd.TheVariants as ends
use Rattle.udp_resolver.specs.Asked.{line_text}
use Rattle.udp_resolver.specs.Fates.{Question, all_settled}
use Rattle.udp_resolver.specs.LineEvents.{events}
use Rattle.udp_resolver.specs.Lines.{lines}
use Rattle.udp_resolver.specs.Streams.{Streams}

-- Over these items all questions are settled, or one is open.
abbrev pub IsSettled : List Question → List Item → Type 0
IsSettled asked taken = all_settled asked (events taken) ≡ true

abbrev pub IsOpen : List Question → List Item → Type 0
IsOpen asked taken = all_settled asked (events taken) ≡ false

-- Why no more items are taken: all questions are settled, or one is open and the link ended before n items, or n items were taken.
abbrev pub IsDone : List Question → ℕ → Option (List Item) → List Item → ServeEnd → Type 0
IsDone asked n coming taken ends.End = IsSettled asked taken ⊎ (IsOpen asked taken × TookAll coming taken × (length taken < n))
IsDone asked n coming taken ends.Budget = IsOpen asked taken × (length taken ≡ n)
IsDone asked n coming taken _ = ⊥

-- All queries and the report were written.
pub record WroteAll (asked : List Question) (n : ℕ) (old new : Streams) (taken : List Item) (end : ServeEnd) : Type 0 where
  pub done : IsDone asked n old.line.link.coming taken end
  pub link_same : new.line.link.faults ≡ old.line.link.faults
  pub out : WritesAll old.line.sink new.line.sink (line_text asked (events taken))
  pub reported : WritesAll old.tell new.tell (lines asked (events taken))

-- The link failed while a question was open, and nothing was reported.
pub record LinkFailed (asked : List Question) (n : ℕ) (old new : Streams) (taken : List Item) : Type 0 where
  pub is_open : IsOpen asked taken
  pub few : length taken < n
  pub rose : Rose old.line.link.faults new.line.link.faults
  pub out : WritesAll old.line.sink new.line.sink (line_text asked (events taken))
  pub tell : new.tell ≡ old.tell

-- The output line failed with something to write, and nothing was reported.
pub record OutFailed (asked : List Question) (old new : Streams) (taken : List Item) : Type 0 where
  pub link_same : new.line.link.faults ≡ old.line.link.faults
  pub some : 0 < length (line_text asked (events taken))
  pub out : WritesPrefix old.line.sink new.line.sink (line_text asked (events taken))
  pub tell : new.tell ≡ old.tell

-- All queries were written, and the report failed with something to write.
pub record ReportFailed (asked : List Question) (n : ℕ) (old new : Streams) (taken : List Item) : Type 0 where
  pub end : ServeEnd
  pub done : IsDone asked n old.line.link.coming taken end
  pub link_same : new.line.link.faults ≡ old.line.link.faults
  pub out : WritesAll old.line.sink new.line.sink (line_text asked (events taken))
  pub some : 0 < length (lines asked (events taken))
  pub reported : WritesPrefix old.tell new.tell (lines asked (events taken))

abbrev pub ResolvesBy : List Question → ℕ → Streams → Streams → List Item → ServeEnd → Type 0
ResolvesBy asked n old new taken ends.LinkFault = LinkFailed asked n old new taken
ResolvesBy asked n old new taken ends.WriteFault = OutFailed asked old new taken ⊎ ReportFailed asked n old new taken
ResolvesBy asked n old new taken end = WroteAll asked n old new taken end

-- What one result of a link gives: bytes, or one silence.
abbrev pub IsOneAnswer : List Item → Type 0
IsOneAnswer items = (items ≡ Quiet ∷ []) ⊎ ((bytes : List ℕ) × (items ≡ map Byte bytes))

-- The link was polled for the last of the items while a question was open.
pub record LastAsked (asked : List Question) (taken : List Item) : Type 0 where
  pub before : List Item
  pub last : List Item
  pub whole : taken ≡ before ++ last
  pub is_open : IsOpen asked before
  pub once : IsOneAnswer last

-- The questions were resolved, up to n items. There are items that the link had and lost, none of them polled for without need. The end has
-- its cause and its texts.
pub record Resolves (asked : List Question) (n : ℕ) (old new : Streams) (result : ServeEnd) : Type 0 where
  pub taken : List Item
  pub within : length taken ≤ n
  pub consumed : Consumes old.line.link.coming new.line.link.coming taken
  pub needed : (taken ≡ []) ⊎ LastAsked asked taken
  pub ends : ResolvesBy asked n old new taken result
