-- What a run of the resolver knows of the items that it took, and what its turns add.
use Rattle.std.specs.Prelude.{◌≡◌, ◌<◌, ◌≤◌, ◌⊎◌, ℕ, false, List, [], ◌++◌, length, map, OnErr, Result}
use Rattle.std.specs.Io.KnownBytes.{Appends}
use Rattle.uip_edge.specs.Prelude.{Rose, Consumes, bytes_among, LineView, IsCalm, SinkView, TurnsBy, AppendsPrefix, BreaksOff, Writes}
use Rattle.uip_edge.specs.declared.item.Item.{Item}
use Rattle.uip_edge.specs.declared.serve_end.ServeEnd.{ServeEnd}
use Rattle.uip_edge.specs.declared.serve_end.ServeEnd.TheVariants as ends
use Rattle.uip_edge.specs.declared.turn.Turn.{Turn}
use Rattle.uip_edge.specs.declared.turn.Turn.TheVariants as turns
use Rattle.uip_slip.specs.Prelude.{WasFed}
use Rattle.udp_resolver.specs.Asked.{last_ident, line_text, queries, query_texts}
use Rattle.udp_resolver.specs.Fates.{Question, answer_among, is_given_up}
use Rattle.udp_resolver.specs.LineEvents.{events}
use Rattle.udp_resolver.specs.Resolving.{IsDone, IsOneAnswer, IsOpen, LastAsked}
use Rattle.udp_resolver.specs.Steps.{IsClockAt, asked_next}
use Rattle.udp_resolver.specs.declared.run.Run.{Run}

-- The text was written whole, or a prefix of it if the sink failed, and then it is not empty.
pub record WritesSome {T E : Type 0} (old new : SinkView) (result : Result T E) (text : List ℕ) : Type 0 where
  pub writes : Writes old new result text
  pub some : OnErr result (0 < length text)

-- The run after these items.
pub record RunRepresents (asked : List Question) (items : List Item) (run : Run) : Type 0 where
  pub fed : WasFed (bytes_among items) run.decoder
  pub at : IsClockAt (events items) run.clock
  pub heard : run.answers.items ≡ map (answer_among (events items)) asked
  pub sent : run.sender.ident ≡ last_ident 0 (queries asked (events items))

-- A run that knows any items without giving up knows these further items too afterwards.
abbrev pub Learns : List Question → List Item → Run → Run → Type 0
Learns asked more old new =
    (items : List Item) → is_given_up (events items) ≡ false → RunRepresents asked items old → RunRepresents asked (items ++ more) new

-- After any items of a run that has not given up, the queries due at the next silence were written.
abbrev pub WritesNext : {T E : Type 0} → List Question → Run → SinkView → SinkView → Result T E → Type 0
WritesNext asked run old new result =
    (items : List Item) → is_given_up (events items) ≡ false → RunRepresents asked items run
    → WritesSome old new result (query_texts run.sender.ident (asked_next asked (events items)))

-- What further items add to the output line.
abbrev pub Adds : List Question → List Item → List Item → List ℕ → Type 0
Adds asked items more text = line_text asked (events (items ++ more)) ≡ line_text asked (events items) ++ text

-- A turn that took items.
pub record Went (asked : List Question) (items more : List Item) (run : Run) (old new : LineView) : Type 0 where
  pub knows : RunRepresents asked (items ++ more) run
  pub once : IsOneAnswer more
  pub text : List ℕ
  pub adds : Adds asked items more text
  pub out : Appends old.sink.written new.sink.written text

-- A turn in which the link ended or failed.
pub record Kept (asked : List Question) (items : List Item) (run : Run) (old new : LineView) : Type 0 where
  pub knows : RunRepresents asked items run
  pub out : new.sink.written ≡ old.sink.written

-- A turn in which the output line failed.
pub record OutBroke (asked : List Question) (items more : List Item) (old new : LineView) : Type 0 where
  pub once : IsOneAnswer more
  pub text : List ℕ
  pub adds : Adds asked items more text
  pub broke : BreaksOff [] text old.sink.written new.sink.written

-- What a turn did.
abbrev pub AsksOn : List Question → List Item → List Item → Run → LineView → LineView → Turn ServeEnd → Type 0
AsksOn asked items more run old new (turns.Took n) = Went asked items more run old new
AsksOn asked items more run old new (turns.Ended ends.End) = Kept asked items run old new
AsksOn asked items more run old new (turns.Ended ends.LinkFault) = Kept asked items run old new
AsksOn asked items more run old new (turns.Ended ends.WriteFault) = OutBroke asked items more old new
AsksOn asked items more run old new (turns.Ended ends.Budget) = ⊥

-- A turn after these items.
pub record Turns (asked : List Question) (items : List Item) (run : Run) (old new : LineView)
    (room : ℕ) (turn : Turn ServeEnd) : Type 0 where
  pub more : List Item
  pub consumed : Consumes old.link.coming new.link.coming more
  pub within : length more ≤ room
  pub cause : TurnsBy old new more turn
  pub by : AsksOn asked items more run old new turn

-- A turn after any items with an open question.
abbrev pub TurnsAfter : List Question → Run → Run → LineView → LineView → ℕ → Turn ServeEnd → Type 0
TurnsAfter asked before run old new room turn =
    (items : List Item) → IsOpen asked items → RunRepresents asked items before → Turns asked items run old new room turn

-- Why no more is taken, and what was written, if the line did not fail.
pub record Done (asked : List Question) (n : ℕ) (taken : List Item) (run : Run) (old new : LineView) (end : ServeEnd) : Type 0 where
  pub done : IsDone asked n old.link.coming taken end
  pub calm : IsCalm old new
  pub knows : RunRepresents asked taken run
  pub out : Appends old.sink.written new.sink.written (line_text asked (events taken))

abbrev pub AsksBy : List Question → ℕ → List Item → Run → LineView → LineView → ServeEnd → Type 0
AsksBy asked n taken run old new ends.End = Done asked n taken run old new ends.End
AsksBy asked n taken run old new ends.Budget = Done asked n taken run old new ends.Budget
AsksBy asked n taken run old new ends.LinkFault =
    IsOpen asked taken × (length taken < n) × Rose old.link.faults new.link.faults × (new.sink.faults ≡ old.sink.faults)
    × Appends old.sink.written new.sink.written (line_text asked (events taken))
AsksBy asked n taken run old new ends.WriteFault =
    (new.link.faults ≡ old.link.faults) × Rose old.sink.faults new.sink.faults
    × AppendsPrefix old.sink.written new.sink.written (line_text asked (events taken)) × (0 < length (line_text asked (events taken)))

-- The names were queried, up to n items.
pub record Asks (asked : List Question) (n : ℕ) (run : Run) (old new : LineView) (end : ServeEnd) : Type 0 where
  pub taken : List Item
  pub within : length taken ≤ n
  pub consumed : Consumes old.link.coming new.link.coming taken
  pub needed : (taken ≡ []) ⊎ LastAsked asked taken
  pub by : AsksBy asked n taken run old new end
