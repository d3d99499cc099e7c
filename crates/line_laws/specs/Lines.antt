-- The guarantee for a line: for the station events of its items and the bytes written.
use Rattle.std.specs.Prelude.{◌≡◌, ◌∷◌, ◌++◌, [], All, Bool, List, map, ℕ}
use Rattle.uip_wire.specs.declared.addr.Addr.{Addr}
use Rattle.app_events.specs.Prelude.{AppSpec, IsAddr, IsPaged, IsU32, Pages}
use Rattle.uip_edge.specs.declared.item.Item.{Item}
use Rattle.uip_node.specs.Prelude.{Event, HasBytes, IsSteady, SendsBytes}
use Rattle.node_laws.specs.Prelude.{TraceEntry, TraceConforms, OutputModel, HasOutputModel, IsDecoded, ArrivesIn, at_every_port}
use Rattle.line_medium.specs.Prelude.{MediumSpec}
use Rattle.serve_loop.specs.Prelude.{StationEvent, OfMedium, OfNode, reply_text, IsItem, station_events_of_line, output_by}

-- the events of the node among station events
abbrev pub events_among : {A : Type 0} → List (StationEvent A) → List Event
events_among [] = []
events_among (OfMedium a ∷ station_events) = events_among station_events
events_among (OfNode e ∷ station_events) = e ∷ events_among station_events

-- The bytes written for station events, after the acts before them. An act of the medium writes its bytes, and a trace entry its encoded
-- reply.
abbrev pub text_in : {A : Type 0} → MediumSpec A → Addr → List A → List (StationEvent A) → List TraceEntry → List ℕ
text_in w own acts [] turns = []
text_in w own acts (OfMedium a ∷ station_events) turns = w.output_at a ++ text_in w own (acts ++ a ∷ []) station_events turns
text_in w own acts (OfNode e ∷ station_events) (t ∷ turns) = reply_text w acts own t.sent ++ text_in w own acts station_events turns
text_in w own acts (OfNode e ∷ station_events) [] = []

-- The output is the encoded output of a trace that conforms. The trace has one entry for each event of the node.
pub record LineConforms {A : Type 0} (w : MediumSpec A) (model : ℕ → OutputModel) (served : ℕ → Bool) (own : Addr)
    (station_events : List (StationEvent A)) (output : List ℕ) : Type 0 where
  pub turns : List TraceEntry
  pub over : map (λ t. t.event) turns ≡ events_among station_events
  pub written : text_in w own [] station_events turns ≡ output
  pub keeps : TraceConforms model served turns

-- In addition, the node's own parser, at the address of the peer, gives back each segment of this trace.
pub record LineConformsRead {A : Type 0} (w : MediumSpec A) (model : ℕ → OutputModel) (served : ℕ → Bool) (own : Addr)
    (station_events : List (StationEvent A)) (output : List ℕ) : Type 0 where
  pub line : LineConforms w model served own station_events output
  pub read : All (IsDecoded own) line.turns

-- Every line conforms over this medium, with every application that never retracts output and sends bytes, for any items.
abbrev pub EveryLineConforms : {A : Type 0} → MediumSpec A → Type 0
EveryLineConforms w =
    (m : AppSpec) (model : ℕ → OutputModel) → IsSteady m → SendsBytes m → HasOutputModel m model
    → (served : ℕ → Bool) (numbers : List ℕ) → All IsU32 numbers → (own : Addr) → IsAddr own
    → (pace : ℕ) (items : List Item) → All IsItem items
    → LineConformsRead w model served own (station_events_of_line w own pace items) (output_by w m served numbers own pace items)

-- If the output of the application is a page, that of each cooperating peer also arrives over this medium, though it loses datagrams.
abbrev pub EveryLineArrives : {A : Type 0} → MediumSpec A → Type 0
EveryLineArrives w =
    (m : AppSpec) (pages : Pages) → IsPaged m pages → HasBytes pages
    → (served : ℕ → Bool) (numbers : List ℕ) → All IsU32 numbers → (own : Addr) → IsAddr own
    → (pace : ℕ) (items : List Item) → All IsItem items
    → (conforms : LineConformsRead w (at_every_port pages) served own (station_events_of_line w own pace items)
    (output_by w m served numbers own pace items)) × ArrivesIn m pages conforms.line.turns

-- Each prefix of a line that conforms is a line that conforms, whose output is a prefix: the guarantee holds at every point.
abbrev pub PrefixConforms : {A : Type 0} → MediumSpec A → Type 0
PrefixConforms {A = A} w =
    (model : ℕ → OutputModel) (served : ℕ → Bool) (own : Addr) (done later : List (StationEvent A)) (output : List ℕ)
    → LineConforms w model served own (done ++ later) output
    → (prefix : List ℕ) × (rest : List ℕ) × (output ≡ prefix ++ rest) × LineConforms w model served own done prefix
