-- The output for a line is the text of the trace of its node.
use Rattle.line_laws.proofs.Prelude.{All, ◌≡◌, ℕ, ◌+◌, ◌<◌, Bool, ap, List, [], ◌∷◌, ◌++◌, length, map, refl, All-append, All-cons}
use Rattle.line_laws.proofs.Prelude.{All-head, All-map, All-nil, All-tail, All-weaker, Addr, IsByte, AppSpec, Item, Byte, Quiet, tick}
use Rattle.line_laws.proofs.Prelude.{Periodic, AbstractNode, initial_node, choose, MediumInput, Datagram, Overlong, Own, MediumSpec}
use Rattle.line_laws.proofs.Prelude.{StationEvent, OfMedium, OfNode, Station, station_after, output, output_of_event, BringsBytes, IsItem}
use Rattle.line_laws.proofs.Prelude.{CarriesBytes, beat_on, station_event_by, station_events_after, station_events_of_line, tick_on}
use Rattle.line_laws.proofs.Prelude.{initial_station, is_beat, trace_of, IsOfLine, of_bytes, of_overlong, of_call, every_trace_conforms}
use Rattle.line_laws.proofs.Prelude.{turn_events, EveryLineArrives, EveryLineConforms, events_among, text_in, ArrivesIn, HasOutputModel}
use Rattle.line_laws.proofs.Prelude.{IsAddr, IsSteady, IsU32, OutputModel, SendsBytes, TraceEntry, arrives_under_loss, at_every_port}
use Rattle.line_laws.proofs.Prelude.{page_bytes, paged_everywhere, steady_of, subst, sym}

-- ---- what is written in the turns of a line

module _ {A : Type 0} (m : AppSpec) (served : ℕ → Bool) (w : MediumSpec A) (own : Addr) where
  sent_text_in : (station_events : List (StationEvent A)) (s : Station A) → text_in w own s.acts station_events
      (trace_of m served (events_among station_events) s.node) ≡ output m served w own station_events s
  sent_text_in [] s = refl
  sent_text_in (OfMedium a ∷ station_events) s = ap (λ l. w.output_at a ++ l) (sent_text_in station_events (station_after m served s (OfMedium a)))
  sent_text_in (OfNode e ∷ station_events) s = ap (λ l. output_of_event m served w own s (OfNode e) ++ l)
      (sent_text_in station_events (station_after m served s (OfNode e)))

-- ---- where its events come from

module _ {A : Type 0} (own : Addr) where
  -- an event among deeds comes from bytes, or is a call
  abbrev IsFromLine : StationEvent A → Type 0
  IsFromLine (OfMedium a) = Unit {0}
  IsFromLine (OfNode e) = IsOfLine own e

  all_from_line : (station_events : List (StationEvent A)) → All IsFromLine station_events → All (IsOfLine own) (events_among station_events)
  all_from_line [] h = All-nil (IsOfLine own)
  all_from_line (OfMedium a ∷ station_events) h = all_from_line station_events (All-tail IsFromLine (OfMedium a) station_events h)
  all_from_line (OfNode e ∷ station_events) h =
      All-cons (IsOfLine own) e (events_among station_events) (All-head IsFromLine (OfNode e) station_events h)
      (all_from_line station_events (All-tail IsFromLine (OfNode e) station_events h))

  came_from_line : (c : MediumInput A) → CarriesBytes c → IsFromLine (station_event_by own c)
  came_from_line (Datagram bytes) h = of_bytes bytes h refl
  came_from_line Overlong h = of_overlong refl
  came_from_line (Own a) h = tt

  acts_from_line : (acts : List A) → All IsFromLine (map OfMedium acts)
  acts_from_line [] = All-nil IsFromLine
  acts_from_line (a ∷ acts) = All-cons IsFromLine (OfMedium a) (map OfMedium acts) tt (acts_from_line acts)

  calls_from_line : (slots : List ℕ) → All IsFromLine (map OfNode (map Periodic slots))
  calls_from_line [] = All-nil IsFromLine
  calls_from_line (s ∷ slots) = All-cons IsFromLine (OfNode (Periodic s)) (map OfNode (map Periodic slots)) (of_call s refl) (calls_from_line slots)

  module _ (w : MediumSpec A) (decodes : BringsBytes w) (pace : ℕ) where
    tick_from_line : All IsFromLine (tick_on w)
    tick_from_line = All-append IsFromLine (map OfMedium w.at_tick) (map OfNode tick) (acts_from_line w.at_tick)
        (calls_from_line (0 ∷ 1 ∷ 2 ∷ 3 ∷ 4 ∷ 5 ∷ 6 ∷ 7 ∷ 8 ∷ 9 ∷ []))

    beat_from_line : (number : ℕ) → All IsFromLine (beat_on w pace number)
    beat_from_line number = choose (λ (l : List (StationEvent A)). All IsFromLine l) (is_beat pace number) _ _ (λ e. tick_from_line) (λ e. All-nil IsFromLine)

    after_from_line : (before : List ℕ) (items : List Item) → All IsByte before → All IsItem items
        → All IsFromLine (station_events_after w own pace before items)
    after_from_line before [] h is = All-nil IsFromLine
    after_from_line before (Byte b ∷ items) h is =
        let low : b < 256 = All-head IsItem (Byte b) items is in
        let received : List (StationEvent A) = map (station_event_by own) (w.decodes before b) in
        let beat : List (StationEvent A) = beat_on w pace (length before + 1) in
        let rest : All IsFromLine (station_events_after w own pace (before ++ b ∷ []) items) =
        after_from_line (before ++ b ∷ []) items (All-append IsByte before (b ∷ []) h (All-cons IsByte b [] low (All-nil IsByte)))
        (All-tail IsItem (Byte b) items is) in
        All-append IsFromLine (received ++ beat) (station_events_after w own pace (before ++ b ∷ []) items)
        (All-append IsFromLine received beat
        (All-map IsFromLine (station_event_by own) (w.decodes before b) (All-weaker CarriesBytes (λ c. IsFromLine (station_event_by own c))
        came_from_line (w.decodes before b) (decodes before b h low)))
        (beat_from_line (length before + 1))) rest
    after_from_line before (Quiet ∷ items) h is =
        All-append IsFromLine (tick_on w) (station_events_after w own pace before items) tick_from_line
        (after_from_line before items h (All-tail IsItem Quiet items is))

-- ---- the promise

pub every_line : {A : Type 0} (w : MediumSpec A) → BringsBytes w → EveryLineConforms w
every_line {A = A} w decodes m model steady bytes speaks served numbers words own is pace items low =
    let station_events : List (StationEvent A) = station_events_of_line w own pace items in
    let node : AbstractNode = initial_node own numbers in
    let from = all_from_line own station_events (after_from_line own w decodes pace [] items (All-nil IsByte) low) in
    let kept = every_trace_conforms m model steady bytes speaks served own is numbers words (events_among station_events) from in
    record {
      line = record {
        turns = trace_of m served (events_among station_events) node;
        over = turn_events m served (events_among station_events) node;
        written = sent_text_in m served w own station_events (initial_station own numbers);
        keeps = kept.0;
      };
      read = kept.1;
    }

-- the events of a line
pub events_of_line : {A : Type 0} (w : MediumSpec A) → BringsBytes w → (own : Addr) (pace : ℕ) (items : List Item) → All IsItem items
    → All (IsOfLine own) (events_among (station_events_of_line w own pace items))
events_of_line w decodes own pace items low =
    all_from_line own (station_events_of_line w own pace items) (after_from_line own w decodes pace [] items (All-nil IsByte) low)

-- its trace is that of its events
pub line_turns : {A : Type 0} (w : MediumSpec A) (decodes : BringsBytes w) (m : AppSpec) (model : ℕ → OutputModel) (steady : IsSteady m)
    (bytes : SendsBytes m) (speaks : HasOutputModel m model)
    (served : ℕ → Bool) (numbers : List ℕ) (words : All IsU32 numbers) (own : Addr) (is : IsAddr own) (pace : ℕ) (items : List Item) (low : All IsItem items) →
    (every_line w decodes m model steady bytes speaks served numbers words own is pace items low).line.turns ≡ trace_of m served
    (events_among (station_events_of_line w own pace items)) (initial_node own numbers)
unfolding every_line
line_turns w decodes m model steady bytes speaks served numbers words own is pace items low = refl

pub every_line_arrives : {A : Type 0} (w : MediumSpec A) → BringsBytes w → EveryLineArrives w
every_line_arrives w decodes m pages lawful made served numbers words own is pace items low =
    let steady : IsSteady m = steady_of m pages lawful in
    let bytes : SendsBytes m = page_bytes m pages lawful made in
    let speaks : HasOutputModel m (at_every_port pages) = paged_everywhere m pages lawful in (
      every_line w decodes m (at_every_port pages) steady bytes speaks served numbers words own is pace items low,
      subst (λ (turns : List TraceEntry). ArrivesIn m pages turns)
          (sym (line_turns w decodes m (at_every_port pages) steady bytes speaks served numbers words own is pace items low))
          (arrives_under_loss m pages lawful served own is numbers words (events_among (station_events_of_line w own pace items))
          (events_of_line w decodes own pace items low)),
    )
