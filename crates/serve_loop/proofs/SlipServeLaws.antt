-- The events of a serial line, as events of its node.
use Rattle.serve_loop.proofs.Prelude.{◌≡◌, ℕ, ◌+◌, Bool, true, false, List, [], ◌∷◌, ◌++◌, Option, None, Some, if◌then◌else◌, length, map}
use Rattle.serve_loop.proofs.Prelude.{refl, sym, ap, ◌∙◌, map-append, Addr, AppSpec, Item, Byte, Quiet, Frame, Datagram, Overlong}
use Rattle.serve_loop.proofs.Prelude.{completed, Event, Reply, tick, joined, run, step, beat_on, station_event_by, station_events_after}
use Rattle.serve_loop.proofs.Prelude.{station_events_of_line, tick_on, is_beat, StationEvent, OfNode, Station, station_after_all}
use Rattle.serve_loop.proofs.Prelude.{station_after, output, reply_text, beat, event_by, events_after, line_events, NoAct, came_by}
use Rattle.serve_loop.proofs.Prelude.{slip_medium, text_of}

-- each deed is an event of the node
abbrev all_happen : List Event → List (StationEvent NoAct)
all_happen events = map OfNode events

frame_station_events : (own : Addr) (reported : List Frame) → map (station_event_by own) (map came_by reported) ≡ all_happen (map (event_by own) reported)
frame_station_events own [] = refl
frame_station_events own (Datagram bytes ∷ reported) = ap (λ l. station_event_by own (came_by (Datagram bytes)) ∷ l) (frame_station_events own reported)
frame_station_events own (Overlong ∷ reported) = ap (λ l. station_event_by own (came_by Overlong) ∷ l) (frame_station_events own reported)

beat_station_events : (pace number : ℕ) → beat_on slip_medium pace number ≡ all_happen (beat pace number)
beat_station_events pace number = elim (is_beat pace number) as (λ v. (if v then tick_on slip_medium else []) ≡ all_happen (if v then tick else [])) [
  | true ↦ refl
  | false ↦ refl
]

pub station_events_are : (own : Addr) (pace : ℕ) (before : List ℕ) (items : List Item) → station_events_after slip_medium own pace before
    items ≡ all_happen (events_after own pace before items)
station_events_are own pace before [] = refl
station_events_are own pace before (Byte b ∷ items) =
    let reported = map (event_by own) (completed before b) in
    let more = beat pace (length before + 1) in
    let rest = events_after own pace (before ++ b ∷ []) items in
    ap (λ l. l ++ beat_on slip_medium pace (length before + 1) ++ station_events_after slip_medium own pace (before ++ b ∷ []) items)
    (frame_station_events own (completed before b))
    ∙ ap (λ l. all_happen reported ++ l ++ station_events_after slip_medium own pace (before ++ b ∷ []) items) (beat_station_events pace (length before + 1))
    ∙ ap (λ l. all_happen reported ++ all_happen more ++ l) (station_events_are own pace (before ++ b ∷ []) items)
    ∙ ap (λ l. l ++ all_happen rest) (sym (map-append OfNode reported more))
    ∙ sym (map-append OfNode (reported ++ more) rest)
station_events_are own pace before (Quiet ∷ items) =
    ap (λ l. all_happen tick ++ l) (station_events_are own pace before items) ∙ sym (map-append OfNode tick (events_after own pace before items))

-- they lead where the events lead
pub after_is : (m : AppSpec) (served : ℕ → Bool) (events : List Event) (s : Station NoAct)
    → (station_after_all m served (all_happen events) s).node ≡ (run m served events s.node).node
after_is m served [] s = refl
after_is m served (e ∷ events) s = after_is m served events (station_after m served s (OfNode e))

module _ (m : AppSpec) (served : ℕ → Bool) (own : Addr) where
  text_joined : (acts : List NoAct) (o : Option Reply) (rest : List Reply) → reply_text slip_medium acts own o ++ text_of own rest ≡ text_of own (joined o rest)
  text_joined acts None rest = refl
  text_joined acts (Some reply) rest = refl

  -- and their output is the texts of what the node sends
  pub sent_text_is : (events : List Event) (s : Station NoAct) → output m served slip_medium own (all_happen events) s ≡ text_of own
      (run m served events s.node).sent
  sent_text_is [] s = refl
  sent_text_is (e ∷ events) s =
      ap (λ l. reply_text slip_medium s.acts own (step m served s.node e).sent ++ l) (sent_text_is events (station_after m served s (OfNode e)))
      ∙ text_joined s.acts (step m served s.node e).sent (run m served events (step m served s.node e).node).sent

-- the output for the events of a serial line is the text of what the node sends over them
pub sent_text_on_line : (m : AppSpec) (served : ℕ → Bool) (own : Addr) (pace : ℕ) (items : List Item) (s : Station NoAct)
    → output m served slip_medium own (station_events_of_line slip_medium own pace items) s ≡ text_of own
    (run m served (line_events own pace items) s.node).sent
sent_text_on_line m served own pace items s =
    ap (λ (l : List (StationEvent NoAct)). output m served slip_medium own l s) (station_events_are own pace [] items)
    ∙ sent_text_is m served own (line_events own pace items) s
