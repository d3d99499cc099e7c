-- How the trace of a device on a link of frames conforms, move by move.
use Rattle.frame_device.proofs.Prelude.{IsByte, lens, entry_on_wire, wire_conforms, lens_is_shift, GuardedLink, frame_sent, initial_node}
use Rattle.frame_device.proofs.Prelude.{step, Ported, Rules, guarded, input_events, guarded_link, guarded_of_line, ported_on, ported_start}
use Rattle.frame_device.proofs.Prelude.{stations_at, wire_medium, All, flat_map, ◌≡◌, ℕ, Bool, List, [], ◌∷◌, ◌++◌, map, refl, sym, ap, ◌∙◌}
use Rattle.frame_device.proofs.Prelude.{subst, All-append, All-cons, All-head, All-nil, All-tail, IsAddr, IsPaged, IsU32, Pages, AppSpec}
use Rattle.frame_device.proofs.Prelude.{Ghosts, Addr, Event, HasBytes, AbstractNode, run, MediumInput, Datagram, Overlong, Own, MediumSpec}
use Rattle.frame_device.proofs.Prelude.{StationEvent, OfMedium, OfNode, Station, station_after, station_after_all, output, output_of_event}
use Rattle.frame_device.proofs.Prelude.{CarriesBytes, events_among, text_in, TraceConforms, at_every_port, TraceEntry, trace_of, IsOfLine}
use Rattle.frame_device.proofs.Prelude.{IsDecoded, of_overlong, of_call, every_step, paged_everywhere, steady_of, page_bytes, OutputModel}
use Rattle.frame_device.proofs.Prelude.{HasOutputModel, IsSteady, SendsBytes, turn_events, DecodesBytes, acts_before, AnsweredFrame}
use Rattle.frame_device.proofs.Prelude.{AnswersAllFrames, CallsSlot, DoesNothing, FrameCall, FrameMove, Gives, InputsFrame}
use Rattle.frame_device.proofs.Prelude.{IsFreshFrameDevice, Makes, RepresentsStation, Writing, station_after_move, station_events_by}
use Rattle.frame_device.proofs.Prelude.{frame_moves_of, with_value, initial_station, HandsOutFrame, IsFrameOfBytes, FrameTrace}
use Rattle.frame_device.proofs.Prelude.{FramesConform, KeepsU32, FrameDevice}
use Rattle.uip_node.specs.Events.Event.{Overlong as OverlongFrame, Periodic}
use Rattle.node_laws.proofs.HonestPeers.{arrives_over_steps}
use Rattle.node_laws.specs.LossyPeers.{ArrivesIn}
use Rattle.node_laws.proofs.Steps.{Changes, OfNode as HappensAt, IsStep, LineStep, all_happen, changed, trace_over, turns_then}
use Rattle.frame_device.specs.declared.frames.Frames.{Ghosts as FramesGhosts}
use Rattle.frame_device.proofs.HereLaws.{run_addr}
use Rattle.frame_device.proofs.MoveLaws.{MovesOn, moves_on}

-- ---- what events lead to, and their output

module _ {C : Type 0} (m : AppSpec) (served : ℕ → Bool) where
  pub sent_text_in : (w : MediumSpec C) (own : Addr) (station_events : List (StationEvent C)) (s : Station C)
      → output m served w own station_events s ≡ text_in w own s.acts station_events (trace_of m served (events_among station_events) s.node)
  sent_text_in w own [] s = refl
  sent_text_in w own (OfMedium a ∷ station_events) s = ap (λ l. w.output_at a ++ l) (sent_text_in w own station_events (station_after m served s (OfMedium a)))
  sent_text_in w own (OfNode e ∷ station_events) s = ap (λ l. output_of_event m served w own s (OfNode e) ++ l)
      (sent_text_in w own station_events (station_after m served s (OfNode e)))

  pub node_after : (station_events : List (StationEvent C)) (s : Station C) → (station_after_all m served station_events s).node
      ≡ (run m served (events_among station_events) s.node).node
  node_after [] s = refl
  node_after (OfMedium a ∷ station_events) s = node_after station_events (station_after m served s (OfMedium a))
  node_after (OfNode e ∷ station_events) s = node_after station_events (station_after m served s (OfNode e))

  -- the trace entries of a call, and what it writes for them
  abbrev pub turns_of_call : GuardedLink C → FrameCall → Station C → List TraceEntry
  turns_of_call w call s = trace_of m served (events_among (station_events_by w served s.node call)) s.node

  pub call_hands_out : (w : GuardedLink C) (own : Addr) (call : FrameCall) (s : Station C) (handed : List ℕ)
      → handed ≡ output m served (wire_medium w) own (station_events_by w served s.node call) s
      → HandsOutFrame w served own (record { answered = record { move = Makes call; handed = handed }; station = s; turns = turns_of_call w call s })
  call_hands_out w own call s handed wrote = record {
    over = turn_events m served (events_among (station_events_by w served s.node call)) s.node;
    hands = wrote ∙ sent_text_in (wire_medium w) own (station_events_by w served s.node call) s;
  }

-- ---- what calls bring

abbrev AllOf : Addr → List Event → Type 0
AllOf own events = All (IsOfLine own) events

-- A node at this address that any events of a line reach.
pub record Reached (own : Addr) (n : AbstractNode) : Type 0 where
  pub address : n.addr ≡ own
  pub ported : Ported n

pub first_reached : (own : Addr) (numbers : List ℕ) → All IsU32 numbers → Reached own (initial_node own numbers)
first_reached own numbers words = record { address = refl; ported = ported_start own numbers words }

pub change_reached : (own : Addr) (change : List ℕ → List ℕ) (n : AbstractNode) → All IsU32 (change n.numbers) → Reached own n → Reached own (changed change n)
change_reached own change n words r = record {
  address = r.address;
  ported = record {
    good = record { single = r.ported.good.single; fit = record { size = r.ported.good.fit.size; conns = r.ported.good.fit.conns; numbers = words } };
    ports = r.ported.ports;
  };
}

module _ (m : AppSpec) (steady : IsSteady m) (served : ℕ → Bool) (own : Addr) where
  run_ported : (events : List Event) (n : AbstractNode) → AllOf own events → Ported n → Ported (run m served events n).node
  run_ported [] n of p = p
  run_ported (e ∷ events) n of p =
      run_ported events (step m served n e).node (All-tail (IsOfLine own) e events of)
      (ported_on m steady served own n e (All-head (IsOfLine own) e events of) p)

  pub run_reached : (events : List Event) (n : AbstractNode) → AllOf own events → Reached own n → Reached own (run m served events n).node
  run_reached events n of r = record { address = run_addr m served events n ∙ r.address; ported = run_ported events n of r.ported }

module _ (own : Addr) (is : IsAddr own) (rules : Rules) (served : ℕ → Bool) (n : AbstractNode) (r : Reached own n) where
  guarded_at : (d : List ℕ) → All IsByte d → AllOf own (guarded rules served n d)
  guarded_at d bytes =
      subst (λ (a : Addr). AllOf a (guarded rules served n d)) r.address
      (guarded_of_line rules served n d (subst (λ (a : Addr). IsAddr a) (sym r.address) is) r.ported bytes)

module _ {C : Type 0} where
  pub among_nodes : (events : List Event) (more : List (StationEvent C)) → events_among (map OfNode events ++ more) ≡ events ++ events_among more
  among_nodes [] more = refl
  among_nodes (e ∷ events) more = ap (λ l. e ∷ l) (among_nodes events more)

  module _ (own : Addr) (is : IsAddr own) (rules : Rules) (served : ℕ → Bool) (n : AbstractNode) (r : Reached own n) where
    came_of_line : (cs : List (MediumInput C)) → All CarriesBytes cs → AllOf own (events_among (flat_map (input_events rules served n) cs))
    came_of_line [] h = All-nil (IsOfLine own)
    came_of_line (Datagram d ∷ cs) h =
        subst (λ (l : List Event). AllOf own l) (sym (among_nodes (guarded rules served n d) (flat_map (input_events rules served n) cs)))
        (All-append (IsOfLine own) (guarded rules served n d) (events_among (flat_map (input_events rules served n) cs))
        (guarded_at own is rules served n r d (All-head CarriesBytes (Datagram d) cs h))
        (came_of_line cs (All-tail CarriesBytes (Datagram d) cs h)))
    came_of_line (Overlong ∷ cs) h =
        All-cons (IsOfLine own) OverlongFrame (events_among (flat_map (input_events rules served n) cs)) (of_overlong refl)
        (came_of_line cs (All-tail CarriesBytes Overlong cs h))
    came_of_line (Own a ∷ cs) h = came_of_line cs (All-tail CarriesBytes (Own a) cs h)

  acts_of_line : (own : Addr) (acts : List C) (slot : ℕ) → AllOf own (events_among (map OfMedium acts ++ OfNode (Periodic slot) ∷ []))
  acts_of_line own [] slot = All-cons (IsOfLine own) (Periodic slot) [] (of_call slot refl) (All-nil (IsOfLine own))
  acts_of_line own (a ∷ acts) slot = acts_of_line own acts slot

  pub call_of_line : (own : Addr) → IsAddr own → (w : GuardedLink C) → DecodesBytes w.link → (served : ℕ → Bool) (n : AbstractNode)
      → Reached own n → (call : FrameCall) → IsFrameOfBytes (Makes call)
      → AllOf own (events_among (station_events_by w served n call))
  call_of_line own is w decodes served n r (InputsFrame frame) bytes = came_of_line own is w.rules served n r (w.link.decodes frame) (decodes frame bytes)
  call_of_line own is w decodes served n r (CallsSlot slot) bytes = acts_of_line own (acts_before w.link slot) slot
  call_of_line own is w decodes served n r DoesNothing bytes = All-nil (IsOfLine own)

-- ---- the steps of moves

module _ {C : Type 0} (m : AppSpec) (served : ℕ → Bool) (w : GuardedLink C) (gives : Writing) where
  abbrev after : FrameMove → Station C → Station C
  after move s = station_after_move m served w gives move s

  -- a move is these steps of the node
  abbrev pub steps_of_move : FrameMove → Station C → List LineStep
  steps_of_move (Makes call) s = map HappensAt (events_among (station_events_by w served s.node call))
  steps_of_move (Gives number text) s = Changes (gives number text) ∷ []

  abbrev pub steps_of : List FrameMove → Station C → List LineStep
  steps_of [] s = []
  steps_of (move ∷ moves) s = steps_of_move move s ++ steps_of moves (after move s)

  module _ (steady : IsSteady m) (own : Addr) (is : IsAddr own) (decodes : DecodesBytes w.link) (words : KeepsU32 gives) where
    record OnLine (move : FrameMove) (s : Station C) : Type 0 where
      steps : All (IsStep own) (steps_of_move move s)
      reached : Reached own (after move s).node

    move_on_line : (move : FrameMove) (s : Station C) → IsFrameOfBytes move → Reached own s.node → OnLine move s
    move_on_line (Makes call) s bytes r =
        let events : List Event = events_among (station_events_by w served s.node call) in
        let of : AllOf own events = call_of_line own is w decodes served s.node r call bytes in
        record {
          steps = all_happen own events of;
          reached = subst (λ (n : AbstractNode). Reached own n) (sym (node_after m served (station_events_by w served s.node call) s))
              (run_reached m steady served own events s.node of r);
        }
    move_on_line (Gives number text) s bytes r = record {
      steps = All-cons (IsStep own) (Changes (gives number text)) [] (λ numbers are. words number text numbers bytes are) (All-nil (IsStep own));
      reached = change_reached own (gives number text) s.node (words number text s.node.numbers bytes r.ported.good.fit.numbers) r;
    }

    pub steps_are : (moves : List FrameMove) (s : Station C) → All IsFrameOfBytes moves → Reached own s.node → All (IsStep own) (steps_of moves s)
    steps_are [] s are r = All-nil (IsStep own)
    steps_are (move ∷ moves) s are r =
        let first : OnLine move s = move_on_line move s (All-head IsFrameOfBytes move moves are) r in
        All-append (IsStep own) (steps_of_move move s) (steps_of moves (after move s)) first.steps
        (steps_are moves (after move s) (All-tail IsFrameOfBytes move moves are) first.reached)

-- ---- the law

module _ {A S M : Type 0} (g : Ghosts A S) (h : FramesGhosts M) (k : h.Config) (m : AppSpec) (gives : Writing) (rules : Rules) (own : Addr) where
  abbrev link : GuardedLink h.Act
  link = guarded_link (h.spec k) rules

  record InTurns (all : List AnsweredFrame) (s : Station h.Act) : Type 0 where
    moves : List (FrameTrace h.Act)
    answered : map (λ it. it.answered) moves ≡ all
    at : map (λ it. it.station) moves ≡ stations_at m g.served link gives (frame_moves_of all) s
    each : All (HandsOutFrame link g.served own) moves
    turns : flat_map (λ it. it.turns) moves ≡ trace_over m g.served (steps_of m g.served link gives (frame_moves_of all) s) s.node

  abbrev turns_by : FrameMove → Station h.Act → List TraceEntry
  turns_by (Makes call) s = turns_of_call m g.served link call s
  turns_by (Gives number text) s = []

  abbrev traced : AnsweredFrame → Station h.Act → FrameTrace h.Act
  traced it s = record { answered = it; station = with_value gives it.move s; turns = turns_by it.move s }

  hands_out : (it : AnsweredFrame) (a b : FrameDevice A M S) (s : Station h.Act) → MovesOn g h k m gives rules own it.move a b it.handed s
      → HandsOutFrame link g.served own (traced it s)
  hands_out it a b s first = by it.move it.handed first.hands
    where
      by : (move : FrameMove) (handed : List ℕ) → handed ≡ frame_sent m g.served link gives own move s
          → HandsOutFrame link g.served own (record {
            answered = record { move = move; handed = handed };
            station = with_value gives move s;
            turns = turns_by move s;
          })
      by (Makes call) handed wrote = call_hands_out m g.served link own call s handed wrote
      by (Gives number text) handed wrote = record { over = refl; hands = wrote }

  -- the trace of a move, and of the steps after it
  move_turns : (move : FrameMove) (steps : List LineStep) (s : Station h.Act)
      → turns_by move s ++ trace_over m g.served steps (station_after_move m g.served link gives move s).node ≡ trace_over m g.served
      (steps_of_move m g.served link gives move s ++ steps) s.node
  move_turns (Makes call) steps s =
      let events : List Event = events_among (station_events_by link g.served s.node call) in
      ap (λ (n : AbstractNode). trace_of m g.served events s.node ++ trace_over m g.served steps n)
      (node_after m g.served (station_events_by link g.served s.node call) s)
      ∙ sym (turns_then m g.served events steps s.node)
  move_turns (Gives number text) steps s = refl

  in_turns : (all : List AnsweredFrame) (a c : FrameDevice A M S) (s : Station h.Act) → a.guard.rules ≡ rules
      → RepresentsStation g h k m own a s → AnswersAllFrames g h gives all a c → InTurns all s
  in_turns [] a c s same represented more = record { moves = []; answered = refl; at = refl; each = All-nil (HandsOutFrame link g.served own); turns = refl }
  in_turns (it ∷ all) a c s same represented more =
      let b : FrameDevice A M S = more.0 in
      let first : MovesOn g h k m gives rules own it.move a b it.handed s = moves_on g h k m gives rules own it.move a b it.handed s same represented more.1 in
      let next : Station h.Act = station_after_move m g.served link gives it.move s in
      let rest = in_turns all b c next first.rules_are first.represented more.2 in
      record {
        moves = traced it s ∷ rest.moves;
        answered = ap (λ l. it ∷ l) rest.answered;
        at = ap (λ (l : List (Station h.Act)). with_value gives it.move s ∷ l) rest.at;
        each = All-cons (HandsOutFrame link g.served own) (traced it s) rest.moves (hands_out it a b s first) rest.each;
        turns = ap (λ l. turns_by it.move s ++ l) rest.turns ∙ move_turns it.move (steps_of m g.served link gives (frame_moves_of all) next) s;
      }

  pub keeps_frames_by : (model : ℕ → OutputModel) → IsSteady m → SendsBytes m → HasOutputModel m model → KeepsU32 gives
      → DecodesBytes (h.spec k) → (numbers : List ℕ) → All IsU32 numbers → IsAddr own
      → (all : List AnsweredFrame) → All IsFrameOfBytes (frame_moves_of all) → (old new : FrameDevice A M S)
      → IsFreshFrameDevice g h k m numbers rules own old → AnswersAllFrames g h gives all old new
      → FramesConform link m model g.served own (stations_at m g.served link gives (frame_moves_of all) (initial_station own numbers)) all
  keeps_frames_by model steady bytes speaks low decodes numbers words is all brought old new fresh answered =
      let s : Station h.Act = initial_station own numbers in
      let steps : List LineStep = steps_of m g.served link gives (frame_moves_of all) s in
      let are : All (IsStep own) steps = steps_are m g.served link gives steady own is decodes low (frame_moves_of all) s brought
      (first_reached own numbers words) in
      let t = in_turns all old new s fresh.rules_are fresh.represented answered in
      let kept = every_step m model steady bytes speaks g.served own is numbers words steps are in
      record {
        moves = t.moves;
        answered = t.answered;
        at = t.at;
        each = t.each;
        keeps = subst (λ (l : List TraceEntry). TraceConforms model g.served l) (sym t.turns) kept.0;
        wire = subst (λ (l : List TraceEntry). TraceConforms model g.served (map (entry_on_wire (lens rules.key own)) l)) (sym t.turns)
            (wire_conforms model g.served (lens rules.key own) (lens_is_shift.shift rules.key own) _ kept.0);
        read = subst (λ (l : List TraceEntry). All (IsDecoded own) l) (sym t.turns) kept.1;
        arrives = λ pages lawful. subst (λ (l : List TraceEntry). ArrivesIn m pages l) (sym t.turns)
            (arrives_over_steps m pages lawful g.served own numbers words steps are);
      }

  -- of pages at every port
  pub keeps_frames : (pages : Pages) → IsPaged m pages → HasBytes pages → KeepsU32 gives → DecodesBytes (h.spec k) → (numbers : List ℕ)
      → All IsU32 numbers → IsAddr own
      → (all : List AnsweredFrame) → All IsFrameOfBytes (frame_moves_of all) → (old new : FrameDevice A M S)
      → IsFreshFrameDevice g h k m numbers rules own old → AnswersAllFrames g h gives all old new
      → FramesConform link m (at_every_port pages) g.served own (stations_at m g.served link gives (frame_moves_of all) (initial_station own numbers)) all
  keeps_frames pages lawful page = keeps_frames_by (at_every_port pages) (steady_of m pages lawful) (page_bytes m pages lawful page)
      (paged_everywhere m pages lawful)
