-- Calls of a program on a device: what they write in turn conforms, and goes home.
use Rattle.frame_device.proofs.Prelude.{reset_by, Verdict, Drop, Pass, Displace, lens, entry_on_wire, wire_conforms, lens_is_shift, Sockets}
use Rattle.frame_device.proofs.Prelude.{is_plain_syn, PlainSegment, has_rst, Arrived, connection_in, All, flat_map, ◌≡◌, ◌⊎◌, inl, inr, ℕ}
use Rattle.frame_device.proofs.Prelude.{◌==◌, ◌&&◌, ◌||◌, Bool, List, [], ◌∷◌, ◌++◌, drop, length, map, nat_lt, refl, sym, ap, ◌∙◌, subst}
use Rattle.frame_device.proofs.Prelude.{choose, bytes_eq, word_at, All-append, All-cons, All-head, All-nil, All-tail, IsAddr, IsU32}
use Rattle.frame_device.proofs.Prelude.{AppSpec, Addr, Event, AbstractNode, run, Periodic, MediumInput, OfMedium, OfNode, Station}
use Rattle.frame_device.proofs.Prelude.{events_among, TraceConforms, TraceEntry, IsDecoded, every_step, OutputModel, HasOutputModel}
use Rattle.frame_device.proofs.Prelude.{IsSteady, SendsBytes, Act, Pair, arp_brings, broadcast, frame_brings, is_arp, is_arp_for}
use Rattle.frame_device.proofs.Prelude.{is_datagram, is_taken, mac_at, payload_brings, sender_of, AllSound, DecodesBytes, GuardedLink}
use Rattle.frame_device.proofs.Prelude.{Rules, acts_before, AnsweredFrame, CallsSlot, DoesNothing, FrameCall, InputsFrame, Interface, Makes}
use Rattle.frame_device.proofs.Prelude.{by_verdict, ether_frames, false, true, guarded_ether, input_events, station_events_by}
use Rattle.frame_device.proofs.Prelude.{initial_station, HandsOutFrame, IsFrameOfBytes, FrameTrace, NewestInEachSlot}
use Rattle.frame_device.specs.ProgramCalls.{AnsweredBy, DidInTurn, GoHome, OfEach, Program, after_program_call, after_program_calls}
use Rattle.frame_device.specs.ProgramCalls.{before_program_call, program_calls, program_frame, program_stations, frames_made}
use Rattle.frame_device.specs.ProgramCalls.{counts_after_program_calls, counts_by_program_call, program_frames}
use Rattle.frame_device.proofs.Prelude.{GuardCounts}
use Rattle.frame_device.specs.ProgramKeeping.{ProgramConforms}
use Rattle.frame_device.proofs.HomeLaws.{call_home}
use Rattle.frame_device.proofs.KeepLaws.{Reached, call_hands_out, call_of_line, change_reached, first_reached, node_after, run_reached}
use Rattle.frame_device.proofs.KeepLaws.{turns_of_call}
use Rattle.frame_device.proofs.Newest.{newest_in_each_slot, node_over}
use Rattle.node_laws.proofs.HonestPeers.{arrives_over_steps}
use Rattle.node_laws.specs.LossyPeers.{ArrivesIn}
use Rattle.node_laws.specs.Prelude.{IsOfLine as IsEventOfLine}
use Rattle.node_laws.proofs.Steps.{Changes, OfNode as HappensAt, IsStep, LineStep, all_happen, trace_over, turns_then}

module _ {Call C : Type 0} (program : Program Call C) (m : AppSpec) (served : ℕ → Bool) (w : GuardedLink C) (own : Addr) where
  abbrev After : Call → Station C → Station C
  After call s = after_program_call program m served w own call s

  abbrev Each : (Call → Station C → Type 0) → List Call → Station C → Type 0
  Each P calls s = OfEach program m served w own P calls s

  -- ---- what holds of each call

  -- also what holds of the call alone
  pub each_with : (B : Call → Type 0) (P : Call → Station C → Type 0) (calls : List Call) (s : Station C) → All B calls → Each P calls s
      → Each (λ call at. B call × P call at) calls s
  each_with B P [] s are each = tt
  each_with B P (call ∷ calls) s are each = ((All-head B call calls are, each.0), each_with B P calls (After call s) (All-tail B call calls are) each.1)

  -- along an invariant of the stations
  module _ (I : Station C → Type 0) (stays : (call : Call) (s : Station C) → I s → I (After call s)) where
    pub each_by : (P Q : Call → Station C → Type 0) → ((call : Call) (s : Station C) → I s → P call s → Q call s)
        → (calls : List Call) (s : Station C) → I s → Each P calls s → Each Q calls s
    each_by P Q f [] s i each = tt
    each_by P Q f (call ∷ calls) s i each = (f call s i each.0, each_by P Q f calls (After call s) (stays call s i) each.1)

    pub at_end : (calls : List Call) (s : Station C) → I s → I (after_program_calls program m served w own calls s)
    at_end [] s i = i
    at_end (call ∷ calls) s i = at_end calls (After call s) (stays call s i)

  -- ---- exactness, from what one call does

  abbrev Counts : Call → Station C → GuardCounts → GuardCounts
  Counts call s counts = counts_by_program_call program m served w own call s counts

  module _ {K : Type 0} (Here : K → Station C → GuardCounts → Type 0) (P : Call → Station C → Type 0)
      (Did : Call → K → K → List ℕ → Type 0)
      (one : (call : Call) (s : Station C) (counts : GuardCounts) (a b : K) (handed : List ℕ) → Here a s counts → Did call a b handed
      → Here b (After call s) (Counts call s counts) × (handed ≡ program_frame program m served w own call s) × P call s) where
    pub record Exact (all : List (AnsweredBy Call)) (s : Station C) (counts : GuardCounts) (c : K) : Type 0 where
      pub frames : map (λ it. it.handed) all ≡ program_frames program m served w own (program_calls all) s
      pub each : Each P (program_calls all) s
      pub here : Here c (after_program_calls program m served w own (program_calls all) s)
          (counts_after_program_calls program m served w own (program_calls all) s counts)

    pub all_exact : (all : List (AnsweredBy Call)) (s : Station C) (counts : GuardCounts) (a c : K) → Here a s counts → DidInTurn Did all a c
        → Exact all s counts c
    all_exact [] s counts a c here same = record { frames = refl; each = tt; here = subst (λ (k : K). Here k s counts) same here }
    all_exact (it ∷ all) s counts a c here more =
        let first = one it.call s counts a more.0 it.handed here more.1 in
        let later = all_exact all (After it.call s) (Counts it.call s counts) more.0 c first.0 more.2 in
        record {
          frames = ap (λ (l : List ℕ). l ∷ map (λ x. x.handed) all) first.1
              ∙ ap (λ (ls : List (List ℕ)). program_frame program m served w own it.call s ∷ ls) later.frames;
          each = (first.2, later.each);
          here = later.here;
        }

  -- ---- the steps of the node

  abbrev Before : Call → Station C → Station C
  Before call s = before_program_call program m served w own call s

  abbrev pub events_of_call : Call → Station C → List Event
  events_of_call call s = events_among (station_events_by w served (Before call s).node (program.makes call))

  abbrev program_steps : List Call → Station C → List LineStep
  program_steps [] s = []
  program_steps (call ∷ calls) s = Changes (program.change call s) ∷ (map HappensAt (events_of_call call s) ++ program_steps calls (After call s))

  abbrev turns_by : Call → Station C → List TraceEntry
  turns_by call s = turns_of_call m served w (program.makes call) (Before call s)

  pub node_of_call : (call : Call) (s : Station C) → (After call s).node ≡ (run m served (events_of_call call s) (Before call s).node).node
  node_of_call call s = node_after m served (station_events_by w served (Before call s).node (program.makes call)) (Before call s)

  node_then : (events : List Event) (steps : List LineStep) (n : AbstractNode)
      → node_over m served (map HappensAt events ++ steps) n ≡ node_over m served steps (run m served events n).node
  node_then [] steps n = refl
  node_then (e ∷ es) steps n = node_then es steps _

  nodes_are : (calls : List Call) (s : Station C) → node_over m served (program_steps calls s) s.node
      ≡ (after_program_calls program m served w own calls s).node
  nodes_are [] s = refl
  nodes_are (call ∷ calls) s =
      node_then (events_of_call call s) (program_steps calls (After call s)) (Before call s).node
      ∙ ap (λ (n : AbstractNode). node_over m served (program_steps calls (After call s)) n) (sym (node_of_call call s)) ∙ nodes_are calls (After call s)

  -- the trace of a call, and of the steps after it
  call_turns : (call : Call) (steps : List LineStep) (s : Station C)
      → turns_by call s ++ trace_over m served steps (After call s).node ≡ trace_over m served (map HappensAt (events_of_call call s)
      ++ steps) (Before call s).node
  call_turns call steps s =
      ap (λ (n : AbstractNode). turns_by call s ++ trace_over m served steps n) (node_of_call call s)
      ∙ sym (turns_then m served (events_of_call call s) steps (Before call s).node)

  record InTurns (all : List (AnsweredBy Call)) (s : Station C) : Type 0 where
    moves : List (FrameTrace C)
    answered : map (λ it. it.answered) moves ≡ frames_made program all
    at : map (λ it. it.station) moves ≡ program_stations program m served w own (program_calls all) s
    each : All (HandsOutFrame w served own) moves
    turns : flat_map (λ it. it.turns) moves ≡ trace_over m served (program_steps (program_calls all) s) s.node

  first_same : (x y : List ℕ) (xs ys : List (List ℕ)) → x ∷ xs ≡ y ∷ ys → x ≡ y
  first_same x y xs ys e = cc

  others_same : (x y : List ℕ) (xs ys : List (List ℕ)) → x ∷ xs ≡ y ∷ ys → xs ≡ ys
  others_same x y xs ys e = cc

  in_turns : (all : List (AnsweredBy Call)) (s : Station C) → map (λ it. it.handed) all ≡ program_frames program m served w own
      (program_calls all) s → InTurns all s
  in_turns [] s wrote = record { moves = []; answered = refl; at = refl; each = All-nil (HandsOutFrame w served own); turns = refl }
  in_turns (it ∷ all) s wrote =
      let next : Station C = After it.call s in
      let sent : List ℕ = program_frame program m served w own it.call s in
      let others : List (List ℕ) = program_frames program m served w own (program_calls all) next in
      let rest = in_turns all next (others_same it.handed sent (map (λ x. x.handed) all) others wrote) in
      let one : AnsweredFrame = record { move = Makes (program.makes it.call); handed = it.handed } in
      let traced : FrameTrace C = record { answered = one; station = Before it.call s; turns = turns_by it.call s } in
      record {
        moves = traced ∷ rest.moves;
        answered = ap (λ (l : List AnsweredFrame). one ∷ l) rest.answered;
        at = ap (λ (l : List (Station C)). Before it.call s ∷ l) rest.at;
        each = All-cons (HandsOutFrame w served own) traced rest.moves
            (call_hands_out m served w own (program.makes it.call) (Before it.call s) it.handed
            (first_same it.handed sent (map (λ x. x.handed) all) others wrote)) rest.each;
        turns = ap (λ (l : List TraceEntry). turns_by it.call s ++ l) rest.turns ∙ call_turns it.call (program_steps (program_calls all) next) s;
      }

  -- ---- the law

  -- a received frame is bytes, and numbers of 32 bits stay such
  abbrev pub IsOfLine : Call → Station C → Type 0
  IsOfLine call s = IsFrameOfBytes (Makes (program.makes call)) × ((numbers : List ℕ) → All IsU32 numbers → All IsU32 (program.change call s numbers))

  module _ (steady : IsSteady m) (is_own : IsAddr own) (decodes : DecodesBytes w.link) where
    record OnLine (call : Call) (s : Station C) : Type 0 where
      before : Reached own (Before call s).node
      of : All (IsEventOfLine own) (events_of_call call s)
      reached : Reached own (After call s).node

    on_line : (call : Call) (s : Station C) → IsOfLine call s → Reached own s.node → OnLine call s
    on_line call s is r =
        let before : Reached own (Before call s).node = change_reached own (program.change call s) s.node (is.1 s.node.numbers r.ported.good.fit.numbers) r in
        let of : All (IsEventOfLine own) (events_of_call call s) = call_of_line own is_own w decodes served (Before call s).node before
        (program.makes call) is.0 in
        record {
          before = before;
          of = of;
          reached = subst (λ (n : AbstractNode). Reached own n) (sym (node_of_call call s))
              (run_reached m steady served own (events_of_call call s) (Before call s).node of before);
        }

    steps_are : (calls : List Call) (s : Station C) → Each IsOfLine calls s → Reached own s.node → All (IsStep own) (program_steps calls s)
    steps_are [] s each r = All-nil (IsStep own)
    steps_are (call ∷ calls) s each r =
        let here : OnLine call s = on_line call s each.0 r in
        All-cons (IsStep own) (Changes (program.change call s)) (map HappensAt (events_of_call call s) ++ program_steps calls (After call s)) each.0.1
        (All-append (IsStep own) (map HappensAt (events_of_call call s)) (program_steps calls (After call s)) (all_happen own (events_of_call call s) here.of)
        (steps_are calls (After call s) each.1 here.reached))

  pub program_conforms : DecodesBytes w.link → (model : ℕ → OutputModel) → IsSteady m → SendsBytes m → HasOutputModel m model
      → (numbers : List ℕ) → All IsU32 numbers → IsAddr own
      → (all : List (AnsweredBy Call)) → Each IsOfLine (program_calls all) (initial_station own numbers)
      → map (λ it. it.handed) all ≡ program_frames program m served w own (program_calls all) (initial_station own numbers)
      → ProgramConforms program m served w own model numbers all
  program_conforms decodes model steady bytes speaks numbers words is all each wrote =
      let s : Station C = initial_station own numbers in
      let calls : List Call = program_calls all in
      let steps : List LineStep = program_steps calls s in
      let are : All (IsStep own) steps = steps_are steady is decodes calls s each (first_reached own numbers words) in
      let t = in_turns all s wrote in
      let kept = every_step m model steady bytes speaks served own is numbers words steps are in
      record {
        frames = record {
          moves = t.moves;
          answered = t.answered;
          at = t.at;
          each = t.each;
          keeps = subst (λ (l : List TraceEntry). TraceConforms model served l) (sym t.turns) kept.0;
          wire = subst (λ (l : List TraceEntry). TraceConforms model served (map (entry_on_wire (lens w.rules.key own)) l)) (sym t.turns)
              (wire_conforms model served (lens w.rules.key own) (lens_is_shift.shift w.rules.key own) _ kept.0);
          read = subst (λ (l : List TraceEntry). All (IsDecoded own) l) (sym t.turns) kept.1;
          arrives = λ pages lawful. subst (λ (l : List TraceEntry). ArrivesIn m pages l) (sym t.turns)
              (arrives_over_steps m pages lawful served own numbers words steps are);
        };
        newest = subst (λ (l : List TraceEntry). NewestInEachSlot model (after_program_calls program m served w own calls s).node l) (sym t.turns)
            (subst (λ (n : AbstractNode). NewestInEachSlot model n (trace_over m served steps s.node)) (nodes_are calls s)
            (newest_in_each_slot m steady model speaks served own numbers words steps are));
      }

-- ---- over Ethernet

pub program_goes_home : {Call : Type 0} (program : Program Call Act) (m : AppSpec) (served : ℕ → Bool) (k : Interface) (rules : Rules)
    (own : Addr) → length k.host.mac ≡ 6 → (calls : List Call) (s : Station Act) → AllSound s.acts
    → GoHome program m served k rules own calls s
program_goes_home program m served k rules own six [] s sound = tt
program_goes_home program m served k rules own six (call ∷ calls) s sound =
    let this = call_home k six rules m served own (program.makes call) (before_program_call program m served (guarded_ether k rules) own call s) sound in
    (this.1, program_goes_home program m served k rules own six calls (after_program_call program m served (guarded_ether k rules) own call s) this.0)

-- ---- a call brings at most one event of the node, and before it the RST of a connection that is given up

abbrev pub IsFew : List Event → Type 0
IsFew events =
    (events ≡ []) ⊎ (((e : Event) × (events ≡ e ∷ []))
    ⊎ ((p : Sockets) × (r : PlainSegment) × (e : Event) × (is_plain_syn r ≡ false) × (has_rst r.flags ≡ true) × (events ≡ Arrived p r ∷ e ∷ [])))

pub periodic_events : {C : Type 0} (acts : List C) (slot : ℕ) → events_among (map OfMedium acts ++ OfNode (Periodic slot) ∷ []) ≡ Periodic slot ∷ []
periodic_events [] slot = refl
periodic_events (a ∷ acts) slot = periodic_events acts slot

module _ (k : Interface) (rules : Rules) (served : ℕ → Bool) (n : AbstractNode) where
  abbrev FewOf : List (MediumInput Act) → Type 0
  FewOf cs = IsFew (events_among (flat_map (input_events rules served n) cs))

  verdict_few : (e : Event) (v : Verdict) → IsFew (events_among {A = Act} (map OfNode (by_verdict n e v) ++ []))
  verdict_few e Drop = inl refl
  verdict_few e Pass = inr (inl (e, refl))
  verdict_few e (Displace slot) = inr (inr ((connection_in slot n).sockets, reset_by (connection_in slot n), e, refl, refl, refl))

  arp_few : (operation : ℕ) (sender : Pair) → FewOf (arp_brings operation sender)
  arp_few operation sender =
      choose (λ (l : List (MediumInput Act)). FewOf l) (operation == 1) _ _ (λ e. inl refl)
      (λ e. choose (λ (l : List (MediumInput Act)). FewOf l) (operation == 2) _ _ (λ f. inl refl) (λ f. inl refl))

  payload_few : (kind : ℕ) (payload : List ℕ) → FewOf (payload_brings k.host kind payload)
  payload_few kind payload =
      choose (λ (l : List (MediumInput Act)). FewOf l) (is_datagram kind && nat_lt 0 (length payload)) _ _ (λ e. verdict_few _ _)
      (λ e. choose (λ (l : List (MediumInput Act)). FewOf l) (is_arp kind && is_arp_for k.host.addr payload) _ _
      (λ f. arp_few (word_at payload 6) (sender_of payload)) (λ f. inl refl))

  frame_few : (frame : List ℕ) → FewOf (frame_brings k.host frame)
  frame_few frame =
      choose (λ (l : List (MediumInput Act)). FewOf l) (bytes_eq (mac_at frame 0) k.host.mac || bytes_eq (mac_at frame 0) broadcast) _ _
      (λ e. payload_few (word_at frame 12) (drop 14 frame)) (λ e. inl refl)

  pub call_few : (call : FrameCall) → IsFew (events_among (station_events_by (guarded_ether k rules) served n call))
  call_few (InputsFrame frame) =
      choose (λ (l : List (MediumInput Act)). FewOf l) (is_taken frame) _ _ (λ e. frame_few frame) (λ e. inl refl)
  call_few (CallsSlot slot) = inr (inl (Periodic slot, periodic_events (acts_before (ether_frames k) slot) slot))
  call_few DoesNothing = inl refl
