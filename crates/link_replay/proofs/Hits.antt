-- A file's hits as a count over the events of a node.
-- [add: state] A request that arrives in it.
use Rattle.link_replay.proofs.Prelude.{◌≡◌, ℕ, zero, suc, ◌+◌, ◌%◌, ◌^◌, ◌<◌, Bool, true, false, not, ◌&&◌, ◌||◌, if◌then◌else◌, List, []}
use Rattle.link_replay.proofs.Prelude.{◌∷◌, length, get_or, set, replicate, refl, sym, ap, ◌∙◌, subst, arith, eqb, eq-eqb, ltb, Option}
use Rattle.link_replay.proofs.Prelude.{Some, None, slice_get, slice_index_or, position, length-set, REST_TIME, get_or-set_other}
use Rattle.link_replay.proofs.Prelude.{get_or-set_same, wrap, PlainSegment, has_fin, has_rst, beat_at, Beat, AppState, After, AppSpec, Now}
use Rattle.link_replay.proofs.Prelude.{Ending, State, Closed, SynRcvd, Established, CloseWait, FinWait1, FinWait2, Closing, TimeWait}
use Rattle.link_replay.proofs.Prelude.{LastAck, Want, Nothing, Send, Close, Abort, File, Connection, Sockets, closed, serves, is_plain_syn}
use Rattle.link_replay.proofs.Prelude.{Outcome, after_own_fin, closes, peer_has_closed, idles, does_as_wanted, prepared, asked_for, asked}
use Rattle.link_replay.proofs.Prelude.{accept, in_state, takes, reported_end, with_window, delivers_text, is_out_of_order, is_acked, rests}
use Rattle.link_replay.proofs.Prelude.{has_text, in_established, peer_closes, stays_established, fin_acked, fin_waits, with_part, by_state}
use Rattle.link_replay.proofs.Prelude.{on_segment, grows_older, limit_of, outstanding, by_beat, rests_on, ticks_established, tick_by}
use Rattle.link_replay.proofs.Prelude.{on_tick, Step, initial_number, Event, IpRefused, IcmpRefused, TcpRefused, EchoAsked, Arrived}
use Rattle.link_replay.proofs.Prelude.{Overlong, Periodic, AbstractNode, NodeStep, arrives_at, connection_in, for_no_connection, happened}
use Rattle.link_replay.proofs.Prelude.{snapshot, initial_node, opens, opens_in, run, slot_for_syn, step, place_of, Wanted, wanted, NotYet}
use Rattle.link_replay.proofs.Prelude.{Refused, Name, is_served, no_hits, hit_at, hits_by, is_acknowledged, waits_for_capture, web_spec}
use Rattle.link_replay.proofs.Prelude.{choose, eqb-eq, wrap_wrap, Inside, slot_inside, position_in, all_closed, get_set, index_none}
use Rattle.link_replay.proofs.Prelude.{index_of, set_past, here, there, HitsAreCounted, becomes_hit, hits_over, is_place, one_hits}

-- ---- one connection

abbrev asks : Connection → Wanted
asks c = wanted c.part.input

-- the numbers after a step, by what was asked for before and after
module _ (files : List File) where
  abbrev m : AppSpec
  m = web_spec files

  -- before a connection is open nothing was received
  abbrev Fresh : State → Connection → Type 0
  Fresh SynRcvd c = c.part.input ≡ []
  Fresh _ c = Unit {0}

  record Counts (before : Wanted) (numbers : List ℕ) (o : Outcome) : Type 0 where
    hits : o.numbers ≡ hits_by files numbers before (asks o.connection)
    fresh : Fresh o.connection.state o.connection

  same_by : (numbers : List ℕ) (w : Wanted) → hits_by files numbers w w ≡ numbers
  same_by numbers NotYet = refl
  same_by numbers Refused = refl
  same_by numbers (Name name) = refl

  late : (st : State) (c d : Connection) → d.part.input ≡ c.part.input → Fresh st c → Fresh st d
  late SynRcvd c d e h = e ∙ h
  late _ c d e h = tt

  -- a step in which nothing is received
  quiet : (c d : Connection) (numbers : List ℕ) (s : Step) → d.part.input ≡ c.part.input → Fresh d.state d
      → Counts (asks c) numbers (record { connection = d; numbers = numbers; step = s })
  quiet c d numbers s e f = record { hits = sym (same_by numbers (asks c)) ∙ ap (λ xs. hits_by files numbers (asks c) (wanted xs)) (sym e); fresh = f }

  at_state : (d : Connection) (st : State) → d.state ≡ st → Fresh st d → Fresh d.state d
  at_state d st e h = subst (λ x. Fresh x d) (sym e) h

  fin_fresh : (d : Connection) (st : State) → Fresh (after_own_fin st) d
  fin_fresh d Closed = tt
  fin_fresh d _ = tt

  reported_same : (how : Ending) (st : State) (p : AppState) (numbers : List ℕ) → reported_end m how st p numbers ≡ numbers
  reported_same how Closed p numbers = refl
  reported_same how _ p numbers = refl

  closes_counts : (c : Connection) (how : Ending) (numbers : List ℕ) (s : Step)
      → Counts (asks c) numbers (record { connection = closes c; numbers = reported_end m how c.state c.part numbers; step = s })
  closes_counts c how numbers s = record { hits = reported_same how c.state c.part numbers ∙ sym (same_by numbers (asks c)); fresh = tt }

  -- what the application receives
  receives_hits : (numbers : List ℕ) (p : AppState) (text : List ℕ) → (delivers_text m numbers p text).numbers ≡ hits_by files numbers
      (wanted p.input) (wanted (delivers_text m numbers p text).part.input)
  receives_hits numbers p [] = sym (same_by numbers (wanted p.input))
  receives_hits numbers p (x ∷ xs) = refl

  -- ---- asking

  record Like (o r : Outcome) : Type 0 where
    numbers : r.numbers ≡ o.numbers
    input : r.connection.part.input ≡ o.connection.part.input
    fresh : Fresh r.connection.state r.connection

  wanted_like : (w : Want) (fresh : Bool) (c : Connection) (o : Outcome) → c.part.input ≡ o.connection.part.input → Fresh c.state c
      → Like o (does_as_wanted w fresh c o.numbers)
  unfolding idles
  wanted_like Abort fresh c o e f = record { numbers = refl; input = e; fresh = tt }
  wanted_like Close fresh c o e f = record { numbers = refl; input = e; fresh = fin_fresh (does_as_wanted Close fresh c o.numbers).connection c.state }
  wanted_like (Send n) fresh c o e f = record {
    numbers = refl;
    input = e;
    fresh = late c.state c (does_as_wanted (Send n) fresh c o.numbers).connection refl f;
  }
  wanted_like Nothing fresh c o e f =
      choose (λ (r : Outcome). Like o r) (peer_has_closed c.state) _ _ (λ x. record { numbers = refl; input = e; fresh = tt })
      (λ x. choose (λ (r : Outcome). Like o r) fresh _ _ (λ y. record { numbers = refl; input = e; fresh = f })
      (λ y. record { numbers = refl; input = e; fresh = f }))

  asked_for_like : (at : Connection → Now) (o : Outcome) (s : Step) → Fresh o.connection.state o.connection → Like o (asked_for m at o s)
  asked_for_like at o (Step.Ask fresh) f =
      let now : Now = at o.connection in
      let b : Connection = prepared m now o.connection o.numbers in
      let same : b.part.input ≡ o.connection.part.input =
      choose (λ (p : AppState). p.input ≡ o.connection.part.input) (is_acknowledged files o.connection.part && waits_for_capture files
      (wanted o.connection.part.input) o.connection.part) _ _ (λ e. refl) (λ e. refl) in
      wanted_like (m.want o.numbers (m.prepare o.numbers o.connection.part now)) fresh b o same (late o.connection.state o.connection b same f)
  asked_for_like at o Step.Drop f = record { numbers = refl; input = refl; fresh = f }
  asked_for_like at o _ f = record { numbers = refl; input = refl; fresh = f }

  asked_counts : (at : Connection → Now) (before : Wanted) (numbers : List ℕ) (o : Outcome) → Counts before numbers o → Counts before numbers (asked m at o)
  asked_counts at before numbers o h =
      let l = asked_for_like at o o.step h.fresh in
      record { hits = l.numbers ∙ h.hits ∙ ap (λ xs. hits_by files numbers before (wanted xs)) (sym l.input); fresh = l.fresh }

  -- ---- a segment

  closes_in : (c : Connection) (numbers : List ℕ) (s : PlainSegment) → Counts (asks c) numbers (peer_closes m c numbers s)
  unfolding peer_closes
  closes_in c numbers s =
      choose (λ (o : Outcome). Counts (asks c) numbers o) (ltb 0 c.len) _ _
      (λ e. record { hits = receives_hits numbers c.part s.text; fresh = tt }) (λ e. record { hits = receives_hits numbers c.part s.text; fresh = tt })

  goes_on_in : (acked : Bool) (c : Connection) (numbers : List ℕ) (s : PlainSegment) → c.state ≡ Established
      → Counts (asks c) numbers (stays_established m acked c numbers s)
  unfolding stays_established
  goes_on_in acked c numbers s st =
      let d : Connection = with_window s.window (with_part (delivers_text m numbers c.part s.text).part (takes (length s.text) c)) in
      let f : Fresh d.state d = at_state d Established st tt in
      choose (λ (o : Outcome). Counts (asks c) numbers o) (not acked && not (has_text s)) _ _
      (λ e. record { hits = receives_hits numbers c.part s.text; fresh = f })
      (λ e. choose (λ (o : Outcome). Counts (asks c) numbers o) (ltb 0 c.len) _ _
      (λ g. record { hits = receives_hits numbers c.part s.text; fresh = f }) (λ g. record { hits = receives_hits numbers c.part s.text; fresh = f }))

  established_counts : (acked : Bool) (c : Connection) (numbers : List ℕ) (s : PlainSegment) → c.state ≡ Established
      → Counts (asks c) numbers (in_established m acked c numbers s)
  unfolding in_established
  established_counts acked c numbers s st = choose (λ (o : Outcome). Counts (asks c) numbers o) (has_fin s.flags) _ _
      (λ e. closes_in c numbers s) (λ e. goes_on_in acked c numbers s st)

  by_state_counts : (st : State) (acked : Bool) (c : Connection) (numbers : List ℕ) (s : PlainSegment) → c.state ≡ st → Fresh st c
      → Counts (asks c) numbers (by_state m st acked c numbers s)
  unfolding fin_acked fin_waits
  by_state_counts Closed acked c numbers s e f = quiet c c numbers Step.Drop refl (at_state c Closed e tt)
  by_state_counts SynRcvd true c numbers s e f =
      let start : After = m.connected numbers c.sockets.own_port.0 in
      let o : Outcome = by_state m SynRcvd true c numbers s in
      record { hits = receives_hits start.numbers start.part s.text ∙ ap (λ xs. hits_by files numbers (wanted xs) (asks o.connection)) (sym f); fresh = tt }
  by_state_counts SynRcvd false c numbers s e f = quiet c c numbers Step.Drop refl (at_state c SynRcvd e f)
  by_state_counts Established true c numbers s e f =
      let reported : After = m.acked numbers c.part c.len in
      established_counts true (with_part reported.part (rests c)) reported.numbers s e
  by_state_counts Established false c numbers s e f = established_counts false c numbers s e
  by_state_counts CloseWait true c numbers s e f =
      let d : Connection = with_window s.window (with_part (m.acked numbers c.part c.len).part (rests c)) in
      quiet c d numbers (Step.Ask false) refl (at_state d CloseWait e tt)
  by_state_counts CloseWait false c numbers s e f = let d : Connection = with_window s.window c in quiet c d numbers Step.Drop refl (at_state d CloseWait e tt)
  by_state_counts FinWait1 true c numbers s e f =
      choose (λ (o : Outcome). Counts (asks c) numbers o) (has_fin s.flags) _ _
      (λ g. quiet c (in_state TimeWait (takes (length s.text + 1) (rests c))) numbers Step.Ack refl tt)
      (λ g. quiet c (in_state FinWait2 (takes (length s.text) (rests c))) numbers Step.Drop refl tt)
  by_state_counts FinWait1 false c numbers s e f =
      choose (λ (o : Outcome). Counts (asks c) numbers o) (has_fin s.flags) _ _
      (λ g. quiet c (in_state Closing (takes (length s.text + 1) c)) numbers Step.Ack refl tt)
      (λ g. choose (λ (o : Outcome). Counts (asks c) numbers o) (has_text s) _ _
      (λ h. let d : Connection = takes (length s.text) c in quiet c d numbers Step.Ack refl (at_state d FinWait1 e tt))
      (λ h. quiet c c numbers Step.Drop refl (at_state c FinWait1 e tt)))
  by_state_counts FinWait2 acked c numbers s e f =
      choose (λ (o : Outcome). Counts (asks c) numbers o) (has_fin s.flags) _ _
      (λ g. quiet c (record (in_state TimeWait (takes (length s.text + 1) c)) { age = 0 }) numbers Step.Ack refl tt)
      (λ g. choose (λ (o : Outcome). Counts (asks c) numbers o) (has_text s) _ _
      (λ h. let d : Connection = takes (length s.text) c in quiet c d numbers Step.Ack refl (at_state d FinWait2 e tt))
      (λ h. quiet c c numbers Step.Drop refl (at_state c FinWait2 e tt)))
  by_state_counts Closing true c numbers s e f = quiet c (in_state TimeWait (rests c)) numbers Step.Drop refl tt
  by_state_counts Closing false c numbers s e f = quiet c c numbers Step.Drop refl (at_state c Closing e tt)
  by_state_counts LastAck true c numbers s e f = quiet c (closes (rests c)) numbers Step.Drop refl tt
  by_state_counts LastAck false c numbers s e f = quiet c c numbers Step.Drop refl (at_state c LastAck e tt)
  by_state_counts TimeWait acked c numbers s e f = quiet c c numbers Step.Ack refl (at_state c TimeWait e tt)

  segment_counts : (c : Connection) (numbers : List ℕ) (s : PlainSegment) → Fresh c.state c → Counts (asks c) numbers (on_segment m c numbers s)
  unfolding on_segment
  segment_counts c numbers s f =
      choose (λ (o : Outcome). Counts (asks c) numbers o) (has_rst s.flags) _ _ (λ e. closes_counts c Ending.Reset numbers Step.Drop)
      (λ e. choose (λ (o : Outcome). Counts (asks c) numbers o) (is_out_of_order c s) _ _ (λ g. quiet c c numbers Step.Ack refl f)
      (λ g. by_state_counts c.state (is_acked c s) c numbers s refl f))

  -- ---- a tick

  by_beat_counts : (b : Beat) (c : Connection) (numbers : List ℕ) → Fresh c.state c → Counts (asks c) numbers (by_beat m b c numbers)
  by_beat_counts Beat.Wait c numbers f = quiet c (grows_older c) numbers Step.Drop refl (late c.state c (grows_older c) refl f)
  by_beat_counts Beat.Again c numbers f = quiet c (grows_older c) numbers (outstanding true c.state) refl (late c.state c (grows_older c) refl f)
  by_beat_counts Beat.GiveUp c numbers f = closes_counts c Ending.TimedOut numbers Step.Reset

  rests_counts : (c : Connection) (numbers : List ℕ) → Fresh c.state c → Counts (asks c) numbers (rests_on c numbers)
  unfolding rests_on
  rests_counts c numbers f =
      choose (λ (o : Outcome). Counts (asks c) numbers o) (eqb (c.age + 1) REST_TIME) _ _ (λ e. quiet c (closes c) numbers Step.Drop refl tt)
      (λ e. quiet c (grows_older c) numbers Step.Drop refl (late c.state c (grows_older c) refl f))

  tick_by_counts : (st : State) (c : Connection) (numbers : List ℕ) → c.state ≡ st → Fresh c.state c → Counts (asks c) numbers (tick_by m st c numbers)
  unfolding ticks_established
  tick_by_counts Closed c numbers e f = quiet c c numbers Step.Drop refl f
  tick_by_counts SynRcvd c numbers e f = by_beat_counts (beat_at (limit_of c.state) (c.age + 1)) c numbers f
  tick_by_counts Established c numbers e f =
      choose (λ (o : Outcome). Counts (asks c) numbers o) (ltb 0 c.len) _ _ (λ g. by_beat_counts (beat_at (limit_of c.state) (c.age + 1)) c numbers f)
      (λ g. let d : Connection = with_part (m.polled numbers c.part).part c in quiet c d numbers (Step.Ask false) refl (at_state d Established e tt))
  tick_by_counts CloseWait c numbers e f = by_beat_counts (beat_at (limit_of c.state) (c.age + 1)) c numbers f
  tick_by_counts FinWait1 c numbers e f = by_beat_counts (beat_at (limit_of c.state) (c.age + 1)) c numbers f
  tick_by_counts FinWait2 c numbers e f = rests_counts c numbers f
  tick_by_counts Closing c numbers e f = by_beat_counts (beat_at (limit_of c.state) (c.age + 1)) c numbers f
  tick_by_counts TimeWait c numbers e f = rests_counts c numbers f
  tick_by_counts LastAck c numbers e f = by_beat_counts (beat_at (limit_of c.state) (c.age + 1)) c numbers f

  -- ---- the connections of a node

  abbrev AllFresh : List Connection → Type 0
  AllFresh cs = (i : ℕ) (c : Connection) → slice_get cs i ≡ Some c → Fresh c.state c

  fresh_at : (cs : List Connection) (i : ℕ) → AllFresh cs → Fresh (slice_index_or cs i closed).state (slice_index_or cs i closed)
  fresh_at [] i h = tt
  fresh_at (c ∷ cs) zero h = h zero c refl
  fresh_at (c ∷ cs) (suc i) h = fresh_at cs i (λ j x g. h (suc j) x g)

  set_fresh : (cs : List Connection) (slot : ℕ) (new : Connection) → Fresh new.state new → AllFresh cs → AllFresh (set cs slot new)
  set_fresh cs slot new f h i c x = elim (get_set cs slot new i c x) [ here e q ↦ subst (λ (y : Connection). Fresh y.state y) q f | there n g ↦ h i c g ]

  same_no_hit : (place : ℕ) (w : Wanted) → becomes_hit files place w w ≡ false
  same_no_hit place NotYet = refl
  same_no_hit place Refused = refl
  same_no_hit place (Name name) = refl

  none_hits : (place : ℕ) (cs : List Connection) → one_hits files place cs cs ≡ false
  none_hits place [] = refl
  none_hits place (c ∷ cs) = ap (λ b. b || one_hits files place cs cs) (same_no_hit place (asks c)) ∙ none_hits place cs

  or_false : (b : Bool) → b || false ≡ b
  or_false true = refl
  or_false false = refl

  -- of a slot that was written
  one_of : (place : ℕ) (cs : List Connection) (slot : ℕ) (old new : Connection) → slice_get cs slot ≡ Some old
      → one_hits files place cs (set cs slot new) ≡ becomes_hit files place (asks old) (asks new)
  one_of place [] slot old new x = absurd (cc)
  one_of place (c ∷ cs) zero old new x =
      let e : c ≡ old = cc in
      ap (λ b. becomes_hit files place (asks c) (asks new) || b) (none_hits place cs)
      ∙ or_false (becomes_hit files place (asks c) (asks new)) ∙ ap (λ (y : Connection). becomes_hit files place (asks y) (asks new)) e
  one_of place (c ∷ cs) (suc slot) old new x = ap (λ b. b || one_hits files place cs (set cs slot new)) (same_no_hit place (asks c))
      ∙ one_of place cs slot old new x

  -- ---- the number at a place

  -- one more, where this is a hit
  abbrev next : Bool → ℕ → ℕ
  next b n = if b then wrap (n + 1) else n

  hit_there : (numbers : List ℕ) (place : ℕ) (o : Option ℕ) → place < length numbers → get_or (hit_at numbers o) place 0
      ≡ next (is_place place o) (get_or numbers place 0)
  hit_there numbers place None l = refl
  hit_there numbers place (Some found) l = at (eqb found place) refl
    where
      at : (b : Bool) → eqb found place ≡ b → get_or (hit_at numbers (Some found)) place 0 ≡ next b (get_or numbers place 0)
      at true e =
          let same : found ≡ place = eqb-eq found place e in
          subst (λ k. get_or (set numbers k ((get_or numbers k 0 + 1) % 2 ^ 32)) place 0 ≡ wrap (get_or numbers place 0 + 1)) (sym same)
          (get_or-set_same numbers place ((get_or numbers place 0 + 1) % 2 ^ 32) 0 l)
      at false e = get_or-set_other numbers found place ((get_or numbers found 0 + 1) % 2 ^ 32) 0
          (λ p. absurd (let z : eqb found place ≡ true = eq-eqb found place (sym p) in cc))

  counts_there : (numbers : List ℕ) (place : ℕ) (w v : Wanted) → place < length numbers → get_or (hits_by files numbers w v) place 0
      ≡ next (becomes_hit files place w v) (get_or numbers place 0)
  counts_there numbers place NotYet NotYet l = refl
  counts_there numbers place NotYet Refused l = refl
  counts_there numbers place NotYet (Name name) l = hit_there numbers place (place_of files name) l
  counts_there numbers place Refused v l = refl
  counts_there numbers place (Name name) v l = refl

  length_hit : (numbers : List ℕ) (o : Option ℕ) → length (hit_at numbers o) ≡ length numbers
  length_hit numbers None = refl
  length_hit numbers (Some found) = length-set numbers found ((get_or numbers found 0 + 1) % 2 ^ 32)

  length_by : (numbers : List ℕ) (w v : Wanted) → length (hits_by files numbers w v) ≡ length numbers
  length_by numbers NotYet NotYet = refl
  length_by numbers NotYet Refused = refl
  length_by numbers NotYet (Name name) = length_hit numbers (place_of files name)
  length_by numbers Refused v = refl
  length_by numbers (Name name) v = refl

  -- ---- an event

  record Stepped (place : ℕ) (n d : AbstractNode) : Type 0 where
    fresh : AllFresh d.connections
    size : length d.numbers ≡ length n.numbers
    count : place < length n.numbers → get_or d.numbers place 0 ≡ next (one_hits files place n.connections d.connections) (get_or n.numbers place 0)

  still : (place : ℕ) (n d : AbstractNode) → d.connections ≡ n.connections → d.numbers ≡ n.numbers → AllFresh n.connections → Stepped place n d
  still place n d ec en f = record {
    fresh = subst (λ cs. AllFresh cs) (sym ec) f;
    size = ap length en;
    count = λ l. ap (λ xs. get_or xs place 0) en ∙ ap (λ b. next b (get_or n.numbers place 0))
        (sym (ap (one_hits files place n.connections) ec ∙ none_hits place n.connections));
  }

  -- a connection in a slot took a step
  slot_stepped : (place : ℕ) (n d : AbstractNode) (slot : ℕ) (old : Connection) (o : Outcome) → d.connections ≡ set n.connections slot
      o.connection → d.numbers ≡ o.numbers → slice_get n.connections slot ≡ Some old → Counts (asks old) n.numbers o
      → AllFresh n.connections → Stepped place n d
  slot_stepped place n d slot old o ec en x h f = record {
    fresh = subst (λ cs. AllFresh cs) (sym ec) (set_fresh n.connections slot o.connection h.fresh f);
    size = ap length (en ∙ h.hits) ∙ length_by n.numbers (asks old) (asks o.connection);
    count = λ l. ap (λ xs. get_or xs place 0) (en ∙ h.hits) ∙ counts_there n.numbers place (asks old) (asks o.connection) l
        ∙ ap (λ b. next b (get_or n.numbers place 0)) (sym (ap (one_hits files place n.connections) ec ∙ one_of place n.connections slot old o.connection x));
  }

  happened_stepped : (place : ℕ) (n : AbstractNode) (event : Event) (slot : ℕ) (c old : Connection) (o : Outcome)
      → slice_get n.connections slot ≡ Some old → Counts (asks old) n.numbers o → AllFresh n.connections
      → Stepped place n (happened m n event slot c o).node
  unfolding happened
  happened_stepped place n event slot c old o x h f = slot_stepped place n (happened m n event slot c o).node slot old o refl refl x h f

  opened_stepped : (place : ℕ) (n : AbstractNode) (sockets : Sockets) (s : PlainSegment) (slot : Option ℕ)
      → ((i : ℕ) → slot ≡ Some i → Inside n.connections i) → AllFresh n.connections → Stepped place n (opens m n sockets s slot).node
  unfolding opens_in happened
  opened_stepped place n sockets s None i f = still place n (opens m n sockets s None).node refl refl f
  opened_stepped place n sockets s (Some slot) i f =
      let there = i slot refl in
      let o : Outcome = accept (initial_number n.history) sockets s n.numbers in
      slot_stepped place n (opens m n sockets s (Some slot)).node slot there.item o refl refl there.get
      record { hits = sym (fresh_by n.numbers (asks there.item)); fresh = refl } f
    where
      -- a connection that is opened asks for nothing
      fresh_by : (numbers : List ℕ) (w : Wanted) → hits_by files numbers w NotYet ≡ numbers
      fresh_by numbers NotYet = refl
      fresh_by numbers Refused = refl
      fresh_by numbers (Name name) = refl

  stranger_stepped : (place : ℕ) (n : AbstractNode) (sockets : Sockets) (s : PlainSegment) → AllFresh n.connections
      → Stepped place n (for_no_connection m is_served n sockets s).node
  unfolding for_no_connection
  stranger_stepped place n sockets s f =
      choose (λ (x : NodeStep). Stepped place n x.node) (is_plain_syn s && is_served sockets.own_port.0) _ _
      (λ e. opened_stepped place n sockets s (slot_for_syn n.connections) (slot_inside n.connections) f)
      (λ e. choose (λ (x : NodeStep). Stepped place n x.node) (has_rst s.flags) _ _ (λ g. still place n _ refl refl f) (λ g. still place n _ refl refl f))

  -- the connection in a slot
  at_slot : (place : ℕ) (n : AbstractNode) (event : Event) (slot : ℕ) (old : Connection) (o : Connection → Outcome)
      → slice_get n.connections slot ≡ Some old → ((c : Connection) → Fresh c.state c → Counts (asks c) n.numbers (o c)) → AllFresh n.connections
      → Stepped place n (happened m n event slot (connection_in slot n) (o (connection_in slot n))).node
  at_slot place n event slot old o x h f =
      let e : connection_in slot n ≡ old = index_of n.connections slot closed old x in
      subst (λ c. Stepped place n (happened m n event slot c (o c)).node) (sym e) (happened_stepped place n event slot old old (o old) x
      (h old (f slot old x)) f)

  arrived_stepped : (place : ℕ) (n : AbstractNode) (sockets : Sockets) (s : PlainSegment) (found : Option ℕ)
      → ((i : ℕ) → found ≡ Some i → Inside n.connections i) → AllFresh n.connections → Stepped place n (arrives_at m is_served n sockets s found).node
  arrived_stepped place n sockets s None i f = stranger_stepped place n sockets s f
  arrived_stepped place n sockets s (Some slot) i f =
      let there = i slot refl in
      at_slot place n (Arrived sockets s) slot there.item (λ c. asked m (snapshot n (Arrived sockets s) slot) (on_segment m c n.numbers s)) there.get
      (λ c g. asked_counts (snapshot n (Arrived sockets s) slot) (asks c) n.numbers (on_segment m c n.numbers s) (segment_counts c n.numbers s g)) f

  -- a slot past the table is CLOSED, and nothing changes
  past_slot : (place : ℕ) (n : AbstractNode) (slot : ℕ) → slice_get n.connections slot ≡ None → AllFresh n.connections
      → Stepped place n (step m is_served n (Periodic slot)).node
  unfolding happened
  past_slot place n slot x f =
      let e : connection_in slot n ≡ closed = index_none n.connections slot closed x in
      subst (λ c. Stepped place n (happened m n (Periodic slot) slot c (asked m (snapshot n (Periodic slot) slot) (on_tick m c n.numbers))).node) (sym e)
      (still place n _ (set_past n.connections slot closed x) refl f)

  periodic_stepped : (place : ℕ) (n : AbstractNode) (slot : ℕ) (at : Option Connection) → slice_get n.connections slot ≡ at
      → AllFresh n.connections → Stepped place n (step m is_served n (Periodic slot)).node
  periodic_stepped place n slot None x f = past_slot place n slot x f
  periodic_stepped place n slot (Some old) x f =
      at_slot place n (Periodic slot) slot old (λ c. asked m (snapshot n (Periodic slot) slot) (on_tick m c n.numbers)) x
      (λ c g. asked_counts (snapshot n (Periodic slot) slot) (asks c) n.numbers (on_tick m c n.numbers) (tick_by_counts c.state c n.numbers refl g)) f

  step_stepped : (place : ℕ) (n : AbstractNode) (event : Event) → AllFresh n.connections → Stepped place n (step m is_served n event).node
  step_stepped place n (IpRefused fate) f = still place n _ refl refl f
  step_stepped place n (IcmpRefused fate) f = still place n _ refl refl f
  step_stepped place n (TcpRefused fate) f = still place n _ refl refl f
  step_stepped place n (EchoAsked datagram) f = still place n _ refl refl f
  step_stepped place n (Arrived sockets s) f = arrived_stepped place n sockets s (position (serves sockets) n.connections)
      (λ i x. position_in (serves sockets) n.connections i x) f
  step_stepped place n Overlong f = still place n _ refl refl f
  step_stepped place n (Periodic slot) f = periodic_stepped place n slot (slice_get n.connections slot) refl f

  -- ---- a run

  more : (b : Bool) (n later : ℕ) → wrap (next b n + later) ≡ wrap (n + (if b then later + 1 else later))
  more true n later = wrap_wrap (n + 1) later ∙ ap wrap (let z : n + 1 + later ≡ n + (later + 1) = omega arith in z)
  more false n later = refl

  run_counts : (place : ℕ) (events : List Event) (n : AbstractNode) → place < length n.numbers → AllFresh n.connections
      → get_or n.numbers place 0 ≡ wrap (get_or n.numbers place 0)
      → get_or (run m is_served events n).node.numbers place 0 ≡ wrap (get_or n.numbers place 0 + hits_over files place events n)
  run_counts place [] n l f w = w ∙ ap wrap (let z : get_or n.numbers place 0 ≡ get_or n.numbers place 0 + 0 = omega arith in z)
  run_counts place (e ∷ es) n l f w =
      let d : AbstractNode = (step m is_served n e).node in
      let s = step_stepped place n e f in
      let hit : Bool = one_hits files place n.connections d.connections in
      let count : get_or d.numbers place 0 ≡ next hit (get_or n.numbers place 0) = s.count l in
      let low : get_or d.numbers place 0 ≡ wrap (get_or d.numbers place 0) = subst (λ k. k ≡ wrap k) (sym count) (low_next hit (get_or n.numbers place 0) w) in
      let size = s.size in
      run_counts place es d (omega (arith, l, size)) s.fresh low
      ∙ ap (λ k. wrap (k + hits_over files place es d)) count
      ∙ more hit (get_or n.numbers place 0) (hits_over files place es d)
    where
      low_next : (b : Bool) (k : ℕ) → k ≡ wrap k → next b k ≡ wrap (next b k)
      low_next true k h = let z : wrap (k + 1) ≡ wrap (wrap (k + 1)) = omega arith in z
      low_next false k h = h

abbrev zeros : ℕ → List ℕ
zeros n = replicate n 0

zero_at : (n place : ℕ) → get_or (zeros n) place 0 ≡ 0
zero_at zero place = refl
zero_at (suc n) zero = refl
zero_at (suc n) (suc place) = zero_at n place

length_same : (n : ℕ) → length (zeros n) ≡ n
length_same zero = refl
length_same (suc n) = ap suc (length_same n)

pub hits_are_counted : HitsAreCounted
hits_are_counted files addr events place l =
    let first : AbstractNode = initial_node addr (no_hits files) in
    let none : get_or first.numbers place 0 ≡ 0 = zero_at (length files) place in
    run_counts files place events first (omega (arith, l, length_same (length files)))
    (λ i c x. subst (λ (y : Connection). Fresh files y.state y) (all_closed 10 i c x) tt)
    (none ∙ ap wrap (sym none))
    ∙ ap wrap (ap (λ k. k + hits_over files place events first) none
    ∙ (let z : 0 + hits_over files place events first ≡ hits_over files place events first = omega arith in z))
