-- Giving up and closing never meet at a connection of the web server.
-- [add: function] Function: a text that may be empty.
-- [add: state] State: whether the node can give up in it.
use Rattle.link_replay.proofs.Prelude.{◌≡◌, ℕ, zero, suc, ◌+◌, ◌-◌, ◌<◌, Bool, true, false, not, ◌&&◌, List, [], ◌∷◌, ◌++◌, length}
use Rattle.link_replay.proofs.Prelude.{length-append, replicate, set, refl, sym, ap, ◌∙◌, subst, arith, eqb, eq-eqb, ltb, Some, slice_get}
use Rattle.link_replay.proofs.Prelude.{decimal, flat_map, length-replicate, and-false, PlainSegment, has_fin, has_rst, Beat, Function}
use Rattle.link_replay.proofs.Prelude.{FileStats, TcpConnections, NetStats, Ticks, Unknown, AppState, After, Snapshot, AppSpec, Now, Row}
use Rattle.link_replay.proofs.Prelude.{State, Closed, SynRcvd, Established, CloseWait, FinWait1, FinWait2, Closing, TimeWait, LastAck}
use Rattle.link_replay.proofs.Prelude.{counter_line, in_ten_places, row_parts, row_text, File, Connection, Sockets, closed, is_live}
use Rattle.link_replay.proofs.Prelude.{rows_from, Outcome, after_own_fin, asked, asked_for, closes, does_as_wanted, idles, peer_has_closed}
use Rattle.link_replay.proofs.Prelude.{prepared, accepted, by_state, fin_acked, fin_waits, stays_established, has_text, delivers_text}
use Rattle.link_replay.proofs.Prelude.{in_established, is_acked, is_out_of_order, on_segment, peer_closes, rests, with_part, by_beat}
use Rattle.link_replay.proofs.Prelude.{on_tick, outstanding, Step, Event, AbstractNode, snapshot, hits_of, is_page_whole, made_text, page}
use Rattle.link_replay.proofs.Prelude.{page_for, page_text, reach_end, whole_for, ScriptPiece, reply_pieces, Plain, Made, Wanted, wanted}
use Rattle.link_replay.proofs.Prelude.{NotYet, Refused, Name, is_acknowledged, left_of, waits_for_capture, web_spec, web_want, MOST_POLLS}
use Rattle.link_replay.proofs.Prelude.{and_true, choose, eqb-eq, ltb-zero, not-true, by_own_fin, on_tick_by, every, AbortAndCloseApart}
use Rattle.link_replay.proofs.Prelude.{ClosesInTime, is_at_end}

-- ---- the text of a capture is never empty

-- a moment that has a row and a counter
record IsSeen (now : Now) : Type 0 where
  rows : 0 < length now.rows
  net : 0 < length now.net

ten_places : (n : ℕ) → 0 < length (in_ten_places n)
ten_places n = omega (arith, length-append (replicate (10 - length (decimal n)) 32) (decimal n), length-replicate {A = ℕ} (10 - length (decimal n)) 32)

some_of_many : {X : Type 0} (f : X → List ℕ) (xs : List X) → 0 < length xs → ((x : X) → 0 < length (f x)) → 0 < length (flat_map f xs)
some_of_many f [] l h = absurd (omega (arith, l))
some_of_many f (x ∷ xs) l h = omega (arith, h x, length-append (f x) (flat_map f xs))

row_sends : (row : Row) → 0 < length (row_text row)
unfolding row_parts
row_sends row = omega arith

counter_sends : (n : ℕ) → 0 < length (counter_line n)
counter_sends n = omega (arith, length-append (in_ten_places n) (10 ∷ []))

not_silent : (x : ℕ) (xs : List ℕ) → ltb 0 (length (x ∷ xs)) ≡ false → ⊥
not_silent x xs e = absurd (let z : length (x ∷ xs) ≡ 0 = ltb-zero (length (x ∷ xs)) e in omega (arith, z))

-- ---- a capture makes a page longer

module _ (files : List File) where
  behind : (f : Function) (argument : List ℕ) (more : List (ScriptPiece Function)) (first : Snapshot) (later : List Snapshot)
      (new : Snapshot) → length (page_text files more later) < length (page_text files more (later ++ new ∷ []))
      → length (made_text files f argument first ++ page_text files more later) < length (made_text files f argument first ++ page_text
      files more (later ++ new ∷ []))
  behind f argument more first later new l =
      let output : List ℕ = made_text files f argument first in
      omega (arith, l, length-append output (page_text files more later), length-append output (page_text files more (later ++ new ∷ [])))

  grows : (pieces : List (ScriptPiece Function)) (captures : List Snapshot) (new : Snapshot) → IsSeen new.now → reach_end pieces captures ≡ false
      → length (page_text files pieces captures) < length (page_text files pieces (captures ++ new ∷ []))
  grows [] captures new g h = absurd (cc)
  grows (Plain text ∷ more) captures new g h =
      omega (
        arith,
        grows more captures new g h,
        length-append text (page_text files more captures),
        length-append text (page_text files more (captures ++ new ∷ [])),
      )
  grows (Made FileStats argument ∷ more) [] new g h =
      omega (arith, ten_places (hits_of files new.numbers argument), length-append (made_text files FileStats argument new) (page_text files more []))
  grows (Made TcpConnections argument ∷ more) [] new g h =
      omega (arith, some_of_many row_text new.now.rows g.rows row_sends, length-append (made_text files TcpConnections argument new) (page_text files more []))
  grows (Made NetStats argument ∷ more) [] new g h =
      omega (arith, some_of_many counter_line new.now.net g.net counter_sends, length-append (made_text files NetStats argument new) (page_text files more []))
  grows (Made Ticks argument ∷ more) [] new g h =
      omega (arith, ten_places new.now.ticks, length-append (made_text files Ticks argument new) (page_text files more []))
  grows (Made Unknown argument ∷ more) [] new g h = grows more [] new g h
  grows (Made FileStats argument ∷ more) (first ∷ later) new g h = behind FileStats argument more first later new (grows more later new g h)
  grows (Made TcpConnections argument ∷ more) (first ∷ later) new g h = behind TcpConnections argument more first later new (grows more later new g h)
  grows (Made NetStats argument ∷ more) (first ∷ later) new g h = behind NetStats argument more first later new (grows more later new g h)
  grows (Made Ticks argument ∷ more) (first ∷ later) new g h = behind Ticks argument more first later new (grows more later new g h)
  grows (Made Unknown argument ∷ more) (first ∷ later) new g h = grows more (first ∷ later) new g h

  -- ---- a connection that is not at the end of its page

  abbrev m : AppSpec
  m = web_spec files

  abbrev Apart : AppState → Type 0
  Apart p = p.polls ≡ MOST_POLLS → is_at_end files p ≡ false

  just_moved : (n : ℕ) → n ≡ 0 → n ≡ MOST_POLLS → ⊥
  just_moved n z e = let y : ⊥ = omega (arith, z, e) in y

  moved_apart : (p : AppState) → p.polls ≡ 0 → Apart p
  moved_apart p z e = absurd (just_moved p.polls z e)

  below : (a b : ℕ) → a < b → (x : Bool) → eqb a b ≡ x → x ≡ false
  below a b l true e = absurd (let z : ⊥ = omega (arith, l, eqb-eq a b e) in z)
  below a b l false e = refl

  longer : (p : AppState) (new : Snapshot) (w : Wanted) → wanted p.input ≡ w → IsSeen new.now → waits_for_capture files w p ≡ true
      → length (page_for files w p.snapshots) < length (page_for files w (p.snapshots ++ new ∷ []))
  longer p new NotYet e g h = absurd (cc)
  longer p new Refused e g h = absurd (cc)
  longer p new (Name name) e g h =
      grows (reply_pieces files name) p.snapshots new g (sym (ap (λ w. whole_for files w p.snapshots) e) ∙ not-true (is_page_whole files p.input p.snapshots) h)

  captured_apart : (p : AppState) (new : Snapshot) → IsSeen new.now → is_acknowledged files p && waits_for_capture files (wanted p.input) p ≡ true
      → is_at_end files (record p { snapshots = p.snapshots ++ new ∷ [] }) ≡ false
  captured_apart p new g h =
      let both = and_true (is_acknowledged files p) (waits_for_capture files (wanted p.input) p) h in
      let q : AppState = record p { snapshots = p.snapshots ++ new ∷ [] } in
      let here : p.acked ≡ length (page files p.input p.snapshots) = eqb-eq p.acked (length (page files p.input p.snapshots)) both.0 in
      let more = longer p new (wanted p.input) refl g both.1 in
      let none : is_acknowledged files q ≡ false = below q.acked (length (page files q.input q.snapshots)) (omega (arith, here, more))
      (is_acknowledged files q) refl in
      ap (λ b. is_page_whole files q.input q.snapshots && b) none ∙ and-false (is_page_whole files q.input q.snapshots)

  prepared_apart : (numbers : List ℕ) (p : AppState) (now : Now) → IsSeen now → Apart p → Apart (m.prepare numbers p now)
  prepared_apart numbers p now g h =
      choose (λ q. Apart q) (is_acknowledged files p && waits_for_capture files (wanted p.input) p) _ _
      (λ e q. captured_apart p (record { numbers = numbers; now = now }) g e) (λ e. h)

  never_open : (st : State) → after_own_fin st ≡ Established → ⊥
  never_open st e = by_own_fin (λ x. x ≡ Established → ⊥) (λ q. (let z : FinWait1 ≡ Established = q in cc))
      (λ q. (let z : LastAck ≡ Established = q in cc)) st e

  closes_apart : (c : Connection) → Apart c.part → ClosesInTime files (closes c)
  closes_apart c h = record { idle = λ s l. absurd (let z : Closed ≡ Established = s in cc); apart = h }

  wanted_apart : (fresh : Bool) (c : Connection) (numbers : List ℕ) → Apart c.part
      → ClosesInTime files (does_as_wanted (web_want files c.part) fresh c numbers).connection
  unfolding idles
  wanted_apart fresh c numbers h =
      choose (λ w. ClosesInTime files (does_as_wanted w fresh c numbers).connection) (eqb c.part.polls MOST_POLLS) _ _ (λ e. closes_apart c h)
      (λ e. choose (λ w. ClosesInTime files (does_as_wanted w fresh c numbers).connection) (is_at_end files c.part) _ _
      (λ f. record {
        idle = λ s l. absurd (never_open c.state s);
        apart = λ q. absurd (let z : true ≡ false = sym (eq-eqb c.part.polls MOST_POLLS q) ∙ e in cc);
      })
      (λ f. choose (λ w. ClosesInTime files (does_as_wanted w fresh c numbers).connection) (ltb 0 (left_of files c.part)) _ _
      (λ g. record { idle = λ s l. f; apart = λ q. f })
      (λ g. choose (λ (o : Outcome). ClosesInTime files o.connection) (peer_has_closed c.state) _ _ (λ i. closes_apart c h)
      (λ i. choose (λ (o : Outcome). ClosesInTime files o.connection) fresh _ _ (λ j. record { idle = λ s l. f; apart = λ q. f })
      (λ j. record { idle = λ s l. f; apart = λ q. f })))))

  -- ---- what a step leaves: in time, or still to be asked

  record IsAt (at : Connection → Now) : Type 0 where
    seen : (c : Connection) → is_live c.state ≡ true → IsSeen (at c)

  abbrev Waits : Step → Connection → Type 0
  Waits Step.Drop c = ClosesInTime files c
  Waits Step.Ack c = ClosesInTime files c
  Waits (Step.SynAck again) c = ClosesInTime files c
  Waits (Step.Text again) c = ClosesInTime files c
  Waits (Step.Fin again) c = ClosesInTime files c
  Waits Step.Reset c = ClosesInTime files c
  Waits (Step.Ask fresh) c = (is_live c.state ≡ true) × Apart c.part

  abbrev Leaves : Outcome → Type 0
  Leaves o = Waits o.step o.connection

  asked_apart : (at : Connection → Now) → IsAt at → (o : Outcome) (s : Step) → Waits s o.connection → ClosesInTime files (asked_for m at o s).connection
  asked_apart at g o Step.Drop h = h
  asked_apart at g o (Step.Ask fresh) h =
      let now : Now = at o.connection in
      wanted_apart fresh (prepared m now o.connection o.numbers) o.numbers (prepared_apart o.numbers o.connection.part now (g.seen o.connection h.0) h.1)
  asked_apart at g o _ h = h

  received_apart : (numbers : List ℕ) (p : AppState) (text : List ℕ) → Apart p → Apart (delivers_text m numbers p text).part
  received_apart numbers p [] h = h
  received_apart numbers p (x ∷ xs) h = moved_apart (delivers_text m numbers p (x ∷ xs)).part refl

  nothing_received : (numbers : List ℕ) (p : AppState) (text : List ℕ) → ltb 0 (length text) ≡ false → is_at_end files p ≡ false
      → is_at_end files (delivers_text m numbers p text).part ≡ false
  nothing_received numbers p [] e h = h
  nothing_received numbers p (x ∷ xs) e h = absurd (not_silent x xs e)

  -- nothing is acknowledged and nothing comes
  idle_still : (acked text : Bool) → not acked && not text ≡ true → (acked ≡ false) × (text ≡ false)
  idle_still true text h = absurd (cc)
  idle_still false true h = absurd (cc)
  idle_still false false h = (refl, refl)

  established_apart : (acked : Bool) (c : Connection) (numbers : List ℕ) (s : PlainSegment) → c.state ≡ Established → Apart c.part
      → (acked ≡ false → c.len ≡ 0 → is_at_end files c.part ≡ false)
      → Leaves (in_established m acked c numbers s)
  unfolding in_established peer_closes stays_established
  established_apart acked c numbers s e h i =
      let delivered = received_apart numbers c.part s.text h in
      let incarnations : is_live c.state ≡ true = ap is_live e in
      choose (λ (o : Outcome). Leaves o) (has_fin s.flags) _ _
      (λ f. choose (λ (o : Outcome). Leaves o) (ltb 0 c.len) _ _
      (λ l. record { idle = λ st z. absurd (let y : CloseWait ≡ Established = st in cc); apart = delivered }) (λ l. (refl, delivered)))
      (λ f. choose (λ (o : Outcome). Leaves o) (not acked && not (has_text s)) _ _
      (λ g. (let both = idle_still acked (has_text s) g in
      record { idle = λ st z. nothing_received numbers c.part s.text both.1 (i both.0 z); apart = delivered }))
      (λ g. choose (λ (o : Outcome). Leaves o) (ltb 0 c.len) _ _
      (λ l. record { idle = λ st z. absurd (let y : ltb 0 0 ≡ true = subst (λ n. ltb 0 n ≡ true) z l in cc); apart = delivered })
      (λ l. (incarnations, delivered))))

  state_apart : (st : State) (acked : Bool) (c : Connection) (numbers : List ℕ) (s : PlainSegment) → c.state ≡ st → ClosesInTime files c
      → Leaves (by_state m st acked c numbers s)
  unfolding fin_acked fin_waits
  state_apart SynRcvd true c numbers s e h =
      let start : After = m.connected numbers c.sockets.own_port.0 in
      (refl, received_apart start.numbers start.part s.text (moved_apart start.part refl))
  state_apart SynRcvd false c numbers s e h = h
  state_apart Established true c numbers s e h =
      let reported : After = m.acked numbers c.part c.len in
      established_apart true (with_part reported.part (rests c)) reported.numbers s e (moved_apart reported.part refl) (λ z. absurd (cc))
  state_apart Established false c numbers s e h = established_apart false c numbers s e h.apart (λ z. h.idle e)
  state_apart CloseWait true c numbers s e h = (ap is_live e, moved_apart (m.acked numbers c.part c.len).part refl)
  state_apart CloseWait false c numbers s e h = record { idle = h.idle; apart = h.apart }
  state_apart FinWait1 true c numbers s e h =
      choose (λ (o : Outcome). Leaves o) (has_fin s.flags) _ _
      (λ f. record { idle = λ st z. absurd (let y : TimeWait ≡ Established = st in cc); apart = h.apart })
      (λ f. record { idle = λ st z. absurd (let y : FinWait2 ≡ Established = st in cc); apart = h.apart })
  state_apart FinWait1 false c numbers s e h =
      choose (λ (o : Outcome). Leaves o) (has_fin s.flags) _ _
      (λ f. record { idle = λ st z. absurd (let y : Closing ≡ Established = st in cc); apart = h.apart })
      (λ f. choose (λ (o : Outcome). Leaves o) (has_text s) _ _ (λ t. record { idle = h.idle; apart = h.apart }) (λ t. h))
  state_apart FinWait2 acked c numbers s e h =
      choose (λ (o : Outcome). Leaves o) (has_fin s.flags) _ _
      (λ f. record { idle = λ st z. absurd (let y : TimeWait ≡ Established = st in cc); apart = h.apart })
      (λ f. choose (λ (o : Outcome). Leaves o) (has_text s) _ _ (λ t. record { idle = h.idle; apart = h.apart }) (λ t. h))
  state_apart Closing true c numbers s e h = record { idle = λ st z. absurd (let y : TimeWait ≡ Established = st in cc); apart = h.apart }
  state_apart Closing false c numbers s e h = h
  state_apart LastAck true c numbers s e h = record { idle = λ st z. absurd (let y : Closed ≡ Established = st in cc); apart = h.apart }
  state_apart LastAck false c numbers s e h = h
  state_apart TimeWait acked c numbers s e h = h
  state_apart Closed acked c numbers s e h = h

  receives_apart : (at : Connection → Now) → IsAt at → (c : Connection) (numbers : List ℕ) (s : PlainSegment) → ClosesInTime files c
      → ClosesInTime files (asked m at (on_segment m c numbers s)).connection
  unfolding on_segment
  receives_apart at g c numbers s h =
      let o : Outcome = on_segment m c numbers s in
      asked_apart at g o o.step
      (choose (λ (x : Outcome). Leaves x) (has_rst s.flags) _ _ (λ r. closes_apart c h.apart)
      (λ r. choose (λ (x : Outcome). Leaves x) (is_out_of_order c s) _ _ (λ i. h) (λ i. state_apart c.state (is_acked c s) c numbers s refl h)))

  -- ---- a tick

  outstanding_apart : (st : State) (c : Connection) → ClosesInTime files c → Waits (outstanding true st) c
  outstanding_apart Closed c h = h
  outstanding_apart _ c h = h

  beat_apart : (b : Beat) (c : Connection) (numbers : List ℕ) → ClosesInTime files c → Leaves (by_beat m b c numbers)
  beat_apart Beat.Wait c numbers h = record { idle = h.idle; apart = h.apart }
  beat_apart Beat.Again c numbers h = outstanding_apart c.state (record c { age = c.age + 1 }) (record { idle = h.idle; apart = h.apart })
  beat_apart Beat.GiveUp c numbers h = closes_apart c h.apart

  tick_apart : (c : Connection) (numbers : List ℕ) → ClosesInTime files c → Leaves (on_tick m c numbers)
  tick_apart c numbers h = on_tick_by m Leaves c numbers record {
    none = h;
    beats = λ r b. beat_apart b c numbers h;
    rested = λ e. record { idle = h.idle; apart = h.apart };
    ends = closes_apart c h.apart;
    polled = λ e l. (ap is_live e, λ q. h.idle e l);
  }

  ticks_apart : (at : Connection → Now) → IsAt at → (c : Connection) (numbers : List ℕ) → ClosesInTime files c
      → ClosesInTime files (asked m at (on_tick m c numbers)).connection
  ticks_apart at g c numbers h = (let o : Outcome = on_tick m c numbers in asked_apart at g o o.step (tick_apart c numbers h))

  -- ---- the moments of a node

  row_there : (k : ℕ) (cs : List Connection) (slot : ℕ) (old c : Connection) → slice_get cs slot ≡ Some old → is_live c.state ≡ true
      → 0 < length (rows_from k (set cs slot c))
  row_there k [] slot old c e l = absurd (cc)
  row_there k (x ∷ cs) zero old c e l = choose (λ (rows : List Row). 0 < length rows) (is_live c.state) _ _ (λ y. omega arith)
      (λ y. absurd (let z : true ≡ false = sym l ∙ y in cc))
  row_there k (x ∷ cs) (suc slot) old c e l =
      choose (λ (rows : List Row). 0 < length rows) (is_live x.state) _ _ (λ y. omega arith) (λ y. row_there (k + 1) cs slot old c e l)

  snapshots : (n : AbstractNode) (event : Event) (slot : ℕ) (old : Connection) → slice_get n.connections slot ≡ Some old → IsAt (snapshot n event slot)
  snapshots n event slot old e = record { seen = λ c l. record { rows = row_there 0 n.connections slot old c e l; net = omega arith } }

  shut_apart : ClosesInTime files closed
  shut_apart = record { idle = λ s l. absurd (cc); apart = moved_apart closed.part refl }

  born_apart : (first : ℕ) (sockets : Sockets) (s : PlainSegment) → ClosesInTime files (accepted first sockets s)
  born_apart first sockets s = record {
    idle = λ st l. absurd (let z : SynRcvd ≡ Established = st in cc);
    apart = moved_apart (accepted first sockets s).part refl;
  }

pub abort_and_close_apart : AbortAndCloseApart
abort_and_close_apart files c r =
    every (web_spec files) (ClosesInTime files) (IsAt files) (snapshots files) (shut_apart files) (born_apart files) (receives_apart files)
    (ticks_apart files) r.served r.events r.addr r.numbers r.slot c r.there
