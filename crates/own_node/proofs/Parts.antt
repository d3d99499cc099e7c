-- What a step of a connection does to the ticket and to the captures of `OwnApp`.
use Rattle.own_node.proofs.Prelude.{◌≡◌, ◌∙◌, ℕ, ◌&&◌, ◌⊎◌, inl, inr, Bool, true, false, not, List, [], ◌∷◌, ◌+◌, drop, length, nat_lt}
use Rattle.own_node.proofs.Prelude.{refl, sym, ap, subst, false≢true, PlainSegment, has_fin, has_rst, After, AppSpec, AppState, Ending, Now}
use Rattle.own_node.proofs.Prelude.{State, Closed, SynRcvd, Established, CloseWait, FinWait1, FinWait2, Closing, TimeWait, LastAck, Want}
use Rattle.own_node.proofs.Prelude.{Nothing, Send, Close, Abort, Connection, Outcome, Sockets, asked, by_beat, by_state, does_as_wanted}
use Rattle.own_node.proofs.Prelude.{fin_acked, fin_waits, has_text, delivers_text, idles, in_established, in_state, is_acked, is_open}
use Rattle.own_node.proofs.Prelude.{is_out_of_order, on_segment, on_tick, peer_closes, peer_has_closed, prepared, rests, stays_established}
use Rattle.own_node.proofs.Prelude.{takes, reported_end, with_part, both_ways, choose, Unmoved, asked_by, by_own_fin, is_ask, no_ask_again}
use Rattle.own_node.proofs.Prelude.{on_tick_by, wanted_unmoved, next_ticket, own_spec}
use Rattle.rexmit_timer.specs.declared.timer.Beat.{Beat}
use Rattle.app_events.specs.declared.ending.Ending.TheVariants.{Reset, TimedOut}
use Rattle.tcp_machine.specs.declared.step.Step.{Step}
use Rattle.own_node.proofs.Containing.{Contains, Keeps, elsewhere, elsewhere_part, elsewhere_shut, elsewhere_syn, own_view, still}
use Rattle.own_node.proofs.Containing.{then_keeps, view, view_other, view_own}

-- ---- as `OwnApp` sees them

-- The ticket and the captures stay; or the connection opens, with the next ticket.
pub data OutParts (c : Connection) (numbers : List ℕ) (o : Outcome) : Type 0 where
  same : o.connection.part.own ≡ c.part.own → o.connection.part.snapshots ≡ c.part.snapshots → o.numbers ≡ numbers
      → (is_open o.connection.state ≡ true → is_open c.state ≡ true)
      → (is_ask o.step ≡ true → is_open c.state ≡ true) → (o.connection.state ≡ SynRcvd → c.state ≡ SynRcvd) → OutParts c numbers o
  opened : c.state ≡ SynRcvd → o.connection.state ≡ Established → o.connection.part.own ≡ next_ticket numbers → o.connection.part.snapshots
      ≡ [] → o.numbers ≡ next_ticket numbers ∷ drop 1 numbers
      → OutParts c numbers o

-- It may capture a message.
pub record AskedPart (o result : Outcome) : Type 0 where
  pub numbers : result.numbers ≡ o.numbers
  pub part : (result.connection.part ≡ o.connection.part)
      ⊎ ((is_ask o.step ≡ true) × ((now : Now) × (result.connection.part ≡ own_spec.prepare o.numbers o.connection.part now)))
  pub opens : is_open result.connection.state ≡ true → is_open o.connection.state ≡ true
  pub syn : result.connection.state ≡ SynRcvd → o.connection.state ≡ SynRcvd

-- a connection of this state and its numbers take a step, in which `OwnApp` may be asked
pub record TakesStep (c : Connection) (numbers : List ℕ) (d : Connection) (after : List ℕ) : Type 0 where
  pub o : Outcome
  pub result : Outcome
  pub parts : OutParts c numbers o
  pub asked : AskedPart o result
  pub connection : d ≡ result.connection
  pub numbers_are : after ≡ result.numbers

-- The part is of a connection at the port of its sockets.
abbrev pub IsAtPort : Connection → Type 0
IsAtPort c = c.part.port ≡ c.sockets.own_port.0

module _ (mine : ℕ → Bool) (seen : AppState → AppState) (own : List ℕ → List ℕ) (m : AppSpec) (contains : Contains mine seen own m) where
  abbrev after_of : Outcome → After
  after_of o = record { part = o.connection.part; numbers = o.numbers }

  abbrev KeepsAll : Connection → List ℕ → Outcome → Type 0
  KeepsAll c numbers o = Keeps mine seen own c.part numbers (after_of o)

  abbrev start : Connection → List ℕ → After
  start c numbers = m.connected numbers c.sockets.own_port.0

  -- calls of the application leave what they keep; or the connection opens
  data OutMoves (c : Connection) (numbers : List ℕ) (o : Outcome) : Type 0 where
    goes_on : o.connection.sockets ≡ c.sockets → KeepsAll c numbers o → (is_open o.connection.state ≡ true → is_open c.state ≡ true)
        → (is_ask o.step ≡ true → is_open c.state ≡ true) → (o.connection.state ≡ SynRcvd → c.state ≡ SynRcvd) → OutMoves c numbers o
    connects : o.connection.sockets ≡ c.sockets → c.state ≡ SynRcvd → o.connection.state ≡ Established
        → Keeps mine seen own (start c numbers).part (start c numbers).numbers (after_of o) → OutMoves c numbers o

  kept : (c : Connection) (numbers : List ℕ) → Keeps mine seen own c.part numbers (record { part = c.part; numbers = numbers })
  kept c numbers = still mine seen own c.part numbers

  reported_kept : (how : Ending) (st : State) (p : AppState) (numbers : List ℕ)
      → Keeps mine seen own p numbers (record { part = p; numbers = reported_end m how st p numbers })
  reported_kept how st p numbers = record { port = refl; ticket = λ e. refl; snapshots = λ e. refl; own_numbers = by_state_reported st }
    where
      by_state_reported : (st : State) → own (reported_end m how st p numbers) ≡ own numbers
      by_state_reported Established = contains.ended numbers p how
      by_state_reported CloseWait = contains.ended numbers p how
      by_state_reported _ = refl

  heard : (numbers : List ℕ) (p : AppState) (piece : List ℕ) → Keeps mine seen own p numbers (delivers_text m numbers p piece)
  heard numbers p [] = still mine seen own p numbers
  heard numbers p (x ∷ xs) = contains.newdata numbers p (x ∷ xs)

  -- ESTABLISHED, after the application may have been notified of an acknowledgement
  established_moves : (acked : Bool) (c b : Connection) (first numbers : List ℕ) (s : PlainSegment) → b.sockets ≡ c.sockets → b.state ≡ c.state
      → Keeps mine seen own c.part first (record { part = b.part; numbers = numbers }) → is_open c.state ≡ true
      → OutMoves c first (in_established m acked b numbers s)
  unfolding in_established peer_closes stays_established
  established_moves acked c b first numbers s sockets state keeps opens =
      let k = then_keeps mine seen own c.part first (record { part = b.part; numbers = numbers }) (delivers_text m numbers b.part s.text)
      keeps (heard numbers b.part s.text) in
      choose (λ (o : Outcome). OutMoves c first o) (has_fin s.flags) _ _
      (λ e. choose (λ (o : Outcome). OutMoves c first o) (nat_lt 0 b.len) _ _
      (λ f. goes_on sockets k (λ z. opens) (λ z. opens) (λ z. absurd (cc)))
      (λ f. goes_on sockets k (λ z. opens) (λ z. opens) (λ z. absurd (cc))))
      (λ e. choose (λ (o : Outcome). OutMoves c first o) (not acked && not (has_text s)) _ _
      (λ f. goes_on sockets k (λ z. opens) (λ z. opens) (λ z. sym state ∙ z))
      (λ f. choose (λ (o : Outcome). OutMoves c first o) (nat_lt 0 b.len) _ _
      (λ g. goes_on sockets k (λ z. opens) (λ z. opens) (λ z. sym state ∙ z))
      (λ g. goes_on sockets k (λ z. opens) (λ z. opens) (λ z. sym state ∙ z))))

  -- no call of the application: the state stays, or is one in which it is not called
  fin_acked_moves : (c : Connection) (numbers : List ℕ) (s : PlainSegment) → OutMoves c numbers (fin_acked c numbers s)
  unfolding fin_acked
  fin_acked_moves c numbers s =
      choose (λ (o : Outcome). OutMoves c numbers o) (has_fin s.flags) _ _ (λ e. goes_on refl (kept c numbers) (λ z. absurd (cc))
      (λ z. absurd (cc)) (λ z. absurd (cc)))
      (λ e. goes_on refl (kept c numbers) (λ z. absurd (cc)) (λ z. absurd (cc)) (λ z. absurd (cc)))

  fin_waits_moves : (d c : Connection) (numbers : List ℕ) (s : PlainSegment) → d.sockets ≡ c.sockets → d.part ≡ c.part
      → is_open d.state ≡ false → (d.state ≡ SynRcvd → ⊥)
      → OutMoves c numbers (fin_waits d c numbers s)
  unfolding fin_waits
  fin_waits_moves d c numbers s sockets part shut not_syn =
      choose (λ (o : Outcome). OutMoves c numbers o) (has_fin s.flags) _ _
      (λ e. goes_on sockets (subst (λ (p : AppState). Keeps mine seen own c.part numbers (record { part = p; numbers = numbers })) (sym part) (kept c numbers))
      (λ z. absurd (false≢true (sym shut ∙ z))) (λ z. absurd (cc)) (λ z. absurd (not_syn z)))
      (λ e. choose (λ (o : Outcome). OutMoves c numbers o) (has_text s) _ _ (λ f. goes_on refl (kept c numbers) (λ z. z) (λ z. absurd (cc))
      (λ z. z)) (λ f. goes_on refl (kept c numbers) (λ z. z) (λ z. absurd (cc)) (λ z. z)))

  by_state_moves : (st : State) (acked : Bool) (c : Connection) (numbers : List ℕ) (s : PlainSegment) → c.state ≡ st
      → OutMoves c numbers (by_state m st acked c numbers s)
  by_state_moves SynRcvd true c numbers s q =
      connects refl q refl (heard (start c numbers).numbers (start c numbers).part s.text)
  by_state_moves Established true c numbers s q =
      established_moves true c (with_part (m.acked numbers c.part c.len).part (rests c)) numbers (m.acked numbers c.part c.len).numbers
      s refl refl (contains.acked numbers c.part c.len) (ap (λ (v : State). is_open v) q)
  by_state_moves Established false c numbers s q = established_moves false c c numbers numbers s refl refl (kept c numbers) (ap (λ (v : State). is_open v) q)
  by_state_moves CloseWait true c numbers s q = goes_on refl (contains.acked numbers c.part c.len) (λ z. z) (λ z. ap (λ (v : State). is_open v) q) (λ z. z)
  by_state_moves FinWait1 true c numbers s q = fin_acked_moves c numbers s
  by_state_moves FinWait1 false c numbers s q = fin_waits_moves (in_state Closing (takes (length s.text + 1) c)) c numbers s refl refl refl (λ z. absurd (cc))
  by_state_moves FinWait2 acked c numbers s q = fin_waits_moves (record (in_state TimeWait (takes (length s.text + 1) c)) { age = 0 }) c
      numbers s refl refl refl (λ z. absurd (cc))
  by_state_moves Closing true c numbers s q = goes_on refl (kept c numbers) (λ z. absurd (cc)) (λ z. absurd (cc)) (λ z. absurd (cc))
  by_state_moves LastAck true c numbers s q = goes_on refl (kept c numbers) (λ z. absurd (cc)) (λ z. absurd (cc)) (λ z. absurd (cc))
  by_state_moves CloseWait false c numbers s q = goes_on refl (kept c numbers) (λ z. z) (λ z. absurd (cc)) (λ z. z)
  by_state_moves SynRcvd false c numbers s q = goes_on refl (kept c numbers) (λ z. z) (λ z. absurd (cc)) (λ z. z)
  by_state_moves Closing false c numbers s q = goes_on refl (kept c numbers) (λ z. z) (λ z. absurd (cc)) (λ z. z)
  by_state_moves LastAck false c numbers s q = goes_on refl (kept c numbers) (λ z. z) (λ z. absurd (cc)) (λ z. z)
  by_state_moves TimeWait acked c numbers s q = goes_on refl (kept c numbers) (λ z. z) (λ z. absurd (cc)) (λ z. z)
  by_state_moves Closed acked c numbers s q = goes_on refl (kept c numbers) (λ z. z) (λ z. absurd (cc)) (λ z. z)

  segment_moves : (c : Connection) (numbers : List ℕ) (s : PlainSegment) → OutMoves c numbers (on_segment m c numbers s)
  unfolding on_segment
  segment_moves c numbers s =
      choose (λ (o : Outcome). OutMoves c numbers o) (has_rst s.flags) _ _ (λ e. goes_on refl (reported_kept Reset c.state c.part numbers)
      (λ z. absurd (cc)) (λ z. absurd (cc)) (λ z. absurd (cc)))
      (λ e. choose (λ (o : Outcome). OutMoves c numbers o) (is_out_of_order c s) _ _ (λ f. goes_on refl (kept c numbers) (λ z. z)
      (λ z. absurd (cc)) (λ z. z)) (λ f. by_state_moves c.state (is_acked c s) c numbers s refl))

  by_beat_moves : (b : Beat) (c : Connection) (numbers : List ℕ) → OutMoves c numbers (by_beat m b c numbers)
  by_beat_moves Beat.Wait c numbers = goes_on refl (kept c numbers) (λ z. z) (λ z. absurd (cc)) (λ z. z)
  by_beat_moves Beat.Again c numbers = goes_on refl (kept c numbers) (λ z. z) (λ z. absurd (false≢true (sym (no_ask_again m c.state) ∙ z))) (λ z. z)
  by_beat_moves Beat.GiveUp c numbers = goes_on refl (reported_kept TimedOut c.state c.part numbers) (λ z. absurd (cc)) (λ z. absurd (cc)) (λ z. absurd (cc))

  tick_moves : (c : Connection) (numbers : List ℕ) → OutMoves c numbers (on_tick m c numbers)
  tick_moves c numbers = on_tick_by m (λ (o : Outcome). OutMoves c numbers o) c numbers record {
    none = goes_on refl (kept c numbers) (λ z. z) (λ z. absurd (cc)) (λ z. z);
    beats = λ r b. by_beat_moves b c numbers;
    rested = λ e. goes_on refl (kept c numbers) (λ z. z) (λ z. absurd (cc)) (λ z. z);
    ends = goes_on refl (kept c numbers) (λ z. absurd (cc)) (λ z. absurd (cc)) (λ z. absurd (cc));
    polled = λ e l. goes_on refl (contains.polled numbers c.part) (λ z. z) (λ z. ap (λ (v : State). is_open v) e) (λ z. z);
  }

  -- ---- the application is asked

  idles_numbers : (fresh : Bool) (c : Connection) (numbers : List ℕ) → (idles fresh c numbers).numbers ≡ numbers
  unfolding idles
  idles_numbers fresh c numbers =
      choose (λ (o : Outcome). o.numbers ≡ numbers) (peer_has_closed c.state) _ _ (λ e. refl)
      (λ e. choose (λ (o : Outcome). o.numbers ≡ numbers) fresh _ _ (λ f. refl) (λ f. refl))

  wanted_numbers : (w : Want) (fresh : Bool) (c : Connection) (numbers : List ℕ) → (does_as_wanted w fresh c numbers).numbers ≡ numbers
  wanted_numbers Abort fresh c numbers = refl
  wanted_numbers Close fresh c numbers = refl
  wanted_numbers (Send n) fresh c numbers = refl
  wanted_numbers Nothing fresh c numbers = idles_numbers fresh c numbers

  -- a property of the state that CLOSED and the states after an own FIN do not have was there before
  module _ (P : State → Type 0) (not_closed : P Closed → ⊥) (not_fin : P FinWait1 → ⊥) (not_last : P LastAck → ⊥) where
    idles_before : (fresh : Bool) (c : Connection) (numbers : List ℕ) → P (idles fresh c numbers).connection.state → P c.state
    unfolding idles
    idles_before fresh c numbers =
        choose (λ (o : Outcome). P o.connection.state → P c.state) (peer_has_closed c.state) _ _ (λ e z. absurd (not_closed z))
        (λ e. choose (λ (o : Outcome). P o.connection.state → P c.state) fresh _ _ (λ f z. z) (λ f z. z))

    wanted_before : (w : Want) (fresh : Bool) (c : Connection) (numbers : List ℕ) → P (does_as_wanted w fresh c numbers).connection.state → P c.state
    wanted_before Abort fresh c numbers z = absurd (not_closed z)
    wanted_before Close fresh c numbers z = by_own_fin (λ (v : State). P v → P c.state) (λ y. absurd (not_fin y)) (λ y. absurd (not_last y)) c.state z
    wanted_before (Send n) fresh c numbers z = z
    wanted_before Nothing fresh c numbers z = idles_before fresh c numbers z

  record AskedMoves (o result : Outcome) : Type 0 where
    sockets : result.connection.sockets ≡ o.connection.sockets
    numbers : result.numbers ≡ o.numbers
    part : (result.connection.part ≡ o.connection.part)
        ⊎ ((is_ask o.step ≡ true) × ((now : Now) × (result.connection.part ≡ m.prepare o.numbers o.connection.part now)))
    opens : is_open result.connection.state ≡ true → is_open o.connection.state ≡ true
    syn : result.connection.state ≡ SynRcvd → o.connection.state ≡ SynRcvd

  asked_moves : (at : Connection → Now) (o : Outcome) → AskedMoves o (asked m at o)
  asked_moves at o =
      asked_by m (λ (x : Outcome). AskedMoves o x) at o
      (λ a fresh. (let b : Connection = prepared m (at o.connection) o.connection o.numbers in
      let w : Want = m.want o.numbers b.part in
      let u : Unmoved b (does_as_wanted w fresh b o.numbers).connection = wanted_unmoved m w fresh b o.numbers in
      record {
        sockets = u.sockets;
        numbers = wanted_numbers w fresh b o.numbers;
        part = inr (a, (at o.connection, u.part));
        opens = λ z. wanted_before (λ v. is_open v ≡ true) (λ y. false≢true y) (λ y. false≢true y) (λ y. false≢true y) w fresh b o.numbers z;
        syn = λ z. wanted_before (λ v. v ≡ SynRcvd) (λ (y : Closed ≡ SynRcvd). absurd (cc)) (λ (y : FinWait1 ≡ SynRcvd). absurd (cc))
            (λ (y : LastAck ≡ SynRcvd). absurd (cc)) w fresh b o.numbers z;
      }))
      record { sockets = refl; numbers = refl; part = inl refl; opens = λ z. z; syn = λ z. z }

  -- ---- what `OwnApp` sees of it

  port_after : (c : Connection) (numbers : List ℕ) (o : Outcome) → IsAtPort c → OutMoves c numbers o
      → (o.connection.part.port ≡ c.part.port) × (o.connection.sockets ≡ c.sockets)
  port_after c numbers o at moves =
      elim moves [
        | goes_on sockets keeps opens asks syn ↦ (keeps.port, sockets)
        | connects sockets state now keeps ↦ (keeps.port ∙ contains.port numbers c.sockets.own_port.0 ∙ sym at, sockets)
      ]

  asked_port : (o result : Outcome) → AskedMoves o result → result.connection.part.port ≡ o.connection.part.port
  asked_port o result a =
      elim a.part [
        | inl e ↦ ap (λ (p : AppState). p.port) e
        | inr e ↦ ap (λ (p : AppState). p.port) e.1.1 ∙ contains.prepare_port o.numbers o.connection.part e.1.0
      ]

  abbrev View : Connection → Connection
  View c = view mine seen own c

  abbrev OwnView : Connection → Connection
  OwnView c = own_view mine seen own c

  abbrev Elsewhere : State → Connection
  Elsewhere st = elsewhere mine seen own st

  -- at a port of `OwnApp`
  own_parts : (c : Connection) (numbers : List ℕ) (o : Outcome) → mine c.part.port ≡ true → IsAtPort c → OutMoves c numbers o
      → OutParts (OwnView c) (own numbers) (record { connection = OwnView o.connection; numbers = own o.numbers; step = o.step })
  own_parts c numbers o there_is at moves =
      elim moves [
        | goes_on sockets keeps opens asks syn ↦ same (keeps.ticket there_is) (keeps.snapshots there_is) keeps.own_numbers opens asks syn
        | connects sockets state now keeps ↦
            (let here : mine c.sockets.own_port.0 ≡ true = ap mine (sym at) ∙ there_is in
            let there : mine (start c numbers).part.port ≡ true = ap mine (contains.port numbers c.sockets.own_port.0) ∙ here in
            opened state now (keeps.ticket there ∙ contains.ticket numbers c.sockets.own_port.0 here) (keeps.snapshots there
            ∙ contains.snapshots numbers c.sockets.own_port.0 here)
            (keeps.own_numbers ∙ contains.opened numbers c.sockets.own_port.0 here))
      ]

  own_asked : (o result : Outcome) → mine o.connection.part.port ≡ true → AskedMoves o result
      → AskedPart (record { connection = OwnView o.connection; numbers = own o.numbers; step = o.step })
      (record { connection = OwnView result.connection; numbers = own result.numbers; step = result.step })
  own_asked o result there_is a = record {
    numbers = ap own a.numbers;
    part = elim a.part [
      | inl e ↦ inl (ap seen e)
      | inr e ↦ inr (e.0, (e.1.0, ap seen e.1.1 ∙ contains.prepare o.numbers o.connection.part e.1.0 there_is))
    ];
    opens = a.opens;
    syn = a.syn;
  }

  own_step : (c : Connection) (numbers : List ℕ) (o result : Outcome) → mine c.part.port ≡ true → IsAtPort c → OutMoves c numbers o → AskedMoves o result
      → TakesStep (View c) (own numbers) (View result.connection) (own result.numbers)
  own_step c numbers o result there_is at moves a =
      let there : mine o.connection.part.port ≡ true = ap mine (port_after c numbers o at moves).0 ∙ there_is in
      record {
        o = record { connection = OwnView o.connection; numbers = own o.numbers; step = o.step };
        result = record { connection = OwnView result.connection; numbers = own result.numbers; step = result.step };
        parts = subst (λ (x : Connection). OutParts x (own numbers)
            (record { connection = OwnView o.connection; numbers = own o.numbers; step = o.step }))
            (sym (view_own mine seen own c there_is)) (own_parts c numbers o there_is at moves);
        asked = own_asked o result there a;
        connection = view_own mine seen own result.connection (ap mine (asked_port o result a) ∙ there);
        numbers_are = refl;
      }

  -- at another port
  other_numbers : (c : Connection) (numbers : List ℕ) (o : Outcome) → mine c.part.port ≡ false → IsAtPort c → OutMoves c numbers o → own o.numbers ≡ own numbers
  other_numbers c numbers o elsewhere_is at moves =
      elim moves [
        | goes_on sockets keeps opens asks syn ↦ keeps.own_numbers
        | connects sockets state now keeps ↦ keeps.own_numbers ∙ contains.others numbers c.sockets.own_port.0 (ap mine (sym at) ∙ elsewhere_is)
      ]

  other_syn : (c : Connection) (numbers : List ℕ) (o : Outcome) → OutMoves c numbers o → o.connection.state ≡ SynRcvd → c.state ≡ SynRcvd
  other_syn c numbers o moves z =
      elim moves [
        | goes_on sockets keeps opens asks syn ↦ syn z
        | connects sockets state now keeps ↦ state
      ]

  other_step : (c : Connection) (numbers : List ℕ) (o result : Outcome) → mine c.part.port ≡ false → IsAtPort c → OutMoves c numbers o → AskedMoves o result
      → TakesStep (View c) (own numbers) (View result.connection) (own result.numbers)
  other_step c numbers o result elsewhere_is at moves a =
      let there : mine o.connection.part.port ≡ false = ap mine (port_after c numbers o at moves).0 ∙ elsewhere_is in
      let o_seen : Outcome = record { connection = Elsewhere o.connection.state; numbers = own o.numbers; step = Step.Drop } in
      let result_seen : Outcome = record { connection = Elsewhere result.connection.state; numbers = own result.numbers; step = Step.Drop } in
      let part = λ (st : State). elsewhere_part mine seen own st in
      let shut = λ (st : State). elsewhere_shut mine seen own st in
      let is_syn = λ (st : State). elsewhere_syn mine seen own st in
      record {
        o = o_seen;
        result = result_seen;
        parts = subst (λ (x : Connection). OutParts x (own numbers) o_seen) (sym (view_other mine seen own c elsewhere_is))
            (same (ap (λ (p : AppState). p.own) (part o.connection.state ∙ sym (part c.state)))
            (ap (λ (p : AppState). p.snapshots) (part o.connection.state ∙ sym (part c.state))) (other_numbers c numbers o elsewhere_is at moves)
            (λ z. absurd (false≢true (sym (shut o.connection.state) ∙ z))) (λ z. absurd (false≢true z))
            (λ z. ap (λ (st : State). (Elsewhere st).state) (other_syn c numbers o moves (is_syn o.connection.state z))));
        asked = record {
          numbers = ap own a.numbers;
          part = inl (part result.connection.state ∙ sym (part o.connection.state));
          opens = λ z. absurd (false≢true (sym (shut result.connection.state) ∙ z));
          syn = λ z. ap (λ (st : State). (Elsewhere st).state) (a.syn (is_syn result.connection.state z));
        };
        connection = view_other mine seen own result.connection (ap mine (asked_port o result a) ∙ there);
        numbers_are = refl;
      }

  -- a step, after which the part is of a connection at the same port
  abbrev pub Stepped : Connection → List ℕ → Outcome → Type 0
  Stepped c numbers result = TakesStep (View c) (own numbers) (View result.connection) (own result.numbers) × IsAtPort result.connection

  stepped : (c : Connection) (numbers : List ℕ) (o result : Outcome) → IsAtPort c → OutMoves c numbers o → AskedMoves o result → Stepped c numbers result
  stepped c numbers o result at moves a =
      let after = port_after c numbers o at moves in (
        both_ways (mine c.part.port) (λ there_is. own_step c numbers o result there_is at moves a)
            (λ elsewhere_is. other_step c numbers o result elsewhere_is at moves a),
        asked_port o result a ∙ after.0 ∙ at ∙ sym (ap (λ (s : Sockets). s.own_port.0) (a.sockets ∙ after.1)),
      )

  pub segment_step : (at : Connection → Now) (c : Connection) (numbers : List ℕ) (s : PlainSegment) → IsAtPort c
      → Stepped c numbers (asked m at (on_segment m c numbers s))
  segment_step at c numbers s is = stepped c numbers (on_segment m c numbers s) (asked m at (on_segment m c numbers s)) is
      (segment_moves c numbers s) (asked_moves at (on_segment m c numbers s))

  pub tick_step : (at : Connection → Now) (c : Connection) (numbers : List ℕ) → IsAtPort c → Stepped c numbers (asked m at (on_tick m c numbers))
  tick_step at c numbers is = stepped c numbers (on_tick m c numbers) (asked m at (on_tick m c numbers)) is (tick_moves c numbers)
      (asked_moves at (on_tick m c numbers))
