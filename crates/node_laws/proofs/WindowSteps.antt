-- What a step of a connection does to the longest text that may be sent.
use Rattle.node_laws.proofs.Prelude.{◌≡◌, ℕ, ◌≤◌, min, Bool, true, false, not, ◌&&◌, ◌⊎◌, inl, inr, List, refl, sym, ap, ◌∙◌, arith, eqb}
use Rattle.node_laws.proofs.Prelude.{ltb, if◌then◌else◌, PlainSegment, has_fin, has_rst, Beat, AppSpec, Now, State, Closed, SynRcvd}
use Rattle.node_laws.proofs.Prelude.{Established, CloseWait, FinWait1, FinWait2, Closing, TimeWait, LastAck, Want, Nothing, Send, Close}
use Rattle.node_laws.proofs.Prelude.{Abort, Connection, Outcome, leaves, closes, after_own_fin, peer_has_closed, idles, does_as_wanted}
use Rattle.node_laws.proofs.Prelude.{prepared, asked, is_out_of_order, is_acked, rests, has_text, with_part, peer_closes, stays_established}
use Rattle.node_laws.proofs.Prelude.{in_established, fin_acked, fin_waits, by_state, on_segment, outstanding, by_beat, on_tick, Step}
use Rattle.node_laws.proofs.Prelude.{choose, eqb-eq, is_open, asked_by, by_own_fin, is_ask, on_tick_by}

-- ---- the first text

abbrev pub is_new_text : Step → Bool
is_new_text (Step.Text again) = not again
is_new_text _ = false

-- new text is no longer than may be sent
abbrev pub NewIsShort : Outcome → Type 0
NewIsShort o = is_new_text o.step ≡ true → o.connection.len ≤ o.connection.mss

-- a step before the application is asked sends no new text
abbrev NoNew : Outcome → Type 0
NoNew o = is_new_text o.step ≡ false

again_not_new : (st : State) → is_new_text (outstanding true st) ≡ false
again_not_new Closed = refl
again_not_new _ = refl

-- what the longest text is by
abbrev ByWindow : ℕ → Connection → Type 0
ByWindow window d = (size : ℕ) → size ≤ d.mss → (size ≤ window) ⊎ (window ≡ 0)

by_window : (window initial : ℕ) (size : ℕ) → size ≤ (if eqb window 0 then initial else min initial window) → (size ≤ window) ⊎ (window ≡ 0)
by_window window initial size =
    choose (λ n. size ≤ n → (size ≤ window) ⊎ (window ≡ 0)) (eqb window 0) initial (min initial window)
    (λ e l. inr (eqb-eq window 0 e)) (λ e l. inl (omega (arith, l)))

-- What a segment does: it is passed over, it bounds the next text, it acknowledges the SYN, or the application may not speak after it.
pub data Bounds (c : Connection) (numbers : List ℕ) (s : PlainSegment) (o : Outcome) : Type 0 where
  passes : is_out_of_order c s ≡ true → o ≡ leaves c numbers Step.Ack → Bounds c numbers s o
  bounds : ByWindow s.window o.connection → Bounds c numbers s o
  connects_it : c.state ≡ SynRcvd → is_acked c s ≡ true → Bounds c numbers s o
  speaks_no_more : is_open o.connection.state ≡ false → Bounds c numbers s o

-- a segment that leaves a connection in SYN-RECEIVED was passed over, or does not acknowledge the SYN
pub record StaysAtSyn (c : Connection) (numbers : List ℕ) (s : PlainSegment) (o : Outcome) : Type 0 where
  pub before : c.state ≡ SynRcvd
  pub same : o.connection ≡ c
  pub none : (is_out_of_order c s ≡ true) × (o ≡ leaves c numbers Step.Ack) ⊎ (is_acked c s ≡ false) × (o ≡ leaves c numbers Step.Drop)

module _ (m : AppSpec) where
  wanted_short : (w : Want) (fresh : Bool) (c : Connection) (numbers : List ℕ) → NewIsShort (does_as_wanted w fresh c numbers)
  unfolding idles
  wanted_short Abort fresh c numbers = λ e. absurd (cc)
  wanted_short Close fresh c numbers = λ e. absurd (cc)
  wanted_short (Send n) fresh c numbers = λ e. omega arith
  wanted_short Nothing fresh c numbers =
      choose NewIsShort (peer_has_closed c.state) (leaves (closes c) numbers Step.Reset) (if fresh then leaves c numbers Step.Ack else
      leaves c numbers Step.Drop) (λ e f. absurd (cc))
      (λ e. choose NewIsShort fresh (leaves c numbers Step.Ack) (leaves c numbers Step.Drop) (λ g f. absurd (cc)) (λ g f. absurd (cc)))

  pub asked_short : (at : Connection → Now) (o : Outcome) → NoNew o → NewIsShort (asked m at o)
  asked_short at o none =
      asked_by m NewIsShort at o (λ a fresh. (let b : Connection = prepared m (at o.connection) o.connection o.numbers in
      wanted_short (m.want o.numbers b.part) fresh b o.numbers)) (λ e. absurd (cc))

  -- ---- the application is asked, or not

  pub data AskedSo (o r : Outcome) : Type 0 where
    unasked : r ≡ o → AskedSo o r
    spoke : is_open o.connection.state ≡ true → (is_open r.connection.state ≡ true → r.connection.mss ≡ o.connection.mss)
        → (r.connection.state ≡ SynRcvd → ⊥) → AskedSo o r

  record WantedOn (c d : Connection) : Type 0 where
    mss : is_open d.state ≡ true → d.mss ≡ c.mss
    not_syn : d.state ≡ SynRcvd → ⊥

  fin_not_open : (st : State) → is_open (after_own_fin st) ≡ false
  fin_not_open st = by_own_fin (λ x. is_open x ≡ false) refl refl st

  fin_not_syn : (st : State) → after_own_fin st ≡ SynRcvd → ⊥
  fin_not_syn st = by_own_fin (λ x. x ≡ SynRcvd → ⊥) (λ e. cc) (λ e. cc) st

  wanted_on : (w : Want) (fresh : Bool) (c : Connection) (numbers : List ℕ) → (c.state ≡ SynRcvd → ⊥) → WantedOn c (does_as_wanted w fresh c numbers).connection
  unfolding idles
  wanted_on Abort fresh c numbers n = record { mss = λ e. absurd (cc); not_syn = λ e. cc }
  wanted_on Close fresh c numbers n = record { mss = λ e. absurd (let z = fin_not_open c.state in cc); not_syn = fin_not_syn c.state }
  wanted_on (Send k) fresh c numbers n = record { mss = λ e. refl; not_syn = n }
  wanted_on Nothing fresh c numbers n =
      let same : WantedOn c c = record { mss = λ e. refl; not_syn = n } in
      choose (λ (o : Outcome). WantedOn c o.connection) (peer_has_closed c.state) (leaves (closes c) numbers Step.Reset)
      (if fresh then leaves c numbers Step.Ack else leaves c numbers Step.Drop)
      (λ e. record { mss = λ f. absurd (cc); not_syn = λ f. cc })
      (λ e. choose (λ (o : Outcome). WantedOn c o.connection) fresh (leaves c numbers Step.Ack) (leaves c numbers Step.Drop) (λ f. same) (λ f. same))

  open_not_syn : (st : State) → is_open st ≡ true → st ≡ SynRcvd → ⊥
  open_not_syn st o e = (let z : is_open st ≡ false = ap is_open e in cc)

  pub asked_so : (at : Connection → Now) (o : Outcome) → (is_ask o.step ≡ true → is_open o.connection.state ≡ true) → AskedSo o (asked m at o)
  asked_so at o open_there =
      asked_by m (AskedSo o) at o
      (λ a fresh. (let b : Connection = prepared m (at o.connection) o.connection o.numbers in
      let w = wanted_on (m.want o.numbers b.part) fresh b o.numbers (open_not_syn o.connection.state (open_there a)) in spoke (open_there a) w.mss w.not_syn))
      (unasked refl)

  -- ---- a segment

  established_new : (acked : Bool) (c : Connection) (numbers : List ℕ) (s : PlainSegment) → NoNew (in_established m acked c numbers s)
  unfolding in_established peer_closes stays_established
  established_new acked c numbers s =
      choose NoNew (has_fin s.flags) _ _ (λ e. choose NoNew (ltb 0 c.len) _ _ (λ f. refl) (λ f. refl))
      (λ e. choose NoNew (not acked && not (has_text s)) _ _ (λ f. refl) (λ f. choose NoNew (ltb 0 c.len) _ _ (λ g. refl) (λ g. refl)))

  by_state_new : (st : State) (acked : Bool) (c : Connection) (numbers : List ℕ) (s : PlainSegment) → NoNew (by_state m st acked c numbers s)
  unfolding fin_acked fin_waits
  by_state_new Closed acked c numbers s = refl
  by_state_new SynRcvd true c numbers s = refl
  by_state_new SynRcvd false c numbers s = refl
  by_state_new Established true c numbers s = established_new true (with_part (m.acked numbers c.part c.len).part (rests c))
      (m.acked numbers c.part c.len).numbers s
  by_state_new Established false c numbers s = established_new false c numbers s
  by_state_new CloseWait true c numbers s = refl
  by_state_new CloseWait false c numbers s = refl
  by_state_new FinWait1 true c numbers s = choose NoNew (has_fin s.flags) _ _ (λ e. refl) (λ e. refl)
  by_state_new FinWait1 false c numbers s = choose NoNew (has_fin s.flags) _ _ (λ e. refl) (λ e. choose NoNew (has_text s) _ _ (λ f. refl) (λ f. refl))
  by_state_new FinWait2 acked c numbers s = choose NoNew (has_fin s.flags) _ _ (λ e. refl) (λ e. choose NoNew (has_text s) _ _ (λ f. refl) (λ f. refl))
  by_state_new Closing true c numbers s = refl
  by_state_new Closing false c numbers s = refl
  by_state_new LastAck true c numbers s = refl
  by_state_new LastAck false c numbers s = refl
  by_state_new TimeWait acked c numbers s = refl

  pub segment_new : (c : Connection) (numbers : List ℕ) (s : PlainSegment) → NoNew (on_segment m c numbers s)
  unfolding on_segment
  segment_new c numbers s =
      choose NoNew (has_rst s.flags) _ _ (λ e. refl) (λ e. choose NoNew (is_out_of_order c s) _ _ (λ f. refl)
      (λ f. by_state_new c.state (is_acked c s) c numbers s))

  established_bounds : (flag : Bool) (c b : Connection) (numbers ns : List ℕ) (s : PlainSegment) → Bounds c numbers s (in_established m flag b ns s)
  unfolding in_established peer_closes stays_established
  established_bounds flag c b numbers ns s =
      choose (Bounds c numbers s) (has_fin s.flags) _ _
      (λ e. choose (Bounds c numbers s) (ltb 0 b.len) _ _ (λ f. bounds (by_window s.window b.initial_mss)) (λ f. bounds (by_window s.window b.initial_mss)))
      (λ e. choose (Bounds c numbers s) (not flag && not (has_text s)) _ _ (λ f. bounds (by_window s.window b.initial_mss))
      (λ f. choose (Bounds c numbers s) (ltb 0 b.len) _ _ (λ g. bounds (by_window s.window b.initial_mss)) (λ g. bounds (by_window s.window b.initial_mss))))

  by_state_bounds : (st : State) (acked : Bool) (c : Connection) (numbers : List ℕ) (s : PlainSegment) → c.state ≡ st → is_acked c s ≡ acked
      → Bounds c numbers s (by_state m st acked c numbers s)
  unfolding fin_acked fin_waits
  by_state_bounds Closed acked c numbers s e a = speaks_no_more (ap is_open e)
  by_state_bounds SynRcvd true c numbers s e a = connects_it e a
  by_state_bounds SynRcvd false c numbers s e a = speaks_no_more (ap is_open e)
  by_state_bounds Established true c numbers s e a = established_bounds true c (with_part (m.acked numbers c.part c.len).part (rests c))
      numbers (m.acked numbers c.part c.len).numbers s
  by_state_bounds Established false c numbers s e a = established_bounds false c c numbers numbers s
  by_state_bounds CloseWait true c numbers s e a = bounds (by_window s.window c.initial_mss)
  by_state_bounds CloseWait false c numbers s e a = bounds (by_window s.window c.initial_mss)
  by_state_bounds FinWait1 true c numbers s e a = choose (Bounds c numbers s) (has_fin s.flags) _ _ (λ f. speaks_no_more refl) (λ f. speaks_no_more refl)
  by_state_bounds FinWait1 false c numbers s e a =
      choose (Bounds c numbers s) (has_fin s.flags) _ _ (λ f. speaks_no_more refl) (λ f. choose (Bounds c numbers s) (has_text s) _ _
      (λ g. speaks_no_more (ap is_open e)) (λ g. speaks_no_more (ap is_open e)))
  by_state_bounds FinWait2 acked c numbers s e a =
      choose (Bounds c numbers s) (has_fin s.flags) _ _ (λ f. speaks_no_more refl) (λ f. choose (Bounds c numbers s) (has_text s) _ _
      (λ g. speaks_no_more (ap is_open e)) (λ g. speaks_no_more (ap is_open e)))
  by_state_bounds Closing true c numbers s e a = speaks_no_more refl
  by_state_bounds Closing false c numbers s e a = speaks_no_more (ap is_open e)
  by_state_bounds LastAck true c numbers s e a = speaks_no_more refl
  by_state_bounds LastAck false c numbers s e a = speaks_no_more (ap is_open e)
  by_state_bounds TimeWait acked c numbers s e a = speaks_no_more (ap is_open e)

  pub segment_bounds : (c : Connection) (numbers : List ℕ) (s : PlainSegment) → Bounds c numbers s (on_segment m c numbers s)
  unfolding on_segment
  segment_bounds c numbers s =
      choose (Bounds c numbers s) (has_rst s.flags) _ _ (λ e. speaks_no_more refl)
      (λ e. choose (Bounds c numbers s) (is_out_of_order c s) _ _ (λ f. passes f refl) (λ f. by_state_bounds c.state (is_acked c s) c numbers s refl refl))

  -- ---- a segment in SYN-RECEIVED

  abbrev AtSynStill : Connection → List ℕ → PlainSegment → Outcome → Type 0
  AtSynStill c numbers s o = o.connection.state ≡ SynRcvd → StaysAtSyn c numbers s o

  not_syn : (c : Connection) (st : State) → c.state ≡ st → (st ≡ SynRcvd → ⊥) → c.state ≡ SynRcvd → ⊥
  not_syn c st e n h = n (sym e ∙ h)

  established_syn : (flag : Bool) (c b : Connection) (numbers ns : List ℕ) (s : PlainSegment) → (b.state ≡ SynRcvd → ⊥)
      → AtSynStill c numbers s (in_established m flag b ns s)
  unfolding in_established peer_closes stays_established
  established_syn flag c b numbers ns s n =
      choose (AtSynStill c numbers s) (has_fin s.flags) _ _ (λ e. choose (AtSynStill c numbers s) (ltb 0 b.len) _ _ (λ f h. absurd (cc)) (λ f h. absurd (cc)))
      (λ e. choose (AtSynStill c numbers s) (not flag && not (has_text s)) _ _ (λ f h. absurd (n h))
      (λ f. choose (AtSynStill c numbers s) (ltb 0 b.len) _ _ (λ g h. absurd (n h)) (λ g h. absurd (n h))))

  by_state_syn : (st : State) (acked : Bool) (c : Connection) (numbers : List ℕ) (s : PlainSegment) → c.state ≡ st → is_acked c s ≡ acked
      → AtSynStill c numbers s (by_state m st acked c numbers s)
  unfolding fin_acked fin_waits
  by_state_syn Closed acked c numbers s e a = λ h. absurd (let z = sym e ∙ h in cc)
  by_state_syn SynRcvd true c numbers s e a = λ h. absurd (cc)
  by_state_syn SynRcvd false c numbers s e a = λ h. record { before = e; same = refl; none = inr (a, refl) }
  by_state_syn Established true c numbers s e a = established_syn true c (with_part (m.acked numbers c.part c.len).part (rests c)) numbers
      (m.acked numbers c.part c.len).numbers s (not_syn c Established e (λ z. cc))
  by_state_syn Established false c numbers s e a = established_syn false c c numbers numbers s (not_syn c Established e (λ z. cc))
  by_state_syn CloseWait true c numbers s e a = λ h. absurd (let z = sym e ∙ h in cc)
  by_state_syn CloseWait false c numbers s e a = λ h. absurd (let z = sym e ∙ h in cc)
  by_state_syn FinWait1 true c numbers s e a = choose (AtSynStill c numbers s) (has_fin s.flags) _ _ (λ f h. absurd (cc)) (λ f h. absurd (cc))
  by_state_syn FinWait1 false c numbers s e a =
      choose (AtSynStill c numbers s) (has_fin s.flags) _ _ (λ f h. absurd (cc)) (λ f. choose (AtSynStill c numbers s) (has_text s) _ _
      (λ g h. absurd (let z = sym e ∙ h in cc)) (λ g h. absurd (let z = sym e ∙ h in cc)))
  by_state_syn FinWait2 acked c numbers s e a =
      choose (AtSynStill c numbers s) (has_fin s.flags) _ _ (λ f h. absurd (cc)) (λ f. choose (AtSynStill c numbers s) (has_text s) _ _
      (λ g h. absurd (let z = sym e ∙ h in cc)) (λ g h. absurd (let z = sym e ∙ h in cc)))
  by_state_syn Closing true c numbers s e a = λ h. absurd (cc)
  by_state_syn Closing false c numbers s e a = λ h. absurd (let z = sym e ∙ h in cc)
  by_state_syn LastAck true c numbers s e a = λ h. absurd (cc)
  by_state_syn LastAck false c numbers s e a = λ h. absurd (let z = sym e ∙ h in cc)
  by_state_syn TimeWait acked c numbers s e a = λ h. absurd (let z = sym e ∙ h in cc)

  pub segment_syn : (c : Connection) (numbers : List ℕ) (s : PlainSegment) → AtSynStill c numbers s (on_segment m c numbers s)
  unfolding on_segment
  segment_syn c numbers s =
      choose (AtSynStill c numbers s) (has_rst s.flags) _ _ (λ e h. absurd (cc))
      (λ e. choose (AtSynStill c numbers s) (is_out_of_order c s) _ _ (λ f h. record { before = h; same = refl; none = inl (f, refl) })
      (λ f. by_state_syn c.state (is_acked c s) c numbers s refl refl))

  -- ---- a tick

  pub record TicksOn (c : Connection) (o : Outcome) : Type 0 where
    pub new : NoNew o
    pub mss : is_open o.connection.state ≡ true → (o.connection.mss ≡ c.mss) × (is_open c.state ≡ true)
    pub at_syn : o.connection.state ≡ SynRcvd → (c.state ≡ SynRcvd) × ((o.step ≡ Step.Drop) ⊎ (o.step ≡ Step.SynAck true))
    pub numbers_same : (o.connection.iss ≡ c.iss) × (o.connection.acked ≡ c.acked)

  beat_on : (b : Beat) (c : Connection) (numbers : List ℕ) → TicksOn c (by_beat m b c numbers)
  beat_on Beat.Wait c numbers = record { new = refl; mss = λ e. (refl, e); at_syn = λ e. (e, inl refl); numbers_same = (refl, refl) }
  beat_on Beat.Again c numbers = record {
    new = again_not_new c.state;
    mss = λ e. (refl, e);
    at_syn = λ e. (e, inr (ap (outstanding true) e));
    numbers_same = (refl, refl);
  }
  beat_on Beat.GiveUp c numbers = record { new = refl; mss = λ e. absurd (cc); at_syn = λ e. absurd (cc); numbers_same = (refl, refl) }

  pub tick_on : (c : Connection) (numbers : List ℕ) → TicksOn c (on_tick m c numbers)
  tick_on c numbers = on_tick_by m (TicksOn c) c numbers record {
    none = record { new = refl; mss = λ e. (refl, e); at_syn = λ e. (e, inl refl); numbers_same = (refl, refl) };
    beats = λ r b. beat_on b c numbers;
    rested = λ e. record { new = refl; mss = λ f. (refl, f); at_syn = λ f. (f, inl refl); numbers_same = (refl, refl) };
    ends = record { new = refl; mss = λ e. absurd (cc); at_syn = λ e. absurd (cc); numbers_same = (refl, refl) };
    polled = λ e l. record { new = refl; mss = λ f. (refl, f); at_syn = λ f. absurd (let z = sym e ∙ f in cc); numbers_same = (refl, refl) };
  }
