-- What a connection replies: never a SYN, a RST only if it is CLOSED, and no text longer than the peer accepts.
use Rattle.node_laws.proofs.Prelude.{◌≡◌, ℕ, ◌≤◌, Bool, true, false, not, ◌&&◌, List, length, take, drop, refl, arith, ltb, Some, None}
use Rattle.node_laws.proofs.Prelude.{length-take, PlainSegment, has_fin, has_rst, has_syn, AppSpec, Now, State, Closed, SynRcvd}
use Rattle.node_laws.proofs.Prelude.{Established, CloseWait, FinWait1, FinWait2, Closing, TimeWait, LastAck, Want, Nothing, Send, Close}
use Rattle.node_laws.proofs.Prelude.{Abort, Beat, Connection, is_live, rcv_nxt, segment_of, bare_ack, syn_ack, text_segment, fin_of}
use Rattle.node_laws.proofs.Prelude.{reset_of, Outcome, peer_has_closed, idles, does_as_wanted, prepared, asked, is_out_of_order, is_acked}
use Rattle.node_laws.proofs.Prelude.{has_text, peer_closes, stays_established, in_established, fin_acked, fin_waits, by_state, on_segment}
use Rattle.node_laws.proofs.Prelude.{with_part, rests, outstanding, by_beat, on_tick, Step, choose, only_some, asked_by, on_tick_by}
use Rattle.node_laws.proofs.Prelude.{LensWithin}

abbrev is_syn_ack : Step → Bool
is_syn_ack (Step.SynAck again) = true
is_syn_ack _ = false

abbrev is_reset : Step → Bool
is_reset Step.Reset = true
is_reset _ = false

-- it is no SYN, and where it is a RST, the connection is gone
record NoSyn (o : Outcome) : Type 0 where
  no_syn : is_syn_ack o.step ≡ false
  gone : is_reset o.step ≡ true → is_live o.connection.state ≡ false

calm : (o : Outcome) → is_syn_ack o.step ≡ false → is_reset o.step ≡ false → NoSyn o
calm o a b = record { no_syn = a; gone = λ z. absurd (cc) }

module _ (m : AppSpec) where
  wanted_no : (w : Want) (fresh : Bool) (c : Connection) (numbers : List ℕ) → NoSyn (does_as_wanted w fresh c numbers)
  unfolding idles
  wanted_no Abort fresh c numbers = record { no_syn = refl; gone = λ z. refl }
  wanted_no Close fresh c numbers = calm _ refl refl
  wanted_no (Send n) fresh c numbers = calm _ refl refl
  wanted_no Nothing fresh c numbers = choose (λ o. NoSyn o) (peer_has_closed c.state) _ _ (λ e. record { no_syn = refl; gone = λ z. refl })
      (λ e. choose (λ o. NoSyn o) fresh _ _ (λ f. calm _ refl refl) (λ f. calm _ refl refl))

  asked_no : (at : Connection → Now) (o : Outcome) → NoSyn o → NoSyn (asked m at o)
  asked_no at o h = asked_by m (λ x. NoSyn x) at o (λ a fresh. (let b : Connection = prepared m (at o.connection) o.connection o.numbers in
      wanted_no (m.want o.numbers b.part) fresh b o.numbers)) h

  established_no : (acked : Bool) (c : Connection) (numbers : List ℕ) (s : PlainSegment) → NoSyn (in_established m acked c numbers s)
  unfolding in_established peer_closes stays_established
  established_no acked c numbers s =
      choose (λ o. NoSyn o) (has_fin s.flags) _ _
      (λ e. choose (λ o. NoSyn o) (ltb 0 c.len) _ _ (λ f. calm _ refl refl) (λ f. calm _ refl refl))
      (λ e. choose (λ o. NoSyn o) (not acked && not (has_text s)) _ _ (λ f. calm _ refl refl) (λ f. choose (λ o. NoSyn o) (ltb 0 c.len) _ _
      (λ g. calm _ refl refl) (λ g. calm _ refl refl)))

  by_state_no : (st : State) (acked : Bool) (c : Connection) (numbers : List ℕ) (s : PlainSegment) → NoSyn (by_state m st acked c numbers s)
  unfolding fin_acked fin_waits
  by_state_no Closed acked c numbers s = calm _ refl refl
  by_state_no SynRcvd true c numbers s = calm _ refl refl
  by_state_no SynRcvd false c numbers s = calm _ refl refl
  by_state_no Established true c numbers s = established_no true (with_part (m.acked numbers c.part c.len).part (rests c))
      (m.acked numbers c.part c.len).numbers s
  by_state_no Established false c numbers s = established_no false c numbers s
  by_state_no CloseWait true c numbers s = calm _ refl refl
  by_state_no CloseWait false c numbers s = calm _ refl refl
  by_state_no FinWait1 true c numbers s = choose (λ o. NoSyn o) (has_fin s.flags) _ _ (λ e. calm _ refl refl) (λ e. calm _ refl refl)
  by_state_no FinWait1 false c numbers s = choose (λ o. NoSyn o) (has_fin s.flags) _ _ (λ e. calm _ refl refl)
      (λ e. choose (λ o. NoSyn o) (has_text s) _ _ (λ f. calm _ refl refl) (λ f. calm _ refl refl))
  by_state_no FinWait2 acked c numbers s = choose (λ o. NoSyn o) (has_fin s.flags) _ _ (λ e. calm _ refl refl)
      (λ e. choose (λ o. NoSyn o) (has_text s) _ _ (λ f. calm _ refl refl) (λ f. calm _ refl refl))
  by_state_no Closing true c numbers s = calm _ refl refl
  by_state_no Closing false c numbers s = calm _ refl refl
  by_state_no LastAck true c numbers s = calm _ refl refl
  by_state_no LastAck false c numbers s = calm _ refl refl
  by_state_no TimeWait acked c numbers s = calm _ refl refl

  on_segment_no : (c : Connection) (numbers : List ℕ) (s : PlainSegment) → NoSyn (on_segment m c numbers s)
  unfolding on_segment
  on_segment_no c numbers s =
      choose (λ o. NoSyn o) (has_rst s.flags) _ _ (λ e. calm _ refl refl) (λ e.
      choose (λ o. NoSyn o) (is_out_of_order c s) _ _ (λ f. calm _ refl refl) (λ f. by_state_no c.state (is_acked c s) c numbers s))

  sent_no : (d : Connection) (st : Step) (s : PlainSegment) → is_syn_ack st ≡ false → segment_of m d st ≡ Some s → has_syn s.flags ≡ false
  sent_no d Step.Drop s n e = absurd (cc)
  sent_no d Step.Ack s n e = only_some (λ x. has_syn x.flags ≡ false) (bare_ack d) s e refl
  sent_no d (Step.SynAck again) s n e = absurd (cc)
  sent_no d (Step.Text again) s n e = only_some (λ x. has_syn x.flags ≡ false) (text_segment m d) s e refl
  sent_no d (Step.Fin again) s n e = only_some (λ x. has_syn x.flags ≡ false) (fin_of d) s e refl
  sent_no d Step.Reset s n e = only_some (λ x. has_syn x.flags ≡ false) (reset_of d) s e refl
  sent_no d (Step.Ask fresh) s n e = absurd (cc)

  pub answer_no_syn : (at : Connection → Now) (c : Connection) (numbers : List ℕ) (s t : PlainSegment)
      → (let o : Outcome = asked m at (on_segment m c numbers s) in segment_of m o.connection o.step ≡ Some t) → has_syn t.flags ≡ false
  answer_no_syn at c numbers s t e = (let o : Outcome = asked m at (on_segment m c numbers s) in
      sent_no o.connection o.step t (asked_no at (on_segment m c numbers s) (on_segment_no c numbers s)).no_syn e)

  -- a RST is not answered
  pub rst_silent : (at : Connection → Now) (c : Connection) (numbers : List ℕ) (s : PlainSegment) → has_rst s.flags ≡ true
      → (let o : Outcome = asked m at (on_segment m c numbers s) in segment_of m o.connection o.step ≡ None)
  unfolding on_segment
  rst_silent at c numbers s r =
      let silent : Outcome → Type 0 = λ z. (let o : Outcome = asked m at z in segment_of m o.connection o.step ≡ None) in
      choose silent (has_rst s.flags) _ _ (λ e. refl) (λ e. absurd (cc))

  -- and ends the connection
  pub rst_ends : (at : Connection → Now) (c : Connection) (numbers : List ℕ) (s : PlainSegment) → has_rst s.flags ≡ true
      → is_live (asked m at (on_segment m c numbers s)).connection.state ≡ false
  unfolding on_segment
  rst_ends at c numbers s r =
      choose (λ z. is_live (asked m at z).connection.state ≡ false) (has_rst s.flags) _ _ (λ e. refl) (λ e. absurd (cc))

  sent_reset : (d : Connection) (st : Step) (s : PlainSegment) → segment_of m d st ≡ Some s → has_rst s.flags ≡ true → is_reset st ≡ true
  sent_reset d Step.Drop s e r = absurd (cc)
  sent_reset d Step.Ack s e r = absurd (let z : has_rst s.flags ≡ false = only_some (λ x. has_rst x.flags ≡ false) (bare_ack d) s e refl in cc)
  sent_reset d (Step.SynAck again) s e r = absurd (let z : has_rst s.flags ≡ false = only_some (λ x. has_rst x.flags ≡ false) (syn_ack d) s e refl in cc)
  sent_reset d (Step.Text again) s e r = absurd (let z : has_rst s.flags ≡ false = only_some (λ x. has_rst x.flags ≡ false) (text_segment m d) s e refl in cc)
  sent_reset d (Step.Fin again) s e r = absurd (let z : has_rst s.flags ≡ false = only_some (λ x. has_rst x.flags ≡ false) (fin_of d) s e refl in cc)
  sent_reset d Step.Reset s e r = refl
  sent_reset d (Step.Ask fresh) s e r = absurd (cc)

  -- a connection that sends a RST is gone
  pub reset_ends : (at : Connection → Now) (c : Connection) (numbers : List ℕ) (s t : PlainSegment)
      → (let o : Outcome = asked m at (on_segment m c numbers s) in segment_of m o.connection o.step ≡ Some t) → has_rst t.flags ≡ true
      → is_live (asked m at (on_segment m c numbers s)).connection.state ≡ false
  reset_ends at c numbers s t e r = (let o : Outcome = asked m at (on_segment m c numbers s) in
      (asked_no at (on_segment m c numbers s) (on_segment_no c numbers s)).gone (sent_reset o.connection o.step t e r))

  -- ---- a periodic call

  abbrev Ends : Outcome → Type 0
  Ends o = is_reset o.step ≡ true → is_live o.connection.state ≡ false

  outstanding_no : (again : Bool) (st : State) → is_reset (outstanding again st) ≡ true → ⊥
  outstanding_no again Closed h = absurd (cc)
  outstanding_no again SynRcvd h = absurd (cc)
  outstanding_no again Established h = absurd (cc)
  outstanding_no again CloseWait h = absurd (cc)
  outstanding_no again FinWait1 h = absurd (cc)
  outstanding_no again FinWait2 h = absurd (cc)
  outstanding_no again Closing h = absurd (cc)
  outstanding_no again TimeWait h = absurd (cc)
  outstanding_no again LastAck h = absurd (cc)

  by_beat_ends : (b : Beat) (c : Connection) (numbers : List ℕ) → Ends (by_beat m b c numbers)
  by_beat_ends Beat.Wait c numbers = λ h. absurd (cc)
  by_beat_ends Beat.Again c numbers = λ h. absurd (outstanding_no true c.state h)
  by_beat_ends Beat.GiveUp c numbers = λ h. refl

  on_tick_ends : (c : Connection) (numbers : List ℕ) → Ends (on_tick m c numbers)
  on_tick_ends c numbers = on_tick_by m Ends c numbers record {
    none = λ h. absurd (cc);
    beats = λ r b. by_beat_ends b c numbers;
    rested = λ e h. absurd (cc);
    ends = λ h. absurd (cc);
    polled = λ e l h. absurd (cc);
  }

  asked_ends : (at : Connection → Now) (o : Outcome) → Ends o → Ends (asked m at o)
  asked_ends at o h = asked_by m Ends at o (λ a fresh. (let b : Connection = prepared m (at o.connection) o.connection o.numbers in
      (wanted_no (m.want o.numbers b.part) fresh b o.numbers).gone)) h

  pub tick_reset_ends : (at : Connection → Now) (c : Connection) (numbers : List ℕ) (t : PlainSegment)
      → (let o : Outcome = asked m at (on_tick m c numbers) in segment_of m o.connection o.step ≡ Some t) → has_rst t.flags ≡ true
      → is_live (asked m at (on_tick m c numbers)).connection.state ≡ false
  tick_reset_ends at c numbers t e r = (let o : Outcome = asked m at (on_tick m c numbers) in asked_ends at (on_tick m c numbers)
      (on_tick_ends c numbers) (sent_reset o.connection o.step t e r))

-- no text is longer than what is outstanding
pub step_short : (m : AppSpec) (most : ℕ) (c : Connection) (st : Step) (s : PlainSegment) → LensWithin most c → segment_of m c st ≡ Some s
    → length s.text ≤ most
step_short m most c Step.Drop s l e = absurd (cc)
step_short m most c Step.Ack s l e = only_some (λ x. length x.text ≤ most) (bare_ack c) s e (omega arith)
step_short m most c (Step.SynAck again) s l e = only_some (λ x. length x.text ≤ most) (syn_ack c) s e (omega arith)
step_short m most c (Step.Text again) s l e = only_some (λ x. length x.text ≤ most) (text_segment m c) s e
    (let h : length (take c.len (drop c.part.acked (m.output c.part))) ≤ c.len = simp length-take (omega arith) in omega (arith, h, l.len))
step_short m most c (Step.Fin again) s l e = only_some (λ x. length x.text ≤ most) (fin_of c) s e (omega arith)
step_short m most c Step.Reset s l e = only_some (λ x. length x.text ≤ most) (reset_of c) s e (omega arith)
step_short m most c (Step.Ask fresh) s l e = absurd (cc)

-- every segment of a connection acknowledges what it took
pub sent_ack : (m : AppSpec) (d : Connection) (st : Step) (s : PlainSegment) → segment_of m d st ≡ Some s → s.ack ≡ rcv_nxt d
sent_ack m d Step.Drop s e = absurd (cc)
sent_ack m d Step.Ack s e = only_some (λ x. x.ack ≡ rcv_nxt d) (bare_ack d) s e refl
sent_ack m d (Step.SynAck again) s e = only_some (λ x. x.ack ≡ rcv_nxt d) (syn_ack d) s e refl
sent_ack m d (Step.Text again) s e = only_some (λ x. x.ack ≡ rcv_nxt d) (text_segment m d) s e refl
sent_ack m d (Step.Fin again) s e = only_some (λ x. x.ack ≡ rcv_nxt d) (fin_of d) s e refl
sent_ack m d Step.Reset s e = only_some (λ x. x.ack ≡ rcv_nxt d) (reset_of d) s e refl
sent_ack m d (Step.Ask fresh) s e = absurd (cc)
