-- A step keeps the sockets of a connection, whatever its client did.
use Rattle.uip_node.proofs.Prelude.{◌≡◌, ℕ, Bool, true, false, not, ◌&&◌, List, refl, ◌∙◌, ltb, PlainSegment, has_fin, has_rst, Beat}
use Rattle.uip_node.proofs.Prelude.{AppSpec, Now, State, Closed, SynRcvd, Established, CloseWait, FinWait1, FinWait2, Closing, TimeWait}
use Rattle.uip_node.proofs.Prelude.{LastAck, Connection, Outcome, leaves, prepared, asked, is_out_of_order, is_acked, has_text, peer_closes}
use Rattle.uip_node.proofs.Prelude.{stays_established, in_established, fin_acked, fin_waits, by_state, on_segment, with_part, rests}
use Rattle.uip_node.proofs.Prelude.{by_beat, tick_by, on_tick, Step}
use Rattle.tcp_machine.specs.Connection.{is_live}
use Rattle.uip_node.proofs.Basics.{choose}
use Rattle.uip_node.proofs.Cases.{asked_by, on_tick_by, wanted_unmoved}

abbrev pub Keeps : Connection → Outcome → Type 0
Keeps c o = o.connection.sockets ≡ c.sockets

module _ (m : AppSpec) where
  pub asked_keeps : (at : Connection → Now) (c : Connection) (o : Outcome) → Keeps c o → Keeps c (asked m at o)
  asked_keeps at c o h =
      asked_by m (λ x. Keeps c x) at o (λ a fresh. (let b : Connection = prepared m (at o.connection) o.connection o.numbers in
      (wanted_unmoved m (m.want o.numbers b.part) fresh b o.numbers).sockets ∙ h)) h

  established_keeps : (acked : Bool) (c : Connection) (numbers : List ℕ) (s : PlainSegment) → Keeps c (in_established m acked c numbers s)
  unfolding in_established peer_closes stays_established
  established_keeps acked c numbers s =
      choose (λ o. Keeps c o) (has_fin s.flags) _ _
      (λ e. choose (λ o. Keeps c o) (ltb 0 c.len) _ _ (λ f. refl) (λ f. refl))
      (λ e. choose (λ o. Keeps c o) (not acked && not (has_text s)) _ _ (λ f. refl) (λ f. choose (λ o. Keeps c o) (ltb 0 c.len) _ _ (λ g. refl) (λ g. refl)))

  by_state_keeps : (st : State) (acked : Bool) (c : Connection) (numbers : List ℕ) (s : PlainSegment) → Keeps c (by_state m st acked c numbers s)
  unfolding fin_acked fin_waits
  by_state_keeps Closed acked c numbers s = refl
  by_state_keeps SynRcvd true c numbers s = refl
  by_state_keeps SynRcvd false c numbers s = refl
  by_state_keeps Established true c numbers s = established_keeps true (with_part (m.acked numbers c.part c.len).part (rests c))
      (m.acked numbers c.part c.len).numbers s
  by_state_keeps Established false c numbers s = established_keeps false c numbers s
  by_state_keeps CloseWait true c numbers s = refl
  by_state_keeps CloseWait false c numbers s = refl
  by_state_keeps FinWait1 true c numbers s = choose (λ o. Keeps c o) (has_fin s.flags) _ _ (λ e. refl) (λ e. refl)
  by_state_keeps FinWait1 false c numbers s = choose (λ o. Keeps c o) (has_fin s.flags) _ _ (λ e. refl)
      (λ e. choose (λ o. Keeps c o) (has_text s) _ _ (λ f. refl) (λ f. refl))
  by_state_keeps FinWait2 acked c numbers s = choose (λ o. Keeps c o) (has_fin s.flags) _ _ (λ e. refl)
      (λ e. choose (λ o. Keeps c o) (has_text s) _ _ (λ f. refl) (λ f. refl))
  by_state_keeps Closing true c numbers s = refl
  by_state_keeps Closing false c numbers s = refl
  by_state_keeps LastAck true c numbers s = refl
  by_state_keeps LastAck false c numbers s = refl
  by_state_keeps TimeWait acked c numbers s = refl

  pub on_segment_keeps : (c : Connection) (numbers : List ℕ) (s : PlainSegment) → Keeps c (on_segment m c numbers s)
  unfolding on_segment
  on_segment_keeps c numbers s =
      choose (λ o. Keeps c o) (has_rst s.flags) _ _ (λ e. refl) (λ e.
      choose (λ o. Keeps c o) (is_out_of_order c s) _ _ (λ f. refl) (λ f. by_state_keeps c.state (is_acked c s) c numbers s))

  by_beat_keeps : (b : Beat) (c : Connection) (numbers : List ℕ) → Keeps c (by_beat m b c numbers)
  by_beat_keeps Beat.Wait c numbers = refl
  by_beat_keeps Beat.Again c numbers = refl
  by_beat_keeps Beat.GiveUp c numbers = refl

  pub on_tick_keeps : (c : Connection) (numbers : List ℕ) → Keeps c (on_tick m c numbers)
  on_tick_keeps c numbers = on_tick_by m (λ o. Keeps c o) c numbers record {
    none = refl;
    beats = λ r b. by_beat_keeps b c numbers;
    rested = λ e. refl;
    ends = refl;
    polled = λ e z. refl;
  }

  tick_closed : (st : State) (c : Connection) (numbers : List ℕ) → is_live st ≡ false → tick_by m st c numbers ≡ leaves c numbers Step.Drop
  tick_closed Closed c numbers h = refl
  tick_closed _ c numbers h = absurd (cc)

  -- a tick of a CLOSED connection does nothing
  pub on_tick_closed : (c : Connection) (numbers : List ℕ) → is_live c.state ≡ false → on_tick m c numbers ≡ leaves c numbers Step.Drop
  on_tick_closed c numbers h = tick_closed c.state c numbers h
