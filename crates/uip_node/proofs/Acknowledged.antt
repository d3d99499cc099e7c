-- A step moves the acknowledged position to the end of what was outstanding, or leaves it.
use Rattle.uip_node.proofs.Prelude.{◌≡◌, ℕ, ◌+◌, ◌≤◌, Bool, true, false, not, ◌&&◌, ◌⊎◌, inl, inr, List, refl, ap, ◌∙◌, sym, subst, arith}
use Rattle.uip_node.proofs.Prelude.{ltb, PlainSegment, has_fin, has_rst, Beat, AppSpec, Now, State, Closed, SynRcvd, Established, CloseWait}
use Rattle.uip_node.proofs.Prelude.{FinWait1, FinWait2, Closing, TimeWait, LastAck, Connection, Outcome, ask, asked, closes, prepared}
use Rattle.uip_node.proofs.Prelude.{is_out_of_order, is_acked, rests, has_text, with_part, in_established, peer_closes, stays_established}
use Rattle.uip_node.proofs.Prelude.{fin_acked, fin_waits, by_state, on_segment, by_beat, grows_older, on_tick, polls}
use Rattle.uip_node.proofs.Basics.{choose, ltb-zero}
use Rattle.uip_node.proofs.Cases.{asked_by, is_ask, no_ask_again, on_tick_by, wanted_unmoved}

pub record Moves (acked : Bool) (c d : Connection) : Type 0 where
  pub iss : d.iss ≡ c.iss
  pub place : (d.acked ≡ c.acked) ⊎ ((acked ≡ true) × (d.acked ≡ c.acked + c.len))
  pub top : c.acked + c.len ≤ d.acked + d.len

pub record OutMoves (acked : Bool) (c : Connection) (o : Outcome) : Type 0 where
  pub moves : Moves acked c o.connection
  pub idle : is_ask o.step ≡ true → o.connection.len ≡ 0

stays : (acked : Bool) (c d : Connection) → d.iss ≡ c.iss → d.acked ≡ c.acked → c.len ≤ d.len → Moves acked c d
stays acked c d f a l = record { iss = f; place = inl a; top = omega (arith, a, l) }

goes : (c d : Connection) → d.iss ≡ c.iss → d.acked ≡ c.acked + c.len → Moves true c d
goes c d f a = record { iss = f; place = inr (refl, a); top = omega (arith, a) }

like : (acked : Bool) (c b d : Connection) → Moves acked c b → d.iss ≡ b.iss → d.acked ≡ b.acked → b.len ≤ d.len → Moves acked c d
like acked c b d m f a l = record {
  iss = f ∙ m.iss;
  place = elim m.place [ inl x ↦ inl (a ∙ x) | inr x ↦ inr (x.0, a ∙ x.1) ];
  top = omega (arith, m.top, a, l);
}

module _ (m : AppSpec) where
  pub asked_moves : (acked : Bool) (c : Connection) (at : Connection → Now) (o : Outcome) → OutMoves acked c o → Moves acked c (asked m at o).connection
  asked_moves acked c at o h =
      asked_by m (λ x. Moves acked c x.connection) at o
      (λ a fresh. (let b : Connection = prepared m (at o.connection) o.connection o.numbers in
      let u = wanted_unmoved m (m.want o.numbers b.part) fresh b o.numbers in
      let none : o.connection.len ≡ 0 = h.idle a in
      like acked c o.connection (ask m (at o.connection) fresh o.connection o.numbers).connection h.moves u.iss u.acked (omega (arith, none))))
      h.moves

  established_moves : (acked flag : Bool) (c b : Connection) (numbers : List ℕ) (s : PlainSegment) → Moves acked c b
      → OutMoves acked c (in_established m flag b numbers s)
  unfolding in_established peer_closes stays_established
  established_moves acked flag c b numbers s h =
      choose (λ x. OutMoves acked c x) (has_fin s.flags) _ _
      (λ e. choose (λ x. OutMoves acked c x) (ltb 0 b.len) _ _
      (λ f. record { moves = like acked c b _ h refl refl (omega arith); idle = λ z. absurd (cc) })
      (λ f. record { moves = like acked c b _ h refl refl (omega arith); idle = λ z. ltb-zero b.len f }))
      (λ e. choose (λ x. OutMoves acked c x) (not flag && not (has_text s)) _ _
      (λ f. record { moves = like acked c b _ h refl refl (omega arith); idle = λ z. absurd (cc) })
      (λ f. choose (λ x. OutMoves acked c x) (ltb 0 b.len) _ _
      (λ g. record { moves = like acked c b _ h refl refl (omega arith); idle = λ z. absurd (cc) })
      (λ g. record { moves = like acked c b _ h refl refl (omega arith); idle = λ z. ltb-zero b.len g })))

  by_state_moves : (st : State) (acked : Bool) (c : Connection) (numbers : List ℕ) (s : PlainSegment) → OutMoves acked c (by_state m st acked c numbers s)
  unfolding fin_acked fin_waits
  by_state_moves Closed acked c numbers s = record { moves = stays acked c c refl refl (omega arith); idle = λ z. absurd (cc) }
  by_state_moves SynRcvd true c numbers s = record { moves = goes c _ refl refl; idle = λ z. refl }
  by_state_moves SynRcvd false c numbers s = record { moves = stays false c c refl refl (omega arith); idle = λ z. absurd (cc) }
  by_state_moves Established true c numbers s =
      let b : Connection = with_part (m.acked numbers c.part c.len).part (rests c) in
      established_moves true true c b (m.acked numbers c.part c.len).numbers s (goes c b refl refl)
  by_state_moves Established false c numbers s = established_moves false false c c numbers s (stays false c c refl refl (omega arith))
  by_state_moves CloseWait true c numbers s = record { moves = goes c _ refl refl; idle = λ z. refl }
  by_state_moves CloseWait false c numbers s = record { moves = stays false c _ refl refl (omega arith); idle = λ z. absurd (cc) }
  by_state_moves FinWait1 true c numbers s =
      choose (λ x. OutMoves true c x) (has_fin s.flags) _ _ (λ e. record { moves = goes c _ refl refl; idle = λ z. absurd (cc) })
      (λ e. record { moves = goes c _ refl refl; idle = λ z. absurd (cc) })
  by_state_moves FinWait1 false c numbers s =
      choose (λ x. OutMoves false c x) (has_fin s.flags) _ _ (λ e. record { moves = stays false c _ refl refl (omega arith); idle = λ z. absurd (cc) })
      (λ e. choose (λ x. OutMoves false c x) (has_text s) _ _
      (λ f. record { moves = stays false c _ refl refl (omega arith); idle = λ z. absurd (cc) })
      (λ f. record { moves = stays false c c refl refl (omega arith); idle = λ z. absurd (cc) }))
  by_state_moves FinWait2 acked c numbers s =
      choose (λ x. OutMoves acked c x) (has_fin s.flags) _ _ (λ e. record { moves = stays acked c _ refl refl (omega arith); idle = λ z. absurd (cc) })
      (λ e. choose (λ x. OutMoves acked c x) (has_text s) _ _
      (λ f. record { moves = stays acked c _ refl refl (omega arith); idle = λ z. absurd (cc) })
      (λ f. record { moves = stays acked c c refl refl (omega arith); idle = λ z. absurd (cc) }))
  by_state_moves Closing true c numbers s = record { moves = goes c _ refl refl; idle = λ z. absurd (cc) }
  by_state_moves Closing false c numbers s = record { moves = stays false c c refl refl (omega arith); idle = λ z. absurd (cc) }
  by_state_moves LastAck true c numbers s = record { moves = goes c _ refl refl; idle = λ z. absurd (cc) }
  by_state_moves LastAck false c numbers s = record { moves = stays false c c refl refl (omega arith); idle = λ z. absurd (cc) }
  by_state_moves TimeWait acked c numbers s = record { moves = stays acked c c refl refl (omega arith); idle = λ z. absurd (cc) }

  pub segment_moves : (c : Connection) (numbers : List ℕ) (s : PlainSegment) → OutMoves (not (has_rst s.flags) && is_acked c s) c (on_segment m c numbers s)
  unfolding on_segment
  segment_moves c numbers s =
      let acked : Bool = not (has_rst s.flags) && is_acked c s in
      choose (λ x. OutMoves acked c x) (has_rst s.flags) _ _ (λ e. record { moves = stays acked c _ refl refl (omega arith); idle = λ z. absurd (cc) })
      (λ e. choose (λ x. OutMoves acked c x) (is_out_of_order c s) _ _
      (λ f. record { moves = stays acked c c refl refl (omega arith); idle = λ z. absurd (cc) })
      (λ f. subst (λ b. OutMoves b c (by_state m c.state (is_acked c s) c numbers s)) (sym (ap (λ b. not b && is_acked c s) e))
      (by_state_moves c.state (is_acked c s) c numbers s)))

  by_beat_moves : (b : Beat) (c : Connection) (numbers : List ℕ) → OutMoves false c (by_beat m b c numbers)
  by_beat_moves Beat.Wait c numbers = record { moves = stays false c _ refl refl (omega arith); idle = λ z. absurd (cc) }
  by_beat_moves Beat.Again c numbers = record { moves = stays false c _ refl refl (omega arith); idle = λ z. absurd (let q = no_ask_again m c.state in cc) }
  by_beat_moves Beat.GiveUp c numbers = record { moves = stays false c _ refl refl (omega arith); idle = λ z. absurd (cc) }

  pub tick_moves : (c : Connection) (numbers : List ℕ) → OutMoves false c (on_tick m c numbers)
  tick_moves c numbers = on_tick_by m (λ o. OutMoves false c o) c numbers record {
    none = record { moves = stays false c c refl refl (omega arith); idle = λ z. absurd (cc) };
    beats = λ r b. by_beat_moves b c numbers;
    rested = λ e. record { moves = stays false c (grows_older c) refl refl (omega arith); idle = λ z. absurd (cc) };
    ends = record { moves = stays false c (closes c) refl refl (omega arith); idle = λ z. absurd (cc) };
    polled = λ e l. record { moves = stays false c (polls m c numbers).connection refl refl (omega arith); idle = λ z. l };
  }
