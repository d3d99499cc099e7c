-- The numbers of a connection beside those of its application's state, whatever happens.
use Rattle.link_world.proofs.Prelude.{◌≡◌, ℕ, ◌+◌, ◌≤◌, Bool, true, false, not, ◌&&◌, inl, inr, List, [], ◌++◌, length, refl, sym, ap, ◌∙◌}
use Rattle.link_world.proofs.Prelude.{subst, arith, length-append, ltb, PlainSegment, has_fin, has_rst, Beat, AppSpec, Pages, IsPaged, Now}
use Rattle.link_world.proofs.Prelude.{State, Closed, SynRcvd, Established, CloseWait, FinWait1, FinWait2, Closing, TimeWait, LastAck, Want}
use Rattle.link_world.proofs.Prelude.{Nothing, Send, Close, Abort, Connection, Sockets, closed, is_live, Outcome, after_own_fin, closes}
use Rattle.link_world.proofs.Prelude.{peer_has_closed, idles, does_as_wanted, prepared, asked, accepted, delivers_text, is_out_of_order}
use Rattle.link_world.proofs.Prelude.{is_acked, rests, has_text, in_state, takes, with_part, with_window, in_established, peer_closes}
use Rattle.link_world.proofs.Prelude.{stays_established, fin_acked, fin_waits, by_state, on_segment, grows_older, by_beat, on_tick, Step}
use Rattle.link_world.proofs.Prelude.{HasTextNumbers, choose, is_open, asked_by, by_open, by_own_fin, is_ask, no_ask_again, on_tick_by}
use Rattle.link_world.proofs.Prelude.{open_live, Received, receives_is}

-- the numbers, by the state
abbrev AtNumbers : State → Connection → Type 0
AtNumbers Closed c = Unit {0}
AtNumbers SynRcvd c = (c.acked ≡ 0) × (c.len ≡ 1) × (c.taken ≡ 0) × (c.part.input ≡ [])
AtNumbers Established c = (c.acked ≡ 1 + c.part.acked) × (c.taken ≡ length c.part.input)
AtNumbers CloseWait c = (c.acked ≡ 1 + c.part.acked) × (c.taken ≡ length c.part.input + 1)
AtNumbers _ c = length c.part.input ≤ c.taken

pub record Num (c : Connection) : Type 0 where
  pub at : AtNumbers c.state c

-- an outcome: a step asks in ESTABLISHED and CLOSE-WAIT alone
record OutNum (o : Outcome) : Type 0 where
  num : Num o.connection
  open_there : is_ask o.step ≡ true → is_open o.connection.state ≡ true

num_at : (d : Connection) (st : State) → d.state ≡ st → AtNumbers st d → Num d
num_at d st e h = record { at = subst (λ x. AtNumbers x d) (sym e) h }

closes_num : (c : Connection) → Num (closes c)
closes_num c = record { at = tt }

-- in ESTABLISHED and CLOSE-WAIT, with the same numbers
open_num : (c d : Connection) (st : State) → is_open st ≡ true → d.acked ≡ c.acked → d.taken ≡ c.taken → d.part.acked ≡ c.part.acked
    → d.part.input ≡ c.part.input → AtNumbers st c → AtNumbers st d
open_num c d st o a t pa ph h =
    by_open (λ x. AtNumbers x c → AtNumbers x d) (λ g. (omega (arith, a, pa, g.0), omega (arith, t, ap length ph, g.1)))
    (λ g. (omega (arith, a, pa, g.0), omega (arith, t, ap length ph, g.1))) st o h

-- the same numbers in the same state; what is outstanding stays too
like_num : (c d : Connection) (st : State) → d.acked ≡ c.acked → d.len ≡ c.len → d.taken ≡ c.taken → d.part.acked ≡ c.part.acked
    → d.part.input ≡ c.part.input → AtNumbers st c → AtNumbers st d
like_num c d Closed a l t pa ph h = tt
like_num c d SynRcvd a l t pa ph h = (a ∙ h.0, l ∙ h.1, t ∙ h.2, ph ∙ h.3)
like_num c d Established a l t pa ph h = (omega (arith, a, pa, h.0), omega (arith, t, ap length ph, h.1))
like_num c d CloseWait a l t pa ph h = (omega (arith, a, pa, h.0), omega (arith, t, ap length ph, h.1))
like_num c d _ a l t pa ph h = omega (arith, t, ap length ph, h)

low_num : (c : Connection) (st : State) → is_live st ≡ true → AtNumbers st c → length c.part.input ≤ c.taken
low_num c Closed l h = absurd (cc)
low_num c SynRcvd l h = omega (arith, ap length h.3)
low_num c Established l h = omega (arith, h.1)
low_num c CloseWait l h = omega (arith, h.1)
low_num c _ l h = h

-- the state after an own FIN
fin_num : (d : Connection) (st : State) → length d.part.input ≤ d.taken → AtNumbers (after_own_fin st) d
fin_num d st h = by_own_fin (λ x. AtNumbers x d) h h st

module _ (m : AppSpec) (pages : Pages) (lawful : IsPaged m pages) where
  wanted_num : (w : Want) (fresh : Bool) (c : Connection) (numbers : List ℕ) → is_open c.state ≡ true → Num c
      → Num (does_as_wanted w fresh c numbers).connection
  unfolding idles
  wanted_num Abort fresh c numbers o g = closes_num c
  wanted_num Close fresh c numbers o g = record {
    at = fin_num (record c { state = after_own_fin c.state; len = 1; age = 0 }) c.state
        (low_num c c.state (open_live c.state o) g.at);
  }
  wanted_num (Send n) fresh c numbers o g = record { at = open_num c (does_as_wanted (Send n) fresh c numbers).connection c.state o refl refl refl refl g.at }
  wanted_num Nothing fresh c numbers o g =
      choose (λ (x : Outcome). Num x.connection) (peer_has_closed c.state) _ _ (λ e. closes_num c)
      (λ e. choose (λ (x : Outcome). Num x.connection) fresh _ _ (λ f. g) (λ f. g))

  asked_num : (at : Connection → Now) (o : Outcome) → OutNum o → Num (asked m at o).connection
  asked_num at o h =
      asked_by m (λ x. Num x.connection) at o
      (λ a fresh. (let now : Now = at o.connection in
      let b : Connection = prepared m now o.connection o.numbers in
      let p = h.open_there a in
      let g = h.num in
      let same : Num b = record {
        at = open_num o.connection b o.connection.state p refl refl
            (lawful.prepare_acked o.numbers o.connection.part now) (lawful.prepare_input o.numbers o.connection.part now) g.at;
      } in
      wanted_num (m.want o.numbers b.part) fresh b o.numbers p same))
      h.num

  -- ---- a segment

  closes_in : (c : Connection) (numbers : List ℕ) (s : PlainSegment) → c.acked ≡ 1 + c.part.acked → c.taken ≡ length c.part.input
      → OutNum (peer_closes m c numbers s)
  unfolding peer_closes
  closes_in c numbers s a t =
      let x : Received m pages lawful c.part (delivers_text m numbers c.part s.text).part s.text = receives_is m pages lawful numbers c.part s.text in
      let d : Connection = in_state CloseWait (with_window s.window (with_part (delivers_text m numbers c.part s.text).part (takes (length s.text + 1) c))) in
      let g : Num d = record { at = (omega (arith, a, x.acked), omega (arith, t, ap length x.input, length-append c.part.input s.text)) } in
      choose (λ (o : Outcome). OutNum o) (ltb 0 c.len) _ _ (λ e. record { num = g; open_there = λ z. refl }) (λ e. record { num = g; open_there = λ z. refl })

  goes_on_in : (acked : Bool) (c : Connection) (numbers : List ℕ) (s : PlainSegment) → c.state ≡ Established → c.acked ≡ 1 + c.part.acked
      → c.taken ≡ length c.part.input → OutNum (stays_established m acked c numbers s)
  unfolding stays_established
  goes_on_in acked c numbers s st a t =
      let x : Received m pages lawful c.part (delivers_text m numbers c.part s.text).part s.text = receives_is m pages lawful numbers c.part s.text in
      let d : Connection = with_window s.window (with_part (delivers_text m numbers c.part s.text).part (takes (length s.text) c)) in
      let g : Num d = num_at d Established st (omega (arith, a, x.acked), omega (arith, t, ap length x.input, length-append c.part.input s.text)) in
      let o : is_open d.state ≡ true = ap is_open st in
      choose (λ (o : Outcome). OutNum o) (not acked && not (has_text s)) _ _ (λ e. record { num = g; open_there = λ z. o })
      (λ e. choose (λ (o : Outcome). OutNum o) (ltb 0 c.len) _ _ (λ f. record { num = g; open_there = λ z. o }) (λ f. record { num = g; open_there = λ z. o }))

  established_num : (acked : Bool) (c : Connection) (numbers : List ℕ) (s : PlainSegment) → c.state ≡ Established
      → c.acked ≡ 1 + c.part.acked → c.taken ≡ length c.part.input → OutNum (in_established m acked c numbers s)
  unfolding in_established
  established_num acked c numbers s st a t = choose (λ (o : Outcome). OutNum o) (has_fin s.flags) _ _ (λ e. closes_in c numbers s a t)
      (λ e. goes_on_in acked c numbers s st a t)

  still : (c : Connection) (st : State) (s : Step) (numbers : List ℕ) → c.state ≡ st → is_ask s ≡ false → AtNumbers st c
      → OutNum (record { connection = c; numbers = numbers; step = s })
  still c st s numbers e q h = record { num = num_at c st e h; open_there = λ z. absurd (let y : true ≡ false = sym z ∙ q in cc) }

  by_state_num : (st : State) (acked : Bool) (c : Connection) (numbers : List ℕ) (s : PlainSegment) → c.state ≡ st → AtNumbers st c
      → OutNum (by_state m st acked c numbers s)
  unfolding fin_acked fin_waits
  by_state_num Closed acked c numbers s e h = still c Closed Step.Drop numbers e refl h
  by_state_num SynRcvd true c numbers s e h =
      let port : ℕ = c.sockets.own_port.0 in
      let start = m.connected numbers port in
      let x : Received m pages lawful start.part (delivers_text m start.numbers start.part s.text).part s.text = receives_is m pages lawful
      start.numbers start.part s.text in
      let none : start.part.input ≡ [] = lawful.connected_input numbers port in
      let zero : start.part.acked ≡ 0 = lawful.connected_acked numbers port in
      let text : length (delivers_text m start.numbers start.part s.text).part.input ≡ length s.text = ap length x.input
      ∙ ap (λ l. length (l ++ s.text)) none in
      record { num = record { at = (omega (arith, h.0, h.1, x.acked, zero), omega (arith, h.2, text)) }; open_there = λ z. refl }
  by_state_num SynRcvd false c numbers s e h = still c SynRcvd Step.Drop numbers e refl h
  by_state_num Established true c numbers s e h =
      let reported = m.acked numbers c.part c.len in
      let b : Connection = with_part reported.part (rests c) in
      let moved : reported.part.acked ≡ c.part.acked + c.len = lawful.acked_moves numbers c.part c.len in
      let same : reported.part.input ≡ c.part.input = lawful.acked_input numbers c.part c.len in
      established_num true b reported.numbers s e (omega (arith, h.0, moved)) (omega (arith, h.1, ap length same))
  by_state_num Established false c numbers s e h = established_num false c numbers s e h.0 h.1
  by_state_num CloseWait true c numbers s e h =
      let reported = m.acked numbers c.part c.len in
      let d : Connection = with_window s.window (with_part reported.part (rests c)) in
      let moved : reported.part.acked ≡ c.part.acked + c.len = lawful.acked_moves numbers c.part c.len in
      let same : reported.part.input ≡ c.part.input = lawful.acked_input numbers c.part c.len in
      record { num = num_at d CloseWait e (omega (arith, h.0, moved), omega (arith, h.1, ap length same)); open_there = λ z. ap is_open e }
  by_state_num CloseWait false c numbers s e h = still (with_window s.window c) CloseWait Step.Drop numbers e refl (h.0, h.1)
  by_state_num FinWait1 true c numbers s e h =
      choose (λ (o : Outcome). OutNum o) (has_fin s.flags) _ _
      (λ f. still (in_state TimeWait (takes (length s.text + 1) (rests c))) TimeWait Step.Ack numbers refl refl (omega (arith, h)))
      (λ f. still (in_state FinWait2 (takes (length s.text) (rests c))) FinWait2 Step.Drop numbers refl refl (omega (arith, h)))
  by_state_num FinWait1 false c numbers s e h =
      choose (λ (o : Outcome). OutNum o) (has_fin s.flags) _ _
      (λ f. still (in_state Closing (takes (length s.text + 1) c)) Closing Step.Ack numbers refl refl (omega (arith, h)))
      (λ f. choose (λ (o : Outcome). OutNum o) (has_text s) _ _ (λ g. still (takes (length s.text) c) FinWait1 Step.Ack numbers e refl
      (omega (arith, h))) (λ g. still c FinWait1 Step.Drop numbers e refl h))
  by_state_num FinWait2 acked c numbers s e h =
      choose (λ (o : Outcome). OutNum o) (has_fin s.flags) _ _
      (λ f. still (record (in_state TimeWait (takes (length s.text + 1) c)) { age = 0 }) TimeWait Step.Ack numbers refl refl (omega (arith, h)))
      (λ f. choose (λ (o : Outcome). OutNum o) (has_text s) _ _ (λ g. still (takes (length s.text) c) FinWait2 Step.Ack numbers e refl
      (omega (arith, h))) (λ g. still c FinWait2 Step.Drop numbers e refl h))
  by_state_num Closing true c numbers s e h = still (in_state TimeWait (rests c)) TimeWait Step.Drop numbers refl refl h
  by_state_num Closing false c numbers s e h = still c Closing Step.Drop numbers e refl h
  by_state_num LastAck true c numbers s e h = still (closes (rests c)) Closed Step.Drop numbers refl refl tt
  by_state_num LastAck false c numbers s e h = still c LastAck Step.Drop numbers e refl h
  by_state_num TimeWait acked c numbers s e h = still c TimeWait Step.Ack numbers e refl h

  segment_out : (c : Connection) (numbers : List ℕ) (s : PlainSegment) → Num c → OutNum (on_segment m c numbers s)
  unfolding on_segment
  segment_out c numbers s g =
      choose (λ (o : Outcome). OutNum o) (has_rst s.flags) _ _ (λ e. record { num = closes_num c; open_there = λ z. absurd (cc) })
      (λ e. choose (λ (o : Outcome). OutNum o) (is_out_of_order c s) _ _ (λ f. record { num = g; open_there = λ z. absurd (cc) })
      (λ f. by_state_num c.state (is_acked c s) c numbers s refl g.at))

  -- ---- a tick

  older_num : (c : Connection) → Num c → Num (grows_older c)
  older_num c g = record { at = like_num c (grows_older c) c.state refl refl refl refl refl g.at }

  by_beat_num : (b : Beat) (c : Connection) (numbers : List ℕ) → Num c → OutNum (by_beat m b c numbers)
  by_beat_num Beat.Wait c numbers g = record { num = older_num c g; open_there = λ z. absurd (cc) }
  by_beat_num Beat.Again c numbers g = record { num = older_num c g; open_there = λ z. absurd (let q = no_ask_again m c.state in cc) }
  by_beat_num Beat.GiveUp c numbers g = record { num = closes_num c; open_there = λ z. absurd (cc) }

  tick_out : (c : Connection) (numbers : List ℕ) → Num c → OutNum (on_tick m c numbers)
  tick_out c numbers g = on_tick_by m OutNum c numbers record {
    none = record { num = g; open_there = λ z. absurd (cc) };
    beats = λ r b. by_beat_num b c numbers g;
    rested = λ e. record { num = older_num c g; open_there = λ z. absurd (cc) };
    ends = record { num = closes_num c; open_there = λ z. absurd (cc) };
    polled = λ e l.
        (let x = lawful.polled_same numbers c.part in
        let d : Connection = with_part (m.polled numbers c.part).part c in
        record { num = record { at = open_num c d c.state (ap is_open e) refl refl x.acked x.input g.at }; open_there = λ z. ap is_open e });
  }

  pub segment_num : (at : Connection → Now) (c : Connection) (numbers : List ℕ) (s : PlainSegment) → Num c
      → Num (asked m at (on_segment m c numbers s)).connection
  segment_num at c numbers s g = asked_num at (on_segment m c numbers s) (segment_out c numbers s g)

  pub tick_num : (at : Connection → Now) (c : Connection) (numbers : List ℕ) → Num c → Num (asked m at (on_tick m c numbers)).connection
  tick_num at c numbers g = asked_num at (on_tick m c numbers) (tick_out c numbers g)

pub closed_num : Num closed
closed_num = record { at = tt }

pub accepted_num : (iss : ℕ) (sockets : Sockets) (s : PlainSegment) → Num (accepted iss sockets s)
accepted_num iss sockets s = record { at = (refl, refl, refl, refl) }

-- what they imply together
pub text_numbers : (c : Connection) → Num c → HasTextNumbers c
text_numbers c g = record {
  output = λ e. elim e [
    | inl x ↦ (let h : AtNumbers Established c = subst (λ st. AtNumbers st c) x g.at in h.0)
    | inr x ↦ (let h : AtNumbers CloseWait c = subst (λ st. AtNumbers st c) x g.at in h.0)
  ];
  established = λ x. (let h : AtNumbers Established c = subst (λ st. AtNumbers st c) x g.at in h.1);
  close_wait = λ x. (let h : AtNumbers CloseWait c = subst (λ st. AtNumbers st c) x g.at in h.1);
  input = λ l. low_num c c.state l g.at;
}
