-- A fact about a step of a connection by its cases: each walk is made once, for every law.
use Rattle.uip_node.proofs.Prelude.{◌≡◌, ℕ, ◌+◌, Bool, true, false, List, refl, ap, eqb, ltb, REST_TIME, beat_at, Beat, AppSpec, Now, State}
use Rattle.uip_node.proofs.Prelude.{Closed, SynRcvd, Established, CloseWait, FinWait1, FinWait2, Closing, TimeWait, LastAck, Want, Nothing}
use Rattle.uip_node.proofs.Prelude.{Send, Close, Abort, Connection, is_resting, Outcome, after_own_fin, leaves, closes, peer_has_closed}
use Rattle.uip_node.proofs.Prelude.{idles, does_as_wanted, ask, asked_for, asked, is_open, limit_of, grows_older, outstanding, by_beat}
use Rattle.uip_node.proofs.Prelude.{rests_on, polls, ticks_established, tick_by, on_tick, Step}
use Rattle.tcp_machine.specs.Connection.{is_live}
use Rattle.uip_node.proofs.Basics.{choose, ltb-zero}

-- ---- the states in which the application is asked

pub by_open : (P : State → Type 0) → P Established → P CloseWait → (st : State) → is_open st ≡ true → P st
by_open P e w Established o = e
by_open P e w CloseWait o = w
by_open P e w Closed o = absurd (cc)
by_open P e w SynRcvd o = absurd (cc)
by_open P e w FinWait1 o = absurd (cc)
by_open P e w FinWait2 o = absurd (cc)
by_open P e w Closing o = absurd (cc)
by_open P e w TimeWait o = absurd (cc)
by_open P e w LastAck o = absurd (cc)

-- the states after an own FIN
pub by_own_fin : (P : State → Type 0) → P FinWait1 → P LastAck → (st : State) → P (after_own_fin st)
by_own_fin P f l CloseWait = l
by_own_fin P f l Closed = f
by_own_fin P f l SynRcvd = f
by_own_fin P f l Established = f
by_own_fin P f l FinWait1 = f
by_own_fin P f l FinWait2 = f
by_own_fin P f l Closing = f
by_own_fin P f l TimeWait = f
by_own_fin P f l LastAck = f

pub fin_lives : (st : State) → is_live (after_own_fin st) ≡ true
fin_lives st = by_own_fin (λ x. is_live x ≡ true) refl refl st

pub open_live : (st : State) → is_open st ≡ true → is_live st ≡ true
open_live st o = by_open (λ x. is_live x ≡ true) refl refl st o

-- ---- asking the application

abbrev pub is_ask : Step → Bool
is_ask (Step.Ask fresh) = true
is_ask _ = false

-- what an application that is asked leaves as it was
pub record Unmoved (c d : Connection) : Type 0 where
  pub sockets : d.sockets ≡ c.sockets
  pub irs : d.irs ≡ c.irs
  pub taken : d.taken ≡ c.taken
  pub iss : d.iss ≡ c.iss
  pub acked : d.acked ≡ c.acked
  pub part : d.part ≡ c.part

module _ (m : AppSpec) where
  pub wanted_unmoved : (w : Want) (fresh : Bool) (c : Connection) (numbers : List ℕ) → Unmoved c (does_as_wanted w fresh c numbers).connection
  unfolding idles
  wanted_unmoved Abort fresh c numbers = record { sockets = refl; irs = refl; taken = refl; iss = refl; acked = refl; part = refl }
  wanted_unmoved Close fresh c numbers = record { sockets = refl; irs = refl; taken = refl; iss = refl; acked = refl; part = refl }
  wanted_unmoved (Send n) fresh c numbers = record { sockets = refl; irs = refl; taken = refl; iss = refl; acked = refl; part = refl }
  wanted_unmoved Nothing fresh c numbers =
      let same : Unmoved c c = record { sockets = refl; irs = refl; taken = refl; iss = refl; acked = refl; part = refl } in
      choose (λ (o : Outcome). Unmoved c o.connection) (peer_has_closed c.state) _ _
      (λ e. record { sockets = refl; irs = refl; taken = refl; iss = refl; acked = refl; part = refl })
      (λ e. choose (λ (o : Outcome). Unmoved c o.connection) fresh _ _ (λ f. same) (λ f. same))

  asked_for_by : (P : Outcome → Type 0) (at : Connection → Now) (o : Outcome) (s : Step)
      → ((fresh : Bool) → s ≡ Step.Ask fresh → P (ask m (at o.connection) fresh o.connection o.numbers)) → P o → P (asked_for m at o s)
  asked_for_by P at o (Step.Ask fresh) a h = a fresh refl
  asked_for_by P at o Step.Drop a h = h
  asked_for_by P at o Step.Ack a h = h
  asked_for_by P at o (Step.SynAck again) a h = h
  asked_for_by P at o (Step.Text again) a h = h
  asked_for_by P at o (Step.Fin again) a h = h
  asked_for_by P at o Step.Reset a h = h

  -- the application is asked, or nothing changes
  pub asked_by : (P : Outcome → Type 0) (at : Connection → Now) (o : Outcome)
      → (is_ask o.step ≡ true → (fresh : Bool) → P (ask m (at o.connection) fresh o.connection o.numbers)) → P o → P (asked m at o)
  asked_by P at o a h = asked_for_by P at o o.step (λ fresh e. a (ap is_ask e) fresh) h

  -- ---- a tick

  -- what is outstanding is no question
  pub no_ask_again : (st : State) → is_ask (outstanding true st) ≡ false
  no_ask_again Closed = refl
  no_ask_again _ = refl

  -- a fact about a tick: no connection is there, the timer of what is outstanding runs, a rest continues or ends, or the application is
  -- polled
  pub record OfTick (P : Outcome → Type 0) (c : Connection) (numbers : List ℕ) : Type 0 where
    pub none : P (leaves c numbers Step.Drop)
    pub beats : is_resting c.state ≡ false → (b : Beat) → P (by_beat m b c numbers)
    pub rested : eqb (c.age + 1) REST_TIME ≡ false → P (leaves (grows_older c) numbers Step.Drop)
    pub ends : P (leaves (closes c) numbers Step.Drop)
    pub polled : c.state ≡ Established → c.len ≡ 0 → P (polls m c numbers)

  by_rest : (P : Outcome → Type 0) (c : Connection) (numbers : List ℕ) → OfTick P c numbers → P (rests_on c numbers)
  unfolding rests_on
  by_rest P c numbers g = choose P (eqb (c.age + 1) REST_TIME) _ _ (λ e. g.ends) (λ e. g.rested e)

  by_poll : (P : Outcome → Type 0) (c : Connection) (numbers : List ℕ) → c.state ≡ Established → OfTick P c numbers → P (ticks_established m c numbers)
  unfolding ticks_established
  by_poll P c numbers e g = choose P (ltb 0 c.len) _ _ (λ l. g.beats (ap is_resting e) (beat_at (limit_of c.state) (c.age + 1)))
      (λ l. g.polled e (ltb-zero c.len l))

  by_tick : (P : Outcome → Type 0) (st : State) (c : Connection) (numbers : List ℕ) → c.state ≡ st → OfTick P c numbers → P (tick_by m st c numbers)
  by_tick P Closed c numbers e g = g.none
  by_tick P SynRcvd c numbers e g = g.beats (ap is_resting e) (beat_at (limit_of c.state) (c.age + 1))
  by_tick P Established c numbers e g = by_poll P c numbers e g
  by_tick P CloseWait c numbers e g = g.beats (ap is_resting e) (beat_at (limit_of c.state) (c.age + 1))
  by_tick P FinWait1 c numbers e g = g.beats (ap is_resting e) (beat_at (limit_of c.state) (c.age + 1))
  by_tick P FinWait2 c numbers e g = by_rest P c numbers g
  by_tick P Closing c numbers e g = g.beats (ap is_resting e) (beat_at (limit_of c.state) (c.age + 1))
  by_tick P TimeWait c numbers e g = by_rest P c numbers g
  by_tick P LastAck c numbers e g = g.beats (ap is_resting e) (beat_at (limit_of c.state) (c.age + 1))

  pub on_tick_by : (P : Outcome → Type 0) (c : Connection) (numbers : List ℕ) → OfTick P c numbers → P (on_tick m c numbers)
  on_tick_by P c numbers g = by_tick P c.state c numbers refl g
