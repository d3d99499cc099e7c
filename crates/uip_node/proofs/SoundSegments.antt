-- Every segment that a node sends fits its fields, and its text is bytes that fit a datagram.
use Rattle.uip_node.proofs.Prelude.{All, ◌≡◌, ℕ, ◌+◌, ◌<◌, ◌≤◌, min, Bool, true, false, not, ◌&&◌, ◌⊎◌, inl, inr, List, [], length, take}
use Rattle.uip_node.proofs.Prelude.{drop, refl, arith, Option, Some, None, IfSome, eqb, ltb, length-take, if◌then◌else◌, All-take, All-drop}
use Rattle.uip_node.proofs.Prelude.{wrap, OWN_MSS, PlainSegment, has_fin, has_rst, Beat, AppSpec, IsByte, Now, State, Closed, SynRcvd}
use Rattle.uip_node.proofs.Prelude.{Established, CloseWait, FinWait1, FinWait2, Closing, TimeWait, LastAck, Want, Nothing, Send, Close}
use Rattle.uip_node.proofs.Prelude.{Abort, Sockets, Connection, closed, bare_ack, syn_ack, text_segment, fin_of, reset_of}
use Rattle.uip_node.proofs.Prelude.{reset_for_no_connection, segment_of, Outcome, peer_has_closed, idles, does_as_wanted, prepared}
use Rattle.uip_node.proofs.Prelude.{asked_for, asked, first_mss, accepted, is_out_of_order, is_acked, rests, has_text, with_part}
use Rattle.uip_node.proofs.Prelude.{peer_closes, stays_established, in_established, fin_acked, fin_waits, by_state, on_segment, by_beat}
use Rattle.uip_node.proofs.Prelude.{on_tick, Step}
use Rattle.uip_node.proofs.Cases.{on_tick_by}
use Rattle.uip_node.proofs.Basics.{choose, only_some, wrap_low}
use Rattle.uip_node.proofs.Fits.{all_nil}

pub record IsSoundSegment (s : PlainSegment) : Type 0 where
  pub seq : s.seq < 4294967296
  pub ack : s.ack < 4294967296
  pub flags : s.flags < 64
  pub window : s.window < 65536
  pub mss : IfSome s.mss (λ n. (0 < n) × (n < 65536))
  pub short : length s.text ≤ 1460
  pub alone : (s.mss ≡ None) ⊎ (s.text ≡ [])
  pub text : All IsByte s.text

-- what a connection sends is bounded
pub record LensWithin (most : ℕ) (c : Connection) : Type 0 where
  pub len : c.len ≤ most
  pub mss : c.mss ≤ most
  pub initial : c.initial_mss ≤ most

abbrev pub Lens : Connection → Type 0
Lens c = LensWithin 1460 c

pub closed_lens : Lens closed
closed_lens = record { len = omega arith; mss = omega arith; initial = omega arith }

window_within : (most initial w : ℕ) → initial ≤ most → (if eqb w 0 then initial else min initial w) ≤ most
window_within most initial w h = choose (λ x. x ≤ most) (eqb w 0) _ _ (λ e. h) (λ e. omega (arith, h))

pub first_low : (n : Option ℕ) → first_mss n ≤ 1460
first_low None = omega arith
first_low (Some n) = choose (λ x. x ≤ 1460) (eqb n 0) _ _ (λ e. omega arith) (λ e. omega arith)

pub accepted_lens : (iss : ℕ) (sockets : Sockets) (s : PlainSegment) → Lens (accepted iss sockets s)
accepted_lens iss sockets s = record { len = omega arith; mss = first_low s.mss; initial = first_low s.mss }

module _ (m : AppSpec) (most : ℕ) (some : 1 ≤ most) where
  wanted_within : (w : Want) (fresh : Bool) (c : Connection) (numbers : List ℕ) → LensWithin most c
      → LensWithin most (does_as_wanted w fresh c numbers).connection
  unfolding idles
  wanted_within Abort fresh c numbers h = record { len = h.len; mss = h.mss; initial = h.initial }
  wanted_within Close fresh c numbers h = record { len = omega (arith, some); mss = h.mss; initial = h.initial }
  wanted_within (Send n) fresh c numbers h = record { len = omega (arith, h.mss); mss = h.mss; initial = h.initial }
  wanted_within Nothing fresh c numbers h =
      choose (λ (o : Outcome). LensWithin most o.connection) (peer_has_closed c.state) _ _ (λ e. record { len = h.len; mss = h.mss; initial = h.initial })
      (λ e. choose (λ (o : Outcome). LensWithin most o.connection) fresh _ _ (λ f. h) (λ f. h))

  asked_for_within : (at : Connection → Now) (o : Outcome) (s : Step) → LensWithin most o.connection → LensWithin most (asked_for m at o s).connection
  asked_for_within at o (Step.Ask fresh) h =
      wanted_within (m.want o.numbers (m.prepare o.numbers o.connection.part (at o.connection))) fresh
      (prepared m (at o.connection) o.connection o.numbers) o.numbers record { len = h.len; mss = h.mss; initial = h.initial }
  asked_for_within at o Step.Drop h = h
  asked_for_within at o _ h = h

  pub asked_within : (at : Connection → Now) (o : Outcome) → LensWithin most o.connection → LensWithin most (asked m at o).connection
  asked_within at o h = asked_for_within at o o.step h

  established_within : (acked : Bool) (c : Connection) (numbers : List ℕ) (s : PlainSegment) → LensWithin most c
      → LensWithin most (in_established m acked c numbers s).connection
  unfolding in_established peer_closes stays_established
  established_within acked c numbers s h =
      let w = window_within most c.initial_mss s.window h.initial in
      choose (λ (o : Outcome). LensWithin most o.connection) (has_fin s.flags) _ _
      (λ e. choose (λ (o : Outcome). LensWithin most o.connection) (ltb 0 c.len) _ _
      (λ f. record { len = h.len; mss = w; initial = h.initial }) (λ f. record { len = h.len; mss = w; initial = h.initial }))
      (λ e. choose (λ (o : Outcome). LensWithin most o.connection) (not acked && not (has_text s)) _ _
      (λ f. record { len = h.len; mss = w; initial = h.initial })
      (λ f. choose (λ (o : Outcome). LensWithin most o.connection) (ltb 0 c.len) _ _
      (λ g. record { len = h.len; mss = w; initial = h.initial }) (λ g. record { len = h.len; mss = w; initial = h.initial })))

  by_state_within : (st : State) (acked : Bool) (c : Connection) (numbers : List ℕ) (s : PlainSegment) → LensWithin most c
      → LensWithin most (by_state m st acked c numbers s).connection
  unfolding fin_acked fin_waits
  by_state_within Closed acked c numbers s h = h
  by_state_within SynRcvd true c numbers s h = record { len = omega (arith, some); mss = h.mss; initial = h.initial }
  by_state_within SynRcvd false c numbers s h = h
  by_state_within Established true c numbers s h = established_within true (with_part (m.acked numbers c.part c.len).part (rests c))
      (m.acked numbers c.part c.len).numbers s record { len = omega (arith, some); mss = h.mss; initial = h.initial }
  by_state_within Established false c numbers s h = established_within false c numbers s h
  by_state_within CloseWait true c numbers s h = record {
    len = omega (arith, some);
    mss = window_within most c.initial_mss s.window h.initial;
    initial = h.initial;
  }
  by_state_within CloseWait false c numbers s h = record { len = h.len; mss = window_within most c.initial_mss s.window h.initial; initial = h.initial }
  by_state_within FinWait1 true c numbers s h =
      choose (λ (o : Outcome). LensWithin most o.connection) (has_fin s.flags) _ _
      (λ e. record { len = omega (arith, some); mss = h.mss; initial = h.initial })
      (λ e. record { len = omega (arith, some); mss = h.mss; initial = h.initial })
  by_state_within FinWait1 false c numbers s h =
      choose (λ (o : Outcome). LensWithin most o.connection) (has_fin s.flags) _ _ (λ e. record { len = h.len; mss = h.mss; initial = h.initial })
      (λ e. choose (λ (o : Outcome). LensWithin most o.connection) (has_text s) _ _ (λ f. record { len = h.len; mss = h.mss; initial = h.initial }) (λ f. h))
  by_state_within FinWait2 acked c numbers s h =
      choose (λ (o : Outcome). LensWithin most o.connection) (has_fin s.flags) _ _ (λ e. record { len = h.len; mss = h.mss; initial = h.initial })
      (λ e. choose (λ (o : Outcome). LensWithin most o.connection) (has_text s) _ _ (λ f. record { len = h.len; mss = h.mss; initial = h.initial }) (λ f. h))
  by_state_within Closing true c numbers s h = record { len = omega (arith, some); mss = h.mss; initial = h.initial }
  by_state_within Closing false c numbers s h = h
  by_state_within LastAck true c numbers s h = record { len = omega (arith, some); mss = h.mss; initial = h.initial }
  by_state_within LastAck false c numbers s h = h
  by_state_within TimeWait acked c numbers s h = h

  pub on_segment_within : (c : Connection) (numbers : List ℕ) (s : PlainSegment) → LensWithin most c → LensWithin most (on_segment m c numbers s).connection
  unfolding on_segment
  on_segment_within c numbers s h =
      choose (λ (o : Outcome). LensWithin most o.connection) (has_rst s.flags) _ _ (λ e. record { len = h.len; mss = h.mss; initial = h.initial })
      (λ e. choose (λ (o : Outcome). LensWithin most o.connection) (is_out_of_order c s) _ _ (λ f. h)
      (λ f. by_state_within c.state (is_acked c s) c numbers s h))

  by_beat_within : (b : Beat) (c : Connection) (numbers : List ℕ) → LensWithin most c → LensWithin most (by_beat m b c numbers).connection
  by_beat_within Beat.Wait c numbers h = record { len = h.len; mss = h.mss; initial = h.initial }
  by_beat_within Beat.Again c numbers h = record { len = h.len; mss = h.mss; initial = h.initial }
  by_beat_within Beat.GiveUp c numbers h = record { len = h.len; mss = h.mss; initial = h.initial }

  pub on_tick_within : (c : Connection) (numbers : List ℕ) → LensWithin most c → LensWithin most (on_tick m c numbers).connection
  on_tick_within c numbers h = on_tick_by m (λ (o : Outcome). LensWithin most o.connection) c numbers record {
    none = h;
    beats = λ r b. by_beat_within b c numbers h;
    rested = λ e. record { len = h.len; mss = h.mss; initial = h.initial };
    ends = record { len = h.len; mss = h.mss; initial = h.initial };
    polled = λ e l. record { len = h.len; mss = h.mss; initial = h.initial };
  }

module _ (m : AppSpec) where
  pub asked_lens : (at : Connection → Now) (o : Outcome) → Lens o.connection → Lens (asked m at o).connection
  asked_lens at o h = asked_within m 1460 (omega arith) at o h

  pub on_segment_lens : (c : Connection) (numbers : List ℕ) (s : PlainSegment) → Lens c → Lens (on_segment m c numbers s).connection
  on_segment_lens c numbers s h = on_segment_within m 1460 (omega arith) c numbers s h

  pub on_tick_lens : (c : Connection) (numbers : List ℕ) → Lens c → Lens (on_tick m c numbers).connection
  on_tick_lens c numbers h = on_tick_within m 1460 (omega arith) c numbers h

  control : (c : Connection) (flags window : ℕ) (mss : Option ℕ) → flags < 64 → window < 65536 → IfSome mss (λ n. (0 < n) × (n < 65536)) →
      IsSoundSegment (record { seq = wrap (c.iss + c.acked); ack = wrap (c.irs + 1 + c.taken); flags = flags; window = window; mss = mss; text = [] })
  control c flags window mss f w n = record {
    seq = wrap_low _;
    ack = wrap_low _;
    flags = f;
    window = w;
    mss = n;
    short = omega arith;
    alone = inr refl;
    text = all_nil IsByte;
  }

  text_sound : (c : Connection) → Lens c → All IsByte (m.output c.part) → IsSoundSegment (text_segment m c)
  text_sound c l bytes = record {
    seq = wrap_low _;
    ack = wrap_low _;
    flags = omega arith;
    window = omega arith;
    mss = tt;
    short = (let e : length (take c.len (drop c.part.acked (m.output c.part))) ≤ c.len = simp length-take (omega arith) in omega (arith, e, l.len));
    alone = inl refl;
    text = All-take IsByte c.len (drop c.part.acked (m.output c.part)) (All-drop IsByte c.part.acked (m.output c.part) bytes);
  }

  -- what a step sends, if its application sends bytes
  pub sent_sound : (c : Connection) (step : Step) (s : PlainSegment) → Lens c → All IsByte (m.output c.part) → segment_of m c step ≡ Some s → IsSoundSegment s
  sent_sound c Step.Drop s l b e = absurd (cc)
  sent_sound c Step.Ack s l b e = only_some (λ x. IsSoundSegment x) (bare_ack c) s e (control c 16 OWN_MSS None (omega arith) (omega arith) tt)
  sent_sound c (Step.SynAck again) s l b e = only_some (λ x. IsSoundSegment x) (syn_ack c) s e
      (control c 18 OWN_MSS (Some OWN_MSS) (omega arith) (omega arith) (omega arith, omega arith))
  sent_sound c (Step.Text again) s l b e = only_some (λ x. IsSoundSegment x) (text_segment m c) s e (text_sound c l b)
  sent_sound c (Step.Fin again) s l b e = only_some (λ x. IsSoundSegment x) (fin_of c) s e (control c 17 OWN_MSS None (omega arith) (omega arith) tt)
  sent_sound c Step.Reset s l b e = only_some (λ x. IsSoundSegment x) (reset_of c) s e (control c 20 0 None (omega arith) (omega arith) tt)
  sent_sound c (Step.Ask fresh) s l b e = absurd (cc)

pub none_sound : (s : PlainSegment) → IsSoundSegment s → IsSoundSegment (reset_for_no_connection s)
none_sound s h = record {
  seq = h.ack;
  ack = wrap_low _;
  flags = omega arith;
  window = omega arith;
  mss = tt;
  short = omega arith;
  alone = inr refl;
  text = all_nil IsByte;
}
