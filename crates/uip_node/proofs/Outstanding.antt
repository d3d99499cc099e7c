-- What is outstanding stays the same until it is acknowledged, and is retransmitted unchanged.
use Rattle.uip_node.proofs.Prelude.{All, REST_TIME, ◌≡◌, ℕ, ◌+◌, ◌<◌, ◌≤◌, min, Bool, true, false, not, ◌&&◌, ◌||◌, ◌⊎◌, inl, inr, List, []}
use Rattle.uip_node.proofs.Prelude.{◌∷◌, ◌++◌, length, take, drop, length-drop, refl, sym, ap, ◌∙◌, subst, arith, Option, Some, None, eqb}
use Rattle.uip_node.proofs.Prelude.{ltb, if◌then◌else◌, common_steps, wrap, PlainSegment, has_fin, has_rst, has_syn, beat_at, Beat}
use Rattle.uip_node.proofs.Prelude.{AppState, AppSpec, IsPrefixOf, Grows, CanSend, IsSnapshot, Now, State, Closed, SynRcvd, Established}
use Rattle.uip_node.proofs.Prelude.{CloseWait, FinWait1, FinWait2, Closing, TimeWait, LastAck, Want, Nothing, Send, Close, Abort}
use Rattle.uip_node.proofs.Prelude.{Connection, snd_una, occupies_sequence_space, bare_ack, syn_ack, text_segment, fin_of, reset_of}
use Rattle.uip_node.proofs.Prelude.{segment_of, is_again, Outcome, leaves, closes, after_own_fin, peer_has_closed, idles, does_as_wanted}
use Rattle.uip_node.proofs.Prelude.{prepared, ask, asked_for, asked, is_out_of_order, is_acked, rests, has_text, delivers_text, takes}
use Rattle.uip_node.proofs.Prelude.{with_part, in_state, with_window, peer_closes, stays_established, in_established, fin_acked, fin_waits}
use Rattle.uip_node.proofs.Prelude.{by_state, on_segment, outstanding, limit_of, grows_older, by_beat, waits_for_ack, rests_on}
use Rattle.uip_node.proofs.Prelude.{ticks_established, tick_by, on_tick, Step, Alike, IsSteady, is_open}
use Rattle.tcp_machine.specs.Connection.{is_live}
use Rattle.uip_node.proofs.Basics.{choose, append_nothing, only_some, ltb-zero, ltb-lt, ltb-yes, part_grows, cut_part, cut_length, IsPart}
use Rattle.uip_node.proofs.Basics.{prefix_length}
use Rattle.uip_node.proofs.Cases.{by_open, by_own_fin, fin_lives, open_live}

-- what is outstanding in a state
abbrev pub due : AppSpec → State → Connection → PlainSegment
due m SynRcvd c = syn_ack c
due m Established c = text_segment m c
due m CloseWait c = text_segment m c
due m FinWait1 c = fin_of c
due m Closing c = fin_of c
due m LastAck c = fin_of c
due m _ c = bare_ack c

pub alike_refl : (s : PlainSegment) → Alike s s
alike_refl s = record { flags = refl; text = refl }

pub alike_trans : (s t u : PlainSegment) → Alike s t → Alike t u → Alike s u
alike_trans s t u a b = record { flags = a.flags ∙ b.flags; text = a.text ∙ b.text }

pub alike_sym : (s t : PlainSegment) → Alike s t → Alike t s
alike_sym s t a = record { flags = sym a.flags; text = sym a.text }

slice_same : (p q : List ℕ) (at n : ℕ) → IsPrefixOf p q → at + n ≤ length p → take n (drop at q) ≡ take n (drop at p)
slice_same p q at n h l =
    let c : IsPart p (take n (drop at p)) at = cut_part p at n l in
    let g : IsPart (p ++ h.rest) (take n (drop at p)) at = part_grows p h.rest (take n (drop at p)) at c in
    let e : length (take n (drop at p)) ≡ n = cut_length p at n l in
    subst (λ x. take n (drop at x) ≡ take n (drop at p)) h.joined (sym (g.same ∙ ap (λ k. take k (drop at (p ++ h.rest))) e))

not_zero : (w : ℕ) → eqb w 0 ≡ false → 0 < w
not_zero w h = grind (arith, common_steps)

window_some : (initial w : ℕ) → 0 < initial → 0 < (if eqb w 0 then initial else min initial w)
window_some initial w h = choose (λ x. 0 < x) (eqb w 0) _ _ (λ e. h) (λ e. (let z : 0 < w = not_zero w e in omega arith))

placed_by_length : (s : PlainSegment) → 0 < length s.text → occupies_sequence_space s ≡ true
placed_by_length s h = ap (λ b. b || (has_syn s.flags || has_fin s.flags)) (ltb-yes (length s.text) h)

-- a number that is at most so far above a low one
pub record IsNear (Low : ℕ → Type 0) (n far : ℕ) : Type 0 where
  pub at : ℕ
  pub low : Low at
  pub near : n ≤ at + far

module _ (m : AppSpec) (steady : IsSteady m) (Low : ℕ → Type 0) (low_text : (p : AppState) → All IsSnapshot p.snapshots → Low (length (m.output p))) where
  -- in ESTABLISHED and CLOSE-WAIT
  pub record TextSafe (c : Connection) : Type 0 where
    pub fits : c.part.acked + c.len ≤ length (m.output c.part)
    pub count : c.acked ≡ 1 + c.part.acked

  pub record ControlSafe (c : Connection) : Type 0 where
    pub len : c.len ≡ 1
    pub low : IsNear Low c.acked 1

  pub record RestSafe (c : Connection) : Type 0 where
    pub len : c.len ≡ 0
    pub low : IsNear Low c.acked 2

  pub record SynSafe (c : Connection) : Type 0 where
    pub len : c.len ≡ 1
    pub acked : c.acked ≡ 0

  pub record WaitSafe (c : Connection) : Type 0 where
    pub text : TextSafe c
    pub some : 0 < c.len

  abbrev pub SafeState : Connection → State → Type 0
  SafeState c Closed = ⊥
  SafeState c SynRcvd = SynSafe c
  SafeState c Established = TextSafe c
  SafeState c CloseWait = WaitSafe c
  SafeState c FinWait1 = ControlSafe c
  SafeState c FinWait2 = RestSafe c
  SafeState c Closing = ControlSafe c
  SafeState c TimeWait = RestSafe c
  SafeState c LastAck = ControlSafe c

  pub record Safe (c : Connection) : Type 0 where
    pub mss : 0 < c.mss
    pub initial : 0 < c.initial_mss
    pub state : SafeState c c.state

  -- what is outstanding
  pub record IsDue (c : Connection) (s : PlainSegment) : Type 0 where
    pub len : 0 < c.len
    pub seq : s.seq ≡ wrap (c.iss + c.acked)
    pub alike : Alike s (due m c.state c)

  -- d comes after c
  pub record Onto (c d : Connection) : Type 0 where
    pub iss : d.iss ≡ c.iss
    pub grows : c.acked ≤ d.acked
    pub kept : 0 < c.len → d.acked ≡ c.acked → (0 < d.len) × Alike (due m d.state d) (due m c.state c)

  pub record ReportsRun (c d : Connection) (again : Bool) (s : PlainSegment) : Type 0 where
    pub live : is_live d.state ≡ true
    pub due_now : IsDue d s
    pub repeated : again ≡ true → (0 < c.len) × (d.acked ≡ c.acked)
    pub new : again ≡ false → 0 < c.len → c.acked < d.acked

  -- what is outstanding after a step was so before it, or is sent in it
  pub record Still (c d : Connection) : Type 0 where
    pub some : 0 < c.len
    pub same : d.acked ≡ c.acked

  pub record Anew (sent : Option PlainSegment) : Type 0 where
    pub output : PlainSegment
    pub is : sent ≡ Some output
    pub placed : occupies_sequence_space output ≡ true

  pub record StepReports (c d : Connection) (sent : Option PlainSegment) (again : Bool) : Type 0 where
    pub onto : is_live d.state ≡ true → Onto c d
    pub safe : is_live d.state ≡ true → Safe d
    pub output : (s : PlainSegment) → sent ≡ Some s → occupies_sequence_space s ≡ true → ReportsRun c d again s
    pub marked : (s : PlainSegment) → sent ≡ Some s → again ≡ true → occupies_sequence_space s ≡ true
    pub still : is_live d.state ≡ true → 0 < d.len → Still c d ⊎ Anew sent

  pub record AskReports (c d : Connection) : Type 0 where
    pub onto : Onto c d
    pub is_asked : is_open d.state ≡ true
    pub idle : d.len ≡ 0
    pub mss : 0 < d.mss
    pub initial : 0 < d.initial_mss
    pub text : TextSafe d
    pub new : 0 < c.len → c.acked < d.acked

  abbrev pub OutReports : Connection → Connection → Step → Type 0
  OutReports c d (Step.Ask fresh) = AskReports c d
  OutReports c d Step.Drop = StepReports c d None false
  OutReports c d Step.Ack = StepReports c d (Some (bare_ack d)) false
  OutReports c d (Step.SynAck again) = StepReports c d (Some (syn_ack d)) again
  OutReports c d (Step.Text again) = StepReports c d (Some (text_segment m d)) again
  OutReports c d (Step.Fin again) = StepReports c d (Some (fin_of d)) again
  OutReports c d Step.Reset = StepReports c d (Some (reset_of d)) false

  -- the same state: only text may differ
  alike_same : (st : State) (c d : Connection) → take d.len (drop d.part.acked (m.output d.part)) ≡ take c.len
      (drop c.part.acked (m.output c.part)) → Alike (due m st d) (due m st c)
  alike_same Closed c d h = record { flags = refl; text = refl }
  alike_same SynRcvd c d h = record { flags = refl; text = refl }
  alike_same Established c d h = record { flags = refl; text = h }
  alike_same CloseWait c d h = record { flags = refl; text = h }
  alike_same _ c d h = record { flags = refl; text = refl }

  onto_same : (c : Connection) → Onto c c
  onto_same c = record { iss = refl; grows = omega arith; kept = λ l e. (l, alike_refl (due m c.state c)) }

  onto_then : (c b d : Connection) → Onto c b → Onto b d → Onto c d
  onto_then c b d x y = record {
    iss = y.iss ∙ x.iss;
    grows = omega (arith, x.grows, y.grows);
    kept = λ l e. (let p = x.kept l (omega (arith, x.grows, y.grows)) in let q = y.kept p.0 (omega (arith, x.grows, y.grows)) in
        (q.0, alike_trans (due m d.state d) (due m b.state b) (due m c.state c) q.1 p.1));
  }

  -- more is acknowledged
  onto_more : (c d : Connection) → d.iss ≡ c.iss → c.acked < d.acked → Onto c d
  onto_more c d f l = record { iss = f; grows = omega (arith, l); kept = λ x e. absurd (omega (arith, l, e)) }

  -- nothing was outstanding
  onto_idle : (c d : Connection) → d.iss ≡ c.iss → c.len ≡ 0 → d.acked ≡ c.acked → Onto c d
  onto_idle c d f z e = record { iss = f; grows = omega (arith, e); kept = λ x y. absurd (omega (arith, x, z)) }

  silent_reports : (c d : Connection) → Onto c d → (is_live d.state ≡ true → Safe d) → (0 < d.len → Still c d) → StepReports c d None false
  silent_reports c d o s k = record { onto = λ l. o; safe = s; output = λ x e p. absurd (cc); marked = λ x e p. absurd (cc); still = λ l z. inl (k z) }

  ack_reports : (c d : Connection) → Onto c d → (is_live d.state ≡ true → Safe d) → (0 < d.len → Still c d) → StepReports c d (Some (bare_ack d)) false
  ack_reports c d o s k = record {
    still = λ l z. inl (k z);
    onto = λ l. o;
    safe = s;
    output = λ x e p. absurd (let z : occupies_sequence_space x ≡ false = only_some (λ y. occupies_sequence_space y ≡ false) (bare_ack d) x e refl in cc);
    marked = λ x e p. absurd (cc);
  }

  reset_reports : (c b : Connection) → StepReports c (closes b) (Some (reset_of (closes b))) false
  reset_reports c b = record {
    still = λ l z. absurd (cc);
    onto = λ l. absurd (cc);
    safe = λ l. absurd (cc);
    output = λ x e p. absurd (let z : occupies_sequence_space x ≡ false = only_some (λ y. occupies_sequence_space y ≡ false)
        (reset_of (closes b)) x e refl in cc);
    marked = λ x e p. absurd (cc);
  }

  dead_reports : (c b : Connection) → StepReports c (closes b) None false
  dead_reports c b = record {
    still = λ l z. absurd (cc);
    onto = λ l. absurd (cc);
    safe = λ l. absurd (cc);
    output = λ x e p. absurd (cc);
    marked = λ x e p. absurd (cc);
  }

  -- something is sent for the first time
  new_reports : (c d : Connection) (s : PlainSegment) → Onto c d → is_live d.state ≡ true → Safe d → IsDue d s
      → (0 < c.len → c.acked < d.acked) → occupies_sequence_space s ≡ true → StepReports c d (Some s) false
  new_reports c d s o l f n new placed = record {
    still = λ x z. inr record { output = s; is = refl; placed = placed };
    onto = λ x. o;
    safe = λ x. f;
    output = λ x e p. record { live = l; due_now = only_some (λ y. IsDue d y) s x e n; repeated = λ z. absurd (cc); new = λ z. new };
    marked = λ x e p. absurd (cc);
  }

  -- a step from b, to which c came by an acknowledgement of all that was outstanding
  from_reports : (c b d : Connection) (sent : Option PlainSegment) → Onto c b → (0 < c.len → c.acked < b.acked) → b.len ≡ 0
      → StepReports b d sent false → StepReports c d sent false
  from_reports c b d sent o new z t = record {
    still = λ l x. elim (t.still l x) [ inl y ↦ absurd (let p = y.some in omega (arith, p, z)) | inr y ↦ inr y ];
    onto = λ l. onto_then c b d o (t.onto l);
    safe = t.safe;
    output = λ s e p. (let h = t.output s e p in record {
      live = h.live;
      due_now = h.due_now;
      repeated = λ x. absurd (cc);
      new = λ x y. (let g = (t.onto h.live).grows in omega (arith, new y, g));
    });
    marked = t.marked;
  }

  state_at : (d : Connection) (st : State) → d.state ≡ st → SafeState d st → SafeState d d.state
  state_at d st e h = subst (λ x. SafeState d x) (sym e) h

  text_due : (d : Connection) (st : State) → is_open st ≡ true → Alike (text_segment m d) (due m st d)
  text_due d st o = by_open (λ x. Alike (text_segment m d) (due m x d)) (alike_refl (text_segment m d)) (alike_refl (text_segment m d)) st o

  text_safe : (d : Connection) (st : State) → is_open st ≡ true → TextSafe d → 0 < d.len → SafeState d st
  text_safe d st o h l = by_open (λ x. SafeState d x) h record { text = h; some = l } st o

  fin_safe : (d : Connection) (st : State) → ControlSafe d → SafeState d (after_own_fin st)
  fin_safe d st h = by_own_fin (λ x. SafeState d x) h h st

  fin_due : (d : Connection) (st : State) → Alike (fin_of d) (due m (after_own_fin st) d)
  fin_due d st = by_own_fin (λ x. Alike (fin_of d) (due m x d)) (alike_refl (fin_of d)) (alike_refl (fin_of d)) st

  -- if nothing is requested, ESTABLISHED rests
  idle_safe : (d : Connection) (st : State) → is_open st ≡ true → peer_has_closed st ≡ false → TextSafe d → SafeState d st
  idle_safe d st o p h = by_open (λ x. peer_has_closed x ≡ false → SafeState d x) (λ q. h) (λ q. absurd (cc)) st o p

  abbrev pub OutReported : Connection → Outcome → Type 0
  OutReported c o = StepReports c o.connection (segment_of m o.connection o.step) (is_again o.step)

  text_placed : (d : Connection) → TextSafe d → 0 < d.len → occupies_sequence_space (text_segment m d) ≡ true
  text_placed d h l =
      let e : length (take d.len (drop d.part.acked (m.output d.part))) ≡ d.len = cut_length (m.output d.part) d.part.acked d.len h.fits in
      placed_by_length (text_segment m d) (omega (arith, e, l))

  wanted_reports : (w : Want) (fresh : Bool) (c : Connection) (numbers : List ℕ) → is_open c.state ≡ true → c.len ≡ 0 → 0 < c.mss
      → 0 < c.initial_mss → TextSafe c → All IsSnapshot c.part.snapshots → CanSend w (length (drop c.part.acked (m.output c.part))) →
      OutReported c (does_as_wanted w fresh c numbers)
  unfolding idles
  wanted_reports Abort fresh c numbers o z ms ini h fit w = reset_reports c c
  wanted_reports Close fresh c numbers o z ms ini h fit w =
      let d : Connection = record c { state = after_own_fin c.state; len = 1; age = 0 } in
      new_reports c d (fin_of d) (onto_idle c d refl z refl) (fin_lives c.state)
      record {
        mss = ms;
        initial = ini;
        state = fin_safe d c.state
            record { len = refl; low = record { at = length (m.output c.part); low = low_text c.part fit; near = omega (arith, h.count, h.fits) } };
      }
      record { len = omega arith; seq = refl; alike = fin_due d c.state } (λ x. absurd (omega (arith, x, z))) refl
  wanted_reports (Send n) fresh c numbers o z ms ini h fit w =
      let d : Connection = record c { len = min n c.mss; age = 0 } in
      let some : 0 < d.len = omega (arith, w.0, ms) in
      let t : TextSafe d = record { fits = omega (arith, w.0, w.1, length-drop c.part.acked (m.output c.part)); count = h.count } in
      new_reports c d (text_segment m d) (onto_idle c d refl z refl) (open_live c.state o)
      record { mss = ms; initial = ini; state = text_safe d c.state o t some }
      record { len = some; seq = refl; alike = text_due d c.state o } (λ x. absurd (omega (arith, x, z))) (text_placed d t some)
  wanted_reports Nothing fresh c numbers o z ms ini h fit w =
      choose (λ (x : Outcome). OutReported c x) (peer_has_closed c.state) _ _ (λ e. reset_reports c c)
      (λ e. let f : Safe c = record { mss = ms; initial = ini; state = idle_safe c c.state o e h } in
      choose (λ (x : Outcome). OutReported c x) fresh _ _
      (λ g. ack_reports c c (onto_same c) (λ l. f) (λ z. record { some = z; same = refl })) (λ g. silent_reports c c (onto_same c) (λ l. f)
      (λ z. record { some = z; same = refl })))

  wanted_again : (w : Want) (fresh : Bool) (c : Connection) (numbers : List ℕ) → is_again (does_as_wanted w fresh c numbers).step ≡ false
  unfolding idles
  wanted_again Abort fresh c numbers = refl
  wanted_again Close fresh c numbers = refl
  wanted_again (Send n) fresh c numbers = refl
  wanted_again Nothing fresh c numbers = choose (λ (x : Outcome). is_again x.step ≡ false) (peer_has_closed c.state) _ _ (λ e. refl)
      (λ e. choose (λ (x : Outcome). is_again x.step ≡ false) fresh _ _ (λ g. refl) (λ g. refl))

  asking_reports : (c d : Connection) (now : Now) (fresh : Bool) (numbers : List ℕ) → AskReports c d
      → All IsSnapshot (m.prepare numbers d.part now).snapshots → OutReported c (ask m now fresh d numbers)
  asking_reports c d now fresh numbers a fit =
      let q : AppState = m.prepare numbers d.part now in
      let b : Connection = prepared m now d numbers in
      let p : Grows m d.part q = steady.lawful.prepare_grows numbers d.part now tt in
      let more : length (m.output d.part) ≤ length (m.output q) = prefix_length (m.output d.part) (m.output q) p.text in
      let h : TextSafe d = a.text in
      let t : TextSafe b = record { fits = omega (arith, more, h.fits, p.offset); count = omega (arith, h.count, p.offset) } in
      let o : Outcome = ask m now fresh d numbers in
      let w : OutReported b o = wanted_reports (m.want numbers q) fresh b numbers a.is_asked a.idle a.mss a.initial t fit (steady.lawful.sends numbers q tt) in
      let n : is_again o.step ≡ false = wanted_again (m.want numbers q) fresh b numbers in
      let w' : StepReports b o.connection (segment_of m o.connection o.step) false = subst
      (λ x. StepReports b o.connection (segment_of m o.connection o.step) x) n w in
      subst (λ x. StepReports c o.connection (segment_of m o.connection o.step) x) (sym n)
      (from_reports c b o.connection (segment_of m o.connection o.step) (onto_then c d b a.onto (onto_idle d b refl a.idle refl)) a.new a.idle w')

  asked_for_reports : (snapshot : Connection → Now) (c d : Connection) (numbers : List ℕ) (s : Step)
      → ((now : Now) → now ≡ snapshot d → All IsSnapshot (m.prepare numbers d.part now).snapshots) → OutReports c d s
      → OutReported c (asked_for m snapshot (leaves d numbers s) s)
  asked_for_reports snapshot c d numbers (Step.Ask fresh) fit h = asking_reports c d (snapshot d) fresh numbers h (fit (snapshot d) refl)
  asked_for_reports snapshot c d numbers _ fit h = h

  pub asked_reports : (snapshot : Connection → Now) (c : Connection) (o : Outcome) → ((now : Now) → now ≡ snapshot o.connection
      → All IsSnapshot (m.prepare o.numbers o.connection.part now).snapshots) → OutReports c o.connection o.step → OutReported c (asked m snapshot o)
  asked_reports snapshot c o fit h = asked_for_reports snapshot c o.connection o.numbers o.step fit h

  -- text is delivered while something may be outstanding
  receives_grows : (numbers : List ℕ) (p : AppState) (text : List ℕ) → Grows m p (delivers_text m numbers p text).part
  receives_grows numbers p [] = record { text = record { rest = []; joined = append_nothing (m.output p) }; offset = refl }
  receives_grows numbers p (x ∷ xs) = steady.lawful.newdata_grows numbers p (x ∷ xs) tt

  received_due : (c d : Connection) → TextSafe c → Grows m c.part d.part → d.len ≡ c.len → take d.len (drop d.part.acked (m.output d.part))
      ≡ take c.len (drop c.part.acked (m.output c.part))
  received_due c d h x el =
      ap (λ n. take n (drop d.part.acked (m.output d.part))) el
      ∙ ap (λ n. take c.len (drop n (m.output d.part))) x.offset
      ∙ slice_same (m.output c.part) (m.output d.part) c.part.acked c.len x.text h.fits

  received_text : (c d : Connection) → TextSafe c → Grows m c.part d.part → d.acked ≡ c.acked → d.len ≡ c.len → TextSafe d
  received_text c d h x ea el =
      let more : length (m.output c.part) ≤ length (m.output d.part) = prefix_length (m.output c.part) (m.output d.part) x.text in
      record { fits = omega (arith, more, h.fits, x.offset, el); count = omega (arith, h.count, x.offset, ea) }

  -- text of ESTABLISHED that is outstanding stays so in CLOSE-WAIT
  open_due : (c d : Connection) → c.state ≡ Established → is_open d.state ≡ true → take d.len (drop d.part.acked (m.output d.part))
      ≡ take c.len (drop c.part.acked (m.output c.part)) → Alike (due m d.state d) (due m c.state c)
  open_due c d e o h =
      alike_trans (due m d.state d) (text_segment m d) (due m c.state c) (alike_sym (text_segment m d) (due m d.state d) (text_due d d.state o))
      (alike_trans (text_segment m d) (text_segment m c) (due m c.state c) record { flags = refl; text = h } (text_due c c.state (ap is_open e)))

  received_onto : (c d : Connection) → c.state ≡ Established → is_open d.state ≡ true → TextSafe c → Grows m c.part d.part → d.iss ≡ c.iss
      → d.acked ≡ c.acked → d.len ≡ c.len → Onto c d
  received_onto c d st o h x f ea el = record {
    iss = f;
    grows = omega (arith, ea);
    kept = λ l e. (omega (arith, l, el), open_due c d st o (received_due c d h x el));
  }

  closing_reports : (c : Connection) (numbers : List ℕ) (s : PlainSegment) → c.state ≡ Established → 0 < c.mss → 0 < c.initial_mss
      → TextSafe c → (let o : Outcome = peer_closes m c numbers s in OutReports c o.connection o.step)
  unfolding peer_closes
  closing_reports c numbers s st ms ini h =
      let x : Grows m c.part (delivers_text m numbers c.part s.text).part = receives_grows numbers c.part s.text in
      let d : Connection = in_state CloseWait (with_window s.window (with_part (delivers_text m numbers c.part s.text).part (takes (length s.text + 1) c))) in
      let t : TextSafe d = received_text c d h x refl refl in
      let o : Onto c d = received_onto c d st refl h x refl refl refl in
      let w : 0 < d.mss = window_some c.initial_mss s.window ini in
      choose (λ (y : Outcome). OutReports c y.connection y.step) (ltb 0 c.len) _ _
      (λ e. ack_reports c d o (λ l. record { mss = w; initial = ini; state = record { text = t; some = ltb-lt 0 c.len e } })
      (λ z. record { some = z; same = refl }))
      (λ e. record {
        onto = o;
        is_asked = refl;
        idle = ltb-zero c.len e;
        mss = w;
        initial = ini;
        text = t;
        new = λ y. absurd (omega (arith, y, ltb-zero c.len e));
      })

  going_reports : (acked : Bool) (c : Connection) (numbers : List ℕ) (s : PlainSegment) → c.state ≡ Established → 0 < c.mss
      → 0 < c.initial_mss → TextSafe c → (let o : Outcome = stays_established m acked c numbers s in OutReports c o.connection o.step)
  unfolding stays_established
  going_reports acked c numbers s st ms ini h =
      let x : Grows m c.part (delivers_text m numbers c.part s.text).part = receives_grows numbers c.part s.text in
      let d : Connection = with_window s.window (with_part (delivers_text m numbers c.part s.text).part (takes (length s.text) c)) in
      let t : TextSafe d = received_text c d h x refl refl in
      let o : Onto c d = received_onto c d st (ap is_open st) h x refl refl refl in
      let w : 0 < d.mss = window_some c.initial_mss s.window ini in
      let f : Safe d = record { mss = w; initial = ini; state = state_at d Established st t } in
      choose (λ (y : Outcome). OutReports c y.connection y.step) (not acked && not (has_text s)) _ _
      (λ e. silent_reports c d o (λ l. f) (λ z. record { some = z; same = refl }))
      (λ e. choose (λ (y : Outcome). OutReports c y.connection y.step) (ltb 0 c.len) _ _
      (λ i. ack_reports c d o (λ l. f) (λ z. record { some = z; same = refl }))
      (λ i. record {
        onto = o;
        is_asked = ap is_open st;
        idle = ltb-zero c.len i;
        mss = w;
        initial = ini;
        text = t;
        new = λ y. absurd (omega (arith, y, ltb-zero c.len i));
      }))

  established_reports : (acked : Bool) (c : Connection) (numbers : List ℕ) (s : PlainSegment) → c.state ≡ Established → 0 < c.mss
      → 0 < c.initial_mss → TextSafe c → (let o : Outcome = in_established m acked c numbers s in OutReports c o.connection o.step)
  unfolding in_established
  established_reports acked c numbers s st ms ini h =
      choose (λ (y : Outcome). OutReports c y.connection y.step) (has_fin s.flags) _ _ (λ e. closing_reports c numbers s st ms ini h)
      (λ e. going_reports acked c numbers s st ms ini h)

  out_from : (c b d : Connection) (s : Step) → is_again s ≡ false → Onto c b → (0 < c.len → c.acked < b.acked) → b.len ≡ 0 → OutReports b d s → OutReports c d s
  out_from c b d (Step.Ask fresh) n o new none h = record {
    onto = onto_then c b d o h.onto;
    is_asked = h.is_asked;
    idle = h.idle;
    mss = h.mss;
    initial = h.initial;
    text = h.text;
    new = λ y. (let g = h.onto.grows in omega (arith, new y, g));
  }
  out_from c b d Step.Drop n o new none h = from_reports c b d None o new none h
  out_from c b d Step.Ack n o new none h = from_reports c b d (Some (bare_ack d)) o new none h
  out_from c b d (Step.SynAck again) n o new none h = subst (λ x. StepReports c d (Some (syn_ack d)) x) (sym n)
      (from_reports c b d (Some (syn_ack d)) o new none (subst (λ x. StepReports b d (Some (syn_ack d)) x) n h))
  out_from c b d (Step.Text again) n o new none h = subst (λ x. StepReports c d (Some (text_segment m d)) x) (sym n)
      (from_reports c b d (Some (text_segment m d)) o new none (subst (λ x. StepReports b d (Some (text_segment m d)) x) n h))
  out_from c b d (Step.Fin again) n o new none h = subst (λ x. StepReports c d (Some (fin_of d)) x) (sym n)
      (from_reports c b d (Some (fin_of d)) o new none (subst (λ x. StepReports b d (Some (fin_of d)) x) n h))
  out_from c b d Step.Reset n o new none h = from_reports c b d (Some (reset_of d)) o new none h

  established_again : (acked : Bool) (c : Connection) (numbers : List ℕ) (s : PlainSegment) → is_again (in_established m acked c numbers s).step ≡ false
  unfolding in_established peer_closes stays_established
  established_again acked c numbers s =
      choose (λ (y : Outcome). is_again y.step ≡ false) (has_fin s.flags) _ _
      (λ e. choose (λ (y : Outcome). is_again y.step ≡ false) (ltb 0 c.len) _ _ (λ f. refl) (λ f. refl))
      (λ e. choose (λ (y : Outcome). is_again y.step ≡ false) (not acked && not (has_text s)) _ _ (λ f. refl)
      (λ f. choose (λ (y : Outcome). is_again y.step ≡ false) (ltb 0 c.len) _ _ (λ g. refl) (λ g. refl)))

  ack_text : (c : Connection) (numbers : List ℕ) → TextSafe c → TextSafe (with_part (m.acked numbers c.part c.len).part (rests c))
  ack_text c numbers h =
      let q : AppState = (m.acked numbers c.part c.len).part in
      let x = steady.lawful.acked_moves numbers c.part c.len tt (let e = length-drop c.part.acked (m.output c.part) in omega (arith, e, h.fits)) in
      let e : length (m.output q) ≡ length (m.output c.part) = ap (λ t. length t) x.0 in
      record { fits = omega (arith, e, h.fits, x.1); count = omega (arith, h.count, x.1) }

  acked_len : (c : Connection) (s : PlainSegment) → is_acked c s ≡ true → 0 < c.len
  acked_len c s h = ltb-lt 0 c.len (Rattle.uip_node.proofs.Basics.and_true _ _ (Rattle.uip_node.proofs.Basics.and_true _ _ h).1).0

  near_same : (c d : Connection) (far : ℕ) → d.acked ≡ c.acked → IsNear Low c.acked far → IsNear Low d.acked far
  near_same c d far a n = record { at = n.at; low = n.low; near = omega (arith, a, n.near) }

  -- its FIN is acknowledged
  near_more : (c d : Connection) → d.acked ≡ c.acked + 1 → IsNear Low c.acked 1 → IsNear Low d.acked 2
  near_more c d a n = record { at = n.at; low = n.low; near = omega (arith, a, n.near) }

  -- the rest of a control connection, with its counts known
  control_safe : (c d : Connection) → d.len ≡ c.len → d.acked ≡ c.acked → ControlSafe c → ControlSafe d
  control_safe c d l a h = record { len = l ∙ h.len; low = near_same c d 1 a h.low }

  by_state_reports : (st : State) (acked : Bool) (c : Connection) (numbers : List ℕ) (s : PlainSegment) → c.state ≡ st
      → is_acked c s ≡ acked → 0 < c.mss → 0 < c.initial_mss → SafeState c st →
      (let o : Outcome = by_state m st acked c numbers s in OutReports c o.connection o.step)
  unfolding fin_acked fin_waits
  by_state_reports Closed acked c numbers s e ac ms ini h = absurd h
  by_state_reports SynRcvd true c numbers s e ac ms ini h =
      let port : ℕ = c.sockets.own_port.0 in
      let start : AppState = (m.connected numbers port).part in
      let x : Grows m start (delivers_text m (m.connected numbers port).numbers start s.text).part = receives_grows
      (m.connected numbers port).numbers start s.text in
      let d : Connection = with_part (delivers_text m (m.connected numbers port).numbers start s.text).part
      (takes (length s.text) (in_state Established (rests c))) in
      let z : d.part.acked ≡ 0 = x.offset ∙ steady.connected_acked numbers port in
      record {
        onto = onto_more c d refl (omega (arith, h.len));
        is_asked = refl;
        idle = refl;
        mss = ms;
        initial = ini;
        text = record { fits = omega (arith, z); count = omega (arith, z, h.acked, h.len) };
        new = λ y. omega (arith, h.len);
      }
  by_state_reports SynRcvd false c numbers s e ac ms ini h = silent_reports c c (onto_same c)
      (λ l. record { mss = ms; initial = ini; state = state_at c SynRcvd e h }) (λ z. record { some = z; same = refl })
  by_state_reports Established true c numbers s e ac ms ini h =
      let b : Connection = with_part (m.acked numbers c.part c.len).part (rests c) in
      let o : Outcome = in_established m true b (m.acked numbers c.part c.len).numbers s in
      let some : 0 < c.len = acked_len c s ac in
      out_from c b o.connection o.step (established_again true b (m.acked numbers c.part c.len).numbers s)
      (onto_more c b refl (omega (arith, some))) (λ y. omega (arith, some)) refl
      (established_reports true b (m.acked numbers c.part c.len).numbers s e ms ini (ack_text c numbers h))
  by_state_reports Established false c numbers s e ac ms ini h = established_reports false c numbers s e ms ini h
  by_state_reports CloseWait true c numbers s e ac ms ini h =
      let b : Connection = with_part (m.acked numbers c.part c.len).part (rests c) in
      let d : Connection = with_window s.window b in
      let some : 0 < c.len = acked_len c s ac in
      let t : TextSafe b = ack_text c numbers h.text in
      record {
        onto = onto_more c d refl (omega (arith, some));
        is_asked = ap is_open e;
        idle = refl;
        mss = window_some c.initial_mss s.window ini;
        initial = ini;
        text = record { fits = t.fits; count = t.count };
        new = λ y. omega (arith, some);
      }
  by_state_reports CloseWait false c numbers s e ac ms ini h =
      let d : Connection = with_window s.window c in
      silent_reports c d record { iss = refl; grows = omega arith; kept = λ l z. (l, alike_same c.state c d refl) }
      (λ l. record {
        mss = window_some c.initial_mss s.window ini;
        initial = ini;
        state = state_at d CloseWait e record { text = record { fits = h.text.fits; count = h.text.count }; some = h.some };
      }) (λ z. record { some = z; same = refl })
  by_state_reports FinWait1 true c numbers s e ac ms ini h =
      choose (λ (y : Outcome). OutReports c y.connection y.step) (has_fin s.flags) _ _
      (λ f. let d : Connection = in_state TimeWait (takes (length s.text + 1) (rests c)) in
      ack_reports c d (onto_more c d refl (omega (arith, h.len)))
      (λ l. record { mss = ms; initial = ini; state = record { len = refl; low = near_more c d (omega (arith, h.len)) h.low } }) (λ z. absurd (omega arith)))
      (λ f. let d : Connection = in_state FinWait2 (takes (length s.text) (rests c)) in
      silent_reports c d (onto_more c d refl (omega (arith, h.len)))
      (λ l. record { mss = ms; initial = ini; state = record { len = refl; low = near_more c d (omega (arith, h.len)) h.low } }) (λ z. absurd (omega arith)))
  by_state_reports FinWait1 false c numbers s e ac ms ini h =
      choose (λ (y : Outcome). OutReports c y.connection y.step) (has_fin s.flags) _ _
      (λ f. let d : Connection = in_state Closing (takes (length s.text + 1) c) in
      ack_reports c d record {
        iss = refl;
        grows = omega arith;
        kept = λ l z. (l, subst (λ x. Alike (fin_of d) (due m x c)) (sym e) (record { flags = refl; text = refl }));
      }
      (λ l. record { mss = ms; initial = ini; state = control_safe c d refl refl h }) (λ z. record { some = z; same = refl }))
      (λ f. choose (λ (y : Outcome). OutReports c y.connection y.step) (has_text s) _ _
      (λ i. let d : Connection = takes (length s.text) c in
      ack_reports c d record { iss = refl; grows = omega arith; kept = λ l z. (l, alike_same c.state c d refl) }
      (λ l. record { mss = ms; initial = ini; state = state_at d FinWait1 e (control_safe c d refl refl h) }) (λ z. record { some = z; same = refl }))
      (λ i. silent_reports c c (onto_same c) (λ l. record { mss = ms; initial = ini; state = state_at c FinWait1 e h })
      (λ z. record { some = z; same = refl })))
  by_state_reports FinWait2 acked c numbers s e ac ms ini h =
      choose (λ (y : Outcome). OutReports c y.connection y.step) (has_fin s.flags) _ _
      (λ f. let d : Connection = record (in_state TimeWait (takes (length s.text + 1) c)) { age = 0 } in
      ack_reports c d (onto_idle c d refl h.len refl) (λ l. record { mss = ms; initial = ini; state = record { len = h.len; low = h.low } })
      (λ z. record { some = z; same = refl }))
      (λ f. choose (λ (y : Outcome). OutReports c y.connection y.step) (has_text s) _ _
      (λ i. let d : Connection = takes (length s.text) c in
      ack_reports c d (onto_idle c d refl h.len refl)
      (λ l. record { mss = ms; initial = ini; state = state_at d FinWait2 e record { len = h.len; low = h.low } }) (λ z. record { some = z; same = refl }))
      (λ i. silent_reports c c (onto_same c) (λ l. record { mss = ms; initial = ini; state = state_at c FinWait2 e h })
      (λ z. record { some = z; same = refl })))
  by_state_reports Closing true c numbers s e ac ms ini h =
      let d : Connection = in_state TimeWait (rests c) in
      silent_reports c d (onto_more c d refl (omega (arith, h.len)))
      (λ l. record { mss = ms; initial = ini; state = record { len = refl; low = near_more c d (omega (arith, h.len)) h.low } }) (λ z. absurd (omega arith))
  by_state_reports Closing false c numbers s e ac ms ini h = silent_reports c c (onto_same c)
      (λ l. record { mss = ms; initial = ini; state = state_at c Closing e h }) (λ z. record { some = z; same = refl })
  by_state_reports LastAck true c numbers s e ac ms ini h = dead_reports c (rests c)
  by_state_reports LastAck false c numbers s e ac ms ini h = silent_reports c c (onto_same c)
      (λ l. record { mss = ms; initial = ini; state = state_at c LastAck e h }) (λ z. record { some = z; same = refl })
  by_state_reports TimeWait acked c numbers s e ac ms ini h = ack_reports c c (onto_same c)
      (λ l. record { mss = ms; initial = ini; state = state_at c TimeWait e h }) (λ z. record { some = z; same = refl })

  pub segment_reports : (c : Connection) (numbers : List ℕ) (s : PlainSegment) → Safe c → (let o : Outcome = on_segment m c numbers s in
      OutReports c o.connection o.step)
  unfolding on_segment
  segment_reports c numbers s f =
      choose (λ (y : Outcome). OutReports c y.connection y.step) (has_rst s.flags) _ _ (λ e. dead_reports c c) (λ e.
      choose (λ (y : Outcome). OutReports c y.connection y.step) (is_out_of_order c s) _ _
      (λ i. ack_reports c c (onto_same c) (λ l. f) (λ z. record { some = z; same = refl }))
      (λ i. by_state_reports c.state (is_acked c s) c numbers s refl refl f.mss f.initial f.state))

  -- the timer
  older_safe : (c : Connection) (st : State) → SafeState c st → SafeState (grows_older c) st
  older_safe c Closed h = h
  older_safe c SynRcvd h = record { len = h.len; acked = h.acked }
  older_safe c Established h = record { fits = h.fits; count = h.count }
  older_safe c CloseWait h = record { text = record { fits = h.text.fits; count = h.text.count }; some = h.some }
  older_safe c _ h = record { len = h.len; low = h.low }

  older_onto : (c : Connection) → Onto c (grows_older c)
  older_onto c = record { iss = refl; grows = omega arith; kept = λ l e. (l, alike_same c.state c (grows_older c) refl) }

  older_is_safe : (c : Connection) → Safe c → Safe (grows_older c)
  older_is_safe c f = record { mss = f.mss; initial = f.initial; state = older_safe c c.state f.state }

  -- what is outstanding is sent again
  repeat_reports : (c : Connection) (s : PlainSegment) → is_live c.state ≡ true → Safe c → 0 < c.len → s.seq ≡ snd_una c
      → Alike s (due m c.state (grows_older c)) → occupies_sequence_space s ≡ true → StepReports c (grows_older c) (Some s) true
  repeat_reports c s l f some seq alike placed = record {
    still = λ x z. inl record { some = some; same = refl };
    onto = λ x. older_onto c;
    safe = λ x. older_is_safe c f;
    output = λ x e p. record {
      live = l;
      due_now = record {
        len = some;
        seq = only_some (λ y. y.seq ≡ snd_una c) s x e seq;
        alike = only_some (λ y. Alike y (due m c.state (grows_older c))) s x e alike;
      };
      repeated = λ y. (some, refl);
      new = λ y. absurd (cc);
    };
    marked = λ x e p. only_some (λ y. occupies_sequence_space y ≡ true) s x e placed;
  }

  text_place : (c : Connection) → TextSafe c → 0 < c.len → occupies_sequence_space (text_segment m (grows_older c)) ≡ true
  text_place c h l = text_placed (grows_older c) record { fits = h.fits; count = h.count } l

  again_reports : (c : Connection) (st : State) → c.state ≡ st → is_live st ≡ true → Safe c → SafeState c st → 0 < c.len
      → OutReports c (grows_older c) (outstanding true st)
  again_reports c Closed e l f h some = absurd (cc)
  again_reports c SynRcvd e l f h some = repeat_reports c (syn_ack (grows_older c)) (ap is_live e) f some refl
      (subst (λ x. Alike (syn_ack (grows_older c)) (due m x (grows_older c))) (sym e) (alike_refl (syn_ack (grows_older c)))) refl
  again_reports c Established e l f h some = repeat_reports c (text_segment m (grows_older c)) (ap is_live e) f some refl
      (subst (λ x. Alike (text_segment m (grows_older c)) (due m x (grows_older c))) (sym e) (alike_refl (text_segment m (grows_older c))))
      (text_place c h some)
  again_reports c CloseWait e l f h some = repeat_reports c (text_segment m (grows_older c)) (ap is_live e) f some refl
      (subst (λ x. Alike (text_segment m (grows_older c)) (due m x (grows_older c))) (sym e) (alike_refl (text_segment m (grows_older c))))
      (text_place c h.text some)
  again_reports c FinWait1 e l f h some = repeat_reports c (fin_of (grows_older c)) (ap is_live e) f some refl
      (subst (λ x. Alike (fin_of (grows_older c)) (due m x (grows_older c))) (sym e) (alike_refl (fin_of (grows_older c)))) refl
  again_reports c Closing e l f h some = repeat_reports c (fin_of (grows_older c)) (ap is_live e) f some refl
      (subst (λ x. Alike (fin_of (grows_older c)) (due m x (grows_older c))) (sym e) (alike_refl (fin_of (grows_older c)))) refl
  again_reports c LastAck e l f h some = repeat_reports c (fin_of (grows_older c)) (ap is_live e) f some refl
      (subst (λ x. Alike (fin_of (grows_older c)) (due m x (grows_older c))) (sym e) (alike_refl (fin_of (grows_older c)))) refl
  again_reports c FinWait2 e l f h some = silent_reports c (grows_older c) (older_onto c) (λ x. older_is_safe c f) (λ z. record { some = z; same = refl })
  again_reports c TimeWait e l f h some = silent_reports c (grows_older c) (older_onto c) (λ x. older_is_safe c f) (λ z. record { some = z; same = refl })

  by_beat_reports : (b : Beat) (c : Connection) (numbers : List ℕ) → is_live c.state ≡ true → Safe c → 0 < c.len
      → (let o : Outcome = by_beat m b c numbers in OutReports c o.connection o.step)
  by_beat_reports Beat.Wait c numbers l f some = silent_reports c (grows_older c) (older_onto c) (λ x. older_is_safe c f)
      (λ z. record { some = z; same = refl })
  by_beat_reports Beat.Again c numbers l f some = again_reports c c.state refl l f f.state some
  by_beat_reports Beat.GiveUp c numbers l f some = reset_reports c c

  waits_report : (c : Connection) (numbers : List ℕ) → is_live c.state ≡ true → Safe c → 0 < c.len
      → (let o : Outcome = waits_for_ack m c numbers in OutReports c o.connection o.step)
  waits_report c numbers l f some = by_beat_reports (beat_at (limit_of c.state) (c.age + 1)) c numbers l f some

  rests_report : (c : Connection) (numbers : List ℕ) → Safe c → (let o : Outcome = rests_on c numbers in OutReports c o.connection o.step)
  unfolding rests_on
  rests_report c numbers f = choose (λ (y : Outcome). OutReports c y.connection y.step) (eqb (c.age + 1) REST_TIME) _ _
      (λ e. dead_reports c c) (λ e. silent_reports c (grows_older c) (older_onto c) (λ x. older_is_safe c f) (λ z. record { some = z; same = refl }))

  polls_report : (c : Connection) (numbers : List ℕ) → c.state ≡ Established → Safe c → TextSafe c
      → (let o : Outcome = ticks_established m c numbers in OutReports c o.connection o.step)
  unfolding ticks_established
  polls_report c numbers e f h =
      choose (λ (y : Outcome). OutReports c y.connection y.step) (ltb 0 c.len) _ _ (λ i. waits_report c numbers (ap is_live e) f (ltb-lt 0 c.len i))
      (λ i. let x = steady.lawful.polled_keeps numbers c.part tt in
      let d : Connection = with_part (m.polled numbers c.part).part c in
      let z : c.len ≡ 0 = ltb-zero c.len i in
      let q : length (m.output d.part) ≡ length (m.output c.part) = ap (λ t. length t) x.0 in
      record {
        onto = onto_idle c d refl z refl;
        is_asked = ap is_open e;
        idle = z;
        mss = f.mss;
        initial = f.initial;
        text = record { fits = omega (arith, q, h.fits, x.1); count = omega (arith, h.count, x.1) };
        new = λ y. absurd (omega (arith, y, z));
      })

  tick_by_reports : (st : State) (c : Connection) (numbers : List ℕ) → c.state ≡ st → Safe c → SafeState c st
      → (let o : Outcome = tick_by m st c numbers in OutReports c o.connection o.step)
  tick_by_reports Closed c numbers e f h = absurd h
  tick_by_reports SynRcvd c numbers e f h = waits_report c numbers (ap is_live e) f (omega (arith, h.len))
  tick_by_reports Established c numbers e f h = polls_report c numbers e f h
  tick_by_reports CloseWait c numbers e f h = waits_report c numbers (ap is_live e) f h.some
  tick_by_reports FinWait1 c numbers e f h = waits_report c numbers (ap is_live e) f (omega (arith, h.len))
  tick_by_reports FinWait2 c numbers e f h = rests_report c numbers f
  tick_by_reports Closing c numbers e f h = waits_report c numbers (ap is_live e) f (omega (arith, h.len))
  tick_by_reports TimeWait c numbers e f h = rests_report c numbers f
  tick_by_reports LastAck c numbers e f h = waits_report c numbers (ap is_live e) f (omega (arith, h.len))

  pub tick_reports : (c : Connection) (numbers : List ℕ) → Safe c → (let o : Outcome = on_tick m c numbers in OutReports c o.connection o.step)
  tick_reports c numbers f = tick_by_reports c.state c numbers refl f f.state
