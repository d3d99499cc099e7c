-- A connection with something outstanding: when its timer expires, and how it ends.
use Rattle.node_laws.proofs.Prelude.{All, list_any, ◌≡◌, ℕ, ◌+◌, ◌<◌, ◌≤◌, Bool, true, false, not, ◌==◌, ◌&&◌, ◌⊎◌, inl, inr, List, length}
use Rattle.node_laws.proofs.Prelude.{take, refl, sym, ap, ◌∙◌, subst, arith, Option, Some, None, eqb, ltb, if◌then◌else◌, eq-eqb, cases_lt}
use Rattle.node_laws.proofs.Prelude.{PlainSegment, has_syn, has_fin, has_rst, ages, beat_at, give_up_age, Beat, AppState, AppSpec}
use Rattle.node_laws.proofs.Prelude.{IsSnapshot, is_time_wait, Now, State, Closed, SynRcvd, Established, CloseWait, FinWait1, FinWait2}
use Rattle.node_laws.proofs.Prelude.{Closing, TimeWait, LastAck, Want, Nothing, Send, Close, Abort, Connection, is_live, segment_of}
use Rattle.node_laws.proofs.Prelude.{is_again, syn_ack, text_segment, fin_of, Outcome, leaves, closes, after_own_fin, peer_has_closed}
use Rattle.node_laws.proofs.Prelude.{idles, does_as_wanted, prepared, asked, first_mss, is_out_of_order, is_acked, rests, has_text}
use Rattle.node_laws.proofs.Prelude.{with_part, peer_closes, stays_established, in_established, fin_acked, fin_waits, by_state, on_segment}
use Rattle.node_laws.proofs.Prelude.{limit_of, outstanding, grows_older, by_beat, polls, ticks_established, waits_for_ack, on_tick, tick_by}
use Rattle.node_laws.proofs.Prelude.{Step, Alike, IsSteady, choose, cut_length, ltb-yes, zero_or_more, is_open, asked_by, fin_lives, is_ask}
use Rattle.node_laws.proofs.Prelude.{open_live, on_tick_by, SafeState, OutReports, due, sequence_length}

pub mss_some : (o : Option ℕ) → 0 < first_mss o
mss_some None = omega arith
mss_some (Some n) = choose (λ k. 0 < k) (eqb n 0) _ _ (λ e. omega arith) (λ e. elim (zero_or_more n) [
  | inl z ↦ absurd (let t : eqb n 0 ≡ true = eq-eqb n 0 z in cc)
  | inr l ↦ omega (arith, l)
])

-- ---- ages

-- it is at an age before which it is given up
abbrev pub IsYoung : State → Connection → Type 0
IsYoung st c = 0 < c.len → c.age < give_up_age (limit_of st)

abbrev pub Young : Connection → Type 0
Young c = is_live c.state ≡ true → IsYoung c.state c

new_age : (st : State) → 0 < give_up_age (limit_of st)
new_age SynRcvd = omega arith
new_age Closed = omega arith
new_age _ = omega arith

module _ (m : AppSpec) where
  wanted_young : (w : Want) (fresh : Bool) (c : Connection) (numbers : List ℕ) → Young c → Young (does_as_wanted w fresh c numbers).connection
  unfolding idles
  wanted_young Abort fresh c numbers y = λ l. absurd (cc)
  wanted_young Close fresh c numbers y = λ l s. new_age (after_own_fin c.state)
  wanted_young (Send n) fresh c numbers y = λ l s. new_age c.state
  wanted_young Nothing fresh c numbers y =
      choose (λ (o : Outcome). Young o.connection) (peer_has_closed c.state) (leaves (closes c) numbers Step.Reset)
      (if fresh then leaves c numbers Step.Ack else leaves c numbers Step.Drop) (λ e l. absurd (cc))
      (λ e. choose (λ (o : Outcome). Young o.connection) fresh (leaves c numbers Step.Ack) (leaves c numbers Step.Drop) (λ f. y) (λ f. y))

  pub asked_young : (at : Connection → Now) (o : Outcome) → Young o.connection → Young (asked m at o).connection
  asked_young at o y =
      asked_by m (λ x. Young x.connection) at o (λ a fresh. (let b : Connection = prepared m (at o.connection) o.connection o.numbers in
      wanted_young (m.want o.numbers b.part) fresh b o.numbers y)) y

  established_young : (acked : Bool) (c : Connection) (numbers : List ℕ) (s : PlainSegment) → c.state ≡ Established → IsYoung Established c
      → Young (in_established m acked c numbers s).connection
  unfolding in_established peer_closes stays_established
  established_young acked c numbers s e y =
      let same : is_live c.state ≡ true → IsYoung c.state c = λ l. subst (λ st. IsYoung st c) (sym e) y in
      choose (λ (o : Outcome). Young o.connection) (has_fin s.flags) (peer_closes m c numbers s) (stays_established m acked c numbers s)
      (λ f. choose (λ (o : Outcome). Young o.connection) (ltb 0 c.len) _ _ (λ g l. y) (λ g l. y))
      (λ f. choose (λ (o : Outcome). Young o.connection) (not acked && not (has_text s)) _ _ (λ g. same)
      (λ g. choose (λ (o : Outcome). Young o.connection) (ltb 0 c.len) _ _ (λ h. same) (λ h. same)))

  by_state_young : (st : State) (acked : Bool) (c : Connection) (numbers : List ℕ) (s : PlainSegment) → c.state ≡ st → IsYoung st c
      → Young (by_state m st acked c numbers s).connection
  unfolding fin_acked fin_waits
  by_state_young Closed acked c numbers s e y = λ l. subst (λ st. IsYoung st c) (sym e) y
  by_state_young SynRcvd true c numbers s e y = λ l z. absurd (let z : 0 < 0 = z in omega (arith, z))
  by_state_young SynRcvd false c numbers s e y = λ l. subst (λ st. IsYoung st c) (sym e) y
  by_state_young Established true c numbers s e y = established_young true (with_part (m.acked numbers c.part c.len).part (rests c))
      (m.acked numbers c.part c.len).numbers s e (λ z. absurd (let z : 0 < 0 = z in omega (arith, z)))
  by_state_young Established false c numbers s e y = established_young false c numbers s e y
  by_state_young CloseWait true c numbers s e y = λ l z. absurd (let z : 0 < 0 = z in omega (arith, z))
  by_state_young CloseWait false c numbers s e y = λ l. subst (λ st. IsYoung st c) (sym e) y
  by_state_young FinWait1 true c numbers s e y = choose (λ (o : Outcome). Young o.connection) (has_fin s.flags) _ _
      (λ f l z. absurd (let z : 0 < 0 = z in omega (arith, z))) (λ f l z. absurd (let z : 0 < 0 = z in omega (arith, z)))
  by_state_young FinWait1 false c numbers s e y =
      let same : is_live c.state ≡ true → IsYoung c.state c = λ l. subst (λ st. IsYoung st c) (sym e) y in
      choose (λ (o : Outcome). Young o.connection) (has_fin s.flags) _ _ (λ f l. y) (λ f. choose (λ (o : Outcome). Young o.connection)
      (has_text s) _ _ (λ g. same) (λ g. same))
  by_state_young FinWait2 acked c numbers s e y =
      let same : is_live c.state ≡ true → IsYoung c.state c = λ l. subst (λ st. IsYoung st c) (sym e) y in
      choose (λ (o : Outcome). Young o.connection) (has_fin s.flags) _ _ (λ f l z. omega arith)
      (λ f. choose (λ (o : Outcome). Young o.connection) (has_text s) _ _ (λ g. same) (λ g. same))
  by_state_young Closing true c numbers s e y = λ l z. absurd (let z : 0 < 0 = z in omega (arith, z))
  by_state_young Closing false c numbers s e y = λ l. subst (λ st. IsYoung st c) (sym e) y
  by_state_young LastAck true c numbers s e y = λ l. absurd (cc)
  by_state_young LastAck false c numbers s e y = λ l. subst (λ st. IsYoung st c) (sym e) y
  by_state_young TimeWait acked c numbers s e y = λ l. subst (λ st. IsYoung st c) (sym e) y

  pub segment_young : (c : Connection) (numbers : List ℕ) (s : PlainSegment) → is_live c.state ≡ true → Young c → Young (on_segment m c numbers s).connection
  unfolding on_segment
  segment_young c numbers s l y =
      choose (λ (o : Outcome). Young o.connection) (has_rst s.flags) _ _ (λ e k. absurd (cc))
      (λ e. choose (λ (o : Outcome). Young o.connection) (is_out_of_order c s) _ _ (λ f. y) (λ f. by_state_young c.state (is_acked c s) c numbers s refl (y l)))

  -- ---- what is outstanding

  module _ (steady : IsSteady m) (Low : ℕ → Type 0) (low_text : (p : AppState) → All IsSnapshot p.snapshots → Low (length (m.output p))) where
    abbrev pub SafeAt : Connection → State → Type 0
    SafeAt c st = SafeState m steady Low low_text c st

    size_is : (s t : PlainSegment) (n : ℕ) → Alike s t → sequence_length t ≡ n → sequence_length s ≡ n
    size_is s t n a h =
        ap (λ z. length z + (if has_syn s.flags then 1 else 0) + (if has_fin s.flags then 1 else 0)) a.text
        ∙ ap (λ z. length t.text + (if has_syn z then 1 else 0) + (if has_fin z then 1 else 0)) a.flags ∙ h

    -- how many numbers it takes up
    pub due_size : (d : Connection) (st : State) (s : PlainSegment) → SafeAt d st → 0 < d.len → Alike s (due m st d) → sequence_length s ≡ d.len
    due_size d Closed s h l a = absurd h
    due_size d SynRcvd s h l a = size_is s (syn_ack d) d.len a (sym h.len)
    due_size d Established s h l a = size_is s (text_segment m d) d.len a (let z : length (text_segment m d).text ≡ d.len = cut_length
        (m.output d.part) d.part.acked d.len h.fits in omega (arith, z))
    due_size d CloseWait s h l a = size_is s (text_segment m d) d.len a (let z : length (text_segment m d).text ≡ d.len = cut_length
        (m.output d.part) d.part.acked d.len h.text.fits in omega (arith, z))
    due_size d FinWait1 s h l a = size_is s (fin_of d) d.len a (sym h.len)
    due_size d FinWait2 s h l a = absurd (let z = h.len in omega (arith, l, z))
    due_size d Closing s h l a = size_is s (fin_of d) d.len a (sym h.len)
    due_size d TimeWait s h l a = absurd (let z = h.len in omega (arith, l, z))
    due_size d LastAck s h l a = size_is s (fin_of d) d.len a (sym h.len)

    -- a tick is a beat of its timer
    ticks_by : (st : State) (c : Connection) (numbers : List ℕ) → SafeAt c st → 0 < c.len → tick_by m st c numbers
        ≡ by_beat m (beat_at (limit_of c.state) (c.age + 1)) c numbers
    unfolding ticks_established
    ticks_by Closed c numbers h l = absurd h
    ticks_by SynRcvd c numbers h l = refl
    ticks_by Established c numbers h l = ap (λ (y : Bool). if y then waits_for_ack m c numbers else polls m c numbers) (ltb-yes c.len l)
    ticks_by CloseWait c numbers h l = refl
    ticks_by FinWait1 c numbers h l = refl
    ticks_by FinWait2 c numbers h l = absurd (let z = h.len in omega (arith, l, z))
    ticks_by Closing c numbers h l = refl
    ticks_by TimeWait c numbers h l = absurd (let z = h.len in omega (arith, l, z))
    ticks_by LastAck c numbers h l = refl

    pub ticks_are : (c : Connection) (numbers : List ℕ) → SafeAt c c.state → 0 < c.len
        → on_tick m c numbers ≡ by_beat m (beat_at (limit_of c.state) (c.age + 1)) c numbers
    ticks_are c numbers h l = ticks_by c.state c numbers h l

    -- what is outstanding is retransmitted
    pub due_again : (st : State) (c : Connection) → SafeAt c st → 0 < c.len → (segment_of m c (outstanding true st) ≡ Some (due m st c))
        × (is_again (outstanding true st) ≡ true)
    due_again Closed c h l = absurd h
    due_again SynRcvd c h l = (refl, refl)
    due_again Established c h l = (refl, refl)
    due_again CloseWait c h l = (refl, refl)
    due_again FinWait1 c h l = (refl, refl)
    due_again FinWait2 c h l = absurd (let z = h.len in omega (arith, l, z))
    due_again Closing c h l = (refl, refl)
    due_again TimeWait c h l = absurd (let z = h.len in omega (arith, l, z))
    due_again LastAck c h l = (refl, refl)

    -- ---- a tick leaves it young

    at_end : (limit age : ℕ) → age ≡ give_up_age limit → beat_at limit age ≡ Beat.GiveUp
    at_end limit age e = ap (λ b. if b then Beat.GiveUp else (if list_any (λ a. a == age) (take limit ages) then Beat.Again else Beat.Wait))
        (eq-eqb age (give_up_age limit) e)

    still_young : (c : Connection) (b : Beat) → beat_at (limit_of c.state) (c.age + 1) ≡ b → (b ≡ Beat.GiveUp → ⊥) → Young c → Young (grows_older c)
    still_young c b e goes y l s =
        elim (cases_lt (c.age + 1) (give_up_age (limit_of c.state))) [
          | inl h ↦ h
          | inr h ↦ absurd (goes (sym e ∙ at_end (limit_of c.state) (c.age + 1) (let k = y l s in omega (arith, k, h))))
        ]

    beat_young : (b : Beat) (c : Connection) (numbers : List ℕ) → beat_at (limit_of c.state) (c.age + 1) ≡ b → Young c
        → Young (by_beat m b c numbers).connection
    beat_young Beat.Wait c numbers e y = still_young c Beat.Wait e (λ z. cc) y
    beat_young Beat.Again c numbers e y = still_young c Beat.Again e (λ z. cc) y
    beat_young Beat.GiveUp c numbers e y = λ l. absurd (cc)

    idle_young : (b : Beat) (c : Connection) (numbers : List ℕ) → c.len ≡ 0 → Young (by_beat m b c numbers).connection
    idle_young Beat.Wait c numbers e = λ l s. absurd (omega (arith, e, s))
    idle_young Beat.Again c numbers e = λ l s. absurd (omega (arith, e, s))
    idle_young Beat.GiveUp c numbers e = λ l. absurd (cc)

    pub tick_young : (c : Connection) (numbers : List ℕ) → SafeAt c c.state → Young c → Young (on_tick m c numbers).connection
    tick_young c numbers h y =
        elim (zero_or_more c.len) [
          | inl z ↦ on_tick_by m (λ (o : Outcome). Young o.connection) c numbers record {
            none = y;
            beats = λ r b. idle_young b c numbers z;
            rested = λ e l s. absurd (omega (arith, z, s));
            ends = λ l. absurd (cc);
            polled = λ e k l s. absurd (omega (arith, z, s));
          }
          | inr l ↦ subst (λ (o : Outcome). Young o.connection) (sym (ticks_are c numbers h l))
              (beat_young (beat_at (limit_of c.state) (c.age + 1)) c numbers refl y)
        ]

    -- nothing is outstanding in TIME-WAIT
    pub no_wait : (c : Connection) (st : State) → SafeAt c st → 0 < c.len → is_time_wait st ≡ true → ⊥
    no_wait c TimeWait h l e = (let z = h.len in omega (arith, l, z))
    no_wait c _ h l e = absurd (cc)

    -- ---- how it ends: by a RST, or by the acknowledgement of the last FIN

    abbrev pub LivesOrResets : Outcome → Type 0
    LivesOrResets o = (is_live o.connection.state ≡ true) ⊎ (o.step ≡ Step.Reset)

    wanted_lives : (w : Want) (fresh : Bool) (c : Connection) (numbers : List ℕ) → is_open c.state ≡ true → LivesOrResets (does_as_wanted w fresh c numbers)
    unfolding idles
    wanted_lives Abort fresh c numbers o = inr refl
    wanted_lives Close fresh c numbers o = inl (fin_lives c.state)
    wanted_lives (Send n) fresh c numbers o = inl (open_live c.state o)
    wanted_lives Nothing fresh c numbers o =
        choose LivesOrResets (peer_has_closed c.state) (leaves (closes c) numbers Step.Reset) (if fresh then leaves c numbers Step.Ack else
        leaves c numbers Step.Drop) (λ e. inr refl)
        (λ e. choose LivesOrResets fresh (leaves c numbers Step.Ack) (leaves c numbers Step.Drop) (λ f. inl (open_live c.state o))
        (λ f. inl (open_live c.state o)))

    pub ask_open : (c d : Connection) (s : Step) → OutReports m steady Low low_text c d s → is_ask s ≡ true → is_open d.state ≡ true
    ask_open c d (Step.Ask fresh) t a = t.is_asked
    ask_open c d _ t a = absurd (cc)

    pub asked_lives : (at : Connection → Now) (c : Connection) (o : Outcome) → OutReports m steady Low low_text c o.connection o.step
        → LivesOrResets o → LivesOrResets (asked m at o)
    asked_lives at c o t l =
        asked_by m LivesOrResets at o (λ a fresh. (let b : Connection = prepared m (at o.connection) o.connection o.numbers in
        wanted_lives (m.want o.numbers b.part) fresh b o.numbers (ask_open c o.connection o.step t a))) l

    abbrev ContinuesUnreset : Outcome → Type 0
    ContinuesUnreset o = is_live o.connection.state ≡ true

    established_lives : (c : Connection) (numbers : List ℕ) (s : PlainSegment) → is_live c.state ≡ true → ContinuesUnreset (in_established m false c numbers s)
    unfolding in_established peer_closes stays_established
    established_lives c numbers s l =
        choose ContinuesUnreset (has_fin s.flags) _ _ (λ e. choose ContinuesUnreset (ltb 0 c.len) _ _ (λ f. refl) (λ f. refl))
        (λ e. choose ContinuesUnreset (not false && not (has_text s)) _ _ (λ f. l) (λ f. choose ContinuesUnreset (ltb 0 c.len) _ _ (λ g. l) (λ g. l)))

    by_state_lives : (st : State) (c : Connection) (numbers : List ℕ) (s : PlainSegment) → is_live c.state ≡ true
        → ContinuesUnreset (by_state m st false c numbers s)
    unfolding fin_waits
    by_state_lives Closed c numbers s l = l
    by_state_lives SynRcvd c numbers s l = l
    by_state_lives Established c numbers s l = established_lives c numbers s l
    by_state_lives CloseWait c numbers s l = l
    by_state_lives FinWait1 c numbers s l = choose ContinuesUnreset (has_fin s.flags) _ _ (λ e. refl)
        (λ e. choose ContinuesUnreset (has_text s) _ _ (λ f. l) (λ f. l))
    by_state_lives FinWait2 c numbers s l = choose ContinuesUnreset (has_fin s.flags) _ _ (λ e. refl)
        (λ e. choose ContinuesUnreset (has_text s) _ _ (λ f. l) (λ f. l))
    by_state_lives Closing c numbers s l = l
    by_state_lives LastAck c numbers s l = l
    by_state_lives TimeWait c numbers s l = l

    pub segment_lives : (c : Connection) (numbers : List ℕ) (s : PlainSegment) → is_live c.state ≡ true → has_rst s.flags ≡ false
        → is_acked c s ≡ false → LivesOrResets (on_segment m c numbers s)
    unfolding on_segment
    segment_lives c numbers s l r a =
        choose LivesOrResets (has_rst s.flags) _ _ (λ e. absurd (cc))
        (λ e. choose LivesOrResets (is_out_of_order c s) _ _ (λ f. inl l)
        (λ f. inl (subst (λ b. ContinuesUnreset (by_state m c.state b c numbers s)) (sym a) (by_state_lives c.state c numbers s l))))

    beat_lives : (b : Beat) (c : Connection) (numbers : List ℕ) → is_live c.state ≡ true → LivesOrResets (by_beat m b c numbers)
    beat_lives Beat.Wait c numbers l = inl l
    beat_lives Beat.Again c numbers l = inl l
    beat_lives Beat.GiveUp c numbers l = inr refl

    pub tick_lives : (c : Connection) (numbers : List ℕ) → SafeAt c c.state → 0 < c.len → is_live c.state ≡ true → LivesOrResets (on_tick m c numbers)
    tick_lives c numbers h l live = subst LivesOrResets (sym (ticks_are c numbers h l)) (beat_lives (beat_at (limit_of c.state) (c.age + 1)) c numbers live)

-- ---- the next beat

-- within 49 ticks there is an age at which the timer beats
pub record BeatsAt (limit age : ℕ) : Type 0 where
  pub at : ℕ
  pub later : age < at
  pub soon : at ≤ age + 49
  pub beats : beat_at limit at ≡ Beat.Wait → ⊥

beats_by : (limit age at : ℕ) → age < at → at ≤ age + 49 → (beat_at limit at ≡ Beat.Wait → ⊥) → BeatsAt limit age
beats_by limit age at l s b = record { at = at; later = l; soon = s; beats = b }

abbrev IsBeat : ℕ → ℕ → Type 0
IsBeat limit at = beat_at limit at ≡ Beat.Wait → ⊥

-- with five retransmissions or more the first ages are these
early_beats : (limit age : ℕ) → IsBeat limit 4 → IsBeat limit 8 → IsBeat limit 15 → IsBeat limit 28 → IsBeat limit 53 → age < 53 → BeatsAt limit age
early_beats limit age b4 b8 b15 b28 b53 l =
    elim (cases_lt age 4) [
      | inl h ↦ beats_by limit age 4 h (omega arith) b4
      | inr a ↦
          elim (cases_lt age 8) [
            | inl h ↦ beats_by limit age 8 h (omega arith) b8
            | inr b ↦
                elim (cases_lt age 15) [
                  | inl h ↦ beats_by limit age 15 h (omega arith) b15
                  | inr c ↦
                      elim (cases_lt age 28) [ inl h ↦ beats_by limit age 28 h (omega arith) b28 | inr d ↦ beats_by limit age 53 l (omega arith) b53 ]
                ]
          ]
    ]

syn_beats : (age : ℕ) → age < 102 → BeatsAt 5 age
syn_beats age l =
    elim (cases_lt age 53) [
      | inl h ↦ early_beats 5 age (λ e. cc) (λ e. cc) (λ e. cc) (λ e. cc) (λ e. cc) h
      | inr f ↦ beats_by 5 age 102 l (omega (arith, f)) (λ e. cc)
    ]

text_beats : (age : ℕ) → age < 249 → BeatsAt 8 age
text_beats age l =
    elim (cases_lt age 53) [
      | inl h ↦ early_beats 8 age (λ e. cc) (λ e. cc) (λ e. cc) (λ e. cc) (λ e. cc) h
      | inr f ↦
          elim (cases_lt age 102) [
            | inl h ↦ beats_by 8 age 102 h (omega (arith, f)) (λ e. cc)
            | inr g ↦
                elim (cases_lt age 151) [
                  | inl h ↦ beats_by 8 age 151 h (omega (arith, g)) (λ e. cc)
                  | inr i ↦
                      elim (cases_lt age 200) [
                        | inl h ↦ beats_by 8 age 200 h (omega (arith, i)) (λ e. cc)
                        | inr j ↦ beats_by 8 age 249 l (omega (arith, j)) (λ e. cc)
                      ]
                ]
          ]
    ]

pub next_beat : (st : State) (age : ℕ) → age < give_up_age (limit_of st) → BeatsAt (limit_of st) age
next_beat SynRcvd age l = syn_beats age l
next_beat _ age l = text_beats age l
