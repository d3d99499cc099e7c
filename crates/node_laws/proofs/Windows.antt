-- Every new text fits the window of the newest segment that was not out of order.
use Rattle.node_laws.proofs.Prelude.{All, option_map_or, ◌≡◌, ℕ, zero, suc, ◌+◌, ◌<◌, ◌≤◌, ◌==◌, Bool, true, false, not, ◌&&◌, ◌||◌, inl}
use Rattle.node_laws.proofs.Prelude.{inr, List, [], ◌∷◌, ◌++◌, length, take, drop, refl, sym, ap, ◌∙◌, subst, arith, Option, Some, None}
use Rattle.node_laws.proofs.Prelude.{slice_get, eqb, ltb, length-take, if◌then◌else◌, eq-eqb, All-tail, wrap, Addr, SYN, PlainSegment}
use Rattle.node_laws.proofs.Prelude.{has_syn, has_fin, has_ack, AppSpec, IsU32, IsNow, Now, State, SynRcvd, Established, CloseWait, Sockets}
use Rattle.node_laws.proofs.Prelude.{Connection, closed, is_live, snd_una, rcv_nxt, occupies_sequence_space, segment_of, is_again}
use Rattle.node_laws.proofs.Prelude.{is_plain_syn, reset_for_no_connection, bare_ack, fin_of, reset_of, syn_ack, text_segment, Outcome}
use Rattle.node_laws.proofs.Prelude.{leaves, asked, accepted, is_out_of_order, is_acked, on_segment, on_tick, Step, Event, serving, IsEvent}
use Rattle.node_laws.proofs.Prelude.{Alike, AbstractNode, initial_node, step, IsSteady, both_ways, and_true, eqb-eq, ltb-yes, not-true}
use Rattle.node_laws.proofs.Prelude.{only_some, is_open, FitConn, on_segment_fits, on_tick_fits, stepped_reports, SafeState, StepReports}
use Rattle.node_laws.proofs.Prelude.{OutReports, due, segment_reports, tick_reports, Exchange, sent_at, exchange, is_opening}
use Rattle.node_laws.proofs.Prelude.{is_incarnation, is_empty, IsIncarnationIn, exchanges_onto, trace_of, IsPassedOver, FitsNewest}
use Rattle.node_laws.proofs.Prelude.{IsNewText, FitsWindows, WindowsAreRespected, IsOfLine}
use Rattle.node_laws.proofs.Beating.{ask_open, mss_some}
use Rattle.node_laws.proofs.GoodNodes.{AnyLength, Good, SafeConn, first_is, good_on, good_start, low_text}
use Rattle.node_laws.proofs.Lines.{OfMedium, Comes, comes, quiet, met, left_of}
use Rattle.node_laws.proofs.Lines.OfMedium.{passes_by, evicted, unanswered, refused, born, delivers_text, ticks}
use Rattle.node_laws.proofs.Replying.{answer_no_syn}
use Rattle.node_laws.proofs.WindowSteps.{NewIsShort, is_new_text, asked_short, asked_so, segment_bounds, segment_new, StaysAtSyn}
use Rattle.node_laws.proofs.WindowSteps.{segment_syn, tick_on}
use Rattle.node_laws.proofs.WindowSteps.AskedSo.{unasked, spoke}
use Rattle.node_laws.proofs.WindowSteps.Bounds.{passes, bounds, connects_it, speaks_no_more}

no_text : (P : Type 0) (s t : PlainSegment) → Some s ≡ Some t → s.text ≡ [] → 0 < length t.text → P
no_text P s t e z l = (let q : t.text ≡ [] = only_some (λ x. x.text ≡ []) s t e z in absurd (let y = ap length q in omega (arith, y, l)))

placed_text : (s : PlainSegment) → 0 < length s.text → occupies_sequence_space s ≡ true
placed_text s l = ap (λ b. b || (has_syn s.flags || has_fin s.flags)) (ltb-yes (length s.text) l)

-- out of order is what is at another number
out_of_order : (c : Connection) (s : PlainSegment) → is_out_of_order c s ≡ true → (occupies_sequence_space s ≡ true) × (s.seq ≡ rcv_nxt c → ⊥)
out_of_order c s h =
    let a = and_true (occupies_sequence_space s) (not (eqb s.seq (rcv_nxt c))) h in
    (a.0, λ e. (let z : eqb s.seq (rcv_nxt c) ≡ true = eq-eqb s.seq (rcv_nxt c) e in let y = not-true (eqb s.seq (rcv_nxt c)) a.1 in cc))

module _ (m : AppSpec) where
  -- a step that sends text
  text_new : (d : Connection) (st : Step) (s : PlainSegment) → segment_of m d st ≡ Some s → 0 < length s.text → is_again st ≡ false
      → (is_new_text st ≡ true) × (length s.text ≤ d.len)
  text_new d Step.Drop s e l a = absurd (cc)
  text_new d Step.Ack s e l a = no_text _ (bare_ack d) s e refl l
  text_new d (Step.SynAck again) s e l a = no_text _ (syn_ack d) s e refl l
  text_new d (Step.Text again) s e l a = (
    ap not a,
    only_some (λ t. length t.text ≤ d.len) (text_segment m d) s e (let z : length (take d.len (drop d.part.acked (m.output d.part))) ≤
        d.len = (let y = length-take d.len (drop d.part.acked (m.output d.part)) in omega (arith, y)) in z),
  )
  text_new d (Step.Fin again) s e l a = no_text _ (fin_of d) s e refl l
  text_new d Step.Reset s e l a = no_text _ (reset_of d) s e refl l
  text_new d (Step.Ask fresh) s e l a = absurd (cc)

  -- only where the application may speak is text outstanding
  text_open : (st : State) (d : Connection) (s : PlainSegment) → Alike s (due m st d) → 0 < length s.text → is_open st ≡ true
  text_open Established d s a l = refl
  text_open CloseWait d s a l = refl
  text_open _ d s a l = absurd (let z = ap length a.text in omega (arith, z, l))

-- one exchange more: what is new then
fits_on : (x : Exchange) (incarnation : List Exchange) → ((s : PlainSegment) → IsNewText (x ∷ incarnation) 0 s
    → FitsNewest (x ∷ incarnation) (length s.text)) → FitsWindows incarnation → FitsWindows (x ∷ incarnation)
fits_on x incarnation h g zero s n = h s n
fits_on x incarnation h g (suc k) s n = g k s record { output = n.output; some = n.some; new = λ j t l e p q. n.new (suc j) t (omega (arith, l)) e p q }

-- nothing with text is sent
fits_quietly : (x : Exchange) (incarnation : List Exchange) → ((s : PlainSegment) → x.output ≡ Some s → s.text ≡ [])
    → FitsWindows incarnation → FitsWindows (x ∷ incarnation)
fits_quietly x incarnation h g = fits_on x incarnation
    (λ s n. (let e = h s n.output in let l = n.some in absurd (let z = ap length e in omega (arith, z, l)))) g

module _ (m : AppSpec) (steady : IsSteady m) (ports : ℕ → Bool) (p : Sockets) where
  -- what is outstanding was sent
  record SentDue (incarnation : List Exchange) (number : ℕ) : Type 0 where
    place : ℕ
    segment : PlainSegment
    output : sent_at incarnation place ≡ Some segment
    placed : occupies_sequence_space segment ≡ true
    seq : segment.seq ≡ number

  -- a SYN that this number acknowledges
  abbrev IsSyn : PlainSegment → ℕ → Type 0
  IsSyn t number = (has_syn t.flags ≡ true) × (wrap (t.seq + 1) ≡ number)

  -- in SYN-RECEIVED only the SYN was sent, and what acknowledges it was out of order
  record AtSyn (incarnation : List Exchange) (number : ℕ) : Type 0 where
    alone : (k : ℕ) (t : PlainSegment) → sent_at incarnation k ≡ Some t → occupies_sequence_space t ≡ true → IsSyn t number
    no_earlier : (k : ℕ) (y : Exchange) (t : PlainSegment) → slice_get incarnation k ≡ Some y → y.received ≡ Some t → has_ack t.flags ≡ true
        → t.ack ≡ number → IsPassedOver y t

  record LiveWindowed (c : Connection) (incarnation : List Exchange) : Type 0 where
    safe : SafeConn m steady c
    within : is_open c.state ≡ true → (size : ℕ) → size ≤ c.mss → FitsNewest incarnation size
    syn : c.state ≡ SynRcvd → AtSyn incarnation (wrap (snd_una c + 1))
    output : 0 < c.len → SentDue incarnation (wrap (c.iss + c.acked))

  record Windowed (c : Connection) (incarnation : List Exchange) : Type 0 where
    fits : FitsWindows incarnation
    live : is_live c.state ≡ true → LiveWindowed c incarnation

  -- the SYN alone is outstanding
  syn_len : (c : Connection) (st : State) → SafeState m steady AnyLength (low_text m) c st → st ≡ SynRcvd → c.len ≡ 1
  syn_len c SynRcvd h e = h.len
  syn_len c _ h e = absurd (cc)

  -- in SYN-RECEIVED, one exchange more
  syn_on : (x : Exchange) (incarnation : List Exchange) (number : ℕ) → ((t : PlainSegment) → x.output ≡ Some t → occupies_sequence_space t
      ≡ true → IsSyn t number)
      → ((t : PlainSegment) → x.received ≡ Some t → has_ack t.flags ≡ true → t.ack ≡ number → IsPassedOver x t) → AtSyn incarnation number
      → AtSyn (x ∷ incarnation) number
  syn_on x incarnation number h g a = record { alone = alone_on; no_earlier = first_on }
    where
      alone_on : (k : ℕ) (t : PlainSegment) → sent_at (x ∷ incarnation) k ≡ Some t → occupies_sequence_space t ≡ true → IsSyn t number
      alone_on zero t e q = h t e q
      alone_on (suc k) t e q = a.alone k t e q

      first_on : (k : ℕ) (y : Exchange) (t : PlainSegment) → slice_get (x ∷ incarnation) k ≡ Some y → y.received ≡ Some t
          → has_ack t.flags ≡ true → t.ack ≡ number → IsPassedOver y t
      first_on zero y t e c f q = (let same : x ≡ y = cc in subst (λ z. IsPassedOver z t) same (g t (ap (λ z. z.received) same ∙ c) f q))
      first_on (suc k) y t e c f q = a.no_earlier k y t e c f q

  -- a step of a live connection
  module _ (c : Connection) (incarnation : List Exchange) (w : Windowed c incarnation) (alive : is_live c.state ≡ true)
      (received : Option PlainSegment) (r : Outcome)
      (tells : StepReports m steady AnyLength (low_text m) c r.connection (segment_of m r.connection r.step) (is_again r.step)) (short : NewIsShort r)
      (within : (let x : Exchange = met received (segment_of m r.connection r.step) in is_open r.connection.state ≡ true → (size : ℕ)
      → size ≤ r.connection.mss → FitsNewest (x ∷ incarnation) size))
      (syn : (let x : Exchange = met received (segment_of m r.connection r.step) in r.connection.state ≡ SynRcvd
      → AtSyn (x ∷ incarnation) (wrap (snd_una r.connection + 1)))) where
    abbrev d : Connection
    d = r.connection

    abbrev x : Exchange
    x = met received (segment_of m d r.step)

    v : LiveWindowed c incarnation
    v = w.live alive

    new_fits : (s : PlainSegment) → IsNewText (x ∷ incarnation) 0 s → FitsNewest (x ∷ incarnation) (length s.text)
    new_fits s n =
        let reported = tells.output s n.output (placed_text s n.some) in
        both_ways (is_again r.step)
        (λ e. absurd (let k = reported.repeated e in let q = v.output k.0 in
        let iss : d.iss ≡ c.iss = (tells.onto reported.live).iss in
        n.new (suc q.place) q.segment (omega arith) q.output q.placed
        (q.seq ∙ ap wrap (let same = k.1 in let z : c.iss + c.acked ≡ d.iss + d.acked = omega (arith, same, iss) in z) ∙ sym reported.due_now.seq)))
        (λ e. (let t = text_new m d r.step s n.output n.some e in
        let fits = short t.0 in
        within (text_open m d.state d s reported.due_now.alike n.some) (length s.text) (let l = t.1 in omega (arith, l, fits))))

    sent_on : is_live d.state ≡ true → 0 < d.len → SentDue (x ∷ incarnation) (wrap (d.iss + d.acked))
    sent_on l some = elim (tells.still l some) [
      | inl still ↦ (let q = v.output still.some in let iss : d.iss ≡ c.iss = (tells.onto l).iss in let same = still.same in
          record {
            place = suc q.place;
            segment = q.segment;
            output = q.output;
            placed = q.placed;
            seq = q.seq ∙ ap wrap (let z : c.iss + c.acked ≡ d.iss + d.acked = omega (arith, same, iss) in z);
          })
      | inr anew ↦ record {
        place = 0;
        segment = anew.output;
        output = anew.is;
        placed = anew.placed;
        seq = (tells.output anew.output anew.is anew.placed).due_now.seq;
      }
    ]

    left_live : (e : Connection) → is_live (left_of e).state ≡ true → (is_live e.state ≡ true) × (left_of e ≡ e)
    left_live e = both_ways (is_live e.state)
        (λ l h. (l, ap (λ b. if b then e else closed) l))
        (λ l h. absurd (let z : is_live (left_of e).state ≡ false = ap (λ b. is_live (if b then e else closed).state) l in cc))

    windowed_step : Windowed (left_of d) (x ∷ incarnation)
    windowed_step = record {
      fits = fits_on x incarnation new_fits w.fits;
      live = λ l. (let q = left_live d l in subst (λ z. LiveWindowed z (x ∷ incarnation)) (sym q.1)
          record { safe = tells.safe q.0; within = within; syn = syn; output = sent_on q.0 });
    }

  module _ (c : Connection) (incarnation : List Exchange) (w : Windowed c incarnation) (alive : is_live c.state ≡ true) (fit : FitConn c)
      (numbers : List ℕ) (words : All IsU32 numbers) (at : Connection → Now) (is : (z : Connection) → FitConn z → IsNow (at z)) where
    now : LiveWindowed c incarnation
    now = w.live alive

    -- a segment comes
    module _ (s : PlainSegment) where
      abbrev o : Outcome
      o = on_segment m c numbers s

      abbrev r : Outcome
      r = asked m at o

      abbrev y : Exchange
      y = met (Some s) (segment_of m r.connection r.step)

      reported : OutReports m steady AnyLength (low_text m) c o.connection o.step
      reported = segment_reports m steady AnyLength (low_text m) c numbers s now.safe

      is_passed : is_out_of_order c s ≡ true → o ≡ leaves c numbers Step.Ack → IsPassedOver y s
      is_passed h e =
          let q = out_of_order c s h in
          record {
            placed = q.0;
            answer = bare_ack c;
            output = ap (λ z. (let k : Outcome = asked m at z in segment_of m k.connection k.step)) e;
            bare = refl;
            other = q.1;
          }

      -- the number that acknowledges the SYN
      acks_syn : c.state ≡ SynRcvd → is_acked c s ≡ true → s.ack ≡ wrap (snd_una c + 1)
      acks_syn e a =
          let b = and_true (has_ack s.flags) (ltb 0 c.len && (s.ack == wrap (snd_una c + c.len))) a in
          let d = and_true (ltb 0 c.len) (s.ack == wrap (snd_una c + c.len)) b.1 in
          eqb-eq s.ack (wrap (snd_una c + c.len)) d.1 ∙ ap (λ n. wrap (snd_una c + n)) (syn_len c c.state now.safe.state e)

      not_acked : c.state ≡ SynRcvd → is_acked c s ≡ false → has_ack s.flags ≡ true → s.ack ≡ wrap (snd_una c + 1) → ⊥
      not_acked e a f g =
          let one : c.len ≡ 1 = syn_len c c.state now.safe.state e in
          let here : (s.ack == wrap (snd_una c + c.len)) ≡ true = eq-eqb s.ack (wrap (snd_una c + c.len)) (g ∙ ap (λ n. wrap (snd_una c + n)) (sym one)) in
          let all : is_acked c s ≡ true = ap (λ b. b && (ltb 0 c.len && (s.ack == wrap (snd_una c + c.len)))) f
          ∙ ap (λ b. b && (s.ack == wrap (snd_una c + c.len))) (ltb-yes c.len (omega (arith, one))) ∙ here in
          cc

      -- where the application may speak, the next text is bounded
      bounded : is_open o.connection.state ≡ true → (size : ℕ) → size ≤ o.connection.mss → FitsNewest (y ∷ incarnation) size
      bounded open_there size l = elim (segment_bounds m c numbers s) [
        | passes h e ↦ inr (
          s,
          refl,
          inl (
            is_passed h e,
            now.within (ap (λ z. is_open z.connection.state) (sym e) ∙ open_there) size
                (let q : o.connection.mss ≡ c.mss = ap (λ z. z.connection.mss) e in omega (arith, l, q)),
          ),
        )
        | bounds b ↦ inr (s, refl, inr (elim (b size l) [ inl k ↦ inl k | inr k ↦ inr (inl k) ]))
        | connects_it e a ↦ (let syn = now.syn e in
            inr (
              s,
              refl,
              inr (inr (inr record {
                acks = (and_true (has_ack s.flags) (ltb 0 c.len && (s.ack == wrap (snd_una c + c.len)))
                    a).0;
                syn_alone = λ k z g h. (let j = syn.alone k z g h in (j.0, acks_syn e a ∙ sym j.1));
                no_earlier = λ k z t g h f q. syn.no_earlier k z t g h f (q ∙ acks_syn e a);
              })),
            ))
        | speaks_no_more e ↦ absurd (cc)
      ]

      received_within : is_open r.connection.state ≡ true → (size : ℕ) → size ≤ r.connection.mss → FitsNewest (y ∷ incarnation) size
      received_within open_then size l = elim (asked_so m at o (ask_open m steady AnyLength (low_text m) c o.connection o.step reported)) [
        | unasked e ↦ bounded (ap (λ z. is_open z.connection.state) (sym e) ∙ open_then) size (let q : r.connection.mss ≡ o.connection.mss =
            ap (λ z. z.connection.mss) e in omega (arith, l, q))
        | spoke open_there same none ↦ bounded open_there size (let q = same open_then in omega (arith, l, q))
      ]

      still_syn : r ≡ o → StaysAtSyn c numbers s o → AtSyn (y ∷ incarnation) (wrap (snd_una r.connection + 1))
      still_syn e h =
          let number : wrap (snd_una c + 1) ≡ wrap (snd_una r.connection + 1) = ap (λ z. wrap (snd_una z + 1)) (sym h.same ∙ ap (λ z. z.connection) (sym e)) in
          subst (AtSyn (y ∷ incarnation)) number (elim h.none [
            | inl g ↦ syn_on y incarnation (wrap (snd_una c + 1))
                (λ t q placed. (let z : Some (bare_ack c) ≡ Some t = sym (ap (λ z. segment_of m z.connection z.step) (e ∙ g.1)) ∙ q in
                absurd (let u : occupies_sequence_space t ≡ false = only_some (λ k. occupies_sequence_space k ≡ false) (bare_ack c) t z refl in cc)))
                (λ t q f k. only_some (λ z. IsPassedOver y z) s t q (is_passed g.0 g.1)) (now.syn h.before)
            | inr g ↦ syn_on y incarnation (wrap (snd_una c + 1))
                (λ t q placed. (let z : None ≡ Some t = sym (ap (λ z. segment_of m z.connection z.step) (e ∙ g.1)) ∙ q in absurd (cc)))
                (λ t q f k. absurd (let same : s ≡ t = cc in not_acked h.before g.0 (ap (λ z. has_ack z.flags) same ∙ f)
                (ap (λ z. z.ack) same ∙ k))) (now.syn h.before)
          ])

      received_syn : r.connection.state ≡ SynRcvd → AtSyn (y ∷ incarnation) (wrap (snd_una r.connection + 1))
      received_syn h = elim (asked_so m at o (ask_open m steady AnyLength (low_text m) c o.connection o.step reported)) [
        | unasked e ↦ still_syn e (segment_syn m c numbers s (ap (λ z. z.connection.state) (sym e) ∙ h))
        | spoke open_there same none ↦ absurd (none h)
      ]

      delivered : Windowed (left_of r.connection) (y ∷ incarnation)
      delivered = windowed_step c incarnation w alive (Some s) r (stepped_reports m steady AnyLength (low_text m) at c o is
          (on_segment_fits m steady c numbers s fit words) reported) (asked_short m at o (segment_new m c numbers s)) received_within received_syn

    -- the slot is called
    abbrev oo : Outcome
    oo = on_tick m c numbers

    abbrev rr : Outcome
    rr = asked m at oo

    abbrev z : Exchange
    z = met None (segment_of m rr.connection rr.step)

    tick_reported : OutReports m steady AnyLength (low_text m) c oo.connection oo.step
    tick_reported = tick_reports m steady AnyLength (low_text m) c numbers now.safe

    ticked_within : is_open rr.connection.state ≡ true → (size : ℕ) → size ≤ rr.connection.mss → FitsNewest (z ∷ incarnation) size
    ticked_within open_then size l =
        let t = tick_on m c numbers in
        elim (asked_so m at oo (ask_open m steady AnyLength (low_text m) c oo.connection oo.step tick_reported)) [
          | unasked e ↦ (let k = t.mss (ap (λ q. is_open q.connection.state) (sym e) ∙ open_then) in
              inl (
                refl,
                now.within k.1 size (let q : rr.connection.mss ≡ oo.connection.mss = ap (λ q. q.connection.mss) e in let j = k.0 in
                    omega (arith, l, q, j)),
              ))
          | spoke open_there same none ↦ (let k = t.mss open_there in
              inl (refl, now.within k.1 size (let q = same open_then in let j = k.0 in omega (arith, l, q, j))))
        ]

    ticked_still : rr ≡ oo → oo.connection.state ≡ SynRcvd → AtSyn (z ∷ incarnation) (wrap (snd_una rr.connection + 1))
    ticked_still e h =
        let t = tick_on m c numbers in
        let k = t.at_syn h in
        let kept : snd_una c ≡ snd_una oo.connection =
        (let j = t.numbers_same in ap wrap (let a = j.0 in let b = j.1 in let q : c.iss + c.acked ≡ oo.connection.iss +
        oo.connection.acked = omega (arith, a, b) in q)) in
        let same : snd_una c ≡ snd_una rr.connection = kept ∙ ap (λ q. snd_una q.connection) (sym e) in
        let none : (u : PlainSegment) → None ≡ Some u → has_ack u.flags ≡ true → u.ack ≡ wrap (snd_una c + 1) → IsPassedOver z u = λ u q f g. absurd (cc) in
        subst (λ n. AtSyn (z ∷ incarnation) (wrap (n + 1))) same
        (syn_on z incarnation (wrap (snd_una c + 1))
        (λ u q placed. elim k.1 [
          | inl g ↦ absurd (let y : None ≡ Some u = sym (ap (λ q. segment_of m q.connection q.step) e ∙ ap (λ st. segment_of m oo.connection st) g) ∙ q in cc)
          | inr g ↦ only_some (λ y. IsSyn y (wrap (snd_una c + 1))) (syn_ack oo.connection) u
              (sym (ap (λ q. segment_of m q.connection q.step) e ∙ ap (λ st. segment_of m oo.connection st) g) ∙ q) (refl, ap (λ n. wrap (n + 1)) (sym kept))
        ])
        none (now.syn k.0))

    ticked_syn : rr.connection.state ≡ SynRcvd → AtSyn (z ∷ incarnation) (wrap (snd_una rr.connection + 1))
    ticked_syn h = elim (asked_so m at oo (ask_open m steady AnyLength (low_text m) c oo.connection oo.step tick_reported)) [
      | unasked e ↦ ticked_still e (ap (λ q. q.connection.state) (sym e) ∙ h)
      | spoke open_there same none ↦ absurd (none h)
    ]

    ticked : Windowed (left_of rr.connection) (z ∷ incarnation)
    ticked = windowed_step c incarnation w alive None rr (stepped_reports m steady AnyLength (low_text m) at c oo is
        (on_tick_fits m steady c numbers fit words) tick_reported) (asked_short m at oo (tick_on m c numbers).new) ticked_within ticked_syn

  -- ---- what an event does

  dead_windowed : (d : Connection) (x : Exchange) (incarnation : List Exchange) → is_live d.state ≡ false
      → ((s : PlainSegment) → x.output ≡ Some s → s.text ≡ []) → FitsWindows incarnation → Windowed d (x ∷ incarnation)
  dead_windowed d x incarnation dead none w = record { fits = fits_quietly x incarnation none w; live = λ l. absurd (cc) }

  silent_text : (x : Exchange) → x.output ≡ None → (s : PlainSegment) → x.output ≡ Some s → s.text ≡ []
  silent_text x e s h = absurd (let z : None ≡ Some s = sym e ∙ h in cc)

  -- nothing passes
  quiet_windowed : (c : Connection) (incarnation : List Exchange) → Windowed c incarnation → Windowed c (quiet ∷ incarnation)
  quiet_windowed c incarnation w = record {
    fits = fits_quietly quiet incarnation (λ s e. absurd (cc)) w.fits;
    live = λ l. (let v = w.live l in record {
      safe = v.safe;
      within = λ o size k. inl (refl, v.within o size k);
      syn = λ e. syn_on quiet incarnation (wrap (snd_una c + 1)) (λ t q placed. absurd (cc)) (λ t q f g. absurd (cc)) (v.syn e);
      output = λ k. (let q = v.output k in record { place = suc q.place; segment = q.segment; output = q.output; placed = q.placed; seq = q.seq });
    });
  }

  windowed_on : (c d : Connection) (x : Exchange) (incarnation : List Exchange) → OfMedium m ports p c d x → is_opening x ≡ false
      → Windowed c incarnation → Windowed d (x ∷ incarnation)
  windowed_on c d x incarnation does shut w = elim does [
    | passes_by e f ↦ subst (λ k. Windowed k (x ∷ incarnation)) (sym f) (subst (λ k. Windowed c (k ∷ incarnation)) (sym e) (quiet_windowed c incarnation w))
    | evicted e f ↦ dead_windowed d x incarnation (ap (λ k. is_live k.state) f) (silent_text x (ap (λ k. k.output) e)) w.fits
    | unanswered s l e f ↦ dead_windowed d x incarnation (ap (λ k. is_live k.state) f ∙ l) (silent_text x (ap (λ k. k.output) e)) w.fits
    | refused s q l e f ↦ dead_windowed d x incarnation (ap (λ k. is_live k.state) f ∙ l)
        (λ t h. (let k : Some (reset_for_no_connection s) ≡ Some t = sym (ap (λ k. k.output) e) ∙ h in
        only_some (λ k. k.text ≡ []) (reset_for_no_connection s) t k refl)) w.fits
    | born iss s plain port fit e f ↦ absurd (let k : is_opening x ≡ true = ap (λ k. is_opening k) e in cc)
    | delivers_text s numbers at alive fit words is h ↦ subst (λ k. Windowed k (x ∷ incarnation)) (sym h.1)
        (subst (λ k. Windowed (left_of (asked m at (on_segment m c numbers s)).connection) (k ∷ incarnation)) (sym h.0)
        (delivered c incarnation w alive fit numbers words at is s))
    | ticks numbers at alive fit words is h ↦ subst (λ k. Windowed k (x ∷ incarnation)) (sym h.1)
        (subst (λ k. Windowed (left_of (asked m at (on_tick m c numbers)).connection) (k ∷ incarnation)) (sym h.0)
        (ticked c incarnation w alive fit numbers words at is))
  ]

  -- ---- it begins

  born_windowed : (iss : ℕ) (s : PlainSegment) → is_plain_syn s ≡ true → Windowed (accepted iss p s) (met (Some s) (Some (syn_ack (accepted iss p s))) ∷ [])
  born_windowed iss s plain =
      let c : Connection = accepted iss p s in
      let x : Exchange = met (Some s) (Some (syn_ack c)) in
      record {
        fits = fits_quietly x [] (λ t e. only_some (λ k. k.text ≡ []) (syn_ack c) t e refl) (λ k t n. absurd (let z : None ≡ Some t = n.output in cc));
        live = λ l. record {
          safe = record { mss = mss_some s.mss; initial = mss_some s.mss; state = record { len = refl; acked = refl } };
          within = λ o. absurd (cc);
          syn = λ e. syn_on x [] (wrap (snd_una c + 1)) (λ t q placed. only_some (λ k. IsSyn k (wrap (snd_una c + 1))) (syn_ack c) t q (refl, refl))
              (λ t q f g. absurd (let same : s ≡ t = cc in let flags : s.flags ≡ SYN = eqb-eq s.flags SYN plain in
              let z : has_ack t.flags ≡ false = ap (λ k. has_ack k.flags) (sym same) ∙ ap has_ack flags in cc))
              record { alone = λ k t e q. absurd (cc); no_earlier = λ k y t e q f g. absurd (cc) };
          output = λ k. record { place = 0; segment = syn_ack c; output = refl; placed = refl; seq = refl };
        };
      }

  no_opening : (output : Option PlainSegment) → ((t : PlainSegment) → output ≡ Some t → has_syn t.flags ≡ false)
      → option_map_or (λ s. has_syn s.flags) output false ≡ false
  no_opening None h = refl
  no_opening (Some t) h = h t refl

  windowed_first : (c d : Connection) (x : Exchange) → OfMedium m ports p c d x → is_opening x ≡ true → Windowed d (x ∷ [])
  windowed_first c d x does opened = elim does [
    | passes_by e f ↦ absurd (let k : is_opening x ≡ false = ap (λ k. is_opening k) e in cc)
    | evicted e f ↦ absurd (let k : is_opening x ≡ false = ap (λ k. is_opening k) e in cc)
    | unanswered s l e f ↦ absurd (let k : is_opening x ≡ false = ap (λ k. is_opening k) e in cc)
    | refused s q l e f ↦ absurd (let k : is_opening x ≡ false = ap (λ k. is_opening k) e in cc)
    | born iss s plain port fit e f ↦ subst (λ k. Windowed k (x ∷ [])) (sym f) (subst (λ k. Windowed (accepted iss p s) (k ∷ [])) (sym e)
        (born_windowed iss s plain))
    | delivers_text s numbers at alive fit words is h ↦ absurd (let r : Outcome = asked m at (on_segment m c numbers s) in
        let k : is_opening x ≡ false = ap (λ k. is_opening k) h.0 ∙ no_opening (segment_of m r.connection r.step)
        (λ t q. answer_no_syn m at c numbers s t q) in cc)
    | ticks numbers at alive fit words is h ↦ absurd (let k : is_opening x ≡ false = ap (λ k. is_opening k) h.0 in cc)
  ]

  -- ---- the run

  empty_is : (incarnation : List Exchange) → is_empty incarnation ≡ true → incarnation ≡ []
  empty_is [] e = refl
  empty_is (x ∷ incarnation) e = absurd (cc)

  record Inv (n : AbstractNode) (so_far : List Exchange) : Type 0 where
    good : Good n
    current : (incarnation before : List Exchange) → so_far ≡ incarnation ++ before → is_incarnation incarnation ≡ true
        → Windowed (serving p n.connections) incarnation
    ever : (later incarnation before : List Exchange) → so_far ≡ later ++ (incarnation ++ before) → is_incarnation incarnation ≡ true → FitsWindows incarnation

  current_on : (c d : Connection) (x : Exchange) (so_far : List Exchange) → OfMedium m ports p c d x
      → ((incarnation before : List Exchange) → so_far ≡ incarnation ++ before → is_incarnation incarnation ≡ true → Windowed c incarnation)
      → (incarnation before : List Exchange) → x ∷ so_far ≡ incarnation ++ before → is_incarnation incarnation ≡ true → Windowed d incarnation
  current_on c d x so_far does h [] before e l = absurd (cc)
  current_on c d x so_far does h (y ∷ older) before e l =
      let head : x ≡ y = cc in
      let tail : so_far ≡ older ++ before = cc in
      subst (λ k. Windowed d (k ∷ older)) head
      (both_ways (is_opening y)
      (λ o. let none : older ≡ [] = empty_is older (sym (ap (λ b. if b then is_empty older else is_incarnation older) o) ∙ l) in
      subst (λ k. Windowed d (x ∷ k)) (sym none) (windowed_first c d x does (ap (λ k. is_opening k) head ∙ o)))
      (λ o. let incarnations : is_incarnation older ≡ true = sym (ap (λ b. if b then is_empty older else is_incarnation older) o) ∙ l in
      windowed_on c d x older does (ap (λ k. is_opening k) head ∙ o) (h older before tail incarnations)))

  ever_on : (d : Connection) (x : Exchange) (so_far : List Exchange)
      → ((incarnation before : List Exchange) → x ∷ so_far ≡ incarnation ++ before → is_incarnation incarnation ≡ true → Windowed d incarnation)
      → ((later incarnation before : List Exchange) → so_far ≡ later ++ (incarnation ++ before) → is_incarnation incarnation ≡ true → FitsWindows incarnation)
      → (later incarnation before : List Exchange) → x ∷ so_far ≡ later ++ (incarnation ++ before) → is_incarnation incarnation ≡ true → FitsWindows incarnation
  ever_on d x so_far h g [] incarnation before e l = (h incarnation before e l).fits
  ever_on d x so_far h g (y ∷ later) incarnation before e l = g later incarnation before (let tail : so_far ≡ later ++ (incarnation ++ before) = cc in tail) l

  step_inv : (n : AbstractNode) (so_far : List Exchange) (event : Event) → IsEvent event → Inv n so_far
      → Inv (step m ports n event).node (exchange p event (step m ports n event).sent ∷ so_far)
  step_inv n so_far event is i =
      let k : Comes m ports n event (step m ports n event) = comes m ports steady n event is i.good.single i.good.fit in
      let x : Exchange = exchange p event (step m ports n event).sent in
      let after = current_on (serving p n.connections) (serving p (step m ports n event).node.connections) x so_far (k.each p) i.current in
      record {
        good = good_on m steady ports n event is i.good;
        current = after;
        ever = ever_on (serving p (step m ports n event).node.connections) x so_far after i.ever;
      }

  run_inv : (own : Addr) (es : List Event) (n : AbstractNode) (so_far : List Exchange) → All (IsOfLine own) es → Inv n so_far
      → (incarnation : List Exchange) → IsIncarnationIn (exchanges_onto p (trace_of m ports es n) so_far) incarnation → FitsWindows incarnation
  run_inv own [] n so_far a i incarnation l = i.ever l.later incarnation l.before l.split l.is
  run_inv own (e ∷ es) n so_far a i incarnation l =
      run_inv own es (step m ports n e).node (exchange p e (step m ports n e).sent ∷ so_far) (All-tail (IsOfLine own) e es a)
      (step_inv n so_far e (first_is own e es a) i) incarnation l

  none_lives : (later incarnation before : List Exchange) → [] ≡ later ++ (incarnation ++ before) → is_incarnation incarnation ≡ true → ⊥
  none_lives [] [] before e l = absurd (cc)
  none_lives [] (x ∷ incarnation) before e l = absurd (cc)
  none_lives (x ∷ later) incarnation before e l = absurd (cc)

pub windows_are_respected : WindowsAreRespected
windows_are_respected m steady ports own addr numbers words events of p incarnation l =
    run_inv m steady ports p own events (initial_node own numbers) [] of
    record {
      good = good_start own numbers words;
      current = λ some before e k. absurd (none_lives m steady ports p [] some before e k);
      ever = λ later some before e k. absurd (none_lives m steady ports p later some before e k);
    } incarnation l
