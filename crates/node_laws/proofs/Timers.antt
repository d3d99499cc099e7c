-- What is outstanding in the exchanges is outstanding at the node, and its timer expires.
use Rattle.node_laws.proofs.Prelude.{All, append_assoc, map, IsU32, option_map_or, option_map, ◌≡◌, ℕ, zero, suc, ◌+◌, ◌<◌, ◌≤◌, ◌==◌, Bool}
use Rattle.node_laws.proofs.Prelude.{true, false, not, ◌&&◌, inl, inr, List, [], ◌∷◌, ◌++◌, length, set, take, refl, sym, ap, ◌∙◌, subst}
use Rattle.node_laws.proofs.Prelude.{arith, Option, Some, None, slice_get, ltb, if◌then◌else◌, cases_lt, All-head, All-tail, wrap, Addr}
use Rattle.node_laws.proofs.Prelude.{PlainSegment, has_rst, has_ack, AppSpec, IsNow, is_time_wait, beat_at, Beat, Now, State, Closed}
use Rattle.node_laws.proofs.Prelude.{SynRcvd, Established, CloseWait, FinWait1, FinWait2, Closing, TimeWait, LastAck, Sockets, Connection}
use Rattle.node_laws.proofs.Prelude.{closed, is_live, serves, same_sockets, snd_una, occupies_sequence_space, segment_of, is_again}
use Rattle.node_laws.proofs.Prelude.{reset_for_no_connection, reset_of, syn_ack, Outcome, leaves, closes, asked, accepted, is_acked}
use Rattle.node_laws.proofs.Prelude.{on_segment, by_beat, grows_older, limit_of, on_tick, outstanding, Step, Event, called_by, IpRefused}
use Rattle.node_laws.proofs.Prelude.{IcmpRefused, TcpRefused, EchoAsked, Arrived, Overlong, Periodic, TcpReply, AbstractNode, NodeStep}
use Rattle.node_laws.proofs.Prelude.{snapshot, initial_node, step, serving, IsEvent, Alike, IsSteady, both_ways, and_true, eqb-eq}
use Rattle.node_laws.proofs.Prelude.{only_some, Single, get_set, get_set_same, is_served, serving_free, none_serves, here, there, served}
use Rattle.node_laws.proofs.Prelude.{free, FitConn, on_segment_fits, on_tick_fits, node_snapshot, Moves, asked_moves, segment_moves}
use Rattle.node_laws.proofs.Prelude.{tick_moves, on_segment_keeps, asked_keeps, on_tick_keeps, same_is, serves_dead, serves_yes}
use Rattle.node_laws.proofs.Prelude.{stepped_reports, IsDue, StepReports, OutReports, due, alike_trans, alike_sym, alike_refl}
use Rattle.node_laws.proofs.Prelude.{segment_reports, tick_reports, IsWithoutReset, sequence_length, Exchange, TraceEntry, sent_at}
use Rattle.node_laws.proofs.Prelude.{exchange, received_from, exchanges_onto, calls_of, IsOutstanding, IsRetried, IsRetriedIn}
use Rattle.node_laws.proofs.Prelude.{RetransmitsOrResets, RetriesIn, sent_again, given_up}
use Rattle.node_laws.proofs.Arriving.{calls_one}
use Rattle.node_laws.proofs.Beating.{Young, asked_young, segment_young, tick_young, due_size, asked_lives, segment_lives, tick_lives}
use Rattle.node_laws.proofs.Beating.{mss_some, no_wait, ticks_are, due_again, next_beat, SafeAt}
use Rattle.node_laws.proofs.GoodNodes.{AnyLength, Good, SafeConn, good_on, good_start, low_text}
use Rattle.node_laws.proofs.Lines.{comes, quiet, met}
use Rattle.node_laws.proofs.Steps.{Changes, IsStep, LineStep, OfNode, all_happen, changed, changed_good, cut, event_first, trace_over}
use Rattle.node_laws.proofs.Steps.{turns_happen}
use Rattle.node_laws.proofs.Lines.OfMedium.{passes_by, evicted, unanswered, refused, born, delivers_text, ticks}
use Rattle.node_laws.proofs.Slots.{Acted, acts}
use Rattle.node_laws.proofs.Slots.Acts.{is_called, is_met, is_apart, makes_room}

-- ---- one exchange more

-- what is outstanding was sent just now, or was so before
pub data Outstands (x : Exchange) (session : List Exchange) (s : PlainSegment) : Type 0 where
  just_sent : x.output ≡ Some s → occupies_sequence_space s ≡ true → Outstands x session s
  sent_before : IsOutstanding session s → IsWithoutReset x → ((t : PlainSegment) → x.received ≡ Some t → has_ack t.flags ≡ true
      → t.ack ≡ wrap (s.seq + sequence_length s) → ⊥) → Outstands x session s

outstands_at : (x : Exchange) (session : List Exchange) (s : PlainSegment) (h : IsOutstanding (x ∷ session) s) (k : ℕ) → h.place ≡ k → Outstands x session s
outstands_at x session s h zero e = just_sent (subst (λ k. sent_at (x ∷ session) k ≡ Some s) e h.output) h.placed
outstands_at x session s h (suc k) e =
    let clean : All IsWithoutReset (x ∷ take k session) = subst (λ j. All IsWithoutReset (take j (x ∷ session))) e h.unreset in
    sent_before record {
      place = k;
      output = subst (λ j. sent_at (x ∷ session) j ≡ Some s) e h.output;
      placed = h.placed;
      unacked = λ j t l c f g. h.unacked (suc j) t (omega (arith, l, e)) c f g;
      unreset = All-tail IsWithoutReset x (take k session) clean;
    } (All-head IsWithoutReset x (take k session) clean) (λ t c f g. h.unacked 0 t (omega (arith, e)) c f g)

outstands : (x : Exchange) (session : List Exchange) (s : PlainSegment) → IsOutstanding (x ∷ session) s → Outstands x session s
outstands x session s h = outstands_at x session s h h.place refl

-- a number before another, and not the one before it
not_at : (a b : ℕ) → a ≤ b → (a ≡ b → ⊥) → a < b
not_at a b l n = elim (cases_lt a b) [ inl h ↦ h | inr h ↦ absurd (n (omega (arith, l, h))) ]

get_short : (xs : List Connection) (i : ℕ) (x : Connection) → slice_get xs i ≡ Some x → i < length xs
get_short [] i x h = absurd (cc)
get_short (y ∷ ys) zero x h = omega arith
get_short (y ∷ ys) (suc i) x h = (let z = get_short ys i x h in omega (arith, z))

-- what is outstanding asks the application nothing
no_question : (m : AppSpec) (at : Connection → Now) (d : Connection) (numbers : List ℕ) (st : State)
    → asked m at (leaves d numbers (outstanding true st)) ≡ leaves d numbers (outstanding true st)
no_question m at d numbers SynRcvd = refl
no_question m at d numbers _ = refl

none_outstands : (s : PlainSegment) → IsOutstanding [] s → ⊥
none_outstands s h = absurd (let z = h.output in cc)

module _ (m : AppSpec) (steady : IsSteady m) (ports : ℕ → Bool) (p : Sockets) where
  abbrev Due : Connection → PlainSegment → Type 0
  Due c s = IsDue m steady AnyLength (low_text m) c s

  record Living (n : AbstractNode) (session : List Exchange) : Type 0 where
    i : ℕ
    c : Connection
    there : slice_get n.connections i ≡ Some c
    own : serves p c ≡ true
    safe : SafeConn m steady c
    young : Young c
    out : (s : PlainSegment) → IsOutstanding session s → Due c s

  data Representing (n : AbstractNode) (session : List Exchange) : Type 0 where
    incarnations : Living n session → Representing n session
    gone : is_live (serving p n.connections).state ≡ false → ((s : PlainSegment) → IsOutstanding session s → ⊥) → Representing n session

  -- a live connection of the peer
  live_own : (c : Connection) → serves p c ≡ true → is_live c.state ≡ true
  live_own c own = (and_true (is_live c.state) (same_sockets c.sockets p) own).0

  peer_own : (c : Connection) → serves p c ≡ true → c.sockets ≡ p
  peer_own c own = same_is c.sockets p (and_true (is_live c.state) (same_sockets c.sockets p) own).1

  -- one that dies leaves none
  none_left : (table : List Connection) (i : ℕ) (c d : Connection) → Single table → slice_get table i ≡ Some c → serves p c ≡ true
      → is_live d.state ≡ false → is_live (serving p (set table i d)).state ≡ false
  none_left table i c d single at own dead =
      ap (λ z. is_live z.state) (serving_free (set table i d) p
      (λ j y h. elim (get_set table i d j y h) [
        | here e f ↦ ap (serves p) (sym f) ∙ serves_dead p d dead
        | there not_i g ↦ both_ways (serves p y) (λ u. absurd (not_i (single p j i y c g at u own))) (λ u. u)
      ]))

  -- the acknowledgement of what is outstanding
  abbrev Acknowledged : Option PlainSegment → Connection → Type 0
  Acknowledged received c = (t : PlainSegment) × (received ≡ Some t) × (has_ack t.flags ≡ true) × (t.ack ≡ wrap (snd_una c + c.len))

  module _ (n : AbstractNode) (event : Event) (good : Good n) (session : List Exchange) where
    abbrev r : NodeStep
    r = step m ports n event

    abbrev x : Exchange
    x = exchange p event r.sent

    -- what a step must be like
    record Stepped (c : Connection) (received : Option PlainSegment) (o : Outcome) (acked : Bool) : Type 0 where
      tells : StepReports m steady AnyLength (low_text m) c o.connection (segment_of m o.connection o.step) (is_again o.step)
      moves : Moves acked c o.connection
      acks : acked ≡ true → Acknowledged received c
      young : Young o.connection
      peer : o.connection.sockets ≡ c.sockets
      dies : is_live o.connection.state ≡ false → 0 < c.len → IsWithoutReset (met received (segment_of m o.connection o.step)) → acked ≡ true

    acted : (v : Living n session) (received : Option PlainSegment) (o : Outcome) (acked : Bool) → Acted m ports n p v.i v.c event r
        received o → Stepped v.c received o acked → Representing r.node (x ∷ session)
    acted v received o acked g h =
        let c : Connection = v.c in
        let d : Connection = o.connection in
        let sent : Option PlainSegment = segment_of m d o.step in
        let there : slice_get r.node.connections v.i ≡ Some d = ap (λ l. slice_get l v.i) g.table ∙ get_set_same n.connections v.i c d v.there in
        -- what was outstanding, and is not acknowledged, is so still
        let unmoved : (s : PlainSegment) → Due c s → ((t : PlainSegment) → received ≡ Some t → has_ack t.flags ≡ true
        → t.ack ≡ wrap (s.seq + sequence_length s) → ⊥) → acked ≡ true → ⊥ =
        λ s q none e. (let a = h.acks e in
        let size : sequence_length s ≡ c.len = due_size m steady AnyLength (low_text m) c c.state s v.safe.state q.len q.alike in
        none a.0 a.1 a.2 (a.3 ∙ ap (λ k. wrap (k + c.len)) (sym q.seq) ∙ ap (λ k. wrap (s.seq + k)) (sym size))) in
        let still : is_live d.state ≡ true → (s : PlainSegment) → IsOutstanding (met received sent ∷ session) s → Due d s =
        λ l s q. elim (outstands (met received sent) session s q) [
          | just_sent e placed ↦ (h.tells.output s e placed).due_now
          | sent_before before clean none ↦
              (let due_c = v.out s before in
              let same : d.acked ≡ c.acked = elim h.moves.place [ inl e ↦ e | inr e ↦ absurd (unmoved s due_c none e.0) ] in
              let onto = h.tells.onto l in
              let k = onto.kept due_c.len same in
              let iss : d.iss ≡ c.iss = onto.iss in
              record {
                len = k.0;
                seq = due_c.seq ∙ ap wrap (let z : c.iss + c.acked ≡ d.iss + d.acked = omega (arith, same, iss) in z);
                alike = alike_trans s _ _ due_c.alike (alike_sym _ _ k.1);
              })
        ] in
        let over : is_live d.state ≡ false → (s : PlainSegment) → IsOutstanding (met received sent ∷ session) s → ⊥ =
        λ l s q. elim (outstands (met received sent) session s q) [
          | just_sent e placed ↦ absurd (let z = (h.tells.output s e placed).live in cc)
          | sent_before before clean none ↦ (let due_c = v.out s before in unmoved s due_c none (h.dies l due_c.len clean))
        ] in
        subst (λ z. Representing r.node (z ∷ session)) (sym g.exchanged)
        (both_ways (is_live d.state)
        (λ l. incarnations record {
          i = v.i;
          c = d;
          there = there;
          own = serves_yes p d l (h.peer ∙ peer_own c v.own);
          safe = h.tells.safe l;
          young = h.young;
          out = still l;
        })
        (λ l. gone (subst (λ t. is_live (serving p t).state ≡ false) (sym g.table) (none_left n.connections v.i c d good.single v.there v.own l)) (over l)))

    -- a RST is sent if a step is one
    resets_send : (c : Connection) (received : Option PlainSegment) (st : Step) → st ≡ Step.Reset → IsWithoutReset (met received (segment_of m c st)) → ⊥
    resets_send c received st e clean = absurd (let z : has_rst (reset_of c).flags ≡ false = clean.output (reset_of c) (ap (segment_of m c) e) in cc)

    fit_of : (v : Living n session) → FitConn v.c
    fit_of v = good.fit.conns v.i v.c v.there

    called : (v : Living n session) → Acted m ports n p v.i v.c event r None (asked m (snapshot n event v.i) (on_tick m v.c n.numbers))
        → Representing r.node (x ∷ session)
    called v g =
        let at : Connection → Now = snapshot n event v.i in
        let c : Connection = v.c in
        let o : Outcome = on_tick m c n.numbers in
        let is : (z : Connection) → FitConn z → IsNow (at z) = node_snapshot m steady n event v.i good.fit in
        let t = tick_reports m steady AnyLength (low_text m) c n.numbers v.safe in
        acted v None (asked m at o) false g record {
          tells = stepped_reports m steady AnyLength (low_text m) at c o is (on_tick_fits m steady c n.numbers (fit_of v) good.fit.numbers) t;
          moves = asked_moves m false c at o (tick_moves m c n.numbers);
          acks = λ e. absurd (cc);
          young = asked_young m at o (tick_young m steady AnyLength (low_text m) c n.numbers v.safe.state v.young);
          peer = asked_keeps m at c o (on_tick_keeps m c n.numbers);
          dies = λ l some clean. elim (asked_lives m steady AnyLength (low_text m) at c o t (tick_lives m steady AnyLength (low_text m) c
              n.numbers v.safe.state some (live_own c v.own))) [
                | inl e ↦ absurd (cc)
                | inr e ↦ absurd (resets_send (asked m at o).connection None (asked m at o).step e clean)
              ];
        }

    met_by : (v : Living n session) (s : PlainSegment) → Acted m ports n p v.i v.c event r (Some s)
        (asked m (snapshot n event v.i) (on_segment m v.c n.numbers s)) → Representing r.node (x ∷ session)
    met_by v s g =
        let at : Connection → Now = snapshot n event v.i in
        let c : Connection = v.c in
        let o : Outcome = on_segment m c n.numbers s in
        let acked : Bool = not (has_rst s.flags) && is_acked c s in
        let is : (z : Connection) → FitConn z → IsNow (at z) = node_snapshot m steady n event v.i good.fit in
        let t = segment_reports m steady AnyLength (low_text m) c n.numbers s v.safe in
        acted v (Some s) (asked m at o) acked g record {
          tells = stepped_reports m steady AnyLength (low_text m) at c o is (on_segment_fits m steady c n.numbers s (fit_of v) good.fit.numbers) t;
          moves = asked_moves m acked c at o (segment_moves m c n.numbers s);
          acks = λ e. (let a = and_true (not (has_rst s.flags)) (is_acked c s) e in
              let b = and_true (has_ack s.flags) (ltb 0 c.len && (s.ack == wrap (snd_una c + c.len))) a.1 in
              let d = and_true (ltb 0 c.len) (s.ack == wrap (snd_una c + c.len)) b.1 in
              (s, refl, b.0, eqb-eq s.ack (wrap (snd_una c + c.len)) d.1));
          young = asked_young m at o (segment_young m c n.numbers s (live_own c v.own) v.young);
          peer = asked_keeps m at c o (on_segment_keeps m c n.numbers s);
          dies = λ l some clean. (let unreset : has_rst s.flags ≡ false = clean.received s refl in
              both_ways (is_acked c s)
              (λ a. ap (λ b. not b && is_acked c s) unreset ∙ a)
              (λ a. elim (asked_lives m steady AnyLength (low_text m) at c o t (segment_lives m steady AnyLength (low_text m) c n.numbers s
              (live_own c v.own) unreset a)) [
                | inl e ↦ absurd (cc)
                | inr e ↦ absurd (resets_send (asked m at o).connection (Some s) (asked m at o).step e clean)
              ]));
        }

    -- nothing passes
    quiet_out : (s : PlainSegment) → IsOutstanding (quiet ∷ session) s → IsOutstanding session s
    quiet_out s q = elim (outstands quiet session s q) [ just_sent e placed ↦ absurd (cc) | sent_before before clean none ↦ before ]

    -- a connection in TIME-WAIT has nothing outstanding
    rested : (v : Living n session) → is_time_wait v.c.state ≡ true → (s : PlainSegment) → IsOutstanding session s → ⊥
    rested v e s q = no_wait m steady AnyLength (low_text m) v.c v.c.state v.safe.state (v.out s q).len e

    living_on : (v : Living n session) → Representing r.node (x ∷ session)
    living_on v =
        elim (acts m ports n p v.i v.c good.single v.there v.own event) [
          | is_called e g ↦ called v g
          | is_met s e g ↦ met_by v s g
          | is_apart far e at ↦ subst (λ z. Representing r.node (z ∷ session)) (sym e)
              (incarnations record { i = v.i; c = v.c; there = at; own = v.own; safe = v.safe; young = v.young; out = λ s q. v.out s (quiet_out s q) })
          | makes_room e t none ↦ subst (λ z. Representing r.node (z ∷ session)) (sym e)
              (gone (ap (λ z. is_live z.state) (serving_free r.node.connections p none)) (λ s q. rested v t s (quiet_out s q)))
        ]

    -- ---- where none lives

    module _ (is : IsEvent event) (dead : is_live (serving p n.connections).state ≡ false) (out : (s : PlainSegment) → IsOutstanding session s → ⊥) where
      -- nothing is sent that occupies sequence space
      nothing_sent : (y : Exchange) → ((s : PlainSegment) → y.output ≡ Some s → occupies_sequence_space s ≡ false) → (s : PlainSegment)
          → IsOutstanding (y ∷ session) s → ⊥
      nothing_sent y none s q = elim (outstands y session s q) [
        | just_sent e placed ↦ absurd (let z = none s e in cc)
        | sent_before before clean not_acked ↦ out s before
      ]

      silent_sent : (y : Exchange) → y.output ≡ None → (s : PlainSegment) → IsOutstanding (y ∷ session) s → ⊥
      silent_sent y e = nothing_sent y (λ s f. absurd (let z : None ≡ Some s = sym e ∙ f in cc))

      new_born : (iss : ℕ) (s : PlainSegment) → FitConn (accepted iss p s) → x ≡ met (Some s) (Some (syn_ack (accepted iss p s)))
          → serving p r.node.connections ≡ accepted iss p s → Representing r.node (x ∷ session)
      new_born iss s fit e f =
          let d : Connection = accepted iss p s in
          let due_now : Due d (syn_ack d) = record { len = omega arith; seq = refl; alike = alike_refl (syn_ack d) } in
          elim (is_served p r.node.connections) [
            | served i at own ↦ subst (λ z. Representing r.node (z ∷ session)) (sym e) (incarnations record {
              i = i;
              c = d;
              there = at ∙ ap Some f;
              own = ap (serves p) (sym f) ∙ own;
              safe = record { mss = mss_some s.mss; initial = mss_some s.mss; state = record { len = refl; acked = refl } };
              young = λ l k. omega arith;
              out = λ t q. elim (outstands (met (Some s) (Some (syn_ack d))) session t q) [
                | just_sent g placed ↦ only_some (λ z. Due d z) (syn_ack d) t g due_now
                | sent_before before clean none ↦ absurd (out t before)
              ];
            })
            | free none ↦ absurd (let z : closed ≡ d = sym (serving_free r.node.connections p none) ∙ f in
                let y : false ≡ true = ap (λ c. is_live c.state) z in cc)
          ]

      dead_on : Representing r.node (x ∷ session)
      dead_on =
          elim ((comes m ports steady n event is good.single good.fit).each p) [
            | passes_by e f ↦ gone (ap (λ z. is_live z.state) f ∙ dead) (silent_sent x (ap (λ z. z.output) e))
            | evicted e f ↦ gone (ap (λ z. is_live z.state) f) (silent_sent x (ap (λ z. z.output) e))
            | unanswered s l e f ↦ gone (ap (λ z. is_live z.state) f ∙ dead) (silent_sent x (ap (λ z. z.output) e))
            | refused s q l e f ↦ gone (ap (λ z. is_live z.state) f ∙ dead)
                (nothing_sent x (λ t g. (let z : Some (reset_for_no_connection s) ≡ Some t = sym (ap (λ y. y.output) e) ∙ g in
                only_some (λ y. occupies_sequence_space y ≡ false) (reset_for_no_connection s) t z refl)))
            | born iss s plain port fit e f ↦ new_born iss s fit e f
            | delivers_text s numbers at alive fit words snapshots h ↦ absurd (cc)
            | ticks numbers at alive fit words snapshots h ↦ absurd (cc)
          ]

    represents_on : IsEvent event → Representing n session → Representing r.node (x ∷ session)
    represents_on is s = elim s [ incarnations v ↦ living_on v | gone dead out ↦ dead_on is dead out ]

  -- ---- the timer runs out

  -- the number of what is outstanding
  due_seq : (st : State) (c : Connection) → (due m st c).seq ≡ snd_una c
  due_seq SynRcvd c = refl
  due_seq _ c = refl

  -- what a beat of its timer leaves
  data Beats (c : Connection) (s : PlainSegment) (b : Beat) (o : Outcome) : Type 0 where
    older : b ≡ Beat.Wait → o.connection ≡ grows_older c → SafeConn m steady (grows_older c) → Due (grows_older c) s → Beats c s b o
    again : (u : PlainSegment) → segment_of m o.connection o.step ≡ Some u → is_again o.step ≡ true → u.seq ≡ s.seq → Alike u s → Beats c s b o
    ended : (u : PlainSegment) → segment_of m o.connection o.step ≡ Some u → is_again o.step ≡ false → has_rst u.flags ≡ true → Beats c s b o

  -- it continues as it was
  older_due : (c : Connection) (s : PlainSegment) → SafeConn m steady c → Due c s → (d : Connection) (sent : Option PlainSegment)
      (repeated : Bool) → d.iss ≡ c.iss → d.acked ≡ c.acked → StepReports m steady AnyLength (low_text m) c d sent repeated → is_live d.state ≡ true → Due d s
  older_due c s safe h d sent repeated iss same t l =
      let k = (t.onto l).kept h.len same in
      record {
        len = k.0;
        seq = h.seq ∙ ap wrap (let z : c.iss + c.acked ≡ d.iss + d.acked = omega (arith, iss, same) in z);
        alike = alike_trans s _ _ h.alike (alike_sym _ _ k.1);
      }

  due_same : (st : State) (c : Connection) → Alike (due m st (grows_older c)) (due m st c)
  due_same Closed c = record { flags = refl; text = refl }
  due_same _ c = record { flags = refl; text = refl }

  safe_same : (st : State) (c : Connection) → SafeAt m steady AnyLength (low_text m) c st → SafeAt m steady AnyLength (low_text m) (grows_older c) st
  safe_same Closed c h = h
  safe_same SynRcvd c h = record { len = h.len; acked = h.acked }
  safe_same Established c h = record { fits = h.fits; count = h.count }
  safe_same CloseWait c h = record { text = record { fits = h.text.fits; count = h.text.count }; some = h.some }
  safe_same FinWait1 c h = record { len = h.len; low = h.low }
  safe_same FinWait2 c h = record { len = h.len; low = h.low }
  safe_same Closing c h = record { len = h.len; low = h.low }
  safe_same TimeWait c h = record { len = h.len; low = h.low }
  safe_same LastAck c h = record { len = h.len; low = h.low }

  older_safe : (c : Connection) → SafeConn m steady c → SafeConn m steady (grows_older c)
  older_safe c h = record { mss = h.mss; initial = h.initial; state = safe_same c.state c h.state }

  beat_does : (at : Connection → Now) (b : Beat) (c : Connection) (s : PlainSegment) (numbers : List ℕ) → is_live c.state ≡ true
      → SafeConn m steady c → Due c s → (let o : Outcome = by_beat m b c numbers in OutReports m steady AnyLength (low_text m) c
      o.connection o.step → Beats c s b (asked m at o))
  beat_does at Beat.Wait c s numbers l safe h t = older refl refl (t.safe l) (older_due c s safe h (grows_older c) None false refl refl t l)
  beat_does at Beat.Again c s numbers l safe h t =
      let d : Connection = grows_older c in
      let st : State = c.state in
      let still : asked m at (leaves d numbers (outstanding true st)) ≡ leaves d numbers (outstanding true st) = no_question m at d numbers st in
      let d_safe : SafeConn m steady d = older_safe c safe in
      let output = due_again m steady AnyLength (low_text m) st d d_safe.state h.len in
      let same : Alike (due m st d) (due m st c) = due_same st c in
      subst (λ (o : Outcome). Beats c s Beat.Again o) (sym still)
      (again (due m st d) output.0 output.1 (due_seq st d ∙ sym h.seq) (alike_trans (due m st d) (due m st c) s same (alike_sym s (due m st c) h.alike)))
  beat_does at Beat.GiveUp c s numbers l safe h t = ended (reset_of (closes c)) refl refl refl

  called_is : (slot : ℕ) (e : Event) → option_map_or (λ place. place == slot) (called_by e) false ≡ true → e ≡ Periodic slot
  called_is slot (Periodic place) h = ap Periodic (eqb-eq place slot h)
  called_is slot (IpRefused fate) h = absurd (cc)
  called_is slot (IcmpRefused fate) h = absurd (cc)
  called_is slot (TcpRefused fate) h = absurd (cc)
  called_is slot (EchoAsked datagram) h = absurd (cc)
  called_is slot (Arrived q t) h = absurd (cc)
  called_is slot Overlong h = absurd (cc)

  calls_same : (slot : ℕ) (t : TraceEntry) (turns : List TraceEntry) → (t.event ≡ Periodic slot → ⊥) → calls_of slot (t ∷ turns) ≡ calls_of slot turns
  calls_same slot t turns far =
      ap (λ b. if b then calls_of slot turns + 1 else calls_of slot turns)
      (both_ways (option_map_or (λ place. place == slot) (called_by t.event) false) (λ e. absurd (far (called_is slot t.event e))) (λ e. e))

  later_on : (s : PlainSegment) (t : TraceEntry) (turns : List TraceEntry) → IsRetriedIn p s turns → IsRetriedIn p s (t ∷ turns)
  later_on s t turns h = record { place = suc h.place; turn = h.turn; there = h.there; retried = h.retried }

  at_once : (s : PlainSegment) (t : TraceEntry) (turns : List TraceEntry) → IsRetried p s t → IsRetriedIn p s (t ∷ turns)
  at_once s t turns h = record { place = 0; turn = t; there = refl; retried = h }

  abbrev NoneComes : List TraceEntry → Type 0
  NoneComes turns = All (λ t. received_from p t.event ≡ None) turns

  -- the connection waits for the age at which its timer beats
  record Waits (n : AbstractNode) (s : PlainSegment) (i at : ℕ) (c : Connection) : Type 0 where
    there : slice_get n.connections i ≡ Some c
    own : serves p c ≡ true
    safe : SafeConn m steady c
    due_now : Due c s
    later : c.age < at
    beats : beat_at (limit_of c.state) at ≡ Beat.Wait → ⊥

  -- the numbers of the application are changed
  changed_represents : (change : List ℕ → List ℕ) (n : AbstractNode) (session : List Exchange) → Representing n session
      → Representing (changed change n) session
  changed_represents change n session s = elim s [
    | incarnations v ↦ incarnations record { i = v.i; c = v.c; there = v.there; own = v.own; safe = v.safe; young = v.young; out = v.out }
    | gone dead out ↦ gone dead out
  ]

  module _ (own : Addr) (s : PlainSegment) where
    retries : (es : List LineStep) (n : AbstractNode) (i at : ℕ) (c : Connection) → All (IsStep own) es → Good n → Waits n s i at c
        → at ≤ c.age + calls_of i (trace_over m ports es n) → NoneComes (trace_over m ports es n) → IsRetriedIn p s (trace_over m ports es n)
    retries [] n i at c l g w few none = absurd (let z = w.later in omega (arith, z, few))
    retries (Changes change ∷ es) n i at c l g w few none =
        retries es (changed change n) i at c (All-tail (IsStep own) (Changes change) es l) (changed_good own change es n l g)
        record { there = w.there; own = w.own; safe = w.safe; due_now = w.due_now; later = w.later; beats = w.beats } few none
    retries (OfNode e ∷ es) n i at c l g w few none =
        let r : NodeStep = step m ports n e in
        let t : TraceEntry = record { event = e; sent = r.sent } in
        let rest : List TraceEntry = trace_over m ports es r.node in
        let is : IsEvent e = event_first own e es l in
        let l' : All (IsStep own) es = All-tail (IsStep own) (OfNode e) es l in
        let g' : Good r.node = good_on m steady ports n e is g in
        let none' : NoneComes rest = All-tail (λ z. received_from p z.event ≡ None) t rest none in
        let quiet_here : received_from p e ≡ None = All-head (λ z. received_from p z.event ≡ None) t rest none in
        elim (acts m ports n p i c g.single w.there w.own e) [
          | is_called f a ↦
              (let at_call : Connection → Now = snapshot n e i in
              let b : Beat = beat_at (limit_of c.state) (c.age + 1) in
              let by : on_tick m c n.numbers ≡ by_beat m b c n.numbers = ticks_are m steady AnyLength (low_text m) c n.numbers w.safe.state w.due_now.len in
              let o : Outcome = asked m at_call (on_tick m c n.numbers) in
              let did : Beats c s b o = subst (λ (z : Outcome). Beats c s b (asked m at_call z)) (sym by)
              (beat_does at_call b c s n.numbers (live_own c w.own) w.safe w.due_now
              (subst (λ (z : Outcome). OutReports m steady AnyLength (low_text m) c z.connection z.step) by
              (tick_reports m steady AnyLength (low_text m) c n.numbers w.safe))) in
              elim did [
                | older waits_on same safe due_now ↦
                    (let not_yet : c.age + 1 ≡ at → ⊥ = λ z. w.beats (ap (beat_at (limit_of c.state)) (sym z) ∙ waits_on) in
                    let history : c.age + 1 < at = not_at (c.age + 1) at (let z = w.later in omega (arith, z)) not_yet in
                    let one : calls_of i (t ∷ rest) ≡ calls_of i rest + 1 = calls_one i t rest f in
                    later_on s t rest (retries es r.node i at (grows_older c) l' g' record {
                      there = ap (λ z. slice_get z i) a.table ∙ get_set_same n.connections i c o.connection w.there ∙ ap Some same;
                      own = w.own;
                      safe = safe;
                      due_now = due_now;
                      later = history;
                      beats = w.beats;
                    } (omega (arith, few, one)) none'))
                | again u output marked seq alike ↦ at_once s t rest
                    (sent_again a.id u (a.sent ∙ ap (λ z. option_map (λ y. TcpReply p a.id (is_again o.step) y) z) output
                    ∙ ap (λ z. Some (TcpReply p a.id z u)) marked) seq alike)
                | ended u output marked reset ↦ at_once s t rest
                    (given_up a.id u (a.sent ∙ ap (λ z. option_map (λ y. TcpReply p a.id (is_again o.step) y) z) output
                    ∙ ap (λ z. Some (TcpReply p a.id z u)) marked) reset)
              ])
          | is_met s' f a ↦ absurd (let z : None ≡ Some s' = sym quiet_here ∙ ap (λ y. y.received) a.exchanged in cc)
          | is_apart far x at_i ↦
              (let same : calls_of i (t ∷ rest) ≡ calls_of i rest = calls_same i t rest far in
              later_on s t rest (retries es r.node i at c l' g' record {
                there = at_i;
                own = w.own;
                safe = w.safe;
                due_now = w.due_now;
                later = w.later;
                beats = w.beats;
              } (omega (arith, few, same)) none'))
          | makes_room x rested_so free_now ↦ absurd (no_wait m steady AnyLength (low_text m) c c.state w.safe.state w.due_now.len rested_so)
        ]

    at_end : (n : AbstractNode) (es : List LineStep) (session : List Exchange) → All (IsStep own) es → Good n → Representing n session
        → IsOutstanding session s → NoneComes (trace_over m ports es n)
        → ((slot : ℕ) → slot < 10 → 49 ≤ calls_of slot (trace_over m ports es n)) → IsRetriedIn p s (trace_over m ports es n)
    at_end n es session l g st out none calls = elim st [
      | gone dead over ↦ absurd (over s out)
      | incarnations v ↦
          (let due_now = v.out s out in
          let next = next_beat v.c.state v.c.age (v.young (live_own v.c v.own) due_now.len) in
          let inside : v.i < 10 = (let z = get_short n.connections v.i v.c v.there in let y = g.fit.size in omega (arith, z, y)) in
          let enough = calls v.i inside in
          let soon = next.soon in
          retries es n v.i next.at v.c l g record {
            there = v.there;
            own = v.own;
            safe = v.safe;
            due_now = due_now;
            later = next.later;
            beats = next.beats;
          } (omega (arith, enough, soon)) none)
    ]

    from_before : (before waiting : List TraceEntry) (es : List LineStep) (n : AbstractNode) (session : List Exchange)
        → trace_over m ports es n ≡ before ++ waiting → All (IsStep own) es → Good n → Representing n session
        → IsOutstanding (exchanges_onto p before session) s → NoneComes waiting → ((slot : ℕ) → slot < 10 → 49 ≤ calls_of slot waiting)
        → IsRetriedIn p s waiting
    from_before [] waiting es n session q l g st out none calls =
        subst (λ ts. IsRetriedIn p s ts) q (at_end n es session l g st out (subst NoneComes (sym q) none)
        (subst (λ ts. (slot : ℕ) → slot < 10 → 49 ≤ calls_of slot ts) (sym q) calls))
    from_before (t ∷ before) waiting [] n session q l g st out none calls = absurd (cc)
    from_before (t ∷ before) waiting (Changes change ∷ es) n session q l g st out none calls =
        from_before (t ∷ before) waiting es (changed change n) session q (All-tail (IsStep own) (Changes change) es l)
        (changed_good own change es n l g) (changed_represents change n session st) out none calls
    from_before (t ∷ before) waiting (OfNode e ∷ es) n session q l g st out none calls =
        let r : NodeStep = step m ports n e in
        let turn : TraceEntry = record { event = e; sent = r.sent } in
        let head : turn ≡ t = cc in
        let tail : trace_over m ports es r.node ≡ before ++ waiting = cc in
        let is : IsEvent e = event_first own e es l in
        from_before before waiting es r.node (exchange p e r.sent ∷ session) tail (All-tail (IsStep own) (OfNode e) es l)
        (good_on m steady ports n e is g) (represents_on n e g session is st)
        (subst (λ z. IsOutstanding (exchanges_onto p before (z ∷ session)) s) (ap (λ z. exchange p z.event z.sent) (sym head)) out) none calls

pub retries_over_steps : (m : AppSpec) → IsSteady m → (ports : ℕ → Bool) (own : Addr) (numbers : List ℕ) → All IsU32 numbers
    → (steps : List LineStep) → All (IsStep own) steps
    → RetriesIn (trace_over m ports steps (initial_node own numbers))
retries_over_steps m steady ports own numbers words steps of p s before waiting later split out none calls =
    let front = cut m ports own steps (initial_node own numbers) (before ++ waiting) later of (split ∙ sym (append_assoc before waiting later)) in
    from_before m steady ports p own s before waiting front.steps (initial_node own numbers) [] front.turns front.are
    (good_start own numbers words)
    (gone (ap (λ c. is_live c.state) (serving_free (initial_node own numbers).connections p (none_serves 10 p))) none_outstands) out none calls

pub retransmits_or_resets : RetransmitsOrResets
retransmits_or_resets m steady ports own addr numbers words events of =
    subst RetriesIn (turns_happen m ports events (initial_node own numbers)) (retries_over_steps m steady ports own numbers words
    (map OfNode events) (all_happen own events of))
