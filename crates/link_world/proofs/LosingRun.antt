-- One client over a link that loses copies of what the node sends has its whole page.
use Rattle.link_world.proofs.Prelude.{All, ◌≡◌, ℕ, zero, suc, ◌+◌, ◌-◌, ◌*◌, ◌<◌, ◌≤◌, min, Bool, true, false, ◌&&◌, if◌then◌else◌, ◌⊎◌}
use Rattle.link_world.proofs.Prelude.{inl, inr, List, []}
use Rattle.link_world.proofs.Prelude.{◌∷◌, ◌++◌, length, take, replicate, refl, sym, ap, ◌∙◌, subst, arith, Some, None, eqb, ltb, eq-eqb}
use Rattle.link_world.proofs.Prelude.{wrap, Addr, FIN, PSH, ACK, PlainSegment, has_rst, has_ack, AppState, AppSpec, Pages, IsPaged, IsU32}
use Rattle.link_world.proofs.Prelude.{State, SynRcvd, Established, FinWait1, Connection, closed, is_live, serves, same_sockets, snd_una}
use Rattle.link_world.proofs.Prelude.{rcv_nxt}
use Rattle.link_world.proofs.Prelude.{occupies_sequence_space, segment_of, asked, first_mss, is_acked, by_state, on_segment, by_beat}
use Rattle.link_world.proofs.Prelude.{beat_at, Step}
use Rattle.link_world.proofs.Prelude.{Event, HistoryEntry, Arrived, ticks_of, AbstractNode, NodeStep, initial_node, snapshot, happened}
use Rattle.link_world.proofs.Prelude.{arrives_at, arrives, AbstractClient, own_fin, offered, syn_of, Setup, FinAt, World, Side, Sent}
use Rattle.link_world.proofs.Prelude.{plays, Planned, IsPlanned, initial_world, Opens, Round, Lose, Tick, FromNode}
use Rattle.link_world.proofs.Prelude.{AnswersIn, FitConn, wrap_wrap, ltb-yes, same_self, all_nil, all_cons, OfLine, fin_acked}
use Rattle.link_world.proofs.Prelude.{ticks_established, IsAct, IsPlainAct, All-head, All-tail, length-append, LosingLink}
use Rattle.link_client.specs.declared.client_state.ClientState.TheVariants as Is
use Rattle.tcp_machine.specs.OnTick.{polls as polled_by}
use Rattle.link_world.proofs.Rounds.{only_side, under_way, sent_by, one_longer, node_answers, client_answers}
use Rattle.link_world.proofs.HonestClient.{client_at, open_with, closed_with, next_out, node_sends, node_syn_ack, Brings, takes_a_text}
use Rattle.link_world.proofs.HonestClient.{takes_the_fin, opens_at_syn_ack, sends_something}
use Rattle.link_world.proofs.HonestNode.{mss, sockets, conn_at, node_at, takes_fin, taken_in, three, found_first, opens_first}
use Rattle.link_world.proofs.HonestNode.{Awaits, Says, visits, visits_first}
use Rattle.link_world.proofs.HonestNode.Says.{sends_fin, sends_text, outputs_ack}
use Rattle.link_world.proofs.HonestNode.Awaits.{awaits_text, awaits_none}
use Rattle.link_world.proofs.HonestRun.{Ended, by_client, by_node}
use Rattle.link_world.proofs.Honest.{opening_line, served_by}
use Rattle.link_schedule.specs.declared.event.Event.{Event as Line}
use Rattle.link_world.proofs.LosingTicks.{Awaited, EndsBy, aged, all_expire, loses_all, one_line}
use Rattle.link_world.specs.Losing.{lost_copies, losing, losing_answers, losing_lines}

-- ---- the ages at which the node sends again

abbrev pub waiting_ticks : List ℕ
waiting_ticks = 4 ∷ 4 ∷ 7 ∷ 13 ∷ 25 ∷ 49 ∷ 49 ∷ []

text_expires : (copies : ℕ) → copies ≤ 7 → all_expire 8 0 (take copies waiting_ticks) ≡ true
text_expires zero l = refl
text_expires (suc zero) l = refl
text_expires (suc (suc zero)) l = refl
text_expires (suc (suc (suc zero))) l = refl
text_expires (suc (suc (suc (suc zero)))) l = refl
text_expires (suc (suc (suc (suc (suc zero))))) l = refl
text_expires (suc (suc (suc (suc (suc (suc zero)))))) l = refl
text_expires (suc (suc (suc (suc (suc (suc (suc zero))))))) l = refl
text_expires (suc (suc (suc (suc (suc (suc (suc (suc n)))))))) l = absurd (omega (arith, l))

syn_expires : (copies : ℕ) → copies ≤ 4 → all_expire 5 0 (take copies waiting_ticks) ≡ true
syn_expires zero l = refl
syn_expires (suc zero) l = refl
syn_expires (suc (suc zero)) l = refl
syn_expires (suc (suc (suc zero))) l = refl
syn_expires (suc (suc (suc (suc zero)))) l = refl
syn_expires (suc (suc (suc (suc (suc n))))) l = absurd (omega (arith, l))

few_ticks : (copies : ℕ) → length (take copies waiting_ticks) ≤ 7
few_ticks zero = omega arith
few_ticks (suc zero) = omega arith
few_ticks (suc (suc zero)) = omega arith
few_ticks (suc (suc (suc zero))) = omega arith
few_ticks (suc (suc (suc (suc zero)))) = omega arith
few_ticks (suc (suc (suc (suc (suc zero))))) = omega arith
few_ticks (suc (suc (suc (suc (suc (suc zero)))))) = omega arith
few_ticks (suc (suc (suc (suc (suc (suc (suc zero))))))) = omega arith
few_ticks (suc (suc (suc (suc (suc (suc (suc (suc n)))))))) = omega arith

module _ (m : AppSpec) (pages : Pages) (lawful : IsPaged m pages) (served : ℕ → Bool) (addr : Addr) (setup : Setup) (request : List ℕ) where
  abbrev conn : State → ℕ → ℕ → ℕ → ℕ → AppState → Connection
  conn state taken iss acked len p = conn_at m pages lawful served addr setup request state taken iss acked len p

  abbrev node : List ℕ → List HistoryEntry → Connection → AbstractNode
  node numbers history k = node_at m pages lawful served addr setup request numbers history k

  abbrev old : ℕ → Connection → Connection
  old age k = aged m pages lawful served addr setup request age k

  abbrev Waited : Connection → PlainSegment → ℕ → Type 0
  Waited k s limit = Awaited m pages lawful served addr setup request k s limit

  -- ---- what awaits an acknowledgement

  awaited_syn : (iss : ℕ) (p : AppState) → Waited (conn SynRcvd 0 iss 0 1 p) (node_syn_ack setup request (wrap (iss + 0)) (wrap (setup.iss.0 + 1 + 0))) 5
  awaited_syn iss p = record {
    live = refl;
    sockets = refl;
    ticks = λ age numbers. refl;
    segment = λ age. refl;
    again = refl;
    unasked = λ at age numbers. refl;
  }

  awaited_text : (taken iss acked len : ℕ) (p : AppState) (t : PlainSegment) → 0 < len
      → segment_of m (conn Established taken iss acked len p) (Step.Text true) ≡ Some t → Waited (conn Established taken iss acked len p) t 8
  unfolding ticks_established
  awaited_text taken iss acked len p t l e = record {
    live = refl;
    sockets = refl;
    ticks = λ age numbers. (let c : Connection = old age (conn Established taken iss acked len p) in
        ap (λ (b : Bool). if b then by_beat m (beat_at 8 (age + 1)) c numbers else polled_by m c numbers) (ltb-yes len l));
    segment = λ age. e;
    again = refl;
    unasked = λ at age numbers. refl;
  }

  awaited_fin : (taken iss acked : ℕ) (p : AppState)
      → Waited (conn FinWait1 taken iss acked 1 p) (node_sends setup request (FIN + ACK) (wrap (iss + acked)) (wrap (setup.iss.0 + 1 + taken)) []) 8
  awaited_fin taken iss acked p = record {
    live = refl;
    sockets = refl;
    ticks = λ age numbers. refl;
    segment = λ age. refl;
    again = refl;
    unasked = λ at age numbers. refl;
  }

  -- ---- its acknowledgement is received as if no copy had been lost

  comes : (numbers : List ℕ) (history : List HistoryEntry) (c : Connection) (s : PlainSegment) → is_live c.state ≡ true
      → c.sockets ≡ sockets m pages lawful served addr setup request →
      arrives m served (node numbers history c) (sockets m pages lawful served addr setup request) s
      ≡ happened m (node numbers history c) (Arrived (sockets m pages lawful served addr setup request) s) 0 c
      (asked m (snapshot (node numbers history c) (Arrived (sockets m pages lawful served addr setup request) s) 0) (on_segment m c numbers s))
  comes numbers history c s l e =
      let own = sockets m pages lawful served addr setup request in
      let there : serves own c ≡ true = ap (λ b. b && same_sockets c.sockets own) l ∙ ap (λ k. same_sockets k own) e ∙ same_self own in
      ap (λ o. arrives_at m served (node numbers history c) own s o) (found_first (serves own) c (replicate 9 closed) there)

  same_arrival : (numbers : List ℕ) (history : List HistoryEntry) (age : ℕ) (k : Connection) (s : PlainSegment) → is_live k.state ≡ true
      → k.sockets ≡ sockets m pages lawful served addr setup request → on_segment m (old age k) numbers s ≡ on_segment m k numbers s
      → arrives m served (node numbers history (old age k)) (sockets m pages lawful served addr setup request) s
      ≡ arrives m served (node numbers history k) (sockets m pages lawful served addr setup request) s
  unfolding happened
  same_arrival numbers history age k s l e same =
      let c : Connection = old age k in
      let event : Event = Arrived (sockets m pages lawful served addr setup request) s in
      comes numbers history c s l e
      ∙ ap (λ o. happened m (node numbers history c) event 0 c (asked m (snapshot (node numbers history c) event 0) o)) same
      ∙ sym (comes numbers history k s l e)

  same_row : (numbers : List ℕ) (age : ℕ) (k : Connection) (s : PlainSegment) → has_rst s.flags ≡ false
      → (occupies_sequence_space s ≡ true → s.seq ≡ rcv_nxt k) → is_acked k s ≡ true
      → by_state m k.state true (old age k) numbers s ≡ by_state m k.state true k numbers s
      → on_segment m (old age k) numbers s ≡ on_segment m k numbers s
  same_row numbers age k s r q acked row =
      taken_in m pages lawful served addr setup request (old age k) numbers s r q
      ∙ ap (λ b. by_state m k.state b (old age k) numbers s) acked ∙ row ∙ sym (ap (λ b. by_state m k.state b k numbers s) acked)
      ∙ sym (taken_in m pages lawful served addr setup request k numbers s r q)

  pub acked_by : (state : State) (taken iss acked len : ℕ) (p : AppState) (s : PlainSegment) → 0 < len → has_ack s.flags ≡ true
      → s.ack ≡ wrap (iss + (acked + len)) → is_acked (conn state taken iss acked len p) s ≡ true
  acked_by state taken iss acked len p s l i e =
      let c : Connection = conn state taken iss acked len p in
      three (has_ack s.flags) (ltb 0 len) (eqb s.ack (wrap (snd_una c + len))) i (ltb-yes len l)
      (eq-eqb s.ack (wrap (snd_una c + len)) (e ∙ ap wrap (let z : iss + (acked + len) ≡ iss + acked + len = omega arith in z)
      ∙ sym (wrap_wrap (iss + acked) len)))

  -- the acknowledgement of the SYN, of a text, and of the FIN
  at_syn : (numbers : List ℕ) (history : List HistoryEntry) (age iss x : ℕ) (p : AppState) (s : PlainSegment) → Brings setup request 0 x s
      → x ≡ wrap (iss + 1) →
      let k : Connection = conn SynRcvd 0 iss 0 1 p in
      arrives m served (node numbers history (old age k)) (sockets m pages lawful served addr setup request) s
      ≡ arrives m served (node numbers history k) (sockets m pages lawful served addr setup request) s
  at_syn numbers history age iss x p s b e =
      let k : Connection = conn SynRcvd 0 iss 0 1 p in
      same_arrival numbers history age k s refl refl
      (same_row numbers age k s b.no_rst b.seq (acked_by SynRcvd 0 iss 0 1 p s (omega arith) b.is_ack (b.ack ∙ e)) refl)

  at_text : (numbers : List ℕ) (history : List HistoryEntry) (age taken iss acked len x : ℕ) (p : AppState) (s : PlainSegment)
      → Brings setup request taken x s → 0 < len → x ≡ wrap (iss + (acked + len)) →
      let k : Connection = conn Established taken iss acked len p in
      arrives m served (node numbers history (old age k)) (sockets m pages lawful served addr setup request) s
      ≡ arrives m served (node numbers history k) (sockets m pages lawful served addr setup request) s
  at_text numbers history age taken iss acked len x p s b l e =
      let k : Connection = conn Established taken iss acked len p in
      same_arrival numbers history age k s refl refl
      (same_row numbers age k s b.no_rst b.seq (acked_by Established taken iss acked len p s l b.is_ack (b.ack ∙ e)) refl)

  at_fin : (numbers : List ℕ) (history : List HistoryEntry) (age taken iss acked : ℕ) (p : AppState) (s : PlainSegment) → s.flags ≡ FIN + ACK
      → s.seq ≡ wrap (setup.iss.0 + 1 + taken) → s.ack ≡ wrap (iss + (acked + 1)) →
      let k : Connection = conn FinWait1 taken iss acked 1 p in
      arrives m served (node numbers history (old age k)) (sockets m pages lawful served addr setup request) s
      ≡ arrives m served (node numbers history k) (sockets m pages lawful served addr setup request) s
  unfolding fin_acked
  at_fin numbers history age taken iss acked p s f q e =
      let k : Connection = conn FinWait1 taken iss acked 1 p in
      same_arrival numbers history age k s refl refl
      (same_row numbers age k s (ap has_rst f) (λ o. q) (acked_by FinWait1 taken iss acked 1 p s (omega arith) (ap has_ack f) e) refl)

  module _ (fine : AppState → Bool) (left : AppState → ℕ) (texts : ℕ) (answers : AnswersIn m request (mss m pages lawful served addr setup request)
      fine left texts) (seg : 1 ≤ setup.seg) where
    abbrev Lines : List Line → World → Type 0
    Lines lines w = EndsBy m pages lawful served addr setup request lines w

    abbrev opened : List ℕ → ℕ → ℕ → ℕ → Side
    opened received a o x = only_side (open_with setup request received a o x) (Some 0)

    -- the client has its page after this number of segments, and the FIN
    pub record Reaches (copies : List ℕ) (most : ℕ) (w : World) : Type 0 where
      pub segments : ℕ
      pub few : segments ≤ most
      pub ends : Lines (losing_answers (take (suc segments) copies)) w

    -- copies of the FIN are lost
    fin_lost : (copies : ℕ) → copies ≤ 7 → (numbers : List ℕ) (history : List HistoryEntry) (iss acked a o x tick id : ℕ) (received : List ℕ)
        (p : AppState) (before : List Sent) → x ≡ wrap (iss + acked) → length before + 25 ≤ 65535 →
        Lines (losing copies ++ Round ∷ []) (under_way (node numbers history (conn FinWait1 (a + o) iss acked 1 p)) (opened received a o x) before
        (by_node tick id (node_sends setup request (FIN + ACK) (wrap (iss + acked)) (wrap (setup.iss.0 + 1 + (a + o))) [])))
    fin_lost copies few numbers history iss acked a o x tick id received p before e room =
        let k : Connection = conn FinWait1 (a + o) iss acked 1 p in
        let side : Side = opened received a o x in
        let s : PlainSegment = node_sends setup request (FIN + ACK) (wrap (iss + acked)) (wrap (setup.iss.0 + 1 + (a + o))) [] in
        let short = few_ticks copies in
        let lost = loses_all m pages lawful served addr setup request numbers side refl refl k s 8 (awaited_fin (a + o) iss acked p)
        (take copies waiting_ticks) 0 history before tick id false (text_expires copies few) (omega (arith, short, room)) in
        let room_then : length lost.so_far + 18 ≤ 65535 = (let l = lost.few in omega (arith, l, short, room)) in
        let n : AbstractNode = node numbers lost.later (old lost.age k) in
        let c : AbstractClient = closed_with setup request (received ++ []) (a + o) (wrap (x + 0 + 1)) in
        let t : PlainSegment = own_fin c in
        let one : List Sent = lost.so_far ++ sent_by (FromNode 1) lost.tick_of lost.repeated lost.id s ∷ [] in
        let long : length one ≡ suc (length lost.so_far) = one_longer lost.so_far (sent_by (FromNode 1) lost.tick_of lost.repeated lost.id s) in
        let own : t.seq ≡ wrap (setup.iss.0 + 1 + (a + o)) = ap wrap (let z : setup.iss.0 + 1 + (a + o) + 0 ≡ setup.iss.0 + 1 + (a + o) = omega arith in z) in
        let its : t.ack ≡ wrap (iss + (acked + 1)) =
        ap (λ j. wrap (j + 0 + 1)) e ∙ ap wrap (let z : wrap (iss + acked) + 0 + 1 ≡ wrap (iss + acked) + 1 = omega arith in z)
        ∙ wrap_wrap (iss + acked) 1 ∙ ap wrap (let z : iss + acked + 1 ≡ iss + (acked + 1) = omega arith in z) in
        let f = takes_fin m pages lawful served addr setup request numbers lost.later (a + o) iss acked p t refl refl own its in
        let u : PlainSegment = node_sends setup request ACK f.seq f.ack [] in
        let two : List Sent = one ++ by_client (ticks_of n.history) 0 t ∷ [] in
        let last : World = under_way f.node (only_side c (Some 0)) two (by_node (ticks_of f.node.history) f.id u) in
        lost.ends (Round ∷ [])
        (one_line m pages lawful served addr setup request Round (Round ∷ [])
        (under_way n side lost.so_far (sent_by (FromNode 1) lost.tick_of lost.repeated lost.id s))
        (under_way n (only_side c (Some 0)) one (by_client (ticks_of n.history) 0 t))
        (client_answers m served n (open_with setup request received a o x) c (Some 0) lost.so_far lost.tick_of lost.id lost.repeated s t
        (omega (arith, room_then)) (takes_the_fin setup request received a o x (wrap (iss + acked)) (wrap (setup.iss.0 + 1 + (a + o))) refl (sym e)))
        (one_line m pages lawful served addr setup request Round [] (under_way n (only_side c (Some 0)) one (by_client (ticks_of n.history) 0 t)) last
        (node_answers m served n f.node c (Some 0) one (ticks_of n.history) 0 f.id false t u (omega (arith, long, room_then))
        (at_fin numbers lost.later lost.age (a + o) iss acked p t refl own its ∙ f.is))
        (λ place. record { world = last; is = refl; client = c; opened = Some 0; sides = refl; closed = refl })))

    some_left : (p : AppState) (taken most len : ℕ) → 0 < len → Awaits m pages lawful served addr setup request fine left texts answers p taken most len
        → 0 < most
    some_left p taken most _ l (awaits_text len some delivered rest) = let r = (rest []).1 in omega (arith, r)
    some_left p taken most _ l (awaits_none o r) = absurd (omega (arith, l))

    -- less is left after an acknowledgement, since no part of the request is
    less_is : (taken fewer most : ℕ) → length request ≤ taken → (0 < next_out setup request taken) ⊎ (fewer < most) → fewer < most
    less_is taken fewer most h less = elim less [ inl l ↦ absurd (let z : ⊥ = omega (arith, l, h) in z) | inr l ↦ l ]

    after_visit : (fuel : ℕ) (copies : List ℕ) (most iss acked : ℕ) → most ≤ fuel → most < length copies → All (λ lost. lost ≤ 7) copies
        → (n : AbstractNode) (a o x tick id : ℕ) (received : List ℕ) (before : List Sent) (s : PlainSegment) →
        Says m pages lawful served addr setup request fine left texts answers
        (arrives m served n (sockets m pages lawful served addr setup request) s) (a + o) iss acked most →
        x ≡ wrap (iss + acked) → a + o ≡ length request → length before + 10 * most + 30 ≤ 65535 →
        Reaches copies most (under_way n (opened received a o x) before (by_client tick id s))
    after_visit fuel [] most iss acked f l few n a o x tick id received before s says ex whole room = absurd (omega (arith, l))
    after_visit fuel (lose ∷ more) most iss acked f l few n a o x tick id received before s (sends_fin numbers history number p e) ex whole room =
        let next : AbstractNode = node numbers history (conn FinWait1 (a + o) iss acked 1 p) in
        let t : PlainSegment = node_sends setup request (FIN + ACK) (wrap (iss + acked)) (wrap (setup.iss.0 + 1 + (a + o))) [] in
        let all : List Sent = before ++ by_client tick id s ∷ [] in
        let long : length all ≡ suc (length before) = one_longer before (by_client tick id s) in
        record {
          segments = 0;
          few = omega arith;
          ends = one_line m pages lawful served addr setup request Round (losing lose ++ Round ∷ [])
              (under_way n (opened received a o x) before (by_client tick id s))
              (under_way next (opened received a o x) all (by_node (ticks_of history) number t))
              (node_answers m served n next (open_with setup request received a o x) (Some 0) before tick id number false s t (omega (arith, room)) e)
              (fin_lost lose (All-head (λ lost. lost ≤ 7) lose more few) numbers history iss acked a o x (ticks_of history) number received p all ex
              (omega (arith, long, room)));
        }
    after_visit zero (lose ∷ more) most iss acked f l few n a o x tick id received before s (sends_text numbers history number p text len size some
        awaits words fits again e) ex whole room = absurd (let z = some_left p (a + o) most len some awaits in omega (arith, z, f))
    after_visit (suc fuel) (lose ∷ more) most iss acked f l few n a o x tick id received before s (sends_text numbers history number p text len size some
        awaits words fits again e) ex whole room =
        let k : Connection = conn Established (a + o) iss acked len p in
        let next : AbstractNode = node numbers history k in
        let side : Side = opened received a o x in
        let t : PlainSegment = node_sends setup request (ACK + PSH) (wrap (iss + acked)) (wrap (setup.iss.0 + 1 + (a + o))) text in
        let all : List Sent = before ++ by_client tick id s ∷ [] in
        let long : length all ≡ suc (length before) = one_longer before (by_client tick id s) in
        let short = few_ticks lose in
        let lost = loses_all m pages lawful served addr setup request numbers side refl refl k t 8 (awaited_text (a + o) iss acked len p t some again)
        (take lose waiting_ticks) 0 history all (ticks_of history) number false (text_expires lose (All-head (λ lost. lost ≤ 7) lose more few))
        (omega (arith, short, long, room)) in
        let so_far_few = lost.few in
        let aged_node : AbstractNode = node numbers lost.later (old lost.age k) in
        let y : ℕ = wrap (x + length text + 0) in
        let expected : y ≡ wrap (iss + (acked + len)) =
        ap (λ j. wrap (j + length text + 0)) ex ∙ ap wrap (let z : wrap (iss + acked) + length text + 0 ≡ wrap (iss + acked) + len = omega
        (arith, size) in z) ∙ wrap_wrap (iss + acked) len ∙ ap wrap (let z : iss + acked + len ≡ iss + (acked + len) = omega arith in z) in
        let taken_text = takes_a_text setup request received a o x (wrap (iss + acked)) (wrap (setup.iss.0 + 1 + (a + o))) text refl (sym ex)
        (omega (arith, size, some)) in
        let u : PlainSegment = taken_text.segment in
        let got : List ℕ = received ++ text in
        let one : List Sent = lost.so_far ++ sent_by (FromNode 1) lost.tick_of lost.repeated lost.id t ∷ [] in
        let longer : length one ≡ suc (length lost.so_far) = one_longer lost.so_far (sent_by (FromNode 1) lost.tick_of lost.repeated lost.id t) in
        let v = visits m pages lawful served addr setup request fine left texts answers numbers lost.later (a + o) iss acked len y most p u seg
        taken_text.decodes expected (omega (arith, whole)) awaits words fits in
        let less : v.fewer < most = less_is (a + o) v.fewer most (omega (arith, whole)) v.less in
        let says = subst (λ (r : NodeStep). Says m pages lawful served addr setup request fine left texts answers r
        (a + o + next_out setup request (a + o)) iss (acked + len) v.fewer)
        (sym (at_text numbers lost.later lost.age (a + o) iss acked len y p u taken_text.decodes some expected)) v.says in
        let rest = after_visit fuel more v.fewer iss (acked + len) (omega (arith, less, f)) (omega (arith, less, l))
        (All-tail (λ lost. lost ≤ 7) lose more few) aged_node (a + o) (next_out setup request (a + o)) y (ticks_of aged_node.history) 0 got one u says
        expected (let z : next_out setup request (a + o) ≡ 0 = omega (arith, whole) in omega (arith, z, whole))
        (omega (arith, longer, so_far_few, short, long, less, room)) in
        let rest_few = rest.few in
        record {
          segments = suc rest.segments;
          few = omega (arith, rest_few, less);
          ends = one_line m pages lawful served addr setup request Round (losing lose ++ losing_answers (take (suc rest.segments) more))
              (under_way n side before (by_client tick id s)) (under_way next side all (by_node (ticks_of history) number t))
              (node_answers m served n next (open_with setup request received a o x) (Some 0) before tick id number false s t (omega (arith, room)) e)
              (lost.ends (losing_answers (take (suc rest.segments) more))
              (one_line m pages lawful served addr setup request Round (losing_answers (take (suc rest.segments) more))
              (under_way aged_node side lost.so_far (sent_by (FromNode 1) lost.tick_of lost.repeated lost.id t))
              (under_way aged_node (opened got (a + o) (next_out setup request (a + o)) y) one (by_client (ticks_of aged_node.history) 0 u))
              (client_answers m served aged_node (open_with setup request received a o x) (open_with setup request got (a + o) (next_out setup request
              (a + o)) y) (Some 0) lost.so_far lost.tick_of lost.id lost.repeated t u (omega (arith, so_far_few, short, long, room)) taken_text.is)
              rest.ends));
        }
    after_visit fuel (lose ∷ more) most iss acked f l few n a o x tick id received before s (outputs_ack numbers history number p unsent ready words
        fits e) ex whole room = absurd (omega (arith, unsent, whole))

-- ---- the number of lines

lines_lost : (ticks : List ℕ) → length (lost_copies ticks) ≡ 2 * length ticks + 1
lines_lost [] = refl
lines_lost (n ∷ ticks) = let z = lines_lost ticks in omega (arith, z)

lines_answered : (copies : List ℕ) → length (losing_answers copies) ≤ 16 * length copies + 1
lines_answered [] = omega arith
lines_answered (c ∷ copies) =
    let one = lines_lost (take c waiting_ticks) in
    let short = few_ticks c in
    let more = lines_answered copies in
    let joined = length-append (losing c) (losing_answers copies) in
    omega (arith, one, short, more, joined)

few_syn : (syn : ℕ) → syn ≤ 4 → length (take syn waiting_ticks) ≤ 4
few_syn zero l = omega arith
few_syn (suc zero) l = omega arith
few_syn (suc (suc zero)) l = omega arith
few_syn (suc (suc (suc zero))) l = omega arith
few_syn (suc (suc (suc (suc zero)))) l = omega arith
few_syn (suc (suc (suc (suc (suc n))))) l = absurd (omega (arith, l))

few_taken : (n : ℕ) (xs : List ℕ) → length (take n xs) ≤ n
few_taken zero xs = omega arith
few_taken (suc n) [] = omega arith
few_taken (suc n) (x ∷ xs) = let z = few_taken n xs in omega (arith, z)

-- ---- they are acts, and damage nothing

all_plain : (P : Line → Type 0) → P Lose → ((n : ℕ) → P (Tick n)) → P Round → (ticks : List ℕ) (more : List Line) → All P more
    → All P (lost_copies ticks ++ more)
all_plain P lose tick round [] more h = all_cons P Round more round h
all_plain P lose tick round (n ∷ ticks) more h =
    all_cons P Lose (Tick n ∷ lost_copies ticks ++ more) lose (all_cons P (Tick n) (lost_copies ticks ++ more) (tick n)
    (all_plain P lose tick round ticks more h))

all_answers : (P : Line → Type 0) → P Lose → ((n : ℕ) → P (Tick n)) → P Round → (copies : List ℕ) → All P (losing_answers copies)
all_answers P lose tick round [] = all_cons P Round [] round (all_nil P)
all_answers P lose tick round (c ∷ copies) = all_cons P Round (losing c ++ losing_answers copies) round
    (all_plain P lose tick round (take c waiting_ticks) (losing_answers copies) (all_answers P lose tick round copies))

all_lines : (P : Line → Type 0) → P (Opens 1) → P Lose → ((n : ℕ) → P (Tick n)) → P Round → (syn : ℕ) (copies : List ℕ) → All P (losing_lines syn copies)
all_lines P opens lose tick round syn copies = all_cons P (Opens 1) (Round ∷ losing syn ++ losing_answers copies) opens
    (all_cons P Round (losing syn ++ losing_answers copies) round
    (all_plain P lose tick round (take syn waiting_ticks) (losing_answers copies) (all_answers P lose tick round copies)))

-- ---- from the opening

module _ (m : AppSpec) (pages : Pages) (lawful : IsPaged m pages) (served : ℕ → Bool) (addr : Addr) (numbers : List ℕ) (p : Planned)
    (fine : AppState → Bool) (left : AppState → ℕ) (texts : ℕ) (answers : AnswersIn m p.request (first_mss (offered p.setup.mss)) fine left texts) where
  -- what is reached after the opening
  record Played (syn : ℕ) (copies : List ℕ) : Type 0 where
    segments : ℕ
    few : segments ≤ texts
    ends : Ended (plays m served (losing_lines syn (take (suc segments) copies)) (initial_world addr numbers (p ∷ [])))

  played : All IsU32 numbers → IsPlanned p → served p.setup.server_port.0 ≡ true → 0 < length p.request → length p.request ≤ p.setup.seg
      → 10 * texts + 60 ≤ 65535 → (syn : ℕ) → syn ≤ 4 → (copies : List ℕ) → texts < length copies → All (λ lost. lost ≤ 7) copies → Played syn copies
  played words is port some one_part room syn syn_few copies enough few =
      let setup : Setup = p.setup in
      let request : List ℕ = p.request in
      let asking : AbstractClient = client_at setup request Is.Opening [] 0 0 FinAt.NotSent 0 in
      let o = opens_first m pages lawful served addr setup request numbers port in
      let k : Connection = conn_at m pages lawful served addr setup request SynRcvd 0 o.iss 0 1 o.part in
      let next_node : AbstractNode = node_at m pages lawful served addr setup request numbers o.history k in
      let seq : ℕ = wrap (o.iss + 0) in
      let ack : ℕ = wrap (setup.iss.0 + 1 + 0) in
      let s : PlainSegment = node_syn_ack setup request seq ack in
      let x : ℕ = wrap (seq + 1) in
      let next = sends_something setup request [] 0 x in
      let c : AbstractClient = open_with setup request [] 0 (next_out setup request 0) x in
      let one : List Sent = by_client (ticks_of []) 0 (syn_of asking) ∷ [] in
      let short = few_syn syn syn_few in
      let side : Side = only_side asking None in
      let lost = loses_all m pages lawful served addr setup request numbers side refl refl k s 5 (awaited_syn m pages lawful served addr setup
      request o.iss o.part) (take syn waiting_ticks) 0 o.history one (ticks_of o.history) o.id false (syn_expires syn syn_few) (omega (arith, short)) in
      let so_far_few = lost.few in
      let aged_node : AbstractNode = node_at m pages lawful served addr setup request numbers lost.later
      (aged m pages lawful served addr setup request lost.age k) in
      let two : List Sent = lost.so_far ++ sent_by (FromNode 1) lost.tick_of lost.repeated lost.id s ∷ [] in
      let longer : length two ≡ suc (length lost.so_far) = one_longer lost.so_far (sent_by (FromNode 1) lost.tick_of lost.repeated lost.id s) in
      let expected : x ≡ wrap (o.iss + 1) = wrap_wrap (o.iss + 0) 1 ∙ ap wrap (let z : o.iss + 0 + 1 ≡ o.iss + 1 = omega arith in z) in
      let fit : FitConn k = record {
        rest = λ r. absurd (cc);
        snapshots = subst (λ l. All Rattle.app_events.specs.Pages.IsSnapshot l) (sym o.none) (all_nil Rattle.app_events.specs.Pages.IsSnapshot);
        addr = is.addr;
        port = is.port;
      } in
      let seg : 1 ≤ setup.seg = is.seg.0 in
      let first = visits_first m pages lawful served addr setup request fine left texts answers numbers lost.later o.iss x o.part next.segment seg
      next.decodes expected words fit in
      let says = subst (λ (r : NodeStep). Says m pages lawful served addr setup request fine left texts answers r (0 + next_out setup request 0) o.iss
      (0 + 1) texts) (sym (at_syn m pages lawful served addr setup request numbers lost.later lost.age o.iss x o.part next.segment next.decodes expected))
      first in
      let rest = after_visit m pages lawful served addr setup request fine left texts answers seg texts copies texts o.iss (0 + 1) (omega arith) enough few
      aged_node 0 (next_out setup request 0) x (ticks_of aged_node.history) 0 [] two next.segment says expected
      (let z : min setup.seg (length request - 0) ≡ length request = omega (arith, one_part) in omega (arith, z))
      (omega (arith, longer, so_far_few, short, room)) in
      let more : List Line = losing_answers (take (suc rest.segments) copies) in
      record {
        segments = rest.segments;
        few = rest.few;
        ends = one_line m pages lawful served addr setup request (Opens 1) (Round ∷ losing syn ++ more) (initial_world addr numbers (p ∷ []))
            (under_way (initial_node addr numbers) side [] (by_client (ticks_of []) 0 (syn_of asking)))
            (opening_line m pages lawful served addr numbers p)
            (one_line m pages lawful served addr setup request Round (losing syn ++ more)
            (under_way (initial_node addr numbers) side [] (by_client (ticks_of []) 0 (syn_of asking)))
            (under_way next_node side one (by_node (ticks_of o.history) o.id s))
            (node_answers m served (initial_node addr numbers) next_node asking None [] (ticks_of []) 0 o.id false (syn_of asking) s (omega arith) o.is)
            (lost.ends more
            (one_line m pages lawful served addr setup request Round more
            (under_way aged_node side lost.so_far (sent_by (FromNode 1) lost.tick_of lost.repeated lost.id s))
            (under_way aged_node (only_side c (Some 0)) two (by_client (ticks_of aged_node.history) 0 next.segment))
            (client_answers m served aged_node asking c None lost.so_far lost.tick_of lost.id lost.repeated s next.segment
            (omega (arith, so_far_few, short))
            (opens_at_syn_ack setup request seq ack (ap wrap (let z : setup.iss.0 + 1 + 0 ≡ setup.iss.0 + 1 = omega arith in z)) ∙ next.is))
            rest.ends))) 0;
      }

pub losing_link : LosingLink
losing_link m pages lawful served addr numbers p a words plan port fine left texts answers some one_part room syn syn_few copies enough few =
    let r = played m pages lawful served addr numbers p fine left texts answers words (plan.each 0 p refl) port some one_part room syn
    syn_few copies enough few in
    let used : List ℕ = take (suc r.segments) copies in
    let lines : List Line = losing_lines syn used in (
      r.segments,
      r.few,
      (let opening = lines_lost (take syn waiting_ticks) in
          let short = few_syn syn syn_few in
          let joined = length-append (losing syn) (losing_answers used) in
          let answered = lines_answered used in
          let number = few_taken (suc r.segments) copies in
          let most = r.few in
          omega (arith, opening, short, joined, answered, number, most)),
      served_by m pages lawful served addr numbers p lines (all_lines (OfLine IsAct) tt tt (λ n. tt) (λ k. tt) syn used)
          (all_lines (OfLine IsPlainAct) tt tt (λ n. tt) (λ k. tt) syn used) a words plan r.ends,
    )
