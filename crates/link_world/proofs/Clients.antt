-- One step of a client preserves what holds of it.
use Rattle.link_world.proofs.Prelude.{All, ◌≡◌, ℕ, ◌+◌, ◌-◌, ◌≤◌, min, Bool, true, false, not, ◌&&◌, ◌⊎◌, inl, inr, List, [], ◌++◌, length}
use Rattle.link_world.proofs.Prelude.{refl, sym, ap, ◌∙◌, subst, arith, Option, Some, None, length-append, eqb, ltb, if◌then◌else◌, wrap}
use Rattle.link_world.proofs.Prelude.{PlainSegment, has_syn, has_fin, has_rst, has_ack, Snapshot, AppSpec, IsSnapshot, Connection, is_live}
use Rattle.link_world.proofs.Prelude.{occupies_sequence_space, AbstractClient, ClientStep, sends_next, has_outstanding, is_receiving}
use Rattle.link_world.proofs.Prelude.{may_finish, has_closed, own_request, ack_of, syn_of, own_fin, own_reset, keeps, steps_with}
use Rattle.link_world.proofs.Prelude.{receives_ack, fin_sent, fin_out, takes_in_order, takes_text, takes_by, client_takes, is_reset_by}
use Rattle.link_world.proofs.Prelude.{opened_by, opens_by, again_by, closes_by, aborts_by, after_fin, one_if, next_own, own_first}
use Rattle.link_world.proofs.Prelude.{ClientState, FinAt, Sent, PastConnection, becomes_opened, era, IsPart, part_joins, part_none, choose}
use Rattle.link_world.proofs.Prelude.{and_true, same_place, eqb-eq, append_nothing, cut_part, only_some, not-false, nothing_placed}
use Rattle.link_client.specs.declared.client_state.ClientState.TheVariants as Is
use Rattle.link_world.proofs.Speaking.{Speaker, HasOutputModel}
use Rattle.link_world.proofs.Counts.{reset_becomes, same_becomes}
use Rattle.link_world.proofs.Later.{node_later}
use Rattle.link_world.proofs.CleanClientInvariant.{is_some, seg, NodeSent, IsText, IsFin, ClientSent, IsData, Steady, NotOpened, HasOpened}
use Rattle.link_world.proofs.CleanClientInvariant.{OpenedGood, ToGood, TookGood, is_unasked, is_early}
use Rattle.link_world.proofs.CleanClientInvariant.ClientSent.{sent_reset, sent_syn, sent_data}
use Rattle.link_world.proofs.CleanClientInvariant.NodeSent.{node_reset, node_syn, node_ack, node_text, node_fin}

-- the client with other counts of its own
abbrev recounted : AbstractClient → ℕ → ℕ → FinAt → AbstractClient
recounted c a o f = record c { acked = a; out = o; fin = f }

-- what it sends next: only its own counts change
record SendsGood (c : AbstractClient) (took : ClientStep) : Type 0 where
  acked : ℕ
  out : ℕ
  fin : FinAt
  client : took.client ≡ recounted c acked out fin
  fits : acked + out ≤ length c.request
  output : (opened : Option ℕ) (s : PlainSegment) → is_some opened ≡ true → took.sent ≡ Some s → IsData took.client opened s

request_data : (d : AbstractClient) (opened : Option ℕ) → is_some opened ≡ true → d.acked + d.out ≤ length d.request → IsData d opened (own_request d)
request_data d opened i h = record { no_syn = refl; opened_is = i; at = d.acked; part = cut_part d.request d.acked d.out h; seq = λ x. refl }

ack_data : (d c : AbstractClient) (opened : Option ℕ) → is_some opened ≡ true → IsData d opened (ack_of c)
ack_data d c opened i = record { no_syn = refl; opened_is = i; at = 0; part = record { fits = omega arith; same = refl }; seq = λ x. absurd (omega arith) }

fin_data : (d c : AbstractClient) (opened : Option ℕ) → is_some opened ≡ true → IsData d opened (own_fin c)
fin_data d c opened i = record { no_syn = refl; opened_is = i; at = 0; part = record { fits = omega arith; same = refl }; seq = λ x. absurd (omega arith) }

-- something is sent, with other numbers of the request
good_with : (c : AbstractClient) (acked out : ℕ) (fin : FinAt) (s : PlainSegment) → acked + out ≤ length c.request
    → ((opened : Option ℕ) → is_some opened ≡ true → IsData (recounted c acked out fin) opened s) → SendsGood c (steps_with (recounted c acked out fin) s)
good_with c acked out fin s fits says = record {
  acked = acked;
  out = out;
  fin = fin;
  client = refl;
  fits = fits;
  output = λ opened t i p. only_some (λ x. IsData (recounted c acked out fin) opened x) s t p (says opened i);
}

sends_next_good : (owed : Bool) (c : AbstractClient) → c.acked + c.out ≤ length c.request → SendsGood c (sends_next owed c)
unfolding sends_next
sends_next_good owed c fits =
    choose (λ x. SendsGood c x) (not (has_outstanding c) && (is_receiving c.state && ltb c.acked (length c.request))) _ _
    (λ e. let d : AbstractClient = record c { out = min c.setup.seg (length c.request - c.acked) } in
    let room : d.acked + d.out ≤ length c.request = omega (arith, fits) in
    good_with c c.acked d.out c.fin (own_request d) room (λ opened i. request_data d opened i room))
    (λ e. choose (λ x. SendsGood c x) (not (has_outstanding c) && (may_finish c.state && not (fin_sent c.fin))) _ _
    (λ f. good_with c c.acked c.out FinAt.Out (own_fin c) fits (λ opened i. fin_data (record c { fin = FinAt.Out }) c opened i))
    (λ f. choose (λ x. SendsGood c x) owed _ _
    (λ g. good_with c c.acked c.out c.fin (ack_of c) fits (λ opened i. ack_data c c opened i))
    (λ g. record { acked = c.acked; out = c.out; fin = c.fin; client = refl; fits = fits; output = λ opened s i p. absurd (cc) })))

pub not_opening : (history : List PastConnection) (st x : ClientState) (o : ℕ) → is_unasked st ≡ false
    → Some o ≡ (if becomes_opened st x then Some (length history) else Some o)
not_opening history Is.Idle x o h = absurd (cc)
not_opening history Is.Opening x o h = absurd (cc)
not_opening history _ x o h = refl

module _ (m : AppSpec) (speaker : Speaker) (laws : HasOutputModel m speaker) (history : List PastConnection) (conn : Connection)
    (fit : (o : ℕ) → All IsSnapshot (era history conn o).snapshots) where
  -- its own counts and its window do not matter to what it received
  recounts : (c : AbstractClient) (o : ℕ) (a u : ℕ) (f : FinAt) (w : ℕ) → HasOpened speaker c history conn o
      → HasOpened speaker (record c { acked = a; out = u; fin = f; window = w }) history conn o
  recounts c o a u f w h = record {
    time = h.time;
    then_live = h.then_live;
    live_then = h.live_then;
    asked = h.asked;
    part = h.part;
    expected = h.expected;
    all = λ x. record { whole = (h.all x).whole; end = (h.all x).end };
  }

  -- a step that continues with c and then sends what is next
  goes_on : (client c : AbstractClient) (o : ℕ) (owed : Bool) (opened : Option ℕ) →
      Some o ≡ (if becomes_opened client.state c.state then Some (length history) else opened) →
      c.request ≡ client.request → own_first c ≡ own_first client → Steady c → HasOpened speaker c history conn o →
      TookGood speaker client history conn opened (Some o) (sends_next owed c)
  goes_on client c o owed opened n r f steady h =
      let g : SendsGood c (sends_next owed c) = sends_next_good owed c steady.out_fits in
      let d : AbstractClient = recounted c g.acked g.out g.fin in
      let e : (sends_next owed c).client ≡ d = g.client in
      record {
        next_is = n ∙ ap (λ (x : AbstractClient). if becomes_opened client.state x.state then Some (length history) else opened) (sym e);
        request = ap (λ (x : AbstractClient). x.request) e ∙ r;
        setup = ap (λ (x : AbstractClient). own_first x) e ∙ f;
        steady = subst Steady (sym e) record { short = steady.short; low = steady.low; out_fits = g.fits };
        opened_good = subst (λ x. HasOpened speaker x history conn o) (sym e) (recounts c o g.acked g.out g.fin c.window h);
        output = λ s p. sent_data (g.output (Some o) s refl p);
      }

  -- what an acknowledgement changes
  record Reception (c d : AbstractClient) : Type 0 where
    acked : ℕ
    out : ℕ
    fin : FinAt
    is : d ≡ recounted c acked out fin
    fits : acked + out ≤ length c.request

  receives_ack_is : (c : AbstractClient) (s : PlainSegment) → c.acked + c.out ≤ length c.request → Reception c (receives_ack c s)
  receives_ack_is c s h =
      choose (λ x. Reception c x) (has_ack s.flags && (has_outstanding c && eqb s.ack (next_own c))) _ _
      (λ e. record { acked = c.acked + c.out; out = 0; fin = (if fin_out c.fin then FinAt.Acked else c.fin); is = refl; fits = omega arith })
      (λ e. record { acked = c.acked; out = c.out; fin = c.fin; is = refl; fits = h })

  -- text and FIN at the expected number
  same_state : (st : ClientState) → is_receiving st ≡ true → (st ≡ Is.Opened) ⊎ (st ≡ Is.Closing)
  same_state Is.Idle h = absurd (cc)
  same_state Is.Opening h = absurd (cc)
  same_state Is.Opened h = inl refl
  same_state Is.Closing h = inr refl
  same_state _ h = absurd (cc)

  -- the client after text and maybe a FIN
  abbrev took : AbstractClient → Bool → List ℕ → AbstractClient
  took c fin text = record c {
    received = c.received ++ text;
    expected = wrap (c.expected + length text + one_if fin);
    state = (if fin then after_fin c.state else c.state);
  }

  not_closed : (st : ClientState) → is_receiving st ≡ true → has_closed st ≡ true → ⊥
  not_closed Is.Idle h e = cc
  not_closed _ h e = cc

  after_unasked : (st : ClientState) → is_receiving st ≡ true → is_unasked (after_fin st) ≡ false
  after_unasked Is.Idle h = absurd (cc)
  after_unasked Is.Opening h = absurd (cc)
  after_unasked Is.Opened h = refl
  after_unasked Is.Closing h = refl
  after_unasked _ h = absurd (cc)

  after_deaf : (st : ClientState) → is_receiving st ≡ true → is_receiving (after_fin st) ≡ true → ⊥
  after_deaf Is.Idle h e = cc
  after_deaf _ h e = cc

  next_place : (c : AbstractClient) (o at : ℕ) (s : PlainSegment) → length c.request ≤ 4096 → HasOpened speaker c history conn o
      → is_receiving c.state ≡ true → s.seq ≡ c.expected →
      s.seq ≡ wrap ((era history conn o).iss + 1 + at) → at ≤ length (speaker.text c.request (era history conn o).snapshots) → at ≡ length c.received
  next_place c o at s low h i e q l =
      let short = laws.short c.request (era history conn o).snapshots low (fit o) in
      same_place ((era history conn o).iss + 1) at (length c.received) (omega (arith, short, l)) (omega (arith, short, h.part.fits)) (sym q ∙ e ∙ h.expected i)

  text_taken : (c : AbstractClient) (o : ℕ) (s : PlainSegment) → length c.request ≤ 4096 → HasOpened speaker c history conn o
      → is_receiving c.state ≡ true → s.seq ≡ c.expected →
      IsText speaker c (era history conn o).iss (era history conn o).snapshots s → HasOpened speaker (takes_text c s) history conn o
  text_taken c o s low h i e n =
      let here : n.at ≡ length c.received = next_place c o n.at s low h i e n.seq (omega (arith, n.part.fits)) in
      let p : IsPart (speaker.text c.request (era history conn o).snapshots) s.text (length c.received) = subst
      (λ x. IsPart (speaker.text c.request (era history conn o).snapshots) s.text x) here n.part in
      let moved : wrap (c.expected + length s.text + 0) ≡ wrap ((era history conn o).iss + 1 + length (c.received ++ s.text)) =
      ap (λ x. wrap (x + length s.text + 0)) (h.expected i) ∙ omega (arith, length-append c.received s.text) in
      let x : HasOpened speaker (took c false s.text) history conn o = record {
        time = h.time;
        then_live = h.then_live;
        live_then = h.live_then;
        asked = h.asked;
        part = part_joins (speaker.text c.request (era history conn o).snapshots) c.received s.text h.part p;
        expected = λ y. moved;
        all = λ y. absurd (not_closed c.state i y);
      } in
      subst (λ b. HasOpened speaker (took c b s.text) history conn o) (sym n.no_fin) x

  fin_taken : (c : AbstractClient) (o : ℕ) (s : PlainSegment) → length c.request ≤ 4096 → HasOpened speaker c history conn o
      → is_receiving c.state ≡ true → s.seq ≡ c.expected → has_fin s.flags ≡ true →
      IsFin speaker c (era history conn o).iss (era history conn o).snapshots s → HasOpened speaker (takes_text c s) history conn o
  fin_taken c o s low h i e f n =
      let k : List Snapshot = (era history conn o).snapshots in
      let none : c.received ++ [] ≡ c.received = append_nothing c.received in
      let part : IsPart (speaker.text c.request k) (c.received ++ []) 0 = subst (λ x. IsPart (speaker.text c.request k) x 0) (sym none) h.part in
      let here : n.at ≡ length c.received = next_place c o n.at s low h i e n.seq (omega (arith, n.ends.end)) in
      let x : HasOpened speaker (took c true []) history conn o = record {
        time = h.time;
        then_live = h.then_live;
        live_then = h.live_then;
        asked = after_unasked c.state i;
        part = part;
        expected = λ y. absurd (after_deaf c.state i y);
        all = λ y. record { whole = n.ends.whole; end = ap length none ∙ sym here ∙ n.ends.end };
      } in
      subst (λ b. HasOpened speaker (took c b s.text) history conn o) (sym f) (subst (λ t. HasOpened speaker (took c true t) history conn o) (sym n.no_text) x)

  -- text or FIN at the expected number of a client that asked
  placed : (c : AbstractClient) (P : Type 0) (o : ℕ) (s : PlainSegment) → length c.request ≤ 4096 → HasOpened speaker c history conn o
      → has_rst s.flags ≡ false → has_syn s.flags ≡ false → occupies_sequence_space s ≡ true →
      is_receiving c.state ≡ true → s.seq ≡ c.expected → NodeSent speaker c P (era history conn o).iss (era history conn o).snapshots s
      → HasOpened speaker (takes_text c s) history conn o
  placed c P o s low h nr ns pl i e (node_reset r) = absurd (cc)
  placed c P o s low h nr ns pl i e (node_syn r n) = absurd (let z : has_syn s.flags ≡ true = n.syn in cc)
  placed c P o s low h nr ns pl i e (node_ack r n) = absurd (nothing_placed s n.no_syn n.no_fin n.no_text pl)
  placed c P o s low h nr ns pl i e (node_text r p n) = text_taken c o s low h i e n
  placed c P o s low h nr ns pl i e (node_fin r p n) = fin_taken c o s low h i e n.is_fin n

  in_order_good : (client c : AbstractClient) (P : Type 0) (o : ℕ) (s : PlainSegment) → is_unasked client.state ≡ false →
      c.request ≡ client.request → own_first c ≡ own_first client →
      Steady c → HasOpened speaker c history conn o → has_rst s.flags ≡ false →
      NodeSent speaker c P (era history conn o).iss (era history conn o).snapshots s → TookGood speaker client history conn (Some o)
      (Some o) (takes_in_order c s)
  unfolding takes_in_order
  in_order_good client c P o s un r f steady h nr output =
      let on : (owed : Bool) → TookGood speaker client history conn (Some o) (Some o) (sends_next owed c) =
      λ owed. goes_on client c o owed (Some o) (not_opening history client.state c.state o un) r f steady h in
      choose (λ x. TookGood speaker client history conn (Some o) (Some o) x) (has_syn s.flags) _ _
      (λ e. on true)
      (λ e. choose (λ x. TookGood speaker client history conn (Some o) (Some o) x) (not (occupies_sequence_space s)) _ _
      (λ i. on false)
      (λ i. choose (λ x. TookGood speaker client history conn (Some o) (Some o) x) (eqb s.seq c.expected && is_receiving c.state) _ _
      (λ j. let a = and_true _ _ j in
      let t : HasOpened speaker (takes_text c s) history conn o = placed c P o s steady.short h nr e
      (not-false (occupies_sequence_space s) i) a.1 (eqb-eq s.seq c.expected a.0) output in
      goes_on client (takes_text c s) o true (Some o) (not_opening history client.state (takes_text c s).state o un) r f
      record { short = steady.short; low = steady.low; out_fits = steady.out_fits } t)
      (λ j. on true)))

  -- a segment at a client that has opened
  asked_good : (client : AbstractClient) (P : Type 0) (o : ℕ) (s : PlainSegment) → Steady client → HasOpened speaker client history conn o
      → has_rst s.flags ≡ false →
      NodeSent speaker client P (era history conn o).iss (era history conn o).snapshots s → TookGood speaker client history conn (Some o)
      (Some o) (takes_in_order (receives_ack client s) s)
  asked_good client P o s steady h nr output =
      let g : Reception client (receives_ack client s) = receives_ack_is client s steady.out_fits in
      let c : AbstractClient = recounted client g.acked g.out g.fin in
      subst (λ x. TookGood speaker client history conn (Some o) (Some o) (takes_in_order x s)) (sym g.is)
      (in_order_good client c P o s h.asked refl refl record { short = steady.short; low = steady.low; out_fits = g.fits }
      (recounts client o g.acked g.out g.fin client.window h) nr
      (node_later m speaker laws client c P P (era history conn o).iss (era history conn o).iss (era history conn o).snapshots
      (era history conn o).snapshots [] s refl (λ x. x) refl (sym (append_nothing (era history conn o).snapshots)) output))

  -- a step that sends the given segment, or nothing
  represented : (client d : AbstractClient) (opened : Option ℕ) → becomes_opened client.state d.state ≡ false → d.request ≡ client.request
      → own_first d ≡ own_first client → Steady d → OpenedGood speaker d history conn opened →
      TookGood speaker client history conn opened opened (keeps d)
  represented client d opened b r f steady h = record {
    next_is = ap (λ x. if x then Some (length history) else opened) (sym b);
    request = r;
    setup = f;
    steady = steady;
    opened_good = h;
    output = λ s p. absurd (cc);
  }

  speaks : (client d : AbstractClient) (opened : Option ℕ) (s : PlainSegment) → becomes_opened client.state d.state ≡ false
      → d.request ≡ client.request → own_first d ≡ own_first client → Steady d → OpenedGood speaker d history conn opened →
      ClientSent d opened (length history) s → TookGood speaker client history conn opened opened (steps_with d s)
  speaks client d opened s b r f steady h output = record {
    next_is = ap (λ x. if x then Some (length history) else opened) (sym b);
    request = r;
    setup = f;
    steady = steady;
    opened_good = h;
    output = λ x p. only_some (λ y. ClientSent d opened (length history) y) s x p output;
  }

  stays : (client : AbstractClient) (opened : Option ℕ) → Steady client → OpenedGood speaker client history conn opened
      → TookGood speaker client history conn opened opened (keeps client)
  stays client opened steady h = represented client client opened (same_becomes client.state) refl refl steady h

  -- a client that becomes Reset
  reset_opened : (client : AbstractClient) (opened : Option ℕ) → OpenedGood speaker client history conn opened
      → OpenedGood speaker (record client { state = Is.Reset }) history conn opened
  reset_opened client None h = record { early = refl; nothing = h.nothing }
  reset_opened client (Some o) h = record {
    time = h.time;
    then_live = h.then_live;
    live_then = h.live_then;
    asked = refl;
    part = h.part;
    expected = λ y. absurd (cc);
    all = λ y. absurd (cc);
  }

  -- a client that opens
  opens_good : (client : AbstractClient) (P : Type 0) (s : PlainSegment) → client.state ≡ Is.Opening → Steady client → NotOpened client
      → is_live conn.state ≡ true →
      has_rst s.flags ≡ false → has_syn s.flags ≡ true → NodeSent speaker client P (era history conn (length history)).iss
      (era history conn (length history)).snapshots s →
      TookGood speaker client history conn None (Some (length history)) (sends_next true (opened_by client s))
  opens_good client P s st steady h lv nr sy (node_reset r) = absurd (cc)
  opens_good client P s st steady h lv nr sy (node_ack r n) = absurd (let z : has_syn s.flags ≡ false = n.no_syn in cc)
  opens_good client P s st steady h lv nr sy (node_text r p n) = absurd (let z : has_syn s.flags ≡ false = n.no_syn in cc)
  opens_good client P s st steady h lv nr sy (node_fin r p n) = absurd (let z : has_syn s.flags ≡ false = n.no_syn in cc)
  opens_good client P s st steady h lv nr sy (node_syn r n) =
      let c : AbstractClient = opened_by client s in
      let none : [] ≡ client.received = sym h.nothing in
      let k : List Snapshot = (era history conn (length history)).snapshots in
      let f : ℕ = (era history conn (length history)).iss in
      let e : wrap (s.seq + 1) ≡ wrap (f + 1 + 0) = ap (λ x. wrap (x + 1)) n.seq ∙ omega arith in
      let g : HasOpened speaker c history conn (length history) = record {
        time = omega arith;
        then_live = λ x. lv;
        live_then = λ x. refl;
        asked = refl;
        part = subst (λ x. IsPart (speaker.text client.request k) x 0) none (part_none (speaker.text client.request k));
        expected = λ x. subst (λ y. wrap (s.seq + 1) ≡ wrap (f + 1 + length y)) none e;
        all = λ x. absurd (cc);
      } in
      goes_on client c (length history) true None (rw st refl) refl refl record { short = steady.short; low = steady.low; out_fits = steady.out_fits } g

  pub record Took_it (client : AbstractClient) (opened : Option ℕ) (took : ClientStep) : Type 0 where
    pub next : Option ℕ
    pub good : TookGood speaker client history conn opened next took

  is_asked : (client : AbstractClient) (st : ClientState) (o : ℕ) → client.state ≡ st → is_unasked st ≡ true → HasOpened speaker client history conn o → ⊥
  is_asked client st o e n h = let z : is_unasked client.state ≡ is_unasked st = ap is_unasked e in let y : is_unasked client.state
      ≡ false = h.asked in absurd (cc)

  not_early : (client : AbstractClient) (st : ClientState) → client.state ≡ st → is_early st ≡ false → NotOpened client → ⊥
  not_early client st e n h = let z : is_early client.state ≡ is_early st = ap is_early e in let y : is_early client.state ≡ true = h.early in absurd (cc)

  by_good : (st : ClientState) (client : AbstractClient) (P : Type 0) (opened : Option ℕ) (s : PlainSegment) → client.state ≡ st
      → Steady client → OpenedGood speaker client history conn opened → has_rst s.flags ≡ false →
      is_live conn.state ≡ true → NodeSent speaker client P (era history conn (length history)).iss
      (era history conn (length history)).snapshots s → Took_it client opened (takes_by st client s)
  unfolding takes_by
  by_good Is.Idle client P opened s st steady h nr lv output = record { next = opened; good = stays client opened steady h }
  by_good Is.Reset client P opened s st steady h nr lv output = record { next = opened; good = stays client opened steady h }
  by_good Is.Opening client P None s st steady h nr lv output =
      choose (λ x. Took_it client None x) (has_syn s.flags && (has_ack s.flags && eqb s.ack (wrap (own_first client + 1)))) _ _
      (λ e. record { next = Some (length history); good = opens_good client P s st steady h lv nr (and_true _ _ e).0 output })
      (λ e. record { next = None; good = stays client None steady h })
  by_good Is.Opening client P (Some o) s st steady h nr lv output = absurd (is_asked client Is.Opening o st refl h)
  by_good Is.Opened client P None s st steady h nr lv output = absurd (not_early client _ st refl h)
  by_good Is.Closing client P None s st steady h nr lv output = absurd (not_early client _ st refl h)
  by_good Is.Closed client P None s st steady h nr lv output = absurd (not_early client _ st refl h)
  by_good Is.Ended client P None s st steady h nr lv output = absurd (not_early client _ st refl h)
  by_good Is.Opened client P (Some o) s st steady h nr lv output =
      record {
        next = Some o;
        good = asked_good client P o s steady h nr
            (subst (λ n. NodeSent speaker client P (era history conn n).iss (era history conn n).snapshots s) (sym (h.live_then lv)) output);
      }
  by_good Is.Closing client P (Some o) s st steady h nr lv output =
      record {
        next = Some o;
        good = asked_good client P o s steady h nr
            (subst (λ n. NodeSent speaker client P (era history conn n).iss (era history conn n).snapshots s) (sym (h.live_then lv)) output);
      }
  by_good Is.Closed client P (Some o) s st steady h nr lv output =
      record {
        next = Some o;
        good = asked_good client P o s steady h nr
            (subst (λ n. NodeSent speaker client P (era history conn n).iss (era history conn n).snapshots s) (sym (h.live_then lv)) output);
      }
  by_good Is.Ended client P (Some o) s st steady h nr lv output =
      record {
        next = Some o;
        good = asked_good client P o s steady h nr
            (subst (λ n. NodeSent speaker client P (era history conn n).iss (era history conn n).snapshots s) (sym (h.live_then lv)) output);
      }

  -- any datagram of the node that is not stale
  pub client_takes_good : (client : AbstractClient) (opened : Option ℕ) (e : Sent) → Steady client → OpenedGood speaker client history conn
      opened → e.epoch ≡ length history →
      ToGood speaker client opened history conn e → Took_it client opened (client_takes client (seg e))
  unfolding client_takes
  client_takes_good client opened e steady h fresh g =
      choose (λ x. Took_it client opened x) (has_rst (seg e).flags) _ _
      (λ r. choose (λ x. Took_it client opened (keeps x)) (is_reset_by client.state client (seg e)) _ _
      (λ b. record {
        next = opened;
        good = represented client (record client { state = Is.Reset }) opened (reset_becomes client.state) refl refl
            record { short = steady.short; low = steady.low; out_fits = steady.out_fits } (reset_opened client opened h);
      })
      (λ b. record { next = opened; good = stays client opened steady h }))
      (λ r. by_good client.state client (opened ≡ Some e.epoch) opened (seg e) refl steady h r (g.incarnations r fresh)
      (subst (λ n. NodeSent speaker client (opened ≡ Some e.epoch) (era history conn n).iss (era history conn n).snapshots (seg e)) fresh g.output))

  -- its own acts
  sends_syn : (client d : AbstractClient) → own_first d ≡ own_first client → ClientSent client None (length history) (syn_of d)
  sends_syn client d f = sent_syn record { syn = refl; no_ack = refl; no_text = refl; seq = f; before = λ o x. absurd (cc) }

  pub opens_by_good : (st : ClientState) (client : AbstractClient) (opened : Option ℕ) → client.state ≡ st → Steady client
      → OpenedGood speaker client history conn opened → Took_it client opened (opens_by st client)
  unfolding opens_by
  opens_by_good Is.Idle client (Some o) st steady h = absurd (is_asked client Is.Idle o st refl h)
  opens_by_good Is.Idle client None st steady h =
      let d : AbstractClient = record client { state = Is.Opening } in
      record {
        next = None;
        good = speaks client d None (syn_of d) (rw st refl) refl refl
            record { short = steady.short; low = steady.low; out_fits = steady.out_fits }
            record { early = refl; nothing = h.nothing } (sends_syn d d refl);
      }
  opens_by_good Is.Opening client opened st steady h = record { next = opened; good = stays client opened steady h }
  opens_by_good _ client opened st steady h = record { next = opened; good = stays client opened steady h }

  speaks_again : (client : AbstractClient) (o : ℕ) (s : PlainSegment) → Steady client → HasOpened speaker client history conn o
      → IsData client (Some o) s → Took_it client (Some o) (steps_with client s)
  speaks_again client o s steady h d = record {
    next = Some o;
    good = speaks client client (Some o) s (same_becomes client.state) refl refl
        steady h (sent_data d);
  }

  repeats_data : (client : AbstractClient) (o : ℕ) → Steady client → HasOpened speaker client history conn o →
      Took_it client (Some o) (if ltb 0 client.out then steps_with client (own_request client) else if fin_out client.fin then steps_with
      client (own_fin client) else steps_with client (ack_of client))
  repeats_data client o steady h =
      choose (λ x. Took_it client (Some o) x) (ltb 0 client.out) _ _
      (λ e. speaks_again client o (own_request client) steady h (request_data client (Some o) refl steady.out_fits))
      (λ e. choose (λ x. Took_it client (Some o) x) (fin_out client.fin) _ _
      (λ f. speaks_again client o (own_fin client) steady h (fin_data client client (Some o) refl))
      (λ f. speaks_again client o (ack_of client) steady h (ack_data client client (Some o) refl)))

  pub again_by_good : (st : ClientState) (client : AbstractClient) (opened : Option ℕ) → client.state ≡ st → Steady client
      → OpenedGood speaker client history conn opened → Took_it client opened (again_by st client)
  unfolding again_by
  again_by_good Is.Idle client opened st steady h = record { next = opened; good = stays client opened steady h }
  again_by_good Is.Reset client opened st steady h = record { next = opened; good = stays client opened steady h }
  again_by_good Is.Opening client None st steady h =
      record { next = None; good = speaks client client None (syn_of client) (same_becomes client.state) refl refl steady h (sends_syn client client refl) }
  again_by_good Is.Opening client (Some o) st steady h = absurd (is_asked client Is.Opening o st refl h)
  again_by_good Is.Opened client (Some o) st steady h = repeats_data client o steady h
  again_by_good Is.Closing client (Some o) st steady h = repeats_data client o steady h
  again_by_good Is.Closed client (Some o) st steady h = repeats_data client o steady h
  again_by_good Is.Ended client (Some o) st steady h = repeats_data client o steady h
  again_by_good Is.Opened client None st steady h = absurd (not_early client _ st refl h)
  again_by_good Is.Closing client None st steady h = absurd (not_early client _ st refl h)
  again_by_good Is.Closed client None st steady h = absurd (not_early client _ st refl h)
  again_by_good Is.Ended client None st steady h = absurd (not_early client _ st refl h)

  pub closes_by_good : (st : ClientState) (client : AbstractClient) (opened : Option ℕ) → client.state ≡ st → Steady client
      → OpenedGood speaker client history conn opened → Took_it client opened (closes_by st client)
  unfolding closes_by
  closes_by_good Is.Opened client None st steady h = absurd (not_early client _ st refl h)
  closes_by_good Is.Opened client (Some o) st steady h =
      let c : AbstractClient = record client { state = Is.Closing } in
      let g : HasOpened speaker c history conn o = record {
        time = h.time;
        then_live = h.then_live;
        live_then = h.live_then;
        asked = refl;
        part = h.part;
        expected = λ x. h.expected (ap is_receiving st);
        all = λ x. absurd (cc);
      } in
      record {
        next = Some o;
        good = goes_on client c o false (Some o) (not_opening history client.state c.state o h.asked) refl refl
            record { short = steady.short; low = steady.low; out_fits = steady.out_fits } g;
      }
  closes_by_good Is.Idle client opened st steady h = record { next = opened; good = stays client opened steady h }
  closes_by_good _ client opened st steady h = record { next = opened; good = stays client opened steady h }

  goes_reset : (client : AbstractClient) (opened : Option ℕ) → Steady client → OpenedGood speaker client history conn opened
      → Took_it client opened (steps_with (record client { state = Is.Reset }) (own_reset client))
  goes_reset client opened steady h =
      record {
        next = opened;
        good = speaks client (record client { state = Is.Reset }) opened (own_reset client) (reset_becomes client.state) refl refl
            record { short = steady.short; low = steady.low; out_fits = steady.out_fits } (reset_opened client opened h) (sent_reset refl);
      }

  pub aborts_by_good : (st : ClientState) (client : AbstractClient) (opened : Option ℕ) → client.state ≡ st → Steady client
      → OpenedGood speaker client history conn opened → Took_it client opened (aborts_by st client)
  unfolding aborts_by
  aborts_by_good Is.Opening client opened st steady h = goes_reset client opened steady h
  aborts_by_good Is.Opened client opened st steady h = goes_reset client opened steady h
  aborts_by_good Is.Closing client opened st steady h = goes_reset client opened steady h
  aborts_by_good _ client opened st steady h = record { next = opened; good = stays client opened steady h }

  window_opened : (client : AbstractClient) (w : ℕ) (opened : Option ℕ) → OpenedGood speaker client history conn opened
      → OpenedGood speaker (record client { window = w }) history conn opened
  window_opened client w None h = record { early = h.early; nothing = h.nothing }
  window_opened client w (Some o) h = recounts client o client.acked client.out client.fin w h

  pub window_good : (client : AbstractClient) (w : ℕ) (opened : Option ℕ) → Steady client → OpenedGood speaker client history conn opened
      → Took_it client opened (keeps (record client { window = w }))
  window_good client w opened steady h =
      record {
        next = opened;
        good = represented client (record client { window = w }) opened (same_becomes client.state) refl refl
            record { short = steady.short; low = steady.low; out_fits = steady.out_fits } (window_opened client w opened h);
      }
