-- Prefix and whole, for every schedule.
use Rattle.link_world.proofs.Prelude.{option_map_or, All, ◌≡◌, ℕ, ◌≤◌, Bool, true, false, List, [], ◌∷◌, ◌++◌, length, map, replicate, refl}
use Rattle.link_world.proofs.Prelude.{sym, ap, ◌∙◌, subst, arith, Option, Some, None, slice_get, take, take-length, eqb-true, Addr, SYN}
use Rattle.link_world.proofs.Prelude.{PlainSegment, has_syn, has_fin, has_rst, AppSpec, Snapshot, IsPrefixOf, Pages, IsPaged, IsSnapshot}
use Rattle.link_world.proofs.Prelude.{IsNow, IsU32, Now, Sockets, Connection, closed, is_live, is_again, is_plain_syn, syn_ack, Outcome}
use Rattle.link_world.proofs.Prelude.{asked, accepted, on_segment, on_tick, AbstractClient, ClientStep, has_closed, client_takes}
use Rattle.link_world.proofs.Prelude.{client_opens, client_again, client_closes, client_aborts, advertises_window, ClientState, World, Side}
use Rattle.link_world.proofs.Prelude.{Sent, PastConnection, client_sockets, with_client, marked, is_clean, past_connection_of, era}
use Rattle.link_world.proofs.Prelude.{captures_of, page_of, Planned, IsPlanned, IsPlan, fresh_side, initial_world, serving, IsReached}
use Rattle.link_world.proofs.Prelude.{IsServed, PrefixAndWhole, Setup, does, Act, both_ways, append_nothing, part_prefix, serving_free}
use Rattle.link_world.proofs.Prelude.{get_map, none_serves, FitConn}
use Rattle.link_world.proofs.Speaking.{Speaker, HasOutputModel, page_by, paged, paged_speaks}
use Rattle.link_world.proofs.Setups.{SameSetup, takes_setup, opens_setup, again_setup, closes_setup, aborts_setup}
use Rattle.link_world.proofs.FitWorlds.{FitWorld}
use Rattle.link_world.proofs.Harmless.{Harmless}
use Rattle.link_world.proofs.CleanClientInvariant.{is_some, seg, from, to, spoken, ClientSent, IsSyn, SentGood, StepGood, FromGood, ToGood}
use Rattle.link_world.proofs.CleanClientInvariant.{OpenedGood, Good, is_early}
use Rattle.link_world.proofs.CleanClientInvariant.NodeSent.{node_reset}
use Rattle.link_world.proofs.CleanClientInvariant.ClientSent.{sent_reset, sent_syn, sent_data}
use Rattle.link_world.proofs.Later.{node_later}
use Rattle.link_world.proofs.Views.{era_now, view_live, view_dead, view_born, view_push, view_client}
use Rattle.link_world.proofs.Steps.{asked_good, on_segment_good, on_tick_good, sends_syn}
use Rattle.link_world.proofs.Clients.{Took_it, client_takes_good, opens_by_good, again_by_good, closes_by_good, aborts_by_good, window_good}
use Rattle.link_world.proofs.Runs.{reached}
use Rattle.link_world.proofs.Sides.{clean_before}
use Rattle.link_world.proofs.OneClientFact.{Framed, Steps, Refines, model, entry, older, does_framed}

-- the opening world
pub opening_apart : (plan : List Planned) → IsPlan plan → Rattle.link_world.proofs.Sides.Apart (map fresh_side plan)
opening_apart plan is j k a b x y e =
    let p = get_map fresh_side plan j a x in
    let q = get_map fresh_side plan k b y in
    is.apart j k p.from q.from p.get q.get (ap (λ (o : Side). client_sockets o) p.is ∙ e ∙ ap (λ (o : Side). client_sockets o) (sym q.is))

-- How an application speaks at each port.
pub record AtPorts (m : AppSpec) : Type 0 where
  pub of : ℕ → Speaker
  pub laws : (port : ℕ) → HasOutputModel m (of port)
  pub there : (port : ℕ) → (of port).at port ≡ true

-- one whose text is a page, at every port
abbrev pub everywhere : (m : AppSpec) (pages : Pages) → IsPaged m pages → AtPorts m
everywhere m pages lawful = record { of = λ port. paged pages; laws = λ port. paged_speaks m pages lawful; there = λ port. refl }

module _ (m : AppSpec) (speaker : Speaker) (laws : HasOutputModel m speaker) where
  opened_here : (client : AbstractClient) (history : List PastConnection) (c : Connection) (opened : Option ℕ) → is_live c.state ≡ true
      → OpenedGood speaker client history c opened → is_some opened ≡ true → opened ≡ Some (length history)
  opened_here client history c None l h e = absurd (cc)
  opened_here client history c (Some o) l h e = ap Some (h.live_then l)

  -- a datagram of the client's own connection, just sent
  entry_good : (k : ℕ) (client : AbstractClient) (opened : Option ℕ) (history : List PastConnection) (c d : Connection) (sent : List Sent)
      (e : Sent) → Good speaker k client opened history c sent →
      e.epoch ≡ length history → (is_live d.state ≡ true → d ≡ c) → SentGood speaker opened client d (seg e) → ToGood speaker client opened history c e
  entry_good k client opened history c d sent e g at same h = record {
    time = omega (arith, at);
    incarnations = λ r t. (let l : is_live d.state ≡ true = h.incarnations r in ap (λ (x : Connection). is_live x.state) (sym (same l)) ∙ l);
    output = both_ways (has_rst (seg e).flags)
        (λ r. node_reset r)
        (λ r. let l : is_live d.state ≡ true = h.incarnations r in
        let q : d ≡ c = same l in
        let lc : is_live c.state ≡ true = ap (λ (x : Connection). is_live x.state) (sym q) ∙ l in
        let n : era history c e.epoch ≡ past_connection_of c = era_now history c e.epoch (omega (arith, at)) in
        node_later m speaker laws client client (is_some opened ≡ true) (opened ≡ Some e.epoch) d.iss (era history c e.epoch).iss
        d.part.snapshots (era history c e.epoch).snapshots [] (seg e) refl
        (λ y. opened_here client history c opened lc g.opened_good y ∙ ap Some (sym at)) (ap (λ (x : PastConnection). x.iss) n
        ∙ ap (λ (x : Connection). x.iss) (sym q))
        (ap (λ (x : PastConnection). x.snapshots) n ∙ ap (λ (x : Connection). x.part.snapshots) (sym q) ∙ sym (append_nothing d.part.snapshots)) h.output);
  }

module _ (m : AppSpec) (ports : AtPorts m) where
  -- its output model for a client, by the port of the client's request
  abbrev pub speaker_of : Side → Speaker
  speaker_of side = ports.of side.client.setup.server_port.0

  abbrev laws_of : (side : Side) → HasOutputModel m (speaker_of side)
  laws_of side = ports.laws side.client.setup.server_port.0

  abbrev pub G : ℕ → Side → Connection → List Sent → Type 0
  G k side c sent = is_clean side ≡ true → Good (speaker_of side) k side.client side.opened side.history c sent

  -- one more datagram
  push : (k : ℕ) (side : Side) (c : Connection) (sent : List Sent) (e : Sent) → G k side c sent
      → (is_clean side ≡ true → (e.who ≡ from k → FromGood side.client side.opened side.history e)
      × (e.who ≡ to k → ToGood (speaker_of side) side.client side.opened side.history c e)) → G k side c (sent ++ e ∷ [])
  push k side c sent e g s = λ cl. view_push m (speaker_of side) (laws_of side) k side.client side.opened side.history c sent e (g cl) (s cl).0 (s cl).1

  pub other : (k : ℕ) (side : Side) (c : Connection) (sent : List Sent) (e : Sent) → G k side c sent → (e.who ≡ to k → ⊥)
      → (e.who ≡ from k → ⊥) → G k side c (sent ++ e ∷ [])
  other k side c sent e g t f = push k side c sent e g (λ cl. (λ w. absurd (f w), λ w. absurd (t w)))

  pub reset : (k : ℕ) (side : Side) (c : Connection) (sent : List Sent) (e : Sent) → G k side c sent → e.epoch ≡ length side.history
      → has_syn (seg e).flags ≡ false → has_fin (seg e).flags ≡ false → (seg e).text ≡ [] → has_rst (seg e).flags ≡ true → e.again ≡ false
      → e.who ≡ to k → G k side c (sent ++ e ∷ [])
  reset k side c sent e g q sy fi te rs ag w = push k side c sent e g (λ cl. (
    λ f. absurd (cc),
    λ t. record { time = omega (arith, q); incarnations = λ n x. absurd (cc); output = node_reset rs },
  ))

  pub evict : (k : ℕ) (side : Side) (c : Connection) (sent : List Sent) → is_live c.state ≡ true → G k side c sent → G k (older side c) closed sent
  evict k side c sent l g = λ cl. view_dead m (speaker_of side) (laws_of side) k side.client side.opened side.history c c closed [] sent
      (g cl) refl refl (sym (append_nothing c.part.snapshots))

  pub mark : (k : ℕ) (side : Side) (c : Connection) (sent : List Sent) (n : ℕ) (e : Sent) → G k side c sent → G k (marked side n e) c sent
  mark k side c sent n e g = λ cl. g (clean_before side n e cl).0

  steps_by : (w : World) (old : Connection) (o : Outcome) (k : ℕ) (side : Side) → is_live old.state ≡ true → G k side old w.sent
      → (is_clean side ≡ true → StepGood (speaker_of side) side.opened side.client old (spoken m o)) → Steps m G other reset evict mark w o k side
  steps_by w old o k side lv g st =
      let live : is_live o.connection.state ≡ true → G k side o.connection w.sent = λ l cl. view_live m (speaker_of side) (laws_of side) k
      side.client side.opened side.history old o.connection w.sent (g cl) lv l (st cl).moved in
      let last : G k (older side o.connection) closed w.sent = λ cl. view_dead m (speaker_of side) (laws_of side) k side.client side.opened
      side.history old o.connection closed (st cl).moved.more w.sent (g cl) refl (st cl).moved.iss (st cl).moved.snapshots in
      record {
        quiet = λ n l. live l;
        quiet_last = λ n l. last;
        says = λ s e l tick id. push k side o.connection w.sent (entry (to k) side tick id (model (is_again o.step) s)) (live l) (λ cl. (
          λ f. absurd (cc),
          λ t. entry_good m (speaker_of side) (laws_of side) k side.client side.opened side.history o.connection o.connection w.sent
              (entry (to k) side tick id (model (is_again o.step) s)) (live l cl) refl (λ x. refl) ((st cl).output s e),
        ));
        sends_last = λ s e l tick id. push k (older side o.connection) closed w.sent (entry (to k) (older side o.connection) tick id
            (model (is_again o.step) s)) last (λ cl. (
              λ f. absurd (cc),
              λ t. entry_good m (speaker_of side) (laws_of side) k side.client side.opened (side.history ++ past_connection_of o.connection
                  ∷ []) closed o.connection w.sent (entry (to k) (older side o.connection) tick id (model (is_again o.step) s))
                  (last cl) refl (λ x. absurd (cc)) ((st cl).output s e),
            ));
      }

  pub segment : (w : World) (old : Connection) (numbers : List ℕ) (now : Connection → Now) (k j : ℕ) (side : Side) (e : Sent)
      → is_live old.state ≡ true → FitConn old → All IsU32 numbers → ((c : Connection) → FitConn c → IsNow (now c)) →
      slice_get w.sent j ≡ Some e → e.who ≡ from k → (is_clean side ≡ true → e.epoch ≡ length side.history) → G k side old w.sent
      → Steps m G other reset evict mark w (asked m now (on_segment m old numbers (seg e))) k side
  segment w old numbers now k j side e lv f n is sent who fresh g =
      steps_by w old (asked m now (on_segment m old numbers (seg e))) k side lv g (λ cl.
      asked_good m (speaker_of side) (laws_of side) side.opened side.client now old (on_segment m old numbers (seg e))
      (on_segment_good m (speaker_of side) (laws_of side) side.opened side.client e.epoch old numbers (seg e) (g cl).steady
      ((g cl).of_client j e sent who).output ((g cl).connection lv) lv))

  pub tick : (w : World) (old : Connection) (numbers : List ℕ) (now : Connection → Now) (k : ℕ) (side : Side) → is_live old.state ≡ true
      → FitConn old → All IsU32 numbers → ((c : Connection) → FitConn c → IsNow (now c)) →
      G k side old w.sent → Steps m G other reset evict mark w (asked m now (on_tick m old numbers)) k side
  tick w old numbers now k side lv f n is g =
      steps_by w old (asked m now (on_tick m old numbers)) k side lv g (λ cl.
      asked_good m (speaker_of side) (laws_of side) side.opened side.client now old (on_tick m old numbers)
      (on_tick_good m (speaker_of side) (laws_of side) side.opened side.client old numbers ((g cl).connection lv)))

  pub plain_is : (s : PlainSegment) → is_plain_syn s ≡ true → s.flags ≡ SYN
  plain_is s h = eqb-true s.flags SYN h

  pub born_by : (side : Side) (e : Sent) → ClientSent side.client side.opened e.epoch (seg e) → (seg e).flags ≡ SYN
      → IsSyn side.client side.opened e.epoch (seg e)
  born_by side e (sent_reset r) sy = absurd (let z : has_rst (seg e).flags ≡ false = ap has_rst sy in cc)
  born_by side e (sent_syn y) sy = y
  born_by side e (sent_data d) sy = absurd (let z : has_syn (seg e).flags ≡ true = ap has_syn sy in let y : has_syn (seg e).flags ≡ false = d.no_syn in cc)

  pub birth : (w : World) (iss : ℕ) (sockets : Sockets) (k j : ℕ) (side : Side) (e : Sent) → client_sockets side ≡ sockets
      → slice_get w.sent j ≡ Some e → e.who ≡ from k → (is_clean side ≡ true → e.epoch ≡ length side.history) → is_plain_syn (seg e) ≡ true
      → FitConn (accepted iss sockets (seg e)) → G k side closed w.sent →
      (tick id : ℕ) → G k side (accepted iss sockets (seg e)) (w.sent ++ entry (to k) side tick id (model false (syn_ack (accepted iss sockets (seg e)))) ∷ [])
  birth w iss sockets k j side e own sent who fresh plain fit g tick id =
      let c : Connection = accepted iss sockets (seg e) in
      let good : G k side c w.sent = λ cl. (let y = born_by side e ((g cl).of_client j e sent who).output (plain_is (seg e) plain) in
      view_born m (speaker_of side) (laws_of side) k side.client side.opened side.history closed c w.sent (g cl) refl refl
      record {
        irs = y.seq;
        state = record {
          port = ap (λ (x : Sockets). (speaker_of side).at x.own_port.0) (sym own)
              ∙ ports.there side.client.setup.server_port.0;
          taken = refl;
          len = refl;
          snapshots = refl;
          acked = refl;
          input = refl;
        };
      } (λ o p. subst (λ n. n ≤ o) (fresh cl) (y.before o p))) in
      push k side c w.sent (entry (to k) side tick id (model false (syn_ack c))) good
      (λ cl. (
        λ f. absurd (cc),
        λ t. entry_good m (speaker_of side) (laws_of side) k side.client side.opened side.history c c w.sent
            (entry (to k) side tick id (model false (syn_ack c))) (good cl) refl (λ x. refl) (sends_syn m (speaker_of side) (laws_of side)
            side.opened side.client c refl refl),
      ))

  took_by : (w : World) (k : ℕ) (base : Side) (c : Connection) (step : ClientStep) (fit : (o : ℕ)
      → All IsSnapshot (era base.history c o).snapshots) → SameSetup base.client step
      → (is_clean base ≡ true → Good (speaker_of base) k base.client base.opened base.history c w.sent) →
      (is_clean base ≡ true → Took_it m (speaker_of base) (laws_of base) base.history c fit base.client base.opened step)
      → Refines m G other reset evict mark w k base c step
  took_by w k base c step fit same g t =
      let by : speaker_of base ≡ speaker_of (with_client base step.client) = ap (λ (x : Setup). ports.of x.server_port.0) (sym same) in
      let good : G k (with_client base step.client) c w.sent = λ cl. (let x = t cl in
      subst (λ s. Good s k step.client (with_client base step.client).opened base.history c w.sent) by
      (subst (λ o. Good (speaker_of base) k step.client o base.history c w.sent) x.good.next_is
      (view_client m (speaker_of base) (laws_of base) k base.client base.opened x.next base.history c w.sent step (g cl) x.good))) in
      record {
        quiet = λ n. good;
        says = λ s e tick. push k (with_client base step.client) c w.sent (entry (from k) (with_client base step.client) tick 0 (model false s)) good
            (λ cl. (
              λ f. (let x = t cl in record {
                time = omega arith;
                output = subst (λ o. ClientSent step.client o (length base.history) s) x.good.next_is (x.good.output s e);
              }),
              λ z. absurd (cc),
            ));
      }

  pub took : (w : World) (k j : ℕ) (side : Side) (c : Connection) (number : ℕ) (e : Sent)
      → ((o : ℕ) → All IsSnapshot (era side.history c o).snapshots) → slice_get w.sent j ≡ Some e → e.who ≡ to k → G k side c w.sent →
      Refines m G other reset evict mark w k (marked side number e) c (client_takes side.client (seg e))
  took w k j side c number e fit sent who g =
      took_by w k (marked side number e) c (client_takes side.client (seg e)) fit (takes_setup side.client (seg e)) (λ cl. g (clean_before side number e cl).0)
      (λ cl. let a = clean_before side number e cl in let h = g a.0 in
      client_takes_good m (speaker_of side) (laws_of side) side.history c fit side.client side.opened e h.steady h.opened_good a.1 (h.of_node j e sent who))

  abbrev pub Own : (AbstractClient → ClientStep) → Type 0
  Own act = (w : World) (k : ℕ) (side : Side) (c : Connection) → ((o : ℕ) → All IsSnapshot (era side.history c o).snapshots)
      → G k side c w.sent → Refines m G other reset evict mark w k side c (act side.client)

  pub own_open : Own client_opens
  own_open w k side c fit g = took_by w k side c (client_opens side.client) fit (opens_setup side.client) g
      (λ cl. opens_by_good m (speaker_of side) (laws_of side) side.history c fit side.client.state side.client side.opened refl
      (g cl).steady (g cl).opened_good)

  pub own_again : Own client_again
  own_again w k side c fit g = took_by w k side c (client_again side.client) fit (again_setup side.client) g
      (λ cl. again_by_good m (speaker_of side) (laws_of side) side.history c fit side.client.state side.client side.opened refl
      (g cl).steady (g cl).opened_good)

  pub own_close : Own client_closes
  own_close w k side c fit g = took_by w k side c (client_closes side.client) fit (closes_setup side.client) g
      (λ cl. closes_by_good m (speaker_of side) (laws_of side) side.history c fit side.client.state side.client side.opened refl
      (g cl).steady (g cl).opened_good)

  pub own_abort : Own client_aborts
  own_abort w k side c fit g = took_by w k side c (client_aborts side.client) fit (aborts_setup side.client) g
      (λ cl. aborts_by_good m (speaker_of side) (laws_of side) side.history c fit side.client.state side.client side.opened refl
      (g cl).steady (g cl).opened_good)

  pub own_window : (x : ℕ) → Own (advertises_window x)
  own_window x w k side c fit g = took_by w k side c (advertises_window x side.client) fit refl g
      (λ cl. window_good m (speaker_of side) (laws_of side) side.history c fit side.client x side.opened (g cl).steady (g cl).opened_good)

  fresh_good : (k : ℕ) (p : Planned) (c : Connection) → is_live c.state ≡ false → IsPlanned p → G k (fresh_side p) c []
  fresh_good k p c l is cl = record {
    steady = record { short = is.short; low = is.iss; out_fits = omega arith };
    opened_good = record { early = refl; nothing = refl };
    connection = λ x. absurd (cc);
    of_client = λ j e x y. absurd (cc);
    of_node = λ j e x y. absurd (cc);
  }

  pub opening_framed : (addr : Addr) (numbers : List ℕ) (plan : List Planned) → IsPlan plan → Framed m G other reset evict mark
      (initial_world addr numbers plan)
  opening_framed addr numbers plan is = record {
    apart = opening_apart plan is;
    single = λ p i j x y a b u v. absurd (let z = none_serves 10 p i x a in cc);
    each = λ k side x. (let p = get_map fresh_side plan k side x in
        let e : serving (client_sockets side) (replicate 10 closed) ≡ closed = serving_free (replicate 10 closed) (client_sockets side)
        (none_serves 10 (client_sockets side)) in
        subst (λ (o : Side). G k o (serving (client_sockets side) (replicate 10 closed)) []) p.is
        (fresh_good k p.from (serving (client_sockets side) (replicate 10 closed)) (ap (λ (z : Connection). is_live z.state) e) (is.each k p.from p.get)));
  }

  -- what each harmless act keeps
  pub act_good : (served : ℕ → Bool) (w : World) (act : Act) → Harmless m served w act → Framed m G other reset evict mark w → FitWorld w
      → Framed m G other reset evict mark (does m served w act)
  act_good served w act harm g fits =
      does_framed m G other reset evict mark (ports.laws 0).steady served segment tick birth
      record { took = took; opens = own_open; again = own_again; closes = own_close; aborts = own_abort; windows = own_window } w act harm g fits

  not_early : (st : ClientState) → is_early st ≡ true → has_closed st ≡ true → ⊥
  not_early Rattle.link_client.specs.declared.client_state.ClientState.TheVariants.Idle h e = cc
  not_early _ h e = cc

  served_by : (w : World) (side : Side) (o : Option ℕ) → side.opened ≡ o → OpenedGood (speaker_of side) side.client side.history
      (serving (client_sockets side) w.node.connections) o → IsServed (page_by (speaker_of side)) w side
  served_by w side None q h = record {
    prefix = (let page : List ℕ = page_of (page_by (speaker_of side)) w side in
        let p : IsPrefixOf [] page = record { rest = page; joined = refl } in subst (λ x. IsPrefixOf x page) (sym h.nothing) p);
    all = λ e. absurd (not_early side.client.state h.early e);
    whole = λ e. absurd (not_early side.client.state h.early e);
  }
  served_by w side (Some o) q h =
      let c : Connection = serving (client_sockets side) w.node.connections in
      let text : List Snapshot → List ℕ = λ x. (speaker_of side).text side.client.request x in
      let k : captures_of w side ≡ (era side.history c o).snapshots = ap (λ (x : Option ℕ). option_map_or (λ n. (era side.history c n).snapshots) x []) q in
      let p : page_of (page_by (speaker_of side)) w side ≡ text (era side.history c o).snapshots = ap text k in
      record {
        prefix = subst (λ x. IsPrefixOf side.client.received x) (sym p) (part_prefix (text (era side.history c o).snapshots) side.client.received h.part);
        all = λ e. h.part.same ∙ ap (λ n. take n (text (era side.history c o).snapshots)) (h.all e).end
            ∙ take-length (text (era side.history c o).snapshots) ∙ sym p;
        whole = λ e. ap (λ x. (speaker_of side).whole side.client.request x) k ∙ (h.all e).whole;
      }

  -- each clean client is served, where the walk comes so far
  pub served_in : (w : World) → Framed m G other reset evict mark w → (k : ℕ) (side : Side) → slice_get w.sides k ≡ Some side
      → is_clean side ≡ true → IsServed (page_by (speaker_of side)) w side
  served_in w g k side x c = served_by w side side.opened refl (g.each k side x c).opened_good

pub all_good : (m : AppSpec) (pages : Pages) (lawful : IsPaged m pages) (w : World) → IsReached m pages w
    → Framed m (G m (everywhere m pages lawful)) (other m (everywhere m pages lawful)) (reset m (everywhere m pages lawful))
    (evict m (everywhere m pages lawful)) (mark m (everywhere m pages lawful)) w
all_good m pages lawful w r =
    let ports : AtPorts m = everywhere m pages lawful in
    reached m pages lawful (λ v. Framed m (G m ports) (other m ports) (reset m ports) (evict m ports) (mark m ports) v) (act_good m ports)
    (opening_framed m ports) w r

pub prefix_and_whole : PrefixAndWhole
prefix_and_whole m pages lawful w r k side x c =
    let h : IsServed (page_by (paged pages)) w side = served_in m (everywhere m pages lawful) w (all_good m pages lawful w r) k side x c in
    record { prefix = h.prefix; all = h.all; whole = h.whole }
