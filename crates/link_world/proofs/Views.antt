-- What is known of one clean client, carried over each change of its connection, its client and the list of datagrams.
use Rattle.link_world.proofs.Prelude.{◌≡◌, ℕ, zero, suc, ◌+◌, ◌<◌, ◌≤◌, Bool, true, false, ◌⊎◌, inl, inr, List, [], ◌∷◌, ◌++◌, length, refl}
use Rattle.link_world.proofs.Prelude.{sym, ap, ◌∙◌, subst, arith, Option, Some, None, get_or, length-append, ltb, if◌then◌else◌}
use Rattle.link_world.proofs.Prelude.{common_steps, wrap, PlainSegment, has_rst, Snapshot, AppSpec, State, Closed, SynRcvd, Established}
use Rattle.link_world.proofs.Prelude.{CloseWait, FinWait1, FinWait2, Closing, TimeWait, LastAck, Connection, closed, is_live}
use Rattle.link_world.proofs.Prelude.{AbstractClient, ClientStep, Sent, PastConnection, becomes_opened, past_connection_of, era, both_ways}
use Rattle.link_world.proofs.Prelude.{append_nothing, get_push, older, newest, IsPrefixOf}
use Rattle.link_world.proofs.Speaking.{Speaker, HasOutputModel}
use Rattle.link_world.proofs.Clients.{not_opening}
use Rattle.link_world.proofs.Later.{part_later, all_later, node_later, client_later}
use Rattle.link_world.proofs.CleanClientInvariant.{is_some, seg, from, to, AtText, AtFin, AtRest, StateGood, ConnGood, NodeSent, Moved}
use Rattle.link_world.proofs.CleanClientInvariant.{FromGood, ToGood, HasOpened, OpenedGood, Good, TookGood}
use Rattle.link_world.proofs.CleanClientInvariant.NodeSent.{node_reset}

-- the captures of an epoch only grow, and its first number stays
pub record EraLater (a b : PastConnection) : Type 0 where
  pub iss : b.iss ≡ a.iss
  pub more : List Snapshot
  pub snapshots : b.snapshots ≡ a.snapshots ++ more

pub record Onward (history : List PastConnection) (c : Connection) (history' : List PastConnection) (c' : Connection) : Type 0 where
  pub longer : length history ≤ length history'
  pub eras : (n : ℕ) → n ≤ length history → (n ≡ length history → is_live c.state ≡ true) → EraLater (era history c n) (era history' c' n)
  pub live : length history' ≡ length history → is_live c.state ≡ true → is_live c'.state ≡ true

same_era : (a : PastConnection) → EraLater a a
same_era a = record { iss = refl; more = []; snapshots = sym (append_nothing a.snapshots) }

later_by : (a a' b b' : PastConnection) → a' ≡ a → b' ≡ b → EraLater a b → EraLater a' b'
later_by a a' b b' e f h = subst (λ x. EraLater x b') (sym e) (subst (λ x. EraLater a x) (sym f) h)

lt_true : (a b : ℕ) → a < b → ltb a b ≡ true
lt_true a b h = grind (arith, common_steps)

lt_false : (a b : ℕ) → b ≤ a → ltb a b ≡ false
lt_false a b h = grind (arith, common_steps)

low_or_not : (a b : ℕ) → (a < b) ⊎ (b ≤ a)
low_or_not a b = grind arith

pub era_old : (history : List PastConnection) (c : Connection) (n : ℕ) → n < length history → era history c n ≡ get_or history n (past_connection_of closed)
era_old history c n h = ap (λ b. if b then get_or history n (past_connection_of closed) else past_connection_of c) (lt_true n (length history) h)

pub era_now : (history : List PastConnection) (c : Connection) (n : ℕ) → length history ≤ n → era history c n ≡ past_connection_of c
era_now history c n h = ap (λ b. if b then get_or history n (past_connection_of closed) else past_connection_of c) (lt_false n (length history) h)

get_or_before : (history : List PastConnection) (x d : PastConnection) (n : ℕ) → n < length history → get_or (history ++ x ∷ []) n d ≡ get_or history n d
get_or_before [] x d n h = absurd (omega arith)
get_or_before (a ∷ history) x d zero h = refl
get_or_before (a ∷ history) x d (suc n) h = get_or_before history x d n (omega arith)

get_or_last : (history : List PastConnection) (x d : PastConnection) (n : ℕ) → n ≡ length history → get_or (history ++ x ∷ []) n d ≡ x
get_or_last [] x d n h = rw h refl
get_or_last (a ∷ history) x d zero h = absurd (omega arith)
get_or_last (a ∷ history) x d (suc n) h = get_or_last history x d n (omega arith)

pub length_push : (history : List PastConnection) (x : PastConnection) → length (history ++ x ∷ []) ≡ length history + 1
length_push history x = length-append history (x ∷ [])

-- the ISS of an epoch stays the same while its connection continues, and after it is gone
pub first_live : (history : List PastConnection) (c d : Connection) → d.iss ≡ c.iss → (o : ℕ) → (era history d o).iss ≡ (era history c o).iss
first_live history c d f o = elim (low_or_not o (length history)) [
  | inl h ↦ ap (λ (x : PastConnection). x.iss) (era_old history d o h) ∙ sym (ap (λ (x : PastConnection). x.iss) (era_old history c o h))
  | inr h ↦ ap (λ (x : PastConnection). x.iss) (era_now history d o h) ∙ f ∙ sym (ap (λ (x : PastConnection). x.iss) (era_now history c o h))
]

pub first_dead : (history : List PastConnection) (c d dead : Connection) → d.iss ≡ c.iss → (o : ℕ) → o ≤ length history
    → (era (history ++ past_connection_of d ∷ []) dead o).iss ≡ (era history c o).iss
first_dead history c d dead f o le =
    let longer : o < length (history ++ past_connection_of d ∷ []) = omega (arith, le, length_push history (past_connection_of d)) in
    elim (low_or_not o (length history)) [
      | inl h ↦ ap (λ (x : PastConnection). x.iss) (era_old (history ++ past_connection_of d ∷ []) dead o longer
          ∙ get_or_before history (past_connection_of d) (past_connection_of closed) o h) ∙ sym (ap (λ (x : PastConnection). x.iss) (era_old history c o h))
      | inr h ↦ ap (λ (x : PastConnection). x.iss) (era_old (history ++ past_connection_of d ∷ []) dead o longer
          ∙ get_or_last history (past_connection_of d) (past_connection_of closed) o (omega (arith, h, le))) ∙ f
          ∙ sym (ap (λ (x : PastConnection). x.iss) (era_now history c o h))
    ]

-- the connection continues
onward_live : (history : List PastConnection) (c d : Connection) (more : List Snapshot) → d.iss ≡ c.iss
    → d.part.snapshots ≡ c.part.snapshots ++ more → is_live d.state ≡ true → Onward history c history d
onward_live history c d more f k l = record {
  longer = omega arith;
  eras = λ n le lv. elim (low_or_not n (length history)) [
    | inl h ↦ later_by _ _ _ _ (era_old history c n h) (era_old history d n h) (same_era (get_or history n (past_connection_of closed)))
    | inr h ↦ later_by _ _ _ _ (era_now history c n h) (era_now history d n h) record { iss = f; more = more; snapshots = k }
  ];
  live = λ e x. l;
}

-- the connection is gone: d is its last form, and another one that is CLOSED is in its place
onward_dead : (history : List PastConnection) (c d dead : Connection) (more : List Snapshot) → d.iss ≡ c.iss
    → d.part.snapshots ≡ c.part.snapshots ++ more → Onward history c (history ++ past_connection_of d ∷ []) dead
onward_dead history c d dead more f k = record {
  longer = omega (arith, length_push history (past_connection_of d));
  eras = λ n le lv. elim (low_or_not n (length history)) [
    | inl h ↦ later_by _ _ _ _ (era_old history c n h) (era_old (history ++ past_connection_of d ∷ []) dead n
        (omega (arith, length_push history (past_connection_of d))) ∙ get_or_before history (past_connection_of d)
        (past_connection_of closed) n h) (same_era (get_or history n (past_connection_of closed)))
    | inr h ↦ later_by _ _ _ _ (era_now history c n h) (era_old (history ++ past_connection_of d ∷ []) dead n
        (omega (arith, length_push history (past_connection_of d))) ∙ get_or_last history (past_connection_of d) (past_connection_of closed)
        n (omega arith)) record { iss = f; more = more; snapshots = k }
  ];
  live = λ e x. absurd (omega (arith, length_push history (past_connection_of d)));
}

-- a connection is born where none lived
onward_born : (history : List PastConnection) (c d : Connection) → is_live c.state ≡ false → is_live d.state ≡ true → Onward history c history d
onward_born history c d n l = record {
  longer = omega arith;
  eras = λ m le lv. elim (low_or_not m (length history)) [
    | inl h ↦ later_by _ _ _ _ (era_old history c m h) (era_old history d m h) (same_era (get_or history m (past_connection_of closed)))
    | inr h ↦ absurd (let z : is_live c.state ≡ true = lv (omega arith) in cc)
  ];
  live = λ e x. l;
}

module _ (m : AppSpec) (speaker : Speaker) (laws : HasOutputModel m speaker) where
  pub reset_sent : (c d : AbstractClient) (P Q : Type 0) (f g : ℕ) (k l : List Snapshot) (s : PlainSegment) → has_rst s.flags ≡ true
      → NodeSent speaker c P f k s → NodeSent speaker d Q g l s
  reset_sent c d P Q f g k l s r h = node_reset r

  to_onward : (client : AbstractClient) (opened : Option ℕ) (history history' : List PastConnection) (c c' : Connection) (e : Sent)
      → Onward history c history' c' → ToGood speaker client opened history c e → ToGood speaker client opened history' c' e
  to_onward client opened history history' c c' e o g = record {
    time = omega (arith, o.longer, g.time);
    incarnations = λ r t. o.live (omega (arith, o.longer, g.time)) (g.incarnations r (omega (arith, o.longer, g.time)));
    output = both_ways (has_rst (seg e).flags)
        (λ r. node_reset r)
        (λ r. let x : EraLater (era history c e.epoch) (era history' c' e.epoch) = o.eras e.epoch g.time (λ t. g.incarnations r t) in
        node_later m speaker laws client client (opened ≡ Some e.epoch) (opened ≡ Some e.epoch) (era history c e.epoch).iss
        (era history' c' e.epoch).iss (era history c e.epoch).snapshots (era history' c' e.epoch).snapshots x.more (seg e)
        refl (λ y. y) x.iss x.snapshots g.output);
  }

  opened_onward : (client : AbstractClient) (history history' : List PastConnection) (c c' : Connection) (o : ℕ)
      → Onward history c history' c' → (is_live c'.state ≡ true → o ≡ length history') → HasOpened speaker client history c o
      → HasOpened speaker client history' c' o
  opened_onward client history history' c c' o w alive h =
      let x : EraLater (era history c o) (era history' c' o) = w.eras o h.time h.then_live in
      record {
        time = omega (arith, w.longer, h.time);
        then_live = λ t. w.live (omega (arith, w.longer, h.time)) (h.then_live (omega (arith, w.longer, h.time)));
        live_then = alive;
        asked = h.asked;
        part = part_later m speaker laws client.request client.request (era history c o).snapshots (era history' c' o).snapshots x.more
            client.received 0 refl x.snapshots h.part;
        expected = λ y. h.expected y ∙ ap (λ n. wrap (n + 1 + length client.received)) (sym x.iss);
        all = λ y. all_later m speaker laws client client (era history c o).snapshots (era history' c' o).snapshots x.more
            (length client.received) refl x.snapshots (h.all y);
      }

  from_longer : (client : AbstractClient) (opened : Option ℕ) (history history' : List PastConnection) (e : Sent)
      → length history ≤ length history' → FromGood client opened history e → FromGood client opened history' e
  from_longer client opened history history' e l g = record { time = omega (arith, g.time); output = g.output }

  -- the connection c continues as d
  pub view_live : (number : ℕ) (client : AbstractClient) (opened : Option ℕ) (history : List PastConnection) (c d : Connection)
      (sent : List Sent) → Good speaker number client opened history c sent →
      is_live c.state ≡ true → is_live d.state ≡ true → Moved speaker opened client c d → Good speaker number client opened history d sent
  view_live number client opened history c d sent g lc ld mv =
      let w : Onward history c history d = onward_live history c d mv.more mv.iss mv.snapshots ld in
      record {
        steady = g.steady;
        opened_good = go opened g.opened_good;
        connection = mv.good;
        of_client = g.of_client;
        of_node = λ k e x y. to_onward client opened history history c d e w (g.of_node k e x y);
      }
    where
      go : (o : Option ℕ) → OpenedGood speaker client history c o → OpenedGood speaker client history d o
      go None h = h
      go (Some o) h = opened_onward client history history c d o (onward_live history c d mv.more mv.iss mv.snapshots ld) (λ x. h.live_then lc) h

  -- the connection c is gone, and was d at last
  pub view_dead : (number : ℕ) (client : AbstractClient) (opened : Option ℕ) (history : List PastConnection) (c d dead : Connection)
      (more : List Snapshot) (sent : List Sent) → Good speaker number client opened history c sent →
      is_live dead.state ≡ false → d.iss ≡ c.iss → d.part.snapshots ≡ c.part.snapshots ++ more → Good speaker number client opened
      (history ++ past_connection_of d ∷ []) dead sent
  view_dead number client opened history c d dead more sent g ld f k =
      let w : Onward history c (history ++ past_connection_of d ∷ []) dead = onward_dead history c d dead more f k in
      record {
        steady = g.steady;
        opened_good = go opened g.opened_good;
        connection = λ l. absurd (cc);
        of_client = λ j e x y. from_longer client opened history (history ++ past_connection_of d ∷ []) e w.longer (g.of_client j e x y);
        of_node = λ j e x y. to_onward client opened history (history ++ past_connection_of d ∷ []) c dead e w (g.of_node j e x y);
      }
    where
      go : (o : Option ℕ) → OpenedGood speaker client history c o → OpenedGood speaker client (history ++ past_connection_of d ∷ []) dead o
      go None h = h
      go (Some o) h = opened_onward client history (history ++ past_connection_of d ∷ []) c dead o (onward_dead history c d dead more f k) (λ x. absurd (cc)) h

  -- a connection is born by a SYN of this epoch
  pub view_born : (number : ℕ) (client : AbstractClient) (opened : Option ℕ) (history : List PastConnection) (c d : Connection)
      (sent : List Sent) → Good speaker number client opened history c sent →
      is_live c.state ≡ false → is_live d.state ≡ true → ConnGood speaker opened client d → ((o : ℕ) → opened ≡ Some o → length history ≤ o) →
      Good speaker number client opened history d sent
  view_born number client opened history c d sent g lc ld cg before =
      let w : Onward history c history d = onward_born history c d lc ld in
      record {
        steady = g.steady;
        opened_good = go opened before g.opened_good;
        connection = λ l. cg;
        of_client = g.of_client;
        of_node = λ j e x y. to_onward client opened history history c d e w (g.of_node j e x y);
      }
    where
      go : (o : Option ℕ) → ((n : ℕ) → o ≡ Some n → length history ≤ n) → OpenedGood speaker client history c o → OpenedGood speaker client history d o
      go None b h = h
      go (Some o) b h = absurd (let z : is_live c.state ≡ true = h.then_live (omega (arith, h.time, b o refl)) in cc)

  -- one more datagram
  pub view_push : (number : ℕ) (client : AbstractClient) (opened : Option ℕ) (history : List PastConnection) (c : Connection)
      (sent : List Sent) (new : Sent) → Good speaker number client opened history c sent →
      (new.who ≡ from number → FromGood client opened history new) → (new.who ≡ to number → ToGood speaker client opened history c new) →
      Good speaker number client opened history c (sent ++ new ∷ [])
  view_push number client opened history c sent new g f t = record {
    steady = g.steady;
    opened_good = g.opened_good;
    connection = g.connection;
    of_client = λ k e x y. elim (get_push sent new k e x) [
      | older h ↦ g.of_client k e h y
      | newest i h ↦ subst (λ n. FromGood client opened history n) h (f (ap (λ n. n.who) h ∙ y))
    ];
    of_node = λ k e x y. elim (get_push sent new k e x) [
      | older h ↦ g.of_node k e h y
      | newest i h ↦ subst (λ n. ToGood speaker client opened history c n) h (t (ap (λ n. n.who) h ∙ y))
    ];
  }

  -- the client takes a step
  text_later : (client d : AbstractClient) (opened next : Option ℕ) (c : Connection) → d.request ≡ client.request
      → (is_some opened ≡ true → is_some next ≡ true) → AtText speaker opened client c → AtText speaker next d c
  text_later client d opened next c r s h = record {
    opened_is = s h.opened_is;
    here = h.here;
    input = subst (λ x. IsPrefixOf c.part.input x) (sym r) h.input;
    fits = h.fits;
    count = h.count;
  }

  fin_later : (client d : AbstractClient) (opened next : Option ℕ) (c : Connection) → d.request ≡ client.request
      → (is_some opened ≡ true → is_some next ≡ true) → AtFin speaker opened client c → AtFin speaker next d c
  fin_later client d opened next c r s h = record {
    opened_is = s h.opened_is;
    ends = all_later m speaker laws client d c.part.snapshots
        c.part.snapshots [] c.part.acked r (sym (append_nothing c.part.snapshots)) h.ends;
    count = h.count;
    input = subst (λ x. IsPrefixOf c.part.input x) (sym r) h.input;
  }

  rest_later : (client d : AbstractClient) (opened next : Option ℕ) (c : Connection) → d.request ≡ client.request
      → (is_some opened ≡ true → is_some next ≡ true) → AtRest opened client c → AtRest next d c
  rest_later client d opened next c r s h = record { opened_is = s h.opened_is; input = subst (λ x. IsPrefixOf c.part.input x) (sym r) h.input }

  conn_later : (client d : AbstractClient) (opened next : Option ℕ) (c : Connection) (st : State) → d.request ≡ client.request →
      (is_some opened ≡ true → is_some next ≡ true) → StateGood speaker opened client c st → StateGood speaker next d c st
  conn_later client d opened next c Closed r s h = tt
  conn_later client d opened next c SynRcvd r s h = h
  conn_later client d opened next c Established r s h = record { text = text_later client d opened next c r s h.text; taken = h.taken }
  conn_later client d opened next c CloseWait r s h = text_later client d opened next c r s h
  conn_later client d opened next c FinWait1 r s h = fin_later client d opened next c r s h
  conn_later client d opened next c FinWait2 r s h = rest_later client d opened next c r s h
  conn_later client d opened next c Closing r s h = fin_later client d opened next c r s h
  conn_later client d opened next c TimeWait r s h = rest_later client d opened next c r s h
  conn_later client d opened next c LastAck r s h = fin_later client d opened next c r s h

  kept_opened : (client : AbstractClient) (history : List PastConnection) (c : Connection) (opened next : Option ℕ) (took : ClientStep)
      → OpenedGood speaker client history c opened → TookGood speaker client history c opened next took →
      (o : ℕ) → opened ≡ Some o → next ≡ Some o
  kept_opened client history c None next took h g o e = absurd (cc)
  kept_opened client history c (Some p) next took h g o e = g.next_is ∙ sym (not_opening history client.state took.client.state p h.asked) ∙ e

  kept_some : (opened next : Option ℕ) → ((o : ℕ) → opened ≡ Some o → next ≡ Some o) → is_some opened ≡ true → is_some next ≡ true
  kept_some None next h e = absurd (cc)
  kept_some (Some o) next h e = ap is_some (h o refl)

  fresh_opened : (history : List PastConnection) (opened next : Option ℕ) (b : Bool) → next ≡ (if b then Some (length history) else opened)
      → (n : ℕ) → n ≤ length history → (o : ℕ) → next ≡ Some o → (opened ≡ Some o) ⊎ (n ≤ o)
  fresh_opened history opened next true e n l o h = inr (let z : length history ≡ o = cc in omega arith)
  fresh_opened history opened next false e n l o h = inl (sym e ∙ h)

  pub view_client : (number : ℕ) (client : AbstractClient) (opened next : Option ℕ) (history : List PastConnection) (c : Connection)
      (sent : List Sent) (took : ClientStep) → Good speaker number client opened history c sent →
      TookGood speaker client history c opened next took → Good speaker number took.client next history c sent
  view_client number client opened next history c sent took g t =
      let kept : (o : ℕ) → opened ≡ Some o → next ≡ Some o = kept_opened client history c opened next took g.opened_good t in
      record {
        steady = t.steady;
        opened_good = t.opened_good;
        connection = λ l. record {
          irs = (g.connection l).irs ∙ sym t.setup;
          state = conn_later client took.client opened next c c.state
              t.request (kept_some opened next kept) (g.connection l).state;
        };
        of_client = λ k e x y. let f = g.of_client k e x y in record {
          time = f.time;
          output = client_later client took.client opened next e.epoch (seg e) t.request t.setup (kept_some opened next kept)
              (fresh_opened history opened next (becomes_opened client.state took.client.state) t.next_is e.epoch f.time) f.output;
        };
        of_node = λ k e x y. let f = g.of_node k e x y in record {
          time = f.time;
          incarnations = f.incarnations;
          output = node_later m speaker laws client took.client (opened ≡ Some e.epoch) (next ≡ Some e.epoch) (era history c e.epoch).iss
              (era history c e.epoch).iss (era history c e.epoch).snapshots (era history c e.epoch).snapshots [] (seg e)
              t.request (kept e.epoch) refl (sym (append_nothing (era history c e.epoch).snapshots)) f.output;
        };
      }
