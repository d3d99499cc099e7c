-- The world's acts, for any fact G about one client: what the acts do to the sides, the table and the list is proved once.
use Rattle.link_world.proofs.Prelude.{option_map_or, All, option_map, ◌≡◌, ℕ, zero, suc, Bool, true, false, not, ◌&&◌, List, [], ◌∷◌, ◌++◌}
use Rattle.link_world.proofs.Prelude.{length, map, set, refl, sym, ap, ◌∙◌, subst, arith, Option, Some, None, slice_get, slice_index_or}
use Rattle.link_world.proofs.Prelude.{if◌then◌else◌, PlainSegment, has_syn, has_fin, has_rst, AppSpec, IsSteady, IsSnapshot, IsNow, IsU32}
use Rattle.link_world.proofs.Prelude.{Now, Sockets, Connection, closed, is_live, serves, same_sockets, segment_of, is_again, is_plain_syn}
use Rattle.link_world.proofs.Prelude.{reset_for_no_connection, syn_ack, Outcome, leaves, asked, accepted, on_segment, on_tick, Step, Event}
use Rattle.link_world.proofs.Prelude.{Reply, EchoAsked, Arrived, Periodic, Silent, NoSlot, Echo, TcpReply, initial_number, ticks_of}
use Rattle.link_world.proofs.Prelude.{AbstractNode, NodeStep, gone_by, snapshot, happened, slot_for_syn, opens_in, opens, refuses}
use Rattle.link_world.proofs.Prelude.{for_no_connection, arrives_at, step, passes, Setup, AbstractClient, ClientStep, client_takes}
use Rattle.link_world.proofs.Prelude.{client_opens, client_again, client_closes, client_aborts, advertises_window, World, Side, Sent}
use Rattle.link_world.proofs.Prelude.{Content, numbered, client_sockets, retires, retires_in, addressed, epoch, epoch_of, posts}
use Rattle.link_world.proofs.Prelude.{posts_reply, node_stepped, node_handles, with_client, with_side, posts_of_client, client_stepped}
use Rattle.link_world.proofs.Prelude.{marked, delivers, is_clean, past_connection_of, OfSegment, OfPing, OfEcho, client_acts, handles_all}
use Rattle.link_world.proofs.Prelude.{does, Act, Who, FromClient, FromNode, Pinger, era, serving, IsLoss, both_ways, choose, and_true}
use Rattle.link_world.proofs.Prelude.{only_some, same_is, flip, apart, serves_not, serves_dead, serves_yes, not_peer, find_is, get_set_same}
use Rattle.link_world.proofs.Prelude.{set_same, set_past, index_of, index_none, Single, Free, get_set, single_set, serving_is, serving_free}
use Rattle.link_world.proofs.Prelude.{serving_new, serving_gone, serving_other, finds, finds_none, here, there, FitConn, accepted_fits}
use Rattle.link_world.proofs.Prelude.{node_snapshot, serving_fits, slot_inside, on_segment_keeps, asked_keeps, on_tick_keeps}
use Rattle.link_world.proofs.Prelude.{on_tick_closed}
use Rattle.link_world.proofs.Doing.{at_number, where_there}
use Rattle.link_world.proofs.CleanClientInvariant.{seg, segment_in, from, to}
use Rattle.link_world.proofs.FitWorlds.{FitWorld, era_fits, put_fits, periodic_fits}
use Rattle.link_world.proofs.Setups.{SameSetup, takes_setup, opens_setup, again_setup, closes_setup, aborts_setup}
use Rattle.link_world.proofs.Harmless.{Harmless}
use Rattle.link_world.proofs.Sides.{Apart, buried, get_buried, buried_sockets, addressed_is, addressed_finds, gone_is, buried_here}
use Rattle.link_world.proofs.Sides.{buried_elsewhere, put_apart, clean_before}

-- a side whose connection c is gone
abbrev pub older : Side → Connection → Side
older side c = record side { history = side.history ++ past_connection_of c ∷ [] }

-- a segment that is sent, maybe again
pub record OutputModel : Type 0 where
  pub again : Bool
  pub segment : PlainSegment

abbrev pub model : Bool → PlainSegment → OutputModel
model again s = record { again = again; segment = s }

abbrev pub output_model_of : Option PlainSegment → Bool → Option OutputModel
output_model_of None again = None
output_model_of (Some s) again = Some (model again s)

speech_none : (output : Option PlainSegment) (again : Bool) → output_model_of output again ≡ None → output ≡ None
speech_none None again e = refl
speech_none (Some s) again e = absurd (cc)

speech_is : (P : OutputModel → Type 0) (output : Option PlainSegment) (again : Bool)
    → ((s : PlainSegment) → output ≡ Some s → P (model again s)) → (x : OutputModel) → output_model_of output again ≡ Some x → P x
speech_is P None again h x e = absurd (cc)
speech_is P (Some s) again h x e = only_some P (model again s) x e (h s refl)

abbrev pub entry : Who → Side → ℕ → ℕ → OutputModel → Sent
entry who side tick id x = record { who = who; tick = tick; epoch = length side.history; again = x.again; content = OfSegment id x.segment }

-- What the node's table makes of an event: the table afterwards, the connection that became CLOSED, and what is sent.
pub record Reacted : Type 0 where
  pub table : List Connection
  pub gone : Option Connection
  pub output : Option OutputModel

pub data Sends (peer : Sockets) (sent : Option Reply) (output : Option OutputModel) : Type 0 where
  sends_none : sent ≡ None → output ≡ None → Sends peer sent output
  sends_echo : (request : List ℕ) → sent ≡ Some (Echo request) → output ≡ None → Sends peer sent output
  sends_tcp : (id : ℕ) (x : OutputModel) → sent ≡ Some (TcpReply peer id x.again x.segment) → output ≡ Some x → Sends peer sent output

pub record Reaction (r : NodeStep) (peer : Sockets) (x : Reacted) : Type 0 where
  pub table : r.node.connections ≡ x.table
  pub gone : r.gone ≡ x.gone
  pub sends : Sends peer r.sent x.output

reply_sends : (output : Option PlainSegment) (sockets peer : Sockets) (id : ℕ) (again : Bool) → sockets ≡ peer
    → Sends peer (option_map (λ s. TcpReply sockets id again s) output) (output_model_of output again)
reply_sends None sockets peer id again e = sends_none refl refl
reply_sends (Some s) sockets peer id again e = sends_tcp id (model again s) (ap (λ p. Some (TcpReply p id again s)) e) refl

module _ (m : AppSpec) (G : ℕ → Side → Connection → List Sent → Type 0)
    (other : (k : ℕ) (side : Side) (c : Connection) (sent : List Sent) (e : Sent) → G k side c sent → (e.who ≡ to k → ⊥)
    → (e.who ≡ from k → ⊥) → G k side c (sent ++ e ∷ []))
    (reset : (k : ℕ) (side : Side) (c : Connection) (sent : List Sent) (e : Sent) → G k side c sent → e.epoch ≡ length side.history
    → has_syn (seg e).flags ≡ false → has_fin (seg e).flags ≡ false → (seg e).text ≡ [] → has_rst (seg e).flags ≡ true → e.again ≡ false
    → e.who ≡ to k → G k side c (sent ++ e ∷ []))
    (evict : (k : ℕ) (side : Side) (c : Connection) (sent : List Sent) → is_live c.state ≡ true → G k side c sent → G k (older side c) closed sent)
    (mark : (k : ℕ) (side : Side) (c : Connection) (sent : List Sent) (n : ℕ) (e : Sent) → G k side c sent → G k (marked side n e) c sent) where
  pub record Framed (w : World) : Type 0 where
    pub apart : Apart w.sides
    pub single : Single w.node.connections
    pub each : (k : ℕ) (side : Side) → slice_get w.sides k ≡ Some side → G k side (serving (client_sockets side) w.node.connections) w.sent

  -- what an event of the peer `peer` does to the side k: it receives something if it is the peer and something is sent
  record EffectOn (w : World) (peer : Sockets) (r : Reacted) (k : ℕ) (side : Side) : Type 0 where
    quiet : r.output ≡ None → G k (buried r.gone side) (serving (client_sockets side) r.table) w.sent
    aside : (client_sockets side ≡ peer → ⊥) → G k (buried r.gone side) (serving (client_sockets side) r.table) w.sent
    says : (x : OutputModel) → r.output ≡ Some x → client_sockets side ≡ peer → (tick id : ℕ)
        → G k (buried r.gone side) (serving (client_sockets side) r.table) (w.sent ++ entry (to k) (buried r.gone side) tick id x ∷ [])

  record Effect (w : World) (peer : Sockets) (r : Reacted) : Type 0 where
    single : Single r.table
    each : (k : ℕ) (side : Side) → slice_get w.sides k ≡ Some side → EffectOn w peer r k side

  abbrev posted : World → Who → Bool → Content → Sent
  posted w who again content = record { who = who; tick = ticks_of w.node.history; epoch = epoch_of who w.sides; again = again; content = content }

  -- a datagram of nobody's
  posts_aside : (w : World) (who : Who) (again : Bool) (content : Content) → Framed w → ((k : ℕ) → who ≡ to k → ⊥)
      → ((k : ℕ) → who ≡ from k → ⊥) → Framed (posts w who again content)
  posts_aside w who again content g t f = record {
    apart = g.apart;
    single = g.single;
    each = λ k side x. other k side (serving (client_sockets side) w.node.connections) w.sent (posted w who again content) (g.each k side x) (t k) (f k);
  }

  not_zero_number : (k : ℕ) → FromNode 0 ≡ to k → ⊥
  not_zero_number k e = let z : 0 ≡ suc k = cc in absurd (omega (arith, z))

  node_framed : (w : World) (peer : Sockets) (r : NodeStep) (x : Reacted) → Framed w → Reaction r peer x → Effect w peer x → Framed (node_stepped w r)
  node_framed w peer r x g re ex =
      let e : Effect w peer (record { table = r.node.connections; gone = r.gone; output = x.output }) =
      subst (λ t. Effect w peer (record { table = t; gone = r.gone; output = x.output })) (sym re.table)
      (subst (λ y. Effect w peer (record { table = x.table; gone = y; output = x.output })) (sym re.gone) ex) in
      let table : List Connection = r.node.connections in
      let sides : List Side = retires r.gone w.sides in
      let v : World = record w { node = r.node; sides = sides } in
      let set_apart : Apart sides = λ j k a b y z p. (let ma = get_buried r.gone w.sides j a y in let mb = get_buried r.gone w.sides k b z in
      g.apart j k ma.from mb.from ma.get mb.get (sym (buried_sockets r.gone ma.from) ∙ ap (λ o. client_sockets o) ma.is ∙ p
      ∙ sym (ap (λ o. client_sockets o) mb.is) ∙ buried_sockets r.gone mb.from)) in
      let at : (sent : List Sent) (k : ℕ) (side from : Side) → buried r.gone from ≡ side
      → G k (buried r.gone from) (serving (client_sockets from) table) sent → G k side (serving (client_sockets side) table) sent =
      λ sent k side from is h. (let q : client_sockets from ≡ client_sockets side = sym (buried_sockets r.gone from) ∙ ap (λ o. client_sockets o) is in
      subst (λ z. G k z (serving (client_sockets side) table) sent) is (subst (λ z. G k (buried r.gone from) (serving z table) sent) q h)) in
      elim re.sends [
        | sends_none q n ↦ subst (λ s. Framed (posts_reply v s)) (sym q)
            (record {
              apart = set_apart;
              single = e.single;
              each = λ k side y. (let b = get_buried r.gone w.sides k side y in
                  at w.sent k side b.from b.is ((e.each k b.from b.get).quiet n));
            })
        | sends_echo request q n ↦ subst (λ s. Framed (posts_reply v s)) (sym q)
            (posts_aside v (FromNode 0) false (OfEcho request)
            (record {
              apart = set_apart;
              single = e.single;
              each = λ k side y. (let b = get_buried r.gone w.sides k side y in
                  at w.sent k side b.from b.is ((e.each k b.from b.get).quiet n));
            })
            not_zero_number (λ k z. absurd (cc)))
        | sends_tcp id model q output ↦ subst (λ s. Framed (posts_reply v s)) (sym q) (record {
          apart = set_apart;
          single = e.single;
          each = λ k side y. (let bu = get_buried r.gone w.sides k side y in
              let same : client_sockets bu.from ≡ client_sockets side = sym (buried_sockets r.gone bu.from) ∙ ap (λ o. client_sockets o) bu.is in
              both_ways (same_sockets peer (client_sockets side))
              (λ b. let p : peer ≡ client_sockets side = same_is peer (client_sockets side) b in
              let t : addressed 1 peer sides ≡ suc k = addressed_finds peer k side sides set_apart y p in
              let stamp : epoch_of (FromNode (addressed 1 peer sides)) sides ≡ length side.history = ap
              (λ n. option_map_or epoch (numbered sides n) 0) t ∙ ap (λ o. option_map_or epoch o 0) y in
              let h : G k side (serving (client_sockets side) table) (w.sent ++ entry (to k) side (ticks_of r.node.history) id model ∷ []) =
              subst (λ u. G k side (serving (client_sockets side) table) (w.sent ++ entry (to k) u (ticks_of r.node.history) id model ∷ [])) bu.is
              (at (w.sent ++ entry (to k) (buried r.gone bu.from) (ticks_of r.node.history) id model ∷ []) k side bu.from bu.is
              ((e.each k bu.from bu.get).says model output (same ∙ sym p) (ticks_of r.node.history) id)) in
              subst (λ n. G k side (serving (client_sockets side) table)
              (w.sent ++ record {
                who = FromNode (addressed 1 peer sides);
                tick = ticks_of r.node.history;
                epoch = n;
                again = model.again;
                content = OfSegment id model.segment;
              } ∷ [])) (sym stamp)
              (subst (λ n. G k side (serving (client_sockets side) table)
              (w.sent ++ record {
                who = FromNode n;
                tick = ticks_of r.node.history;
                epoch = length side.history;
                again = model.again;
                content = OfSegment id model.segment;
              } ∷ [])) (sym t) h))
              (λ b. let n : peer ≡ client_sockets side → ⊥ = apart peer (client_sockets side) b in
              other k side (serving (client_sockets side) table) w.sent (posted v (FromNode (addressed 1 peer sides)) model.again (OfSegment id model.segment))
              (at w.sent k side bu.from bu.is ((e.each k bu.from bu.get).aside (λ z. n (sym z ∙ same))))
              (λ z. (let y' : addressed 1 peer sides ≡ suc k = cc in let a = addressed_is 1 peer k sides y' in
              let it : a.side ≡ side = (let i : a.index ≡ k = omega (arith, a.is) in let u : Some a.side ≡ Some side = sym a.get
              ∙ ap (slice_get sides) i ∙ y in cc) in n (a.same ∙ ap (λ o. client_sockets o) it)))
              (λ z. absurd (cc))));
        })
      ]

  -- one connection takes a step
  pub record Steps (w : World) (o : Outcome) (k : ℕ) (side : Side) : Type 0 where
    pub quiet : segment_of m o.connection o.step ≡ None → is_live o.connection.state ≡ true → G k side o.connection w.sent
    pub quiet_last : segment_of m o.connection o.step ≡ None → is_live o.connection.state ≡ false → G k (older side o.connection) closed w.sent
    pub says : (s : PlainSegment) → segment_of m o.connection o.step ≡ Some s → is_live o.connection.state ≡ true → (tick id : ℕ)
        → G k side o.connection (w.sent ++ entry (to k) side tick id (model (is_again o.step) s) ∷ [])
    pub sends_last : (s : PlainSegment) → segment_of m o.connection o.step ≡ Some s → is_live o.connection.state ≡ false → (tick id : ℕ)
        → G k (older side o.connection) closed (w.sent ++ entry (to k) (older side o.connection) tick id (model (is_again o.step) s) ∷ [])

  abbrev sent_text_by : Outcome → Option OutputModel
  sent_text_by o = output_model_of (segment_of m o.connection o.step) (is_again o.step)

  module _ (w : World) (i : ℕ) (old : Connection) (o : Outcome) (g : Framed w) (at : slice_get w.node.connections i ≡ Some old)
      (live : is_live old.state ≡ true) (peer : o.connection.sockets ≡ old.sockets)
      (steps : (k : ℕ) (side : Side) → slice_get w.sides k ≡ Some side → client_sockets side ≡ old.sockets → G k side old w.sent → Steps w o k side) where
    abbrev table : List Connection
    table = w.node.connections

    owns_step : (p : Sockets) → serves p o.connection ≡ true → (j : ℕ) (y : Connection) → slice_get table j ≡ Some y → serves p y ≡ true → j ≡ i
    owns_step p s j y h u =
        let q : serves p old ≡ true = serves_yes p old live
        (sym peer ∙ same_is o.connection.sockets p (and_true (is_live o.connection.state) (same_sockets o.connection.sockets p) s).1) in
        g.single p j i y old h at u q

    before_step : (k : ℕ) (side : Side) → slice_get w.sides k ≡ Some side → client_sockets side ≡ old.sockets → G k side old w.sent
    before_step k side x q = subst (λ z. G k side z w.sent) (serving_is table (client_sockets side) i old g.single at
        (serves_yes (client_sockets side) old live (sym q))) (g.each k side x)

    effect_goes_on : is_live o.connection.state ≡ true
        → Effect w old.sockets (record { table = set table i o.connection; gone = None; output = sent_text_by o })
    effect_goes_on l = record {
      single = single_set table g.single i old at o.connection owns_step;
      each = λ k side x. both_ways (same_sockets (client_sockets side) old.sockets)
          (λ e. let q : client_sockets side ≡ old.sockets = same_is (client_sockets side) old.sockets e in
          let after : serving (client_sockets side) (set table i o.connection) ≡ o.connection = serving_new table g.single i old at
          o.connection owns_step (client_sockets side) (serves_yes (client_sockets side) o.connection l (peer ∙ sym q)) in
          let st : Steps w o k side = steps k side x q (before_step k side x q) in
          record {
            quiet = λ n. subst (λ z. G k side z w.sent) (sym after) (st.quiet (speech_none (segment_of m o.connection o.step) (is_again o.step) n) l);
            aside = λ n. absurd (n q);
            says = λ s y z tick id. subst (λ c'. G k side c' (w.sent ++ entry (to k) side tick id s ∷ [])) (sym after)
                (speech_is (λ s'. G k side o.connection (w.sent ++ entry (to k) side tick id s' ∷ [])) (segment_of m o.connection o.step)
                (is_again o.step) (λ s' e'. st.says s' e' l tick id) s y);
          })
          (λ e. let n : same_sockets old.sockets (client_sockets side) ≡ false = flip (client_sockets side) old.sockets e in
          let after : serving (client_sockets side) (set table i o.connection) ≡ serving (client_sockets side) table =
          serving_other table g.single i old at o.connection owns_step (client_sockets side) (serves_not (client_sockets side) old n)
          (serves_not (client_sockets side) o.connection (ap (λ z. same_sockets z (client_sockets side)) peer ∙ n)) in
          let kept : G k side (serving (client_sockets side) (set table i o.connection)) w.sent = subst (λ z. G k side z w.sent) (sym after)
          (g.each k side x) in
          record { quiet = λ z. kept; aside = λ z. kept; says = λ s y z. absurd (apart (client_sockets side) old.sockets e z) });
    }

    effect_ends : is_live o.connection.state ≡ false
        → Effect w old.sockets (record { table = set table i o.connection; gone = Some o.connection; output = sent_text_by o })
    effect_ends l = record {
      single = single_set table g.single i old at o.connection owns_step;
      each = λ k side x. both_ways (same_sockets (client_sockets side) old.sockets)
          (λ e. let q : client_sockets side ≡ old.sockets = same_is (client_sockets side) old.sockets e in
          let after : serving (client_sockets side) (set table i o.connection) ≡ closed = serving_gone table g.single i old at o.connection
          owns_step (client_sockets side) (serves_yes (client_sockets side) old live (sym q)) (serves_dead (client_sockets side) o.connection l) in
          let st : Steps w o k side = steps k side x q (before_step k side x q) in
          let now : retires_in o.connection side ≡ older side o.connection = buried_here o.connection side (peer ∙ sym q) in
          record {
            quiet = λ n. subst (λ z. G k z (serving (client_sockets side) (set table i o.connection)) w.sent) (sym now)
                (subst (λ z. G k (older side o.connection) z w.sent) (sym after)
                (st.quiet_last (speech_none (segment_of m o.connection o.step) (is_again o.step) n) l));
            aside = λ n. absurd (n q);
            says = λ s y z tick id. subst (λ u. G k u (serving (client_sockets side) (set table i o.connection))
                (w.sent ++ entry (to k) u tick id s ∷ [])) (sym now)
                (subst (λ c'. G k (older side o.connection) c' (w.sent ++ entry (to k) (older side o.connection) tick id s ∷ [])) (sym after)
                (speech_is (λ s'. G k (older side o.connection) closed (w.sent ++ entry (to k) (older side o.connection) tick id s' ∷ []))
                (segment_of m o.connection o.step) (is_again o.step) (λ s' e'. st.sends_last s' e' l tick id) s y));
          })
          (λ e. let n : same_sockets old.sockets (client_sockets side) ≡ false = flip (client_sockets side) old.sockets e in
          let after : serving (client_sockets side) (set table i o.connection) ≡ serving (client_sockets side) table =
          serving_other table g.single i old at o.connection owns_step (client_sockets side) (serves_not (client_sockets side) old n)
          (serves_dead (client_sockets side) o.connection l) in
          let now : retires_in o.connection side ≡ side = buried_elsewhere o.connection side (ap (λ z. same_sockets z (client_sockets side)) peer ∙ n) in
          let kept : G k (retires_in o.connection side) (serving (client_sockets side) (set table i o.connection)) w.sent = subst
          (λ z. G k z (serving (client_sockets side) (set table i o.connection)) w.sent) (sym now)
          (subst (λ z. G k side z w.sent) (sym after) (g.each k side x)) in
          record { quiet = λ z. kept; aside = λ z. kept; says = λ s y z. absurd (apart (client_sockets side) old.sockets e z) });
    }

    effect_step : Effect w old.sockets (record { table = set table i o.connection; gone = gone_by old o.connection; output = sent_text_by o })
    effect_step =
        both_ways (is_live o.connection.state)
        (λ l. subst (λ x. Effect w old.sockets (record { table = set table i o.connection; gone = x; output = sent_text_by o }))
        (sym (gone_is (is_live old.state) (is_live o.connection.state) true live l o.connection)) (effect_goes_on l))
        (λ l. subst (λ x. Effect w old.sockets (record { table = set table i o.connection; gone = x; output = sent_text_by o }))
        (sym (gone_is (is_live old.state) (is_live o.connection.state) false live l o.connection)) (effect_ends l))

  -- nothing changes in the table
  effect_none : (w : World) (peer : Sockets) (output : Option OutputModel) → Framed w
      → ((x : OutputModel) → output ≡ Some x → (has_syn x.segment.flags ≡ false) × (has_fin x.segment.flags ≡ false) × (x.segment.text ≡ [])
      × (has_rst x.segment.flags ≡ true) × (x.again ≡ false)) →
      Effect w peer (record { table = w.node.connections; gone = None; output = output })
  effect_none w peer output g r = record {
    single = g.single;
    each = λ k side x. record {
      quiet = λ z. g.each k side x;
      aside = λ z. g.each k side x;
      says = λ y e z tick id. reset k side (serving (client_sockets side) w.node.connections) w.sent (entry (to k) side tick id y)
          (g.each k side x) refl (r y e).0 (r y e).1 (r y e).2 (r y e).3 (r y e).4 refl;
    };
  }

  -- a SYN takes a free slot
  module _ (w : World) (i : ℕ) (old new : Connection) (s : OutputModel) (g : Framed w) (at : slice_get w.node.connections i ≡ Some old)
      (live : is_live new.state ≡ true)
      (free : Free new.sockets w.node.connections)
      (births : (k : ℕ) (side : Side) → slice_get w.sides k ≡ Some side → client_sockets side ≡ new.sockets → G k side closed w.sent
      → (tick id : ℕ) → G k side new (w.sent ++ entry (to k) side tick id s ∷ [])) where
    abbrev conns : List Connection
    conns = w.node.connections

    owns_born : (p : Sockets) → serves p new ≡ true → (j : ℕ) (y : Connection) → slice_get conns j ≡ Some y → serves p y ≡ true → j ≡ i
    owns_born p u j y h v = absurd (let q : new.sockets ≡ p = same_is new.sockets p (and_true (is_live new.state) (same_sockets new.sockets p) u).1 in
        let z : serves p y ≡ false = ap (λ n. serves n y) (sym q) ∙ free j y h in cc)

    born_here : (k : ℕ) (side : Side) → slice_get w.sides k ≡ Some side → client_sockets side ≡ new.sockets → (tick id : ℕ)
        → G k side (serving (client_sockets side) (set conns i new)) (w.sent ++ entry (to k) side tick id s ∷ [])
    born_here k side x q tick id =
        let before : serving (client_sockets side) conns ≡ closed = serving_free conns (client_sockets side) (subst (λ n. Free n conns) (sym q) free) in
        let after : serving (client_sockets side) (set conns i new) ≡ new = serving_new conns g.single i old at new owns_born
        (client_sockets side) (serves_yes (client_sockets side) new live (sym q)) in
        subst (λ z. G k side z (w.sent ++ entry (to k) side tick id s ∷ [])) (sym after)
        (births k side x q (subst (λ z. G k side z w.sent) before (g.each k side x)) tick id)

    born_elsewhere : (left : Option Connection) (k : ℕ) (side : Side) → slice_get w.sides k ≡ Some side → same_sockets (client_sockets side)
        new.sockets ≡ false → serves (client_sockets side) old ≡ false → buried left side ≡ side →
        EffectOn w new.sockets (record { table = set conns i new; gone = left; output = Some s }) k side
    born_elsewhere left k side x e f now =
        let after : serving (client_sockets side) (set conns i new) ≡ serving (client_sockets side) conns = serving_other conns g.single i
        old at new owns_born (client_sockets side) f (serves_not (client_sockets side) new (flip (client_sockets side) new.sockets e)) in
        let kept : G k (buried left side) (serving (client_sockets side) (set conns i new)) w.sent = subst
        (λ z. G k z (serving (client_sockets side) (set conns i new)) w.sent) (sym now) (subst (λ z. G k side z w.sent) (sym after) (g.each k side x)) in
        record { quiet = λ z. kept; aside = λ z. kept; says = λ y h z. absurd (apart (client_sockets side) new.sockets e z) }

    born_same : (left : Option Connection) (k : ℕ) (side : Side) → slice_get w.sides k ≡ Some side → client_sockets side ≡ new.sockets
        → buried left side ≡ side →
        EffectOn w new.sockets (record { table = set conns i new; gone = left; output = Some s }) k side
    born_same left k side x q now =
        record {
          quiet = λ z. absurd (cc);
          aside = λ n. absurd (n q);
          says = λ y h z tick id. subst (λ u. G k u (serving (client_sockets side) (set conns i new)) (w.sent ++ entry (to k) u tick id y ∷ [])) (sym now)
              (only_some (λ t. G k side (serving (client_sockets side) (set conns i new)) (w.sent ++ entry (to k) side tick id t ∷ [])) s y
              h (born_here k side x q tick id));
        }

    born_evicts : (k : ℕ) (side : Side) → slice_get w.sides k ≡ Some side → same_sockets (client_sockets side) new.sockets ≡ false
        → is_live old.state ≡ true → client_sockets side ≡ old.sockets →
        EffectOn w new.sockets (record { table = set conns i new; gone = Some old; output = Some s }) k side
    born_evicts k side x e l q =
        let before : serving (client_sockets side) conns ≡ old = serving_is conns (client_sockets side) i old g.single at
        (serves_yes (client_sockets side) old l (sym q)) in
        let after : serving (client_sockets side) (set conns i new) ≡ closed = serving_gone conns g.single i old at new owns_born
        (client_sockets side) (serves_yes (client_sockets side) old l (sym q))
        (serves_not (client_sockets side) new (flip (client_sockets side) new.sockets e)) in
        let now : retires_in old side ≡ older side old = buried_here old side (sym q) in
        let kept : G k (retires_in old side) (serving (client_sockets side) (set conns i new)) w.sent = subst
        (λ z. G k z (serving (client_sockets side) (set conns i new)) w.sent) (sym now)
        (subst (λ z. G k (older side old) z w.sent) (sym after) (evict k side old w.sent l (subst (λ z. G k side z w.sent) before (g.each k side x)))) in
        record { quiet = λ z. kept; aside = λ z. kept; says = λ y h z. absurd (apart (client_sockets side) new.sockets e z) }

    effect_born : Effect w new.sockets (record { table = set conns i new; gone = (if is_live old.state then Some old else None); output = Some s })
    effect_born =
        both_ways (is_live old.state)
        (λ l. subst (λ x. Effect w new.sockets (record { table = set conns i new; gone = x; output = Some s }))
        (sym (ap (λ b. if b then Some old else None) l)) (record {
          single = single_set conns g.single i old at new owns_born;
          each = λ k side x. both_ways (same_sockets (client_sockets side) new.sockets)
              (λ e. let q : client_sockets side ≡ new.sockets = same_is (client_sockets side) new.sockets e in
              born_same (Some old) k side x q (buried_elsewhere old side
              (not_peer (client_sockets side) old l (subst (λ n. serves n old ≡ false) (sym q) (free i old at)))))
              (λ e. both_ways (same_sockets (client_sockets side) old.sockets)
              (λ f. born_evicts k side x e l (same_is (client_sockets side) old.sockets f))
              (λ f. born_elsewhere (Some old) k side x e (serves_not (client_sockets side) old (flip (client_sockets side) old.sockets f))
              (buried_elsewhere old side (flip (client_sockets side) old.sockets f))));
        }))
        (λ l. subst (λ x. Effect w new.sockets (record { table = set conns i new; gone = x; output = Some s }))
        (sym (ap (λ b. if b then Some old else None) l)) (record {
          single = single_set conns g.single i old at new owns_born;
          each = λ k side x. both_ways (same_sockets (client_sockets side) new.sockets)
              (λ e. born_same None k side x (same_is (client_sockets side) new.sockets e) refl)
              (λ e. born_elsewhere None k side x e (serves_dead (client_sockets side) old l) refl);
        }))

  -- the side n is put anew, and maybe a datagram is sent
  put_with : (w : World) (n : ℕ) (side new : Side) (sent : List Sent) → Framed w → slice_get w.sides n ≡ Some side
      → client_sockets new ≡ client_sockets side → G n new (serving (client_sockets side) w.node.connections) sent →
      ((k : ℕ) (x : Side) → (k ≡ n → ⊥) → G k x (serving (client_sockets x) w.node.connections) w.sent
      → G k x (serving (client_sockets x) w.node.connections) sent) → Framed (record (with_side w (suc n) new) { sent = sent })
  put_with w n side new sent g at q h others = record {
    apart = put_apart w.sides n side new at q g.apart;
    single = g.single;
    each = λ k x y. elim (get_set w.sides n new k x y) [
      | here e f ↦ subst (λ z. G z x (serving (client_sockets x) w.node.connections) sent) (sym e)
          (subst (λ (o : Side). G n o (serving (client_sockets o) w.node.connections) sent) f
          (subst (λ z. G n new (serving z w.node.connections) sent) (sym q) h))
      | there p z ↦ others k x p (g.each k x z)
    ];
  }

  put_framed : (w : World) (n : ℕ) (side new : Side) → Framed w → slice_get w.sides n ≡ Some side → client_sockets new ≡ client_sockets side
      → G n new (serving (client_sockets side) w.node.connections) w.sent → Framed (with_side w (suc n) new)
  put_framed w n side new g at q h = put_with w n side new w.sent g at q h (λ k x p z. z)

  marked_framed : (w : World) (n : ℕ) (side : Side) (number : ℕ) (e : Sent) → Framed w → slice_get w.sides n ≡ Some side
      → Framed (with_side w (suc n) (marked side number e))
  marked_framed w n side number e g at = put_framed w n side (marked side number e) g at refl
      (mark n side (serving (client_sockets side) w.node.connections) w.sent number e (g.each n side at))

  -- what a step of the client has to keep
  pub record Refines (w : World) (k : ℕ) (base : Side) (c : Connection) (took : ClientStep) : Type 0 where
    pub quiet : took.sent ≡ None → G k (with_client base took.client) c w.sent
    pub says : (s : PlainSegment) → took.sent ≡ Some s → (tick : ℕ) → G k (with_client base took.client) c
        (w.sent ++ entry (from k) (with_client base took.client) tick 0 (model false s) ∷ [])

  sent_framed : (w : World) (n : ℕ) (side new : Side) (sent : Option PlainSegment) → Framed w → slice_get w.sides n ≡ Some side
      → client_sockets new ≡ client_sockets side → (sent ≡ None → G n new (serving (client_sockets side) w.node.connections) w.sent) →
      ((s : PlainSegment) → sent ≡ Some s → Framed (posts (with_side w (suc n) new) (FromClient (suc n)) false (OfSegment 0 s)))
      → Framed (posts_of_client (with_side w (suc n) new) (suc n) sent)
  sent_framed w n side new None g at q h f = put_framed w n side new g at q (h refl)
  sent_framed w n side new (Some s) g at q h f = f s refl

  client_framed : (w : World) (n : ℕ) (side base : Side) (took : ClientStep) → Framed w → slice_get w.sides n ≡ Some side
      → client_sockets base ≡ client_sockets side → took.client.setup ≡ base.client.setup →
      Refines w n base (serving (client_sockets side) w.node.connections) took → Framed (client_stepped w (suc n) base took)
  client_framed w n side base took g at q setup t =
      let new : Side = with_client base took.client in
      let keeps : client_sockets new ≡ client_sockets side = ap
      (λ (z : Setup). let x : Sockets = record { peer = z.addr; peer_port = z.port; own_port = z.server_port } in x) setup ∙ q in
      let stamp : epoch_of (FromClient (suc n)) (set w.sides n new) ≡ length base.history = ap (λ o. option_map_or epoch o 0)
      (get_set_same w.sides n side new at) in
      sent_framed w n side new took.sent g at keeps t.quiet
      (λ s e. let it : List Sent = w.sent ++ entry (FromClient (suc n)) new (ticks_of w.node.history) 0 (model false s) ∷ [] in
      subst (λ l. Framed (record (with_side w (suc n) new) {
        sent = w.sent ++ record {
          who = FromClient (suc n);
          tick = ticks_of w.node.history;
          epoch = l;
          again = false;
          content = OfSegment 0 s;
        } ∷ [];
      })) (sym stamp)
      (put_with w n side new it g at keeps (t.says s e (ticks_of w.node.history))
      (λ k x p z. other k x (serving (client_sockets x) w.node.connections) w.sent (entry (FromClient (suc n)) new (ticks_of w.node.history)
      0 (model false s)) z (λ u. absurd (cc)) (λ u. p (let r : suc n ≡ suc k = cc in omega (arith, r))))))

  abbrev pub Own : (AbstractClient → ClientStep) → Type 0
  Own act = (w : World) (k : ℕ) (side : Side) (c : Connection) → ((o : ℕ) → All IsSnapshot (era side.history c o).snapshots)
      → G k side c w.sent → Refines w k side c (act side.client)

  -- what the steps of a client do
  pub record OnClients : Type 0 where
    pub took : (w : World) (k j : ℕ) (side : Side) (c : Connection) (number : ℕ) (e : Sent)
        → ((o : ℕ) → All IsSnapshot (era side.history c o).snapshots) → slice_get w.sent j ≡ Some e → e.who ≡ to k → G k side c w.sent
        → Refines w k (marked side number e) c (client_takes side.client (seg e))
    pub opens : Own client_opens
    pub again : Own client_again
    pub closes : Own client_closes
    pub aborts : Own client_aborts
    pub windows : (x : ℕ) → Own (advertises_window x)

  -- where it is the same whatever the client does
  pub any_step : ((w : World) (k : ℕ) (side : Side) (c : Connection) (t : ClientStep) → G k side c w.sent → Refines w k side c t) → OnClients
  any_step takes = record {
    took = λ w k j side c number e fit sent who g. takes w k (marked side number e) c (client_takes side.client (seg e)) (mark k side c w.sent number e g);
    opens = λ w k side c fit g. takes w k side c (client_opens side.client) g;
    again = λ w k side c fit g. takes w k side c (client_again side.client) g;
    closes = λ w k side c fit g. takes w k side c (client_closes side.client) g;
    aborts = λ w k side c fit g. takes w k side c (client_aborts side.client) g;
    windows = λ x w k side c fit g. takes w k side c (advertises_window x side.client) g;
  }

  -- the acts
  module _ (steady : IsSteady m) (served : ℕ → Bool)
      (segment : (w : World) (old : Connection) (numbers : List ℕ) (now : Connection → Now) (k j : ℕ) (side : Side) (e : Sent)
      → is_live old.state ≡ true → FitConn old → All IsU32 numbers → ((c : Connection) → FitConn c → IsNow (now c)) →
      slice_get w.sent j ≡ Some e → e.who ≡ from k → (is_clean side ≡ true → e.epoch ≡ length side.history) → G k side old w.sent
      → Steps w (asked m now (on_segment m old numbers (seg e))) k side)
      (tick : (w : World) (old : Connection) (numbers : List ℕ) (now : Connection → Now) (k : ℕ) (side : Side) → is_live old.state ≡ true
      → FitConn old → All IsU32 numbers → ((c : Connection) → FitConn c → IsNow (now c)) →
      G k side old w.sent → Steps w (asked m now (on_tick m old numbers)) k side)
      (birth : (w : World) (iss : ℕ) (sockets : Sockets) (k j : ℕ) (side : Side) (e : Sent) → client_sockets side ≡ sockets
      → slice_get w.sent j ≡ Some e → e.who ≡ from k → (is_clean side ≡ true → e.epoch ≡ length side.history) →
      is_plain_syn (seg e) ≡ true → FitConn (accepted iss sockets (seg e)) → G k side closed w.sent → (tick id : ℕ)
      → G k side (accepted iss sockets (seg e)) (w.sent ++ entry (to k) side tick id (model false (syn_ack (accepted iss sockets (seg e)))) ∷ []))
      (clients : OnClients) where
    -- a connection in a slot took a step
    happened_reacts : (n : AbstractNode) (event : Event) (slot : ℕ) (old : Connection) (o : Outcome) → o.connection.sockets ≡ old.sockets →
        Reaction (happened m n event slot old o) old.sockets
        (record { table = set n.connections slot o.connection; gone = gone_by old o.connection; output = sent_text_by o })
    unfolding happened
    happened_reacts n event slot old o p = record {
      table = refl;
      gone = refl;
      sends = reply_sends (segment_of m o.connection o.step)
          o.connection.sockets old.sockets _ (is_again o.step) p;
    }

    -- a datagram of client n at the node
    module _ (w : World) (n j : ℕ) (side : Side) (e : Sent) (g : Framed w) (fw : FitWorld w) (seat : slice_get w.sides n ≡ Some side)
        (sent : slice_get w.sent j ≡ Some e) (who : e.who ≡ from n)
        (fresh : is_clean side ≡ true → e.epoch ≡ length side.history) where
      abbrev peer : Sockets
      peer = client_sockets side

      abbrev arrival : Event
      arrival = Arrived (client_sockets side) (seg e)

      record IsHere (k : ℕ) (x : Side) : Type 0 where
        number : n ≡ k
        side_is : side ≡ x

      is_here : (k : ℕ) (x : Side) → slice_get w.sides k ≡ Some x → client_sockets x ≡ client_sockets side → IsHere k x
      is_here k x y q = let i : k ≡ n = g.apart k n x side y seat q in
          record { number = sym i; side_is = (let z : Some side ≡ Some x = sym seat ∙ ap (slice_get w.sides) (sym i) ∙ y in cc) }

      fresh_at : (k : ℕ) (x : Side) → side ≡ x → is_clean x ≡ true → e.epoch ≡ length x.history
      fresh_at k x q c = fresh (ap (λ (o : Side). is_clean o) q ∙ c) ∙ ap (λ (o : Side). length o.history) q

      arrives_there : (i : ℕ) (c : Connection) → slice_get w.node.connections i ≡ Some c → is_live c.state ≡ true → c.sockets ≡ client_sockets side →
          Framed (node_stepped w (happened m w.node arrival i c (asked m (snapshot w.node arrival i) (on_segment m c w.node.numbers (seg e)))))
      arrives_there i c at live q =
          let o : Outcome = asked m (snapshot w.node arrival i) (on_segment m c w.node.numbers (seg e)) in
          let keeps : o.connection.sockets ≡ c.sockets = asked_keeps m (snapshot w.node arrival i) c (on_segment m c w.node.numbers (seg e))
          (on_segment_keeps m c w.node.numbers (seg e)) in
          node_framed w c.sockets (happened m w.node arrival i c o) _ g (happened_reacts w.node arrival i c o keeps)
          (effect_step w i c o g at live keeps
          (λ k x y p h. let r = is_here k x y (p ∙ q) in
          segment w c w.node.numbers (snapshot w.node arrival i) k j x e live (fw.node.conns i c at) fw.node.numbers
          (node_snapshot m steady w.node arrival i fw.node) sent (who ∙ ap (λ z. from z) r.number) (fresh_at k x r.side_is) h))

      opens_reacts : (slot : ℕ) (old : Connection) → slice_index_or w.node.connections slot closed ≡ old →
          Reaction (opens_in m w.node (client_sockets side) (seg e) slot) (client_sockets side)
          (record {
            table = set w.node.connections slot (accepted (initial_number w.node.history) (client_sockets side) (seg e));
            gone = (if is_live old.state then Some old else None);
            output = Some (model false (syn_ack (accepted (initial_number w.node.history) (client_sockets side) (seg e))));
          })
      unfolding opens_in happened
      opens_reacts slot old q = record {
        table = refl;
        gone = ap (λ (x : Connection). if is_live x.state then Some x else None) q;
        sends = sends_tcp _ (model false (syn_ack (accepted (initial_number w.node.history) (client_sockets side) (seg e)))) refl refl;
      }

      opens_there : (slot : ℕ) (old : Connection) → slice_get w.node.connections slot ≡ Some old
          → Free (client_sockets side) w.node.connections → is_plain_syn (seg e) ≡ true
          → Framed (node_stepped w (opens_in m w.node (client_sockets side) (seg e) slot))
      opens_there slot old at free plain =
          let iss : ℕ = initial_number w.node.history in
          let new : Connection = accepted iss (client_sockets side) (seg e) in
          node_framed w (client_sockets side) (opens_in m w.node (client_sockets side) (seg e) slot) _ g
          (opens_reacts slot old (index_of w.node.connections slot closed old at))
          (effect_born w slot old new (model false (syn_ack new)) g at refl free
          (λ k x y q c. let r = is_here k x y q in birth w iss (client_sockets side) k j x e q sent (who ∙ ap (λ z. from z) r.number)
          (fresh_at k x r.side_is) plain (accepted_fits m steady iss (client_sockets side) (seg e) (fw.sides n side seat).addr (fw.sides n side seat).port) c))

      passes_framed : (answer : Rattle.uip_node.specs.Events.Answer) → Framed (node_stepped w (passes w.node arrival answer))
      passes_framed answer = node_framed w peer (passes w.node arrival answer)
          (record { table = w.node.connections; gone = None; output = None }) g record {
            table = refl;
            gone = refl;
            sends = sends_none refl refl;
          } (effect_none w peer None g (λ x y. absurd (cc)))

      slot_framed : (slot : Option ℕ) → slot_for_syn w.node.connections ≡ slot → Free (client_sockets side) w.node.connections
          → is_plain_syn (seg e) ≡ true → Framed (node_stepped w (opens m w.node (client_sockets side) (seg e) slot))
      slot_framed None q f plain = passes_framed NoSlot
      slot_framed (Some slot) q f plain = let i = slot_inside w.node.connections slot q in opens_there slot i.item i.get f plain

      stranger_framed : Free (client_sockets side) w.node.connections
          → Framed (node_stepped w (for_no_connection m served w.node (client_sockets side) (seg e)))
      unfolding for_no_connection
      stranger_framed f =
          choose (λ r. Framed (node_stepped w r)) (is_plain_syn (seg e) && served (client_sockets side).own_port.0) _ _
          (λ a. slot_framed (slot_for_syn w.node.connections) refl f (and_true _ _ a).0)
          (λ a. choose (λ r. Framed (node_stepped w r)) (has_rst (seg e).flags) _ _ (λ b. passes_framed Silent)
          (λ b. node_framed w peer (refuses w.node (client_sockets side) (seg e))
          (record { table = w.node.connections; gone = None; output = Some (model false (reset_for_no_connection (seg e))) }) g
          record { table = refl; gone = refl; sends = sends_tcp _ (model false (reset_for_no_connection (seg e))) refl refl }
          (effect_none w peer (Some (model false (reset_for_no_connection (seg e)))) g
          (λ x y. only_some (λ z. (has_syn z.segment.flags ≡ false) × (has_fin z.segment.flags ≡ false) × (z.segment.text ≡ [])
          × (has_rst z.segment.flags ≡ true) × (z.again ≡ false)) (model false (reset_for_no_connection (seg e))) x y (refl, refl, refl, refl, refl)))))

      arrives_framed : Framed (node_handles m served w arrival)
      arrives_framed =
          elim (find_is (client_sockets side) w.node.connections) [
            | finds i f at u ↦ (let c : Connection = serving (client_sockets side) w.node.connections in
                let a = and_true (is_live c.state) (same_sockets c.sockets (client_sockets side)) u in
                subst (λ x. Framed (node_stepped w (arrives_at m served w.node (client_sockets side) (seg e) x))) (sym (f ∙ ap Some (omega arith)))
                (subst (λ x. Framed (node_stepped w (happened m w.node arrival i x
                (asked m (snapshot w.node arrival i) (on_segment m x w.node.numbers (seg e)))))) (sym (index_of w.node.connections i closed c at))
                (arrives_there i c at a.0 (same_is c.sockets (client_sockets side) a.1))))
            | finds_none f free ↦ subst (λ x. Framed (node_stepped w (arrives_at m served w.node (client_sockets side) (seg e) x))) (sym f)
                (stranger_framed free)
          ]

    to_node : (w : World) (n k j : ℕ) (e : Sent) (s : PlainSegment) (side : Side) → Framed w → FitWorld w → slice_get w.sides n ≡ Some side
        → slice_get w.sent j ≡ Some e → e.who ≡ from n → seg e ≡ s
        → Framed (node_handles m served (with_side w (suc n) (marked side k e)) (Arrived (client_sockets side) s))
    to_node w n k j e s side g fw at sent who q =
        let v : World = with_side w (suc n) (marked side k e) in
        let vg : Framed v = marked_framed w n side k e g at in
        subst (λ x. Framed (node_handles m served v (Arrived (client_sockets side) x))) q
        (arrives_framed v n j (marked side k e) e vg (put_fits w n side (marked side k e) at refl refl fw)
        (get_set_same w.sides n side (marked side k e) at) sent who (λ c. (clean_before side k e c).1))

    eras_fit : (w : World) (n : ℕ) (side : Side) → FitWorld w → slice_get w.sides n ≡ Some side → (o : ℕ)
        → All IsSnapshot (era side.history (serving (client_sockets side) w.node.connections) o).snapshots
    eras_fit w n side f at o = era_fits side.history (serving (client_sockets side) w.node.connections) (f.sides n side at).eras
        (serving_fits (client_sockets side) w.node.connections f.node.conns) o

    to_client : (w : World) (n k j : ℕ) (e : Sent) (s : PlainSegment) (side : Side) → Framed w → FitWorld w
        → slice_get w.sides n ≡ Some side → slice_get w.sent j ≡ Some e → e.who ≡ to n → seg e ≡ s
        → Framed (client_stepped w (suc n) (marked side k e) (client_takes side.client s))
    to_client w n k j e s side g fw at sent who q =
        subst (λ x. Framed (client_stepped w (suc n) (marked side k e) (client_takes side.client x))) q
        (client_framed w n side (marked side k e) (client_takes side.client (seg e)) g at refl (takes_setup side.client (seg e))
        (clients.took w n j side (serving (client_sockets side) w.node.connections) k e (eras_fit w n side fw at) sent who (g.each n side at)))

    echo_framed : (w : World) (datagram : List ℕ) → Framed w → Framed (node_handles m served w (EchoAsked datagram))
    echo_framed w datagram g = node_framed w closed.sockets (step m served w.node (EchoAsked datagram))
        (record { table = w.node.connections; gone = None; output = None }) g record {
          table = refl;
          gone = refl;
          sends = sends_echo datagram refl refl;
        } (effect_none w closed.sockets None g (λ x y. absurd (cc)))

    delivers_framed : (w : World) (k j : ℕ) (e : Sent) (who : Who) (content : Content) → Framed w → FitWorld w → slice_get w.sent j ≡ Some e
        → e.who ≡ who → e.content ≡ content → Framed (delivers m served w k e who content)
    delivers_framed w k j e (FromClient zero) (OfSegment id s) g fw sent q r = g
    delivers_framed w k j e (FromClient (suc n)) (OfSegment id s) g fw sent q r =
        where_there Framed (λ side. node_handles m served (with_side w (suc n) (marked side k e)) (Arrived (client_sockets side) s)) (slice_get w.sides n) w g
        (λ side at. to_node w n k j e s side g fw at sent q (ap segment_in r))
    delivers_framed w k j e (FromNode zero) (OfSegment id s) g fw sent q r = g
    delivers_framed w k j e (FromNode (suc n)) (OfSegment id s) g fw sent q r =
        where_there Framed (λ side. client_stepped w (suc n) (marked side k e) (client_takes side.client s)) (slice_get w.sides n) w g
        (λ side at. to_client w n k j e s side g fw at sent q (ap segment_in r))
    delivers_framed w k j e Pinger (OfPing datagram) g fw sent q r = echo_framed w datagram g
    delivers_framed w k j e (FromClient n) (OfPing datagram) g fw sent q r = g
    delivers_framed w k j e (FromClient n) (OfEcho request) g fw sent q r = g
    delivers_framed w k j e (FromNode n) (OfPing datagram) g fw sent q r = g
    delivers_framed w k j e (FromNode n) (OfEcho request) g fw sent q r = g
    delivers_framed w k j e Pinger (OfSegment id s) g fw sent q r = g
    delivers_framed w k j e Pinger (OfEcho request) g fw sent q r = g

    act_framed : (w : World) (number : ℕ) (act : AbstractClient → ClientStep) → Own act → ((c : AbstractClient) → SameSetup c (act c))
        → Framed w → FitWorld w → Framed (client_acts w number act)
    act_framed w number act own s g fw =
        at_number Framed (λ i side. client_stepped w i side (act side.client)) w.sides number w g
        (λ n side at. client_framed w n side side (act side.client) g at refl (s side.client)
        (own w n side (serving (client_sockets side) w.node.connections) (eras_fit w n side fw at) (g.each n side at)))

    -- the periodic call of a slot
    idle_slot : (w : World) (i : ℕ) (c : Connection) → set w.node.connections i c ≡ w.node.connections → is_live c.state ≡ false → Framed w
        → Framed (node_stepped w (happened m w.node (Periodic i) i c (leaves c w.node.numbers Step.Drop)))
    idle_slot w i c same l g =
        node_framed w c.sockets (happened m w.node (Periodic i) i c (leaves c w.node.numbers Step.Drop)) _ g
        (happened_reacts w.node (Periodic i) i c (leaves c w.node.numbers Step.Drop) refl)
        (subst (λ x. Effect w c.sockets (record { table = set w.node.connections i c; gone = x; output = None }))
        (sym (ap (λ b. if b && not (is_live c.state) then Some c else None) l))
        (subst (λ t. Effect w c.sockets (record { table = t; gone = None; output = None })) (sym same) (effect_none w c.sockets None g (λ x y. absurd (cc)))))

    live_slot : (w : World) (i : ℕ) (c : Connection) → slice_get w.node.connections i ≡ Some c → is_live c.state ≡ true → Framed w
        → FitWorld w → Framed (node_stepped w (happened m w.node (Periodic i) i c (asked m (snapshot w.node (Periodic i) i) (on_tick m c w.node.numbers))))
    live_slot w i c at l g fw =
        let o : Outcome = asked m (snapshot w.node (Periodic i) i) (on_tick m c w.node.numbers) in
        let keeps : o.connection.sockets ≡ c.sockets = asked_keeps m (snapshot w.node (Periodic i) i) c (on_tick m c w.node.numbers)
        (on_tick_keeps m c w.node.numbers) in
        node_framed w c.sockets (happened m w.node (Periodic i) i c o) _ g (happened_reacts w.node (Periodic i) i c o keeps)
        (effect_step w i c o g at l keeps (λ k side x q h. tick w c w.node.numbers (snapshot w.node (Periodic i) i) k side l
        (fw.node.conns i c at) fw.node.numbers (node_snapshot m steady w.node (Periodic i) i fw.node) h))

    some_slot : (w : World) (i : ℕ) (c : Connection) → slice_get w.node.connections i ≡ Some c → Framed w → FitWorld w
        → Framed (node_stepped w (happened m w.node (Periodic i) i c (asked m (snapshot w.node (Periodic i) i) (on_tick m c w.node.numbers))))
    some_slot w i c at g fw =
        both_ways (is_live c.state) (λ l. live_slot w i c at l g fw)
        (λ l. subst (λ o. Framed (node_stepped w (happened m w.node (Periodic i) i c (asked m (snapshot w.node (Periodic i) i) o))))
        (sym (on_tick_closed m c w.node.numbers l)) (idle_slot w i c (set_same w.node.connections i c at) l g))

    slot_ticks : (w : World) (i : ℕ) (c : Option Connection) → slice_get w.node.connections i ≡ c → Framed w → FitWorld w
        → Framed (node_handles m served w (Periodic i))
    slot_ticks w i (Some c) at g fw = subst (λ x. Framed
        (node_stepped w (happened m w.node (Periodic i) i x (asked m (snapshot w.node (Periodic i) i) (on_tick m x w.node.numbers)))))
        (sym (index_of w.node.connections i closed c at)) (some_slot w i c at g fw)
    slot_ticks w i None at g fw = subst (λ x. Framed
        (node_stepped w (happened m w.node (Periodic i) i x (asked m (snapshot w.node (Periodic i) i) (on_tick m x w.node.numbers)))))
        (sym (index_none w.node.connections i closed at)) (idle_slot w i closed (set_past w.node.connections i closed at) refl g)

    slots_framed : (slots : List ℕ) (w : World) → Framed w → FitWorld w → Framed (handles_all m served (map Periodic slots) w)
    slots_framed [] w g fw = g
    slots_framed (i ∷ slots) w g fw = slots_framed slots (node_handles m served w (Periodic i))
        (slot_ticks w i (slice_get w.node.connections i) refl g fw) (periodic_fits m steady served w i fw)

    loss_framed : (w v : World) → IsLoss w v → Framed w → Framed v
    loss_framed w v l g = record {
      apart = subst (λ x. Apart x) (sym l.sides) g.apart;
      single = subst (λ x. Single x) (sym l.connections) g.single;
      each = λ k side x. (let y : slice_get w.sides k ≡ Some side = ap (λ (s : List Side). slice_get s k) (sym l.sides) ∙ x in
          subst (λ t. G k side (serving (client_sockets side) t) v.sent) (sym l.connections)
          (subst (λ s. G k side (serving (client_sockets side) w.node.connections) s) (sym l.sent) (g.each k side y)));
    }

    pub does_framed : (w : World) (act : Act) → Harmless m served w act → Framed w → FitWorld w → Framed (does m served w act)
    does_framed w (Act.Opens n) pl g fw = act_framed w n client_opens clients.opens opens_setup g fw
    does_framed w (Act.Again n) pl g fw = act_framed w n client_again clients.again again_setup g fw
    does_framed w (Act.Closes n) pl g fw = act_framed w n client_closes clients.closes closes_setup g fw
    does_framed w (Act.Aborts n) pl g fw = act_framed w n client_aborts clients.aborts aborts_setup g fw
    does_framed w (Act.Window n x) pl g fw = act_framed w n (advertises_window x) (clients.windows x) (λ c. refl) g fw
    does_framed w (Act.Ping source) pl g fw = posts_aside w Pinger false _ g (λ k z. absurd (cc)) (λ k z. absurd (cc))
    does_framed w (Act.Give k) pl g fw =
        at_number Framed (λ i e. delivers m served w i e e.who e.content) w.sent k w g (λ n e at. delivers_framed w (suc n) n e e.who
        e.content g fw at refl refl)
    does_framed w (Act.Damage k at mask) pl g fw = loss_framed w (does m served w (Act.Damage k at mask)) pl g
    does_framed w Act.Tick pl g fw = slots_framed (0 ∷ 1 ∷ 2 ∷ 3 ∷ 4 ∷ 5 ∷ 6 ∷ 7 ∷ 8 ∷ 9 ∷ []) w g fw
