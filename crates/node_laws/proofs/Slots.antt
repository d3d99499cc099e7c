-- What an event does to the connection in one slot, and what it adds to the exchanges with its peer.
use Rattle.node_laws.proofs.Prelude.{option_or, option_map, ◌≡◌, ℕ, zero, suc, ◌+◌, Bool, true, false, not, ◌==◌, ◌&&◌, ◌⊎◌, inl, inr, List}
use Rattle.node_laws.proofs.Prelude.{[], ◌∷◌, set, position, refl, sym, ap, ◌∙◌, subst, arith, Option, Some, None, slice_get}
use Rattle.node_laws.proofs.Prelude.{slice_index_or, eqb, eq-eqb, PlainSegment, has_rst, AppSpec, is_time_wait, longest_wait, Sockets}
use Rattle.node_laws.proofs.Prelude.{Connection, closed, is_live, serves, same_sockets, segment_of, is_again, is_plain_syn}
use Rattle.node_laws.proofs.Prelude.{reset_for_no_connection, syn_ack, Outcome, leaves, asked, accepted, on_segment, on_tick, Step}
use Rattle.node_laws.proofs.Prelude.{initial_number, ident_of, Event, IpRefused, IcmpRefused, TcpRefused, EchoAsked, Arrived, Overlong}
use Rattle.node_laws.proofs.Prelude.{Periodic, TcpReply, AbstractNode, NodeStep, snapshot, happened, connection_in, slot_for_syn, opens_in}
use Rattle.node_laws.proofs.Prelude.{opens, refuses, for_no_connection, arrives_at, periodic, step, serving, both_ways, choose, and_true}
use Rattle.node_laws.proofs.Prelude.{eqb-eq, not-true, same_is, is_same, serves_not, find_is, get_set, get_set_other, index_of, Single}
use Rattle.node_laws.proofs.Prelude.{here, there, finds, finds_none, found, on_segment_keeps, asked_keeps, on_tick_keeps, on_tick_closed}
use Rattle.node_laws.proofs.Prelude.{received_from, sent_to, exchange}
use Rattle.uip_node.proofs.Connections.{Free}
use Rattle.node_laws.proofs.Lines.{quiet, met, meets, came_here, came_elsewhere, sent_here, sent_elsewhere}

-- ---- the slot that a SYN takes

either : (a b : Option ℕ) (i : ℕ) → option_or a b ≡ Some i → (a ≡ Some i) ⊎ (b ≡ Some i)
either (Some j) b i h = inl h
either None b i h = inr h

pub slot_free : (cs : List Connection) (i : ℕ) (c : Connection) → slot_for_syn cs ≡ Some i → slice_get cs i ≡ Some c
    → is_live c.state ≡ true → is_time_wait c.state ≡ true
slot_free cs i c h at live =
    let free : Connection → Bool = λ c. not (is_live c.state) in
    let rested : Connection → Bool = λ c. is_time_wait c.state && (c.age == longest_wait (λ c. c.state) (λ c. c.age) cs) in
    elim (either (position free cs) (position rested cs) i h) [
      | inl e ↦ absurd (let z : is_live c.state ≡ false = not-true (is_live c.state) ((found free cs i e).1 c at) in cc)
      | inr e ↦ (and_true (is_time_wait c.state) (c.age == longest_wait (λ c. c.state) (λ c. c.age) cs) ((found rested cs i e).1 c at)).0
    ]

-- what lives in a slot is there
index_live : (cs : List Connection) (i : ℕ) → is_live (slice_index_or cs i closed).state ≡ true → slice_get cs i ≡ Some (slice_index_or cs i closed)
index_live [] i h = absurd (cc)
index_live (c ∷ cs) zero h = refl
index_live (c ∷ cs) (suc i) h = index_live cs i h

abbrev place : Event → ℕ
place (Periodic j) = j
place _ = 0

module _ (m : AppSpec) (served : ℕ → Bool) (n : AbstractNode) (p : Sockets) (i : ℕ) (c : Connection) where
  -- the connection takes this step
  pub record Acted (event : Event) (r : NodeStep) (received : Option PlainSegment) (o : Outcome) : Type 0 where
    pub exchanged : exchange p event r.sent ≡ met received (segment_of m o.connection o.step)
    pub id : ℕ
    pub sent : r.sent ≡ option_map (λ s. TcpReply p id (is_again o.step) s) (segment_of m o.connection o.step)
    pub table : r.node.connections ≡ set n.connections i o.connection
    pub numbers : r.node.numbers ≡ o.numbers

  -- The slot is called, or a segment comes from its peer, or the event is another's, or the connection, in TIME-WAIT, makes room.
  pub data Acts (event : Event) (r : NodeStep) : Type 0 where
    is_called : event ≡ Periodic i → Acted event r None (asked m (snapshot n event i) (on_tick m c n.numbers)) → Acts event r
    is_met : (s : PlainSegment) → event ≡ Arrived p s → Acted event r (Some s) (asked m (snapshot n event i) (on_segment m c n.numbers s)) → Acts event r
    is_apart : (event ≡ Periodic i → ⊥) → exchange p event r.sent ≡ quiet → slice_get r.node.connections i ≡ Some c → Acts event r
    makes_room : exchange p event r.sent ≡ quiet → is_time_wait c.state ≡ true → Free p r.node.connections → Acts event r

  module _ (single : Single n.connections) (at : slice_get n.connections i ≡ Some c) (own : serves p c ≡ true) where
    live : is_live c.state ≡ true
    live = (and_true (is_live c.state) (same_sockets c.sockets p) own).0

    peer : c.sockets ≡ p
    peer = same_is c.sockets p (and_true (is_live c.state) (same_sockets c.sockets p) own).1

    still : (event : Event) (r : NodeStep) → (event ≡ Periodic i → ⊥) → exchange p event r.sent ≡ quiet → r.node.connections ≡ n.connections → Acts event r
    still event r away x e = is_apart away x (ap (λ l. slice_get l i) e ∙ at)

    acted : (event : Event) (received : Option PlainSegment) (o : Outcome) → received_from p event ≡ received → o.connection.sockets ≡ p
        → Acted event (happened m n event i c o) received o
    unfolding happened
    acted event received o e q =
        let r : NodeStep = happened m n event i c o in
        record {
          exchanged = meets (received_from p event) (sent_to p r.sent) received (segment_of m o.connection o.step) e
              (sent_here p o.connection.sockets (ident_of r.node.history) (is_again o.step) (segment_of m o.connection o.step) q);
          id = ident_of r.node.history;
          sent = ap (λ z. option_map (λ s. TcpReply z (ident_of r.node.history) (is_again o.step) s) (segment_of m o.connection o.step)) q;
          table = refl;
          numbers = refl;
        }

    -- another slot's connection takes a step, which sends nothing to this peer
    elsewhere : (event : Event) (j : ℕ) (old : Connection) (o : Outcome) → (event ≡ Periodic i → ⊥) → (j ≡ i → ⊥) → received_from p event
        ≡ None → same_sockets o.connection.sockets p ≡ false → Acts event (happened m n event j old o)
    unfolding happened
    elsewhere event j old o away other e q =
        let r : NodeStep = happened m n event j old o in
        is_apart away
        (meets (received_from p event) (sent_to p r.sent) None None e (sent_elsewhere p o.connection.sockets (ident_of r.node.history)
        (is_again o.step) (segment_of m o.connection o.step) q))
        (get_set_other n.connections j o.connection i (λ z. other (sym z)) ∙ at)

    -- nothing is sent at all
    silent : (event : Event) (j : ℕ) (old d : Connection) (numbers : List ℕ) → (event ≡ Periodic i → ⊥) → (j ≡ i → ⊥)
        → received_from p event ≡ None → Acts event (happened m n event j old (leaves d numbers Step.Drop))
    unfolding happened
    silent event j old d numbers away other e =
        is_apart away (meets (received_from p event) None None None e refl) (get_set_other n.connections j d i (λ z. other (sym z)) ∙ at)

    other_call : (j : ℕ) → (j ≡ i → ⊥) → Acts (Periodic j) (periodic m n j)
    other_call j other =
        let event : Event = Periodic j in
        let old : Connection = connection_in j n in
        let away : event ≡ Periodic i → ⊥ = λ e. other (ap place e) in
        both_ways (is_live old.state)
        (λ l. let o : Outcome = asked m (snapshot n event j) (on_tick m old n.numbers) in
        let keeps : o.connection.sockets ≡ old.sockets = asked_keeps m (snapshot n event j) old (on_tick m old n.numbers) (on_tick_keeps m old n.numbers) in
        elsewhere event j old o away other refl
        (both_ways (same_sockets old.sockets p)
        (λ e. absurd (let u : serves p old ≡ true = ap (λ b. b && same_sockets old.sockets p) l ∙ e in
        other (single p j i old c (index_live n.connections j l) at u own)))
        (λ e. ap (λ z. same_sockets z p) keeps ∙ e)))
        (λ l. let none : asked m (snapshot n event j) (on_tick m old n.numbers) ≡ leaves old n.numbers Step.Drop = ap
        (λ o. asked m (snapshot n event j) o) (on_tick_closed m old n.numbers l) in
        subst (λ o. Acts event (happened m n event j old o)) (sym none) (silent event j old old n.numbers away other refl))

    called : (j : ℕ) → Acts (Periodic j) (periodic m n j)
    called j =
        both_ways (eqb j i)
        (λ e. let q : i ≡ j = sym (eqb-eq j i e) in
        let event : Event = Periodic i in
        let in_it : connection_in i n ≡ c = index_of n.connections i closed c at in
        let o : Outcome = asked m (snapshot n event i) (on_tick m c n.numbers) in
        let keeps : o.connection.sockets ≡ c.sockets = asked_keeps m (snapshot n event i) c (on_tick m c n.numbers) (on_tick_keeps m c n.numbers) in
        let h : Acts event (periodic m n i) =
        subst (λ z. Acts event (happened m n event i z (asked m (snapshot n event i) (on_tick m z n.numbers)))) (sym in_it)
        (is_called refl (acted event None o refl (keeps ∙ peer))) in
        subst (λ k. Acts (Periodic k) (periodic m n k)) q h)
        (λ e. other_call j (λ z. let y : eqb j i ≡ true = eq-eqb j i z in cc))

    -- a segment of another peer
    module _ (q : Sockets) (s : PlainSegment) (far : same_sockets q p ≡ false) where
      no_call : Arrived q s ≡ Periodic i → ⊥
      no_call e = cc

      far_came : received_from p (Arrived q s) ≡ None
      far_came = came_elsewhere p q s far

      -- where another takes its slot, none serves the peer
      gone : (k : ℕ) → k ≡ i → (new : Connection) → same_sockets new.sockets p ≡ false → Free p (set n.connections k new)
      gone k e new other j y h =
          elim (get_set n.connections k new j y h) [
            | here e_k f ↦ ap (serves p) (sym f) ∙ serves_not p new other
            | there not_k g ↦ both_ways (serves p y) (λ u. absurd (not_k (single p j i y c g at u own ∙ sym e))) (λ u. u)
          ]

      opened : (slot : Option ℕ) → slot_for_syn n.connections ≡ slot → Acts (Arrived q s) (opens m n q s slot)
      unfolding opens_in happened
      opened None e = still (Arrived q s) (opens m n q s None) no_call (meets (received_from p (Arrived q s)) None None None far_came refl) refl
      opened (Some k) e =
          let new : Connection = accepted (initial_number n.history) q s in
          let r : NodeStep = opens m n q s (Some k) in
          let x : exchange p (Arrived q s) r.sent ≡ quiet = meets (received_from p (Arrived q s)) (sent_to p r.sent) None None far_came
          (sent_elsewhere p q (ident_of r.node.history) false (Some (syn_ack new)) far) in
          both_ways (eqb k i)
          (λ z. makes_room x (slot_free n.connections i c (e ∙ ap Some (eqb-eq k i z)) at live) (gone k (eqb-eq k i z) new far))
          (λ z. is_apart no_call x (get_set_other n.connections k new i (λ y. (let w : eqb k i ≡ true = eq-eqb k i (sym y) in cc)) ∙ at))

      stranger : Acts (Arrived q s) (for_no_connection m served n q s)
      unfolding for_no_connection
      stranger =
          choose (λ r. Acts (Arrived q s) r) (is_plain_syn s && served q.own_port.0) _ _
          (λ e. opened (slot_for_syn n.connections) refl)
          (λ e. choose (λ r. Acts (Arrived q s) r) (has_rst s.flags) _ _
          (λ f. still (Arrived q s) _ no_call (meets (received_from p (Arrived q s)) None None None far_came refl) refl)
          (λ f. still (Arrived q s) (refuses n q s) no_call
          (meets (received_from p (Arrived q s)) (sent_to p (refuses n q s).sent) None None far_came
          (sent_elsewhere p q (ident_of (refuses n q s).node.history) false (Some (reset_for_no_connection s)) far)) refl))

      far_arrival : (where_found : Option ℕ) → position (serves q) n.connections ≡ where_found → Acts (Arrived q s) (arrives_at m served n q s where_found)
      far_arrival o e =
          elim (find_is q n.connections) [
            | finds k g at_k u ↦
                (let old : Connection = serving q n.connections in
                let event : Event = Arrived q s in
                let out : Outcome = asked m (snapshot n event k) (on_segment m old n.numbers s) in
                let keeps : out.connection.sockets ≡ old.sockets = asked_keeps m (snapshot n event k) old (on_segment m old n.numbers s)
                (on_segment_keeps m old n.numbers s) in
                let same : old.sockets ≡ q = same_is old.sockets q (and_true (is_live old.state) (same_sockets old.sockets q) u).1 in
                let slot : connection_in k n ≡ old = index_of n.connections k closed old at_k in
                let other : k ≡ i → ⊥ = λ z. (let w : Some old ≡ Some c = sym at_k ∙ ap (slice_get n.connections) z ∙ at in
                let y : old ≡ c = cc in let x : same_sockets q p ≡ true = is_same q p (sym same ∙ ap (λ t. t.sockets) y ∙ peer) in cc) in
                let h : Acts event (happened m n event k old out) = elsewhere event k old out no_call other far_came
                (ap (λ z. same_sockets z p) (keeps ∙ same) ∙ far) in
                let k' : o ≡ Some k = sym e ∙ g ∙ ap Some (omega arith) in
                subst (λ z. Acts event (arrives_at m served n q s z)) (sym k')
                (subst (λ z. Acts event (happened m n event k z (asked m (snapshot n event k) (on_segment m z n.numbers s)))) (sym slot) h))
            | finds_none g free ↦ (let k' : o ≡ None = sym e ∙ g in subst (λ z. Acts (Arrived q s) (arrives_at m served n q s z)) (sym k') stranger)
          ]

    -- a segment of this peer
    own_arrival : (s : PlainSegment) (o : Option ℕ) → position (serves p) n.connections ≡ o → Acts (Arrived p s) (arrives_at m served n p s o)
    own_arrival s o e =
        elim (find_is p n.connections) [
          | finds k g at_k u ↦
              (let k' : k ≡ i = single p k i (serving p n.connections) c at_k at u own in
              let event : Event = Arrived p s in
              let out : Outcome = asked m (snapshot n event i) (on_segment m c n.numbers s) in
              let keeps : out.connection.sockets ≡ c.sockets = asked_keeps m (snapshot n event i) c (on_segment m c n.numbers s)
              (on_segment_keeps m c n.numbers s) in
              let slot : connection_in i n ≡ c = index_of n.connections i closed c at in
              let h : Acts event (happened m n event i c out) = is_met s refl (acted event (Some s) out (came_here p p s refl) (keeps ∙ peer)) in
              let o' : o ≡ Some i = sym e ∙ g ∙ ap Some (let z : 0 + k ≡ k = omega arith in z) ∙ ap Some k' in
              subst (λ z. Acts event (arrives_at m served n p s z)) (sym o')
              (subst (λ z. Acts event (happened m n event i z (asked m (snapshot n event i) (on_segment m z n.numbers s)))) (sym slot) h))
          | finds_none g free ↦ absurd (let z : serves p c ≡ false = free i c at in cc)
        ]

    arrival : (q : Sockets) (s : PlainSegment) → Acts (Arrived q s) (step m served n (Arrived q s))
    arrival q s =
        both_ways (same_sockets q p)
        (λ e. let z : p ≡ q = sym (same_is q p e) in subst (λ k. Acts (Arrived k s) (step m served n (Arrived k s))) z
        (own_arrival s (position (serves p) n.connections) refl))
        (λ e. far_arrival q s e (position (serves q) n.connections) refl)

    pub acts : (event : Event) → Acts event (step m served n event)
    acts (IpRefused fate) = still (IpRefused fate) _ (λ e. cc) refl refl
    acts (IcmpRefused fate) = still (IcmpRefused fate) _ (λ e. cc) refl refl
    acts (TcpRefused fate) = still (TcpRefused fate) _ (λ e. cc) refl refl
    acts (EchoAsked datagram) = still (EchoAsked datagram) _ (λ e. cc) refl refl
    acts (Arrived q s) = arrival q s
    acts Overlong = still Overlong _ (λ e. cc) refl refl
    acts (Periodic j) = called j
