-- What an event does to the connection with one peer, and what it adds to their exchanges.
use Rattle.node_laws.proofs.Prelude.{All, option_map, ◌≡◌, ℕ, ◌<◌, Bool, true, false, ◌&&◌, List, set, position, refl, sym, ap, ◌∙◌, subst}
use Rattle.node_laws.proofs.Prelude.{arith, Option, Some, None, slice_get, if◌then◌else◌, PlainSegment, has_rst, AppSpec, IsNow, IsU32}
use Rattle.node_laws.proofs.Prelude.{IsAddr, Now, Sockets, Connection, closed, is_live, serves, same_sockets, segment_of, is_again}
use Rattle.node_laws.proofs.Prelude.{is_plain_syn, reset_for_no_connection, syn_ack, Outcome, leaves, asked, accepted, on_segment, on_tick}
use Rattle.node_laws.proofs.Prelude.{Step, initial_number, ident_of, Event, Reply, IpRefused, IcmpRefused, TcpRefused, EchoAsked, Arrived}
use Rattle.node_laws.proofs.Prelude.{Overlong, Periodic, TcpReply, serving, IsEvent, IsSteady, both_ways, choose, and_true, same_is}
use Rattle.node_laws.proofs.Prelude.{is_same, serves_not, serves_dead, serves_yes, find_is, set_same, set_past, index_of, index_none}
use Rattle.node_laws.proofs.Prelude.{Single, single_set, serving_is, serving_free, serving_new, serving_gone, serving_other, finds}
use Rattle.node_laws.proofs.Prelude.{finds_none, FitConn, accepted_fits, FitNode, node_snapshot, slot_inside, on_segment_keeps, asked_keeps}
use Rattle.node_laws.proofs.Prelude.{on_tick_keeps, on_tick_closed, Exchange, received_from, sent_to, exchange}
use Rattle.uip_node.specs.Node.{AbstractNode, NodeStep, snapshot, happened, connection_in, slot_for_syn, opens_in, opens as opens_at}
use Rattle.uip_node.specs.Node.{refuses, for_no_connection, arrives_at, periodic, step}
use Rattle.uip_node.proofs.Connections.{Free}

abbrev pub quiet : Exchange
quiet = record { received = None; output = None }

abbrev pub met : Option PlainSegment → Option PlainSegment → Exchange
met received output = record { received = received; output = output }

-- the connection that lives after a step
abbrev pub left_of : Connection → Connection
left_of d = if is_live d.state then d else closed

-- The connection c with a peer becomes d, and this is exchanged.
pub data OfMedium (m : AppSpec) (served : ℕ → Bool) (p : Sockets) (c d : Connection) (x : Exchange) : Type 0 where
  passes_by : x ≡ quiet → d ≡ c → OfMedium m served p c d x
  evicted : x ≡ quiet → d ≡ closed → OfMedium m served p c d x
  unanswered : (s : PlainSegment) → is_live c.state ≡ false → x ≡ met (Some s) None → d ≡ c → OfMedium m served p c d x
  refused : (s : PlainSegment) → has_rst s.flags ≡ false → is_live c.state ≡ false → x ≡ met (Some s) (Some (reset_for_no_connection s))
      → d ≡ c → OfMedium m served p c d x
  born : (iss : ℕ) (s : PlainSegment) → is_plain_syn s ≡ true → served p.own_port.0 ≡ true → FitConn (accepted iss p s)
      → x ≡ met (Some s) (Some (syn_ack (accepted iss p s))) → d ≡ accepted iss p s → OfMedium m served p c d x
  delivers_text : (s : PlainSegment) (numbers : List ℕ) (at : Connection → Now) → is_live c.state ≡ true → FitConn c → All IsU32 numbers
      → ((z : Connection) → FitConn z → IsNow (at z)) →
      (let o : Outcome = asked m at (on_segment m c numbers s) in (x ≡ met (Some s) (segment_of m o.connection o.step))
      × (d ≡ left_of o.connection)) → OfMedium m served p c d x
  ticks : (numbers : List ℕ) (at : Connection → Now) → is_live c.state ≡ true → FitConn c → All IsU32 numbers → ((z : Connection) → FitConn z → IsNow (at z)) →
      (let o : Outcome = asked m at (on_tick m c numbers) in (x ≡ met None (segment_of m o.connection o.step)) × (d ≡ left_of o.connection))
      → OfMedium m served p c d x

-- the result of a step of the node, for every peer
pub record Comes (m : AppSpec) (served : ℕ → Bool) (n : AbstractNode) (event : Event) (r : NodeStep) : Type 0 where
  pub single : Single r.node.connections
  pub each : (p : Sockets) → OfMedium m served p (serving p n.connections) (serving p r.node.connections) (exchange p event r.sent)

pub came_here : (p q : Sockets) (s : PlainSegment) → q ≡ p → received_from p (Arrived q s) ≡ Some s
came_here p q s e = ap (λ b. if b then Some s else None) (is_same q p e)

pub came_elsewhere : (p q : Sockets) (s : PlainSegment) → same_sockets q p ≡ false → received_from p (Arrived q s) ≡ None
came_elsewhere p q s e = ap (λ b. if b then Some s else None) e

pub sent_here : (p q : Sockets) (id : ℕ) (again : Bool) (output : Option PlainSegment) → q ≡ p
    → sent_to p (option_map (λ s. TcpReply q id again s) output) ≡ output
sent_here p q id again None e = refl
sent_here p q id again (Some s) e = ap (λ b. if b then Some s else None) (is_same q p e)

pub sent_elsewhere : (p q : Sockets) (id : ℕ) (again : Bool) (output : Option PlainSegment) → same_sockets q p ≡ false
    → sent_to p (option_map (λ s. TcpReply q id again s) output) ≡ None
sent_elsewhere p q id again None e = refl
sent_elsewhere p q id again (Some s) e = ap (λ b. if b then Some s else None) e

pub meets : (a b : Option PlainSegment) (x y : Option PlainSegment) → a ≡ x → b ≡ y → met a b ≡ met x y
meets a b x y e f = ap (λ z. met z b) e ∙ ap (λ z. met x z) f

module _ (m : AppSpec) (served : ℕ → Bool) where
  -- the connection in slot i, which lives, takes a step
  module _ (n : AbstractNode) (event : Event) (i : ℕ) (old : Connection) (o : Outcome) (single : Single n.connections)
      (at : slice_get n.connections i ≡ Some old) (live : is_live old.state ≡ true) (peer : o.connection.sockets ≡ old.sockets)
      (received : Option PlainSegment)
      (here : received_from old.sockets event ≡ received)
      (away : (p : Sockets) → same_sockets old.sockets p ≡ false → received_from p event ≡ None)
      (does : (d : Connection) (x : Exchange) → x ≡ met received (segment_of m o.connection o.step) → d ≡ left_of o.connection
      → OfMedium m served old.sockets old d x) where
    owns_step : (p : Sockets) → serves p o.connection ≡ true → (j : ℕ) (y : Connection) → slice_get n.connections j ≡ Some y → serves p y ≡ true → j ≡ i
    owns_step p s j y h u =
        let q : serves p old ≡ true = serves_yes p old live
        (sym peer ∙ same_is o.connection.sockets p (and_true (is_live o.connection.state) (same_sockets o.connection.sockets p) s).1) in
        single p j i y old h at u q

    left_here : (p : Sockets) → old.sockets ≡ p → serving p (set n.connections i o.connection) ≡ left_of o.connection
    left_here p q = both_ways (is_live o.connection.state)
        (λ l. serving_new n.connections single i old at o.connection owns_step p (serves_yes p o.connection l (peer ∙ q))
        ∙ sym (ap (λ b. if b then o.connection else closed) l))
        (λ l. serving_gone n.connections single i old at o.connection owns_step p (serves_yes p old live q) (serves_dead p o.connection l)
        ∙ sym (ap (λ b. if b then o.connection else closed) l))

    pub comes_step : Comes m served n event (happened m n event i old o)
    unfolding happened
    comes_step = record {
      single = single_set n.connections single i old at o.connection owns_step;
      each = λ p. (let r : NodeStep = happened m n event i old o in
          both_ways (same_sockets old.sockets p)
          (λ e. let q : old.sockets ≡ p = same_is old.sockets p e in
          let before : serving p n.connections ≡ old = serving_is n.connections p i old single at (serves_yes p old live q) in
          let x : exchange p event r.sent ≡ met received (segment_of m o.connection o.step) =
          meets (received_from p event) (sent_to p r.sent) received (segment_of m o.connection o.step)
          (ap (λ z. received_from z event) (sym q) ∙ here) (sent_here p o.connection.sockets (ident_of r.node.history) (is_again o.step)
          (segment_of m o.connection o.step) (peer ∙ q)) in
          let g : OfMedium m served old.sockets old (serving p (set n.connections i o.connection)) (exchange p event r.sent) = does
          (serving p (set n.connections i o.connection)) (exchange p event r.sent) x (left_here p q) in
          subst (λ z. OfMedium m served p z (serving p (set n.connections i o.connection)) (exchange p event r.sent)) (sym before)
          (subst (λ z. OfMedium m served z old (serving p (set n.connections i o.connection)) (exchange p event r.sent)) q g))
          (λ e. let after : serving p (set n.connections i o.connection) ≡ serving p n.connections =
          serving_other n.connections single i old at o.connection owns_step p (serves_not p old e)
          (serves_not p o.connection (ap (λ z. same_sockets z p) peer ∙ e)) in
          passes_by (meets (received_from p event) (sent_to p r.sent) None None (away p e)
          (sent_elsewhere p o.connection.sockets (ident_of r.node.history) (is_again o.step) (segment_of m o.connection o.step)
          (ap (λ z. same_sockets z p) peer ∙ e))) after));
    }

  -- nothing changes in the table
  comes_still : (n : AbstractNode) (event : Event) (r : NodeStep) → Single n.connections → r.node.connections ≡ n.connections
      → ((p : Sockets) → exchange p event r.sent ≡ quiet) → Comes m served n event r
  comes_still n event r single e x = record {
    single = subst (λ z. Single z) (sym e) single;
    each = λ p. passes_by (x p) (ap (λ z. serving p z) e);
  }

  -- a segment that belongs to no connection, and opens none: what is sent to its peer is nothing or a reset
  comes_away : (n : AbstractNode) (q : Sockets) (s : PlainSegment) (r : NodeStep) → Single n.connections → Free q n.connections
      → r.node.connections ≡ n.connections →
      ((p : Sockets) → same_sockets q p ≡ false → sent_to p r.sent ≡ None) →
      ((p : Sockets) (c d : Connection) → q ≡ p → c ≡ closed → d ≡ c → OfMedium m served p c d (exchange p (Arrived q s) r.sent))
      → Comes m served n (Arrived q s) r
  comes_away n q s r single free e away here = record {
    single = subst (λ z. Single z) (sym e) single;
    each = λ p. both_ways (same_sockets q p)
        (λ h. let z : q ≡ p = same_is q p h in
        here p (serving p n.connections) (serving p r.node.connections) z
        (serving_free n.connections p (subst (λ y. Free y n.connections) z free)) (ap (λ y. serving p y) e))
        (λ h. passes_by (meets (received_from p (Arrived q s)) (sent_to p r.sent) None None (came_elsewhere p q s h) (away p h)) (ap (λ y. serving p y) e));
  }

  -- a SYN takes a free slot
  module _ (n : AbstractNode) (q : Sockets) (s : PlainSegment) (i : ℕ) (old : Connection) (single : Single n.connections)
      (at : slice_get n.connections i ≡ Some old) (free : Free q n.connections) (plain : is_plain_syn s ≡ true)
      (port : served q.own_port.0 ≡ true) (fit : FitConn (accepted (initial_number n.history) q s)) where
    abbrev new : Connection
    new = accepted (initial_number n.history) q s

    owns_born : (p : Sockets) → serves p new ≡ true → (j : ℕ) (y : Connection) → slice_get n.connections j ≡ Some y → serves p y ≡ true → j ≡ i
    owns_born p u j y h v = absurd (let e : q ≡ p = same_is q p (and_true (is_live new.state) (same_sockets new.sockets p) u).1 in
        let z : serves p y ≡ false = ap (λ x. serves x y) (sym e) ∙ free j y h in cc)

    born_away : (p : Sockets) (sent : Option Reply) → same_sockets q p ≡ false → exchange p (Arrived q s) sent ≡ quiet
        → OfMedium m served p (serving p n.connections) (serving p (set n.connections i new)) (exchange p (Arrived q s) sent)
    born_away p sent e x =
        both_ways (serves p old)
        (λ f. evicted x (serving_gone n.connections single i old at new owns_born p f (serves_not p new e)))
        (λ f. passes_by x (serving_other n.connections single i old at new owns_born p f (serves_not p new e)))

    comes_born : (r : NodeStep) (id : ℕ) → r.node.connections ≡ set n.connections i new → r.sent ≡ Some (TcpReply q id false (syn_ack new))
        → Comes m served n (Arrived q s) r
    comes_born r id e t = record {
      single = subst (λ z. Single z) (sym e) (single_set n.connections single i old at new owns_born);
      each = λ p. subst (λ z. OfMedium m served p (serving p n.connections) (serving p z) (exchange p (Arrived q s) r.sent)) (sym e)
          (both_ways (same_sockets q p)
          (λ h. let z : q ≡ p = same_is q p h in
          let x : exchange p (Arrived q s) r.sent ≡ met (Some s) (Some (syn_ack new)) = meets (received_from p (Arrived q s))
          (sent_to p r.sent) (Some s) (Some (syn_ack new)) (came_here p q s z) (ap (λ y. sent_to p y) t ∙ sent_here p q id false (Some (syn_ack new)) z) in
          let g : OfMedium m served q (serving p n.connections) (serving p (set n.connections i new)) (exchange p (Arrived q s) r.sent) =
          born (initial_number n.history) s plain port fit x (serving_new n.connections single i old at new owns_born p (serves_yes p new refl z)) in
          subst (λ y. OfMedium m served y (serving p n.connections) (serving p (set n.connections i new)) (exchange p (Arrived q s) r.sent)) z g)
          (λ h. born_away p r.sent h (meets (received_from p (Arrived q s)) (sent_to p r.sent) None None (came_elsewhere p q s h)
          (ap (λ y. sent_to p y) t ∙ sent_elsewhere p q id false (Some (syn_ack new)) h))));
    }

  module _ (steady : IsSteady m) where
    comes_opening : (n : AbstractNode) (q : Sockets) (s : PlainSegment) (slot : Option ℕ) → slot_for_syn n.connections ≡ slot
        → IsAddr q.peer → q.peer_port.0 < 65536 → Single n.connections → Free q n.connections → is_plain_syn s ≡ true
        → served q.own_port.0 ≡ true → Comes m served n (Arrived q s) (opens_at m n q s slot)
    unfolding opens_in happened
    comes_opening n q s None e a b single free plain port =
        comes_away n q s (opens_at m n q s None) single free refl (λ p h. refl) (λ p c d z k f. unanswered s (ap (λ y. is_live y.state) k)
        (meets (received_from p (Arrived q s)) None (Some s) None (came_here p q s z) refl) f)
    comes_opening n q s (Some slot) e a b single free plain port =
        let in_it = slot_inside n.connections slot e in
        let r : NodeStep = opens_at m n q s (Some slot) in
        comes_born n q s slot in_it.item single in_it.get free plain port (accepted_fits m steady (initial_number n.history) q s a b) r
        (ident_of r.node.history) refl refl

    comes_stranger : (n : AbstractNode) (q : Sockets) (s : PlainSegment) → IsAddr q.peer → q.peer_port.0 < 65536 → Single n.connections
        → Free q n.connections → Comes m served n (Arrived q s) (for_no_connection m served n q s)
    unfolding for_no_connection
    comes_stranger n q s a b single free =
        choose (λ r. Comes m served n (Arrived q s) r) (is_plain_syn s && served q.own_port.0) _ _
        (λ e. comes_opening n q s (slot_for_syn n.connections) refl a b single free (and_true (is_plain_syn s) (served q.own_port.0) e).0
        (and_true (is_plain_syn s) (served q.own_port.0) e).1)
        (λ e. choose (λ r. Comes m served n (Arrived q s) r) (has_rst s.flags) _ _
        (λ f. comes_away n q s _ single free refl (λ p h. refl) (λ p c d z k g. unanswered s (ap (λ y. is_live y.state) k)
        (meets (received_from p (Arrived q s)) None (Some s) None (came_here p q s z) refl) g))
        (λ f. comes_away n q s (refuses n q s) single free refl
        (λ p h. sent_elsewhere p q (ident_of (refuses n q s).node.history) false (Some (reset_for_no_connection s)) h)
        (λ p c d z k g. refused s f (ap (λ y. is_live y.state) k)
        (meets (received_from p (Arrived q s)) (sent_to p (refuses n q s).sent) (Some s) (Some (reset_for_no_connection s))
        (came_here p q s z) (sent_here p q (ident_of (refuses n q s).node.history) false (Some (reset_for_no_connection s)) z)) g)))

    comes_arrival : (n : AbstractNode) (q : Sockets) (s : PlainSegment) (found : Option ℕ) → position (serves q) n.connections ≡ found
        → IsAddr q.peer → q.peer_port.0 < 65536 → Single n.connections → FitNode n → Comes m served n (Arrived q s) (arrives_at m served n q s found)
    comes_arrival n q s found e a b single f =
        elim (find_is q n.connections) [
          | finds i g there u ↦
              (let c : Connection = serving q n.connections in
              let event : Event = Arrived q s in
              let slot : connection_in i n ≡ c = index_of n.connections i closed c there in
              let l = and_true (is_live c.state) (same_sockets c.sockets q) u in
              let same : c.sockets ≡ q = same_is c.sockets q l.1 in
              let o : Outcome = asked m (snapshot n event i) (on_segment m c n.numbers s) in
              let keeps : o.connection.sockets ≡ c.sockets = asked_keeps m (snapshot n event i) c (on_segment m c n.numbers s)
              (on_segment_keeps m c n.numbers s) in
              let h : Comes m served n event (happened m n event i c o) =
              comes_step n event i c o single there l.0 keeps (Some s)
              (came_here c.sockets q s (sym same))
              (λ p z. came_elsewhere p q s (ap (λ y. same_sockets y p) (sym same) ∙ z))
              (λ d x t w. delivers_text s n.numbers (snapshot n event i) l.0 (f.conns i c there) f.numbers (node_snapshot m steady n event i f) (t, w)) in
              let i' : found ≡ Some i = sym e ∙ g ∙ ap Some (omega arith) in
              subst (λ z. Comes m served n event (arrives_at m served n q s z)) (sym i')
              (subst (λ z. Comes m served n event (happened m n event i z (asked m (snapshot n event i) (on_segment m z n.numbers s)))) (sym slot) h))
          | finds_none g free ↦ (let i' : found ≡ None = sym e ∙ g in
              subst (λ z. Comes m served n (Arrived q s) (arrives_at m served n q s z)) (sym i') (comes_stranger n q s a b single free))
        ]

    -- a periodic call of a slot where none lives
    comes_idle : (n : AbstractNode) (slot : ℕ) (c : Connection) → connection_in slot n ≡ c → is_live c.state ≡ false
        → set n.connections slot c ≡ n.connections → Single n.connections → Comes m served n (Periodic slot) (periodic m n slot)
    unfolding happened
    comes_idle n slot c e l same single =
        let event : Event = Periodic slot in
        let still : asked m (snapshot n event slot) (on_tick m c n.numbers) ≡ leaves c n.numbers Step.Drop = ap
        (λ o. asked m (snapshot n event slot) o) (on_tick_closed m c n.numbers l) in
        subst (λ z. Comes m served n event (happened m n event slot z (asked m (snapshot n event slot) (on_tick m z n.numbers)))) (sym e)
        (subst (λ o. Comes m served n event (happened m n event slot c o)) (sym still)
        (comes_still n event (happened m n event slot c (leaves c n.numbers Step.Drop)) single same (λ p. refl)))

    comes_call : (n : AbstractNode) (slot : ℕ) (there : Option Connection) → slice_get n.connections slot ≡ there → Single n.connections
        → FitNode n → Comes m served n (Periodic slot) (periodic m n slot)
    comes_call n slot None e single f = comes_idle n slot closed (index_none n.connections slot closed e) refl (set_past n.connections slot closed e) single
    comes_call n slot (Some c) e single f =
        let event : Event = Periodic slot in
        let in_it : connection_in slot n ≡ c = index_of n.connections slot closed c e in
        both_ways (is_live c.state)
        (λ l. let o : Outcome = asked m (snapshot n event slot) (on_tick m c n.numbers) in
        let keeps : o.connection.sockets ≡ c.sockets = asked_keeps m (snapshot n event slot) c (on_tick m c n.numbers) (on_tick_keeps m c n.numbers) in
        let h : Comes m served n event (happened m n event slot c o) =
        comes_step n event slot c o single e l keeps None refl (λ p z. refl)
        (λ d x t w. ticks n.numbers (snapshot n event slot) l (f.conns slot c e) f.numbers (node_snapshot m steady n event slot f) (t, w)) in
        subst (λ z. Comes m served n event (happened m n event slot z (asked m (snapshot n event slot) (on_tick m z n.numbers)))) (sym in_it) h)
        (λ l. comes_idle n slot c in_it l (set_same n.connections slot c e) single)

    pub comes : (n : AbstractNode) (event : Event) → IsEvent event → Single n.connections → FitNode n → Comes m served n event (step m served n event)
    comes n (IpRefused fate) e single f = comes_still n (IpRefused fate) _ single refl (λ p. refl)
    comes n (IcmpRefused fate) e single f = comes_still n (IcmpRefused fate) _ single refl (λ p. refl)
    comes n (TcpRefused fate) e single f = comes_still n (TcpRefused fate) _ single refl (λ p. refl)
    comes n (EchoAsked datagram) e single f = comes_still n (EchoAsked datagram) _ single refl (λ p. refl)
    comes n (Arrived q s) e single f = comes_arrival n q s (position (serves q) n.connections) refl e.0 e.1 single f
    comes n Overlong e single f = comes_still n Overlong _ single refl (λ p. refl)
    comes n (Periodic slot) e single f = comes_call n slot (slice_get n.connections slot) refl single f
