-- To whom the node sends: to the sender of a segment, and at a periodic call to the peer of the connection, which is live.
use Rattle.link_replay.proofs.Prelude.{◌≡◌, ℕ, Bool, true, false, ◌&&◌, ◌+◌, List, refl, sym, ap, ◌∙◌, subst, arith, Option, Some, None}
use Rattle.link_replay.proofs.Prelude.{position, slice_index_or, option_map, PlainSegment, has_rst, AppSpec, Now, Sockets, Connection}
use Rattle.link_replay.proofs.Prelude.{closed, is_live, same_sockets, serves, Outcome, asked, accept, on_segment, on_tick, is_plain_syn}
use Rattle.link_replay.proofs.Prelude.{is_again, reset_for_no_connection, segment_of, initial_number, Event, Reply, Arrived, Periodic}
use Rattle.link_replay.proofs.Prelude.{TcpReply, AbstractNode, NodeStep, arrives_at, connection_in, for_no_connection, happened, snapshot}
use Rattle.link_replay.proofs.Prelude.{opens, opens_in, refuses, slot_for_syn, step, and_true, both_ways, choose, asked_keeps}
use Rattle.link_replay.proofs.Prelude.{on_segment_keeps, on_tick_closed, on_tick_keeps, same_is, find_is, finds, finds_none, index_of}
use Rattle.link_replay.proofs.Prelude.{serving}

-- a TCP datagram to these sockets
pub record SentTo (sockets : Sockets) (r : Reply) : Type 0 where
  pub id : ℕ
  pub again : Bool
  pub segment : PlainSegment
  pub is : r ≡ TcpReply sockets id again segment

-- a TCP datagram of a connection that is not CLOSED
pub record WrittenAtEnd (c : Connection) (r : Reply) : Type 0 where
  pub output : SentTo c.sockets r
  pub live : is_live c.state ≡ true

abbrev pub SendsTo : Sockets → Option Reply → Type 0
SendsTo sockets sent = (r : Reply) → sent ≡ Some r → SentTo sockets r

says : (output : Option PlainSegment) (sockets : Sockets) (id : ℕ) (again : Bool) → SendsTo sockets (option_map (λ s. TcpReply sockets id again s) output)
says None sockets id again r h = absurd (cc)
says (Some s) sockets id again r h = record { id = id; again = again; segment = s; is = (let e : TcpReply sockets id again s ≡ r = cc in sym e) }

happened_sends : (m : AppSpec) (n : AbstractNode) (event : Event) (slot : ℕ) (old : Connection) (o : Outcome) (sockets : Sockets)
    → o.connection.sockets ≡ sockets → SendsTo sockets (happened m n event slot old o).sent
unfolding happened
happened_sends m n event slot old o sockets e =
    subst (λ (p : Sockets). SendsTo p (happened m n event slot old o).sent) e (says (segment_of m o.connection o.step) o.connection.sockets _ (is_again o.step))

silent : (sockets : Sockets) → SendsTo sockets None
silent sockets r h = absurd (cc)

refused : (n : AbstractNode) (sockets : Sockets) (s : PlainSegment) → SendsTo sockets (refuses n sockets s).sent
refused n sockets s = says (Some (reset_for_no_connection s)) sockets _ false

opens_sends : (m : AppSpec) (n : AbstractNode) (sockets : Sockets) (s : PlainSegment) (slot : Option ℕ) → SendsTo sockets (opens m n sockets s slot).sent
unfolding opens_in
opens_sends m n sockets s None = silent sockets
opens_sends m n sockets s (Some slot) = happened_sends m n (Arrived sockets s) slot (connection_in slot n)
    (accept (initial_number n.history) sockets s n.numbers) sockets refl

stranger_sends : (m : AppSpec) (served : ℕ → Bool) (n : AbstractNode) (sockets : Sockets) (s : PlainSegment)
    → SendsTo sockets (for_no_connection m served n sockets s).sent
unfolding for_no_connection
stranger_sends m served n sockets s =
    choose (λ (r : NodeStep). SendsTo sockets r.sent) (is_plain_syn s && served sockets.own_port.0) _ _
    (λ e. opens_sends m n sockets s (slot_for_syn n.connections))
    (λ e. choose (λ (r : NodeStep). SendsTo sockets r.sent) (has_rst s.flags) _ _ (λ f. silent sockets) (λ f. refused n sockets s))

-- the connection that is found has the sockets that were sought
found_sockets : (p : Sockets) (cs : List Connection) (slot : ℕ) → position (serves p) cs ≡ Some slot → (slice_index_or cs slot closed).sockets ≡ p
found_sockets p cs slot e =
    elim (find_is p cs) [
      | finds i f g s ↦ (let same : i ≡ slot = (let z : Some (0 + i) ≡ Some slot = sym f ∙ e in let y : 0 + i ≡ slot = cc in omega (arith, y)) in
          let at : slice_index_or cs slot closed ≡ serving p cs = sym (ap (λ (j : ℕ). slice_index_or cs j closed) same)
          ∙ index_of cs i closed (serving p cs) g in
          ap (λ (c : Connection). c.sockets) at ∙ same_is (serving p cs).sockets p
          (and_true (is_live (serving p cs).state) (same_sockets (serving p cs).sockets p) s).1)
      | finds_none f g ↦ absurd (cc)
    ]

arrives_sends : (m : AppSpec) (served : ℕ → Bool) (n : AbstractNode) (sockets : Sockets) (s : PlainSegment) (found : Option ℕ)
    → ((slot : ℕ) → found ≡ Some slot → (connection_in slot n).sockets ≡ sockets) →
    SendsTo sockets (arrives_at m served n sockets s found).sent
arrives_sends m served n sockets s None f = stranger_sends m served n sockets s
arrives_sends m served n sockets s (Some slot) f =
    let c : Connection = connection_in slot n in
    let o : Outcome = on_segment m c n.numbers s in
    let at : Connection → Now = snapshot n (Arrived sockets s) slot in
    happened_sends m n (Arrived sockets s) slot c (asked m at o) sockets (asked_keeps m at c o (on_segment_keeps m c n.numbers s) ∙ f slot refl)

-- what answers a segment goes to its sender
pub arrived_reply : (m : AppSpec) (served : ℕ → Bool) (n : AbstractNode) (sockets : Sockets) (s : PlainSegment) (r : Reply) →
    (step m served n (Arrived sockets s)).sent ≡ Some r → SentTo sockets r
arrived_reply m served n sockets s = arrives_sends m served n sockets s (position (serves sockets) n.connections) (found_sockets sockets n.connections)

-- a connection that is CLOSED sends nothing
closed_sends : (m : AppSpec) (n : AbstractNode) (slot : ℕ) (r : Reply) → is_live (connection_in slot n).state ≡ false
    → (step m (λ p. true) n (Periodic slot)).sent ≡ Some r → ⊥
unfolding happened
closed_sends m n slot r e h =
    let c : Connection = connection_in slot n in
    let at : Connection → Now = snapshot n (Periodic slot) slot in
    let q : None ≡ Some r = subst (λ (o : Outcome). (happened m n (Periodic slot) slot c (asked m at o)).sent ≡ Some r) (on_tick_closed m c n.numbers e) h in
    cc

-- what a periodic call sends goes to the peer of the connection in the slot
pub periodic_reply : (m : AppSpec) (served : ℕ → Bool) (n : AbstractNode) (slot : ℕ) (r : Reply) →
    (step m served n (Periodic slot)).sent ≡ Some r → WrittenAtEnd (connection_in slot n) r
periodic_reply m served n slot r h =
    let c : Connection = connection_in slot n in
    let o : Outcome = on_tick m c n.numbers in
    let at : Connection → Now = snapshot n (Periodic slot) slot in
    record {
      output = happened_sends m n (Periodic slot) slot c (asked m at o) c.sockets (asked_keeps m at c o (on_tick_keeps m c n.numbers)) r h;
      live = both_ways (is_live c.state) (λ e. e) (λ e. absurd (closed_sends m n slot r e h));
    }
