-- The world after a step of its node.
use Rattle.link_replay.proofs.Prelude.{◌≡◌, ℕ, zero, suc, ◌<◌, get_or, drop, ◌+◌, ◌++◌, ◌∷◌, [], Bool, false, List, length, refl, sym, ap}
use Rattle.link_replay.proofs.Prelude.{◌∙◌, subst, arith, Option, Some, None, length-append, if◌then◌else◌, AppSpec, Ghosts, Addr}
use Rattle.link_replay.proofs.Prelude.{PlainSegment, Sockets, Event, Reply, tick, Arrived, Periodic, Echo, TcpReply, AbstractNode, NodeStep}
use Rattle.link_replay.proofs.Prelude.{step, connection_in, Node, Represents, AbstractClient, ClientStep, client_takes, client_acts, handed}
use Rattle.link_replay.proofs.Prelude.{receives_datagram, World, Side, at_side, retires, client_stepped, node_handles, node_stepped}
use Rattle.link_replay.proofs.Prelude.{numbered, posts, posts_reply, with_client, with_side, OfSegment, FromClient, where_there, owner}
use Rattle.link_replay.proofs.Prelude.{pair_at, WorldRepresents, LinkRepresents, IsLink, AreTo, IsTo, SocketPair, Link, CodeWorld}
use Rattle.link_replay.proofs.Pairs.{left_is}
use Rattle.link_replay.proofs.Replies.{SentTo, arrived_reply, periodic_reply}
use Rattle.uip_node.proofs.Addresses.{step_addr}

reply_node : (w : World) (r : Option Reply) → (posts_reply w r).node ≡ w.node
reply_node w None = refl
reply_node w (Some (Echo request)) = refl
reply_node w (Some (TcpReply sockets id again s)) = refl

reply_mark : (w : World) (r : Option Reply) → (posts_reply w r).mark ≡ w.mark
reply_mark w None = refl
reply_mark w (Some (Echo request)) = refl
reply_mark w (Some (TcpReply sockets id again s)) = refl

module _ {A S : Type 0} (g : Ghosts A S) where
  pub handled : (m : AppSpec) (served : ℕ → Bool) (event : Event) (world : CodeWorld A S) (w : World)
      → Represents g world.node (step m served w.node event).node (step m served w.node event).node.history →
      LinkRepresents world.link (node_handles m served w event) → IsLink w.node.addr world.link → world.mark ≡ w.mark → world.spent ≡ false
      → WorldRepresents g world (node_handles m served w event)
  handled m served event world w n l i k f =
      let r : NodeStep = step m served w.node event in
      let v : World = record w { node = r.node; sides = retires r.gone w.sides } in
      let same : (posts_reply v r.sent).node ≡ r.node = reply_node v r.sent in
      record {
        node = subst (λ (x : AbstractNode). Represents g world.node x x.history) (sym same) n;
        link = l;
        home = subst (λ a. IsLink a world.link) (sym (ap (λ (x : AbstractNode). x.addr) same ∙ step_addr m served w.node event)) i;
        mark = k ∙ sym (reply_mark v r.sent);
        fresh = f;
      }

  -- the same of a world whose node is this one
  pub recorded : (m : AppSpec) (served : ℕ → Bool) (event : Event) (node : Node A S) (world : CodeWorld A S) (w : World) → world.node ≡ node
      → Represents g node (step m served w.node event).node (step m served w.node event).node.history →
      LinkRepresents world.link (node_handles m served w event) → IsLink w.node.addr world.link → world.mark ≡ w.mark → world.spent ≡ false
      → WorldRepresents g world (node_handles m served w event)
  recorded m served event node world w same n l i k f =
      handled m served event world w (subst (λ (x : Node A S). Represents g x (step m served w.node event).node
      (step m served w.node event).node.history) (sym same) n) l i k f

sent_to : (sockets : Sockets) (to : Option SocketPair) (r : Reply) → to ≡ Some (pair_at sockets) → SentTo sockets r → IsTo to r
sent_to sockets to r e h = subst (λ x. IsTo to x) (sym h.is) e

-- the answer to a segment goes to its sender
pub arrived_to : (m : AppSpec) (served : ℕ → Bool) (n : AbstractNode) (sockets : Sockets) (s : PlainSegment) (to : Option SocketPair)
    → to ≡ Some (pair_at sockets) → AreTo to (step m served n (Arrived sockets s)).sent
arrived_to m served n sockets s to e = go (step m served n (Arrived sockets s)).sent refl
  where
    go : (r : Option Reply) → (step m served n (Arrived sockets s)).sent ≡ r → AreTo to r
    go None h = tt
    go (Some r) h = sent_to sockets to r e (arrived_reply m served n sockets s r h)

-- what a periodic call sends goes to the peer of the connection in the slot
pub periodic_to : (m : AppSpec) (served : ℕ → Bool) (n : AbstractNode) (slot : ℕ) (to : Option SocketPair)
    → to ≡ owner (connection_in slot n) → AreTo to (step m served n (Periodic slot)).sent
periodic_to m served n slot to e = go (step m served n (Periodic slot)).sent refl
  where
    go : (r : Option Reply) → (step m served n (Periodic slot)).sent ≡ r → AreTo to r
    go None h = tt
    go (Some r) h =
        let output = periodic_reply m served n slot r h in
        sent_to (connection_in slot n).sockets to r (e ∙ ap (λ b. if b then Some (pair_at (connection_in slot n).sockets) else None) output.live) output.output

-- a step that leaves the list of datagrams has sent nothing
pub silent : (w : World) (r : NodeStep) → (node_stepped w r).sent ≡ w.sent → r.sent ≡ None
silent w r h = go r.sent h
  where
    longer : {X : Type 0} (xs : List X) (x : X) → xs ++ x ∷ [] ≡ xs → ⊥
    longer xs x e = let l = length-append xs (x ∷ []) in let k = ap length e in omega (arith, l, k)

    go : (s : Option Reply) → (posts_reply (record w { node = r.node; sides = retires r.gone w.sides }) s).sent ≡ w.sent → s ≡ None
    go None e = refl
    go (Some (Echo request)) e = absurd (longer w.sent _ e)
    go (Some (TcpReply sockets id again s)) e = absurd (longer w.sent _ e)

-- a world with the node and the mark of another
record StaysAt (w v : World) : Type 0 where
  node : v.node ≡ w.node
  mark : v.mark ≡ w.mark

stays : (w : World) → StaysAt w w
stays w = record { node = refl; mark = refl }

stepped_stays : (w : World) (number : ℕ) (side : Side) (took : ClientStep) → StaysAt w (client_stepped w number side took)
stepped_stays w number side took =
    let v : World = with_side w number (with_client side took.client) in
    where_there (StaysAt w) (λ s. posts v (FromClient number) false (OfSegment 0 s)) took.sent v record { node = refl; mark = refl }
    (λ s e. record { node = refl; mark = refl })

acts_stay : (w : World) (number : ℕ) (act : AbstractClient → ClientStep) → StaysAt w (client_acts w number act)
acts_stay w number act =
    where_there (StaysAt w) (λ side. client_stepped w number side (act side.client)) (numbered w.sides number) w (stays w)
    (λ side e. stepped_stays w number side (act side.client))

handed_stays : (w : World) (number : ℕ) (bytes : List ℕ) → StaysAt w (at_side w number (handed w number bytes))
handed_stays w number bytes =
    where_there (StaysAt w) (handed w number bytes) (numbered w.sides number) w (stays w)
    (λ side e. where_there (StaysAt w) (λ s. client_stepped w number side (client_takes side.client s)) (receives_datagram side.client.setup bytes) w (stays w)
    (λ s f. stepped_stays w number side (client_takes side.client s)))

-- clients and datagrams that keep what they have to at every address
pub still_linked : (before after : Link) → (addr : Addr) × IsLink addr before → ((addr : Addr) → IsLink addr before → IsLink addr after)
    → (addr : Addr) × IsLink addr after
still_linked before after link keeps = (link.0, keeps link.0 link.1)

module _ {A S : Type 0} (g : Ghosts A S) where
  -- the node and the mark stay
  pub linked : (world : CodeWorld A S) (link : Link) (area : List ℕ) (w v : World) → WorldRepresents g world w → v.node ≡ w.node
      → v.mark ≡ w.mark → LinkRepresents link v → IsLink w.node.addr link
      → WorldRepresents g (record world { link = link; area = area }) v
  linked world link area w v s n k l i = record {
    node = subst (λ (x : AbstractNode). Represents g world.node x x.history) (sym n) s.node;
    link = l;
    home = subst (λ a. IsLink a link) (sym (ap (λ (x : AbstractNode). x.addr) n)) i;
    mark = s.mark ∙ sym k;
    fresh = s.fresh;
  }

  pub own_done : (world : CodeWorld A S) (link : Link) (area : List ℕ) (w : World) (number : ℕ) (act : AbstractClient → ClientStep)
      → WorldRepresents g world w → LinkRepresents link (client_acts w number act) → IsLink w.node.addr link
      → WorldRepresents g (record world { link = link; area = area }) (client_acts w number act)
  own_done world link area w number act s l i = let k = acts_stay w number act in linked world link area w (client_acts w number act) s k.node k.mark l i

  pub handed_done : (world : CodeWorld A S) (link : Link) (area : List ℕ) (w : World) (number : ℕ) (bytes : List ℕ)
      → WorldRepresents g world w → LinkRepresents link (at_side w number (handed w number bytes)) → IsLink w.node.addr link
      → WorldRepresents g (record world { link = link; area = area }) (at_side w number (handed w number bytes))
  handed_done world link area w number bytes s l i = let k = handed_stays w number bytes in
      linked world link area w (at_side w number (handed w number bytes)) s k.node k.mark l i

-- the periodic calls that are left of a tick
slot_is : (slot : ℕ) → slot < 10 → get_or tick slot (Periodic 0) ≡ Periodic slot
slot_is zero h = refl
slot_is (suc zero) h = refl
slot_is (suc (suc zero)) h = refl
slot_is (suc (suc (suc zero))) h = refl
slot_is (suc (suc (suc (suc zero)))) h = refl
slot_is (suc (suc (suc (suc (suc zero))))) h = refl
slot_is (suc (suc (suc (suc (suc (suc zero)))))) h = refl
slot_is (suc (suc (suc (suc (suc (suc (suc zero))))))) h = refl
slot_is (suc (suc (suc (suc (suc (suc (suc (suc zero)))))))) h = refl
slot_is (suc (suc (suc (suc (suc (suc (suc (suc (suc zero))))))))) h = refl
slot_is (suc (suc (suc (suc (suc (suc (suc (suc (suc (suc n)))))))))) h = absurd (omega (arith, h))

pub next_call : (slot : ℕ) → slot < 10 → drop slot tick ≡ Periodic slot ∷ drop (slot + 1) tick
next_call slot h = left_is tick slot (Periodic 0) h ∙ ap (λ e. e ∷ drop (slot + 1) tick) (slot_is slot h)
