-- A delivery passes on the bytes of a datagram, once its client has recorded it.
use Rattle.link_replay.proofs.Prelude.{◌≡◌, ℕ, zero, suc, ◌<◌, Bool, List, [], ◌∷◌, length, set, refl, sym, ap, ◌∙◌, subst, arith, Option}
use Rattle.link_replay.proofs.Prelude.{Some, None, slice_get, option_map_or, AppSpec, Ghosts, PlainSegment, event_of, Event, Arrived}
use Rattle.link_replay.proofs.Prelude.{AbstractNode, step, AbstractClient, ClientStep, client_takes, handed, hands_over, receives_datagram}
use Rattle.link_replay.proofs.Prelude.{World, Side, Sent, Content, numbered, client_sockets, client_stepped, with_client, with_side}
use Rattle.link_replay.proofs.Prelude.{posts_of_client, marked, delivers, node_handles, OfSegment, OfPing, OfEcho, Who, FromClient}
use Rattle.link_replay.proofs.Prelude.{FromNode, Pinger, IsRead, IsSentBy, get_set_same, pair_at, WorldRepresents, LinkRepresents, IsLink}
use Rattle.link_replay.proofs.Prelude.{AnswersTo, AreTo, client_reported, pair_at_side, sees, Link, CodeWorld}
use Rattle.link_replay.proofs.Handling.{arrived_to, linked}
use Rattle.link_replay.proofs.Pairs.{reads}

inside : {X : Type 0} (xs : List X) (n : ℕ) (x : X) → slice_get xs n ≡ Some x → n < length xs
inside [] n x h = absurd (cc)
inside (y ∷ ys) zero x h = omega arith
inside (y ∷ ys) (suc n) x h = let k = inside ys n x h in omega (arith, k)

-- all clients speak to the node
pub speaks_to : (link : Link) (w : World) → LinkRepresents link w → IsLink w.node.addr link → (number : ℕ) (side : Side)
    → numbered w.sides number ≡ Some side → side.client.setup.server ≡ w.node.addr
speaks_to link w h i zero side g = absurd (let z : None ≡ Some side = g in cc)
speaks_to link w h i (suc n) side g =
    let l = inside w.sides n side g in
    let r = reads link.sides n (omega (arith, l, h.sides.same_length)) in
    ap (λ (k : AbstractClient). k.setup.server) (sym (h.sides.each n r.0 side r.1 g).client) ∙ i.servers n r.0 r.1

-- a client that is put twice
set_set : {X : Type 0} (xs : List X) (n : ℕ) (x y : X) → set (set xs n x) n y ≡ set xs n y
set_set [] n x y = refl
set_set (z ∷ zs) zero x y = refl
set_set (z ∷ zs) (suc n) x y = ap (λ xs. z ∷ xs) (set_set zs n x y)

put_twice : (w : World) (number : ℕ) (x y : Side) → with_side (with_side w number x) number y ≡ with_side w number y
put_twice w zero x y = refl
put_twice w (suc n) x y = ap (λ xs. record w { sides = xs }) (set_set w.sides n x y)

number_put : (w : World) (number : ℕ) (old new : Side) → numbered w.sides number ≡ Some old → numbered (with_side w number new).sides number ≡ Some new
number_put w zero old new h = absurd (let z : None ≡ Some old = h in cc)
number_put w (suc n) old new h = get_set_same w.sides n old new h

module _ (m : AppSpec) (served : ℕ → Bool) (w : World) (k : ℕ) (e : Sent) (server : (number : ℕ) (side : Side) → numbered w.sides number
    ≡ Some side → side.client.setup.server ≡ w.node.addr) where
  -- what holds where a datagram of this kind is delivered
  pub record Hands (who : Who) (content : Content) (bytes : List ℕ) : Type 0 where
    pub same : hands_over m served (sees w (client_reported who) k e (numbered w.sides (client_reported who))) bytes who ≡ delivers m served w k e who content
    pub answers : AnswersTo (sees w (client_reported who) k e (numbered w.sides (client_reported who))) who
        (step m served w.node (event_of w.node.addr bytes)).sent

  from_client : (number id : ℕ) (s : PlainSegment) (bytes : List ℕ) (side : Side) → numbered w.sides number ≡ Some side
      → event_of w.node.addr bytes ≡ Arrived (client_sockets side) s → Hands (FromClient number) (OfSegment id s) bytes
  from_client number id s bytes side g r =
      let v : World = with_side w number (marked side k e) in
      record {
        same = ap (λ (x : Option Side). hands_over m served (sees w number k e x) bytes (FromClient number)) g
            ∙ ap (λ (event : Event). node_handles m served v event) r
            ∙ sym (ap (λ (x : Option Side). option_map_or (λ o. node_handles m served (with_side w number (marked o k e))
            (Arrived (client_sockets o) s)) x w) g);
        answers = subst (λ (x : Option Side). AnswersTo (sees w number k e x) (FromClient number)
            (step m served w.node (event_of w.node.addr bytes)).sent) (sym g)
            (subst (λ (x : Option Side). AreTo (pair_at_side x) (step m served w.node (event_of w.node.addr bytes)).sent)
            (sym (number_put w number side (marked side k e) g))
            (subst (λ (event : Event). AreTo (Some (pair_at (client_sockets side))) (step m served w.node event).sent) (sym r)
            (arrived_to m served w.node (client_sockets side) s (Some (pair_at (client_sockets side))) refl)));
      }

  from_node : (number id : ℕ) (s : PlainSegment) (bytes : List ℕ) (side : Side) → numbered w.sides number ≡ Some side
      → receives_datagram side.client.setup bytes ≡ Some s → Hands (FromNode number) (OfSegment id s) bytes
  from_node number id s bytes side g r =
      let x : Side = marked side k e in
      let v : World = with_side w number x in
      let took : ClientStep = client_takes side.client s in
      record {
        same = ap (λ (o : Option Side). hands_over m served (sees w number k e o) bytes (FromNode number)) g
            ∙ ap (λ (o : Option Side). option_map_or (handed v number bytes) o v) (number_put w number side x g)
            ∙ ap (λ (o : Option PlainSegment). option_map_or (λ t. client_stepped v number x (client_takes x.client t)) o v) r
            ∙ ap (λ (u : World). posts_of_client u number took.sent) (put_twice w number x (with_client x took.client))
            ∙ sym (ap (λ (o : Option Side). option_map_or (λ y. client_stepped w number (marked y k e) (client_takes y.client s)) o w) g);
        answers = tt;
      }

  pub hands : (who : Who) (content : Content) (bytes : List ℕ) → IsRead w who content bytes → IsSentBy w.sides who content → Hands who content bytes
  hands (FromClient number) (OfSegment id s) bytes r b = from_client number id s bytes b.0 b.1 (r b.0 b.1 (server number b.0 b.1))
  hands (FromNode number) (OfSegment id s) bytes r b = from_node number id s bytes b.0 b.1 (r b.0 b.1 (server number b.0 b.1))
  hands Pinger (OfPing datagram) bytes r b = record {
    same = ap (λ (event : Event). node_handles m served w event) r;
    answers = subst (λ (event : Event). AreTo None (step m served w.node event).sent) (sym r) refl;
  }
  hands (FromNode number) (OfEcho request) bytes r b = subst (λ n. Hands (FromNode n) (OfEcho request) bytes) (sym b) record { same = refl; answers = tt }
  hands (FromClient number) (OfPing datagram) bytes r b = absurd b
  hands (FromClient number) (OfEcho request) bytes r b = absurd b
  hands (FromNode number) (OfPing datagram) bytes r b = absurd b
  hands Pinger (OfSegment id s) bytes r b = absurd b
  hands Pinger (OfEcho request) bytes r b = absurd b

sees_node : (w : World) (client k : ℕ) (e : Sent) (side : Option Side) → (sees w client k e side).node ≡ w.node
sees_node w client k e None = refl
sees_node w client k e (Some side) = refl

sees_mark : (w : World) (client k : ℕ) (e : Sent) (side : Option Side) → (sees w client k e side).mark ≡ w.mark
sees_mark w client k e None = refl
sees_mark w client k e (Some side) = refl

module _ {A S : Type 0} (g : Ghosts A S) where
  pub seen : (world : CodeWorld A S) (link : Link) (w : World) (client k : ℕ) (e : Sent) (side : Option Side) → WorldRepresents g world w
      → LinkRepresents link (sees w client k e side) → IsLink w.node.addr link
      → WorldRepresents g (record world { link = link }) (sees w client k e side)
  seen world link w client k e side s l i = linked g world link world.area w (sees w client k e side) s (sees_node w client k e side)
      (sees_mark w client k e side) l i

-- what the node answers does not depend on what a client has seen
pub answers_seen : (m : AppSpec) (served : ℕ → Bool) (w : World) (client k : ℕ) (e : Sent) (side : Option Side) (who : Who) (bytes : List ℕ) →
    AnswersTo (sees w client k e side) who (step m served w.node (event_of w.node.addr bytes)).sent →
    AnswersTo (sees w client k e side) who (step m served (sees w client k e side).node (event_of (sees w client k e side).node.addr bytes)).sent
answers_seen m served w client k e side who bytes h =
    subst (λ (n : AbstractNode). AnswersTo (sees w client k e side) who (step m served n (event_of n.addr bytes)).sent) (sym (sees_node w client k e side)) h
