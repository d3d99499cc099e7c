-- The whole world: every connection and every past connection has captures of snapshots alone, and clients have addresses.
use Rattle.link_world.proofs.Prelude.{All, ◌≡◌, ℕ, zero, suc, ◌<◌, Bool, false, List, [], ◌∷◌, ◌++◌, length, get_or, refl, sym, ap, ◌∙◌}
use Rattle.link_world.proofs.Prelude.{subst, Option, Some, None, slice_get, position, ltb, PlainSegment, AppSpec, IsSteady, IsSnapshot}
use Rattle.link_world.proofs.Prelude.{IsAddr, Sockets, Connection, closed, serves, same_sockets, on_tick, Reply, Arrived, Periodic, Echo}
use Rattle.link_world.proofs.Prelude.{TcpReply, AbstractNode, NodeStep, snapshot, connection_in, step, ClientStep, World, Side}
use Rattle.link_world.proofs.Prelude.{PastConnection, Content, client_sockets, retires, retires_in, addressed, posts, posts_reply}
use Rattle.link_world.proofs.Prelude.{node_stepped, node_handles, with_client, with_side, posts_of_client, client_stepped}
use Rattle.link_world.proofs.Prelude.{past_connection_of, Who, FromNode, era, choose, get_map, get_set, here, there, FitConn, all_nil}
use Rattle.link_world.proofs.Prelude.{asked_fits, on_tick_fits, FitNode, FitStep, index_fits, node_snapshot, still_fits, happened_fits}
use Rattle.link_world.proofs.Prelude.{arrives_fits}

abbrev pub FitPast : List PastConnection → Type 0
FitPast history = (n : ℕ) → All IsSnapshot (get_or history n (past_connection_of closed)).snapshots

pub record FitSide (side : Side) : Type 0 where
  pub eras : FitPast side.history
  pub addr : IsAddr side.client.setup.addr
  pub port : side.client.setup.port.0 < 65536

abbrev pub FitSides : List Side → Type 0
FitSides sides = (k : ℕ) (side : Side) → slice_get sides k ≡ Some side → FitSide side

pub record FitWorld (w : World) : Type 0 where
  pub node : FitNode w.node
  pub sides : FitSides w.sides

pub era_fits : (history : List PastConnection) (c : Connection) → FitPast history → FitConn c → (o : ℕ) → All IsSnapshot (era history c o).snapshots
era_fits history c p f o = choose (λ (e : PastConnection). All IsSnapshot e.snapshots) (ltb o (length history)) _ _ (λ e. p o) (λ e. f.snapshots)

past_push : (history : List PastConnection) (x : PastConnection) → FitPast history → All IsSnapshot x.snapshots → FitPast (history ++ x ∷ [])
past_push [] x h f zero = f
past_push [] x h f (suc n) = all_nil IsSnapshot
past_push (a ∷ history) x h f zero = h zero
past_push (a ∷ history) x h f (suc n) = past_push history x (λ m. h (suc m)) f n

buries_fit : (gone : Option Connection) (sides : List Side) → ((g : Connection) → gone ≡ Some g → FitConn g) → FitSides sides → FitSides (retires gone sides)
buries_fit None sides f h k side x = h k side x
buries_fit (Some g) sides f h k side x =
    let m = get_map (retires_in g) sides k side x in
    let s : FitSide m.from = h k m.from m.get in
    subst (λ (o : Side). FitSide o) m.is
    (choose (λ (o : Side). FitSide o) (same_sockets g.sockets (client_sockets m.from)) _ _
    (λ e. record {
      eras = past_push m.from.history (record { iss = g.iss; snapshots = g.part.snapshots }) s.eras (f g refl).snapshots;
      addr = s.addr;
      port = s.port;
    })
    (λ e. s))

posts_fit : (w : World) (who : Who) (again : Bool) (content : Content) → FitWorld w → FitWorld (posts w who again content)
posts_fit w who again content f = record { node = f.node; sides = f.sides }

reply_fit : (w : World) (r : Option Reply) → FitWorld w → FitWorld (posts_reply w r)
reply_fit w None f = f
reply_fit w (Some (Echo request)) f = posts_fit w (FromNode 0) false _ f
reply_fit w (Some (TcpReply sockets id again s)) f = posts_fit w (FromNode (addressed 1 sockets w.sides)) again _ f

stepped_fit : (w : World) (r : NodeStep) → FitWorld w → FitStep r → FitWorld (node_stepped w r)
stepped_fit w r f h = reply_fit (record w { node = r.node; sides = retires r.gone w.sides }) r.sent
    record { node = h.node; sides = buries_fit r.gone w.sides h.gone f.sides }

module _ (m : AppSpec) (steady : IsSteady m) where
  pub arrival_fits : (served : ℕ → Bool) (w : World) (sockets : Sockets) (s : PlainSegment) → IsAddr sockets.peer
      → sockets.peer_port.0 < 65536 → FitWorld w → FitWorld (node_handles m served w (Arrived sockets s))
  arrival_fits served w sockets s a p f = stepped_fit w (step m served w.node (Arrived sockets s)) f
      (arrives_fits m steady served w.node sockets s (position (serves sockets) w.node.connections) a p f.node)

  pub periodic_fits : (served : ℕ → Bool) (w : World) (slot : ℕ) → FitWorld w → FitWorld (node_handles m served w (Periodic slot))
  periodic_fits served w slot f =
      stepped_fit w (step m served w.node (Periodic slot)) f
      (happened_fits m steady w.node (Periodic slot) slot (connection_in slot w.node) _ f.node
      (asked_fits m steady (snapshot w.node (Periodic slot) slot) (node_snapshot m steady w.node (Periodic slot) slot f.node)
      (on_tick m (connection_in slot w.node) w.node.numbers)
      (on_tick_fits m steady (connection_in slot w.node) w.node.numbers (index_fits w.node.connections slot f.node.conns) f.node.numbers)))

  pub still_world : (served : ℕ → Bool) (w : World) (d : AbstractNode) (sent : Option Reply) → d.connections ≡ w.node.connections
      → d.numbers ≡ w.node.numbers → FitWorld w → FitWorld (node_stepped w (record { node = d; sent = sent; gone = None }))
  still_world served w d sent ec en f = stepped_fit w (record { node = d; sent = sent; gone = None }) f (still_fits m steady w.node d sent ec en f.node)

-- a side is put anew
pub put_fits : (w : World) (n : ℕ) (side new : Side) → slice_get w.sides n ≡ Some side → new.history ≡ side.history
    → new.client.setup ≡ side.client.setup → FitWorld w → FitWorld (with_side w (suc n) new)
put_fits w n side new at q s f = record {
  node = f.node;
  sides = λ k x y. elim (get_set w.sides n new k x y) [
    | here e p ↦ (let h : FitSide side = f.sides n side at in subst (λ (o : Side). FitSide o) p record {
      eras = subst FitPast (sym q) h.eras;
      addr = subst (λ z. IsAddr z) (ap (λ (z : Rattle.link_client.specs.declared.setup.Setup.Setup). z.addr) (sym s)) h.addr;
      port = subst (λ z. z < 65536) (ap (λ (z : Rattle.link_client.specs.declared.setup.Setup.Setup). z.port.0) (sym s)) h.port;
    })
    | there m g ↦ f.sides k x g
  ];
}

pub client_fits : (w : World) (n : ℕ) (side base : Side) (took : ClientStep) → slice_get w.sides n ≡ Some side → base.history ≡ side.history
    → base.client.setup ≡ side.client.setup → took.client.setup ≡ base.client.setup → FitWorld w → FitWorld (client_stepped w (suc n) base took)
client_fits w n side base took at q s t f = go took.sent (put_fits w n side (with_client base took.client) at q (t ∙ s) f)
  where
    go : (x : Option PlainSegment) → FitWorld (with_side w (suc n) (with_client base took.client))
        → FitWorld (posts_of_client (with_side w (suc n) (with_client base took.client)) (suc n) x)
    go None g = g
    go (Some x) g = record { node = g.node; sides = g.sides }
