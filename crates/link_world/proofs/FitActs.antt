-- The acts preserve what holds of all connections and clients.
use Rattle.link_world.proofs.Prelude.{All, ◌≤◌, ℕ, suc, Bool, List, [], ◌∷◌, length, map, refl, sym, subst, Some, AppSpec, IsSteady, IsU32}
use Rattle.link_world.proofs.Prelude.{Connection, EchoAsked, Periodic, EchoReplied, Echo, remembers, AbstractClient, ClientStep}
use Rattle.link_world.proofs.Prelude.{client_takes, client_opens, client_again, client_closes, client_aborts, advertises_window, World}
use Rattle.link_world.proofs.Prelude.{Sent, Content, client_sockets, client_stepped, delivers, marked, node_handles, with_side, client_acts}
use Rattle.link_world.proofs.Prelude.{handles_all, does, Act, Who, IsLoss, FitConns}
use Rattle.link_world.proofs.Doing.{at_number, delivered_by}
use Rattle.link_world.proofs.Harmless.{Harmless}
use Rattle.link_world.proofs.Setups.{SameSetup, takes_setup, opens_setup, again_setup, closes_setup, aborts_setup}
use Rattle.link_world.proofs.FitWorlds.{FitWorld, FitSides, put_fits, client_fits, arrival_fits, periodic_fits, still_world}

pub loss_fits : (w v : World) → IsLoss w v → FitWorld w → FitWorld v
loss_fits w v l f = record {
  node = record {
    size = subst (λ (x : List Connection). length x ≤ 10) (sym l.connections) f.node.size;
    conns = subst FitConns (sym l.connections) f.node.conns;
    numbers = subst (λ x. All IsU32 x) (sym l.numbers) f.node.numbers;
  };
  sides = subst FitSides (sym l.sides) f.sides;
}

module _ (m : AppSpec) (steady : IsSteady m) (served : ℕ → Bool) where
  delivers_fit : (w : World) (k : ℕ) (e : Sent) (who : Who) (content : Content) → FitWorld w → FitWorld (delivers m served w k e who content)
  delivers_fit w k e who content f =
      delivered_by m served FitWorld w k e who content f
      (λ n side at s. arrival_fits m steady served (with_side w (suc n) (marked side k e)) (client_sockets side) s (f.sides n side at).addr
      (f.sides n side at).port (put_fits w n side (marked side k e) at refl refl f))
      (λ n side at s. client_fits w n side (marked side k e) (client_takes side.client s) at refl refl (takes_setup side.client s) f)
      (λ datagram is. still_world m steady served w (remembers w.node (EchoAsked datagram) EchoReplied) (Some (Echo datagram)) refl refl f)

  numbered_fit : (w : World) (number : ℕ) (act : AbstractClient → ClientStep) → ((c : AbstractClient) → SameSetup c (act c)) → FitWorld w
      → FitWorld (client_acts w number act)
  numbered_fit w number act s f =
      at_number FitWorld (λ i side. client_stepped w i side (act side.client)) w.sides number w f
      (λ n side at. client_fits w n side side (act side.client) at refl refl (s side.client) f)

  pub slots_fit : (slots : List ℕ) (w : World) → FitWorld w → FitWorld (handles_all m served (map Periodic slots) w)
  slots_fit [] w f = f
  slots_fit (slot ∷ slots) w f = slots_fit slots (node_handles m served w (Periodic slot)) (periodic_fits m steady served w slot f)

  pub does_fit : (w : World) (act : Act) → Harmless m served w act → FitWorld w → FitWorld (does m served w act)
  does_fit w (Act.Opens n) pl f = numbered_fit w n client_opens opens_setup f
  does_fit w (Act.Again n) pl f = numbered_fit w n client_again again_setup f
  does_fit w (Act.Closes n) pl f = numbered_fit w n client_closes closes_setup f
  does_fit w (Act.Aborts n) pl f = numbered_fit w n client_aborts aborts_setup f
  does_fit w (Act.Window n x) pl f = numbered_fit w n (advertises_window x) (λ c. refl) f
  does_fit w (Act.Ping source) pl f = record { node = f.node; sides = f.sides }
  does_fit w (Act.Give k) pl f = at_number FitWorld (λ i e. delivers m served w i e e.who e.content) w.sent k w f
      (λ n e at. delivers_fit w (suc n) e e.who e.content f)
  does_fit w (Act.Damage k at mask) pl f = loss_fits w (does m served w (Act.Damage k at mask)) pl f
  does_fit w Act.Tick pl f = slots_fit (0 ∷ 1 ∷ 2 ∷ 3 ∷ 4 ∷ 5 ∷ 6 ∷ 7 ∷ 8 ∷ 9 ∷ []) w f
