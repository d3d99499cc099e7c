-- A node whose application changes its counters, and nothing else.
use Rattle.uip_device.proofs.Prelude.{◌≡◌, ℕ, List, refl, sym, ap, ◌∙◌, subst, Ghosts, Node, ChangesNode}
use Rattle.uip_node.specs.Represents.{IsWellFormed}
use Rattle.uip_node.specs.Slots.{AllWellFormed, SlotsRepresent}

pub numbers_changed : {A S : Type 0} (g : Ghosts A S) (change : List ℕ → List ℕ) (old : Node A S) (shared : S) → g.config shared ≡ g.config old.shared
    → g.numbers shared ≡ change (g.numbers old.shared) → ChangesNode g change old (record old { shared = shared })
numbers_changed g change old shared same changed = record {
  kept = same;
  packet = refl;
  represented = λ m own n p. record {
    meant = ap (λ k. g.app_spec k) same ∙ p.meant;
    address = p.address;
    represented = record {
      addr = p.represented.addr;
      slots = subst (λ (k : g.Config). SlotsRepresent g k old.table.conns n.connections) (sym same) p.represented.slots;
      iss = p.represented.iss;
      numbers_represented = changed ∙ ap change p.represented.numbers_represented;
      counts = p.represented.counts;
    };
  };
}

-- it is well-formed as before
pub well_formed_still : {A S : Type 0} (g : Ghosts A S) (old : Node A S) (shared : S) → g.config shared ≡ g.config old.shared
    → IsWellFormed g old.packet old.table.conns old.shared → IsWellFormed g old.packet old.table.conns shared
well_formed_still g old shared same is =
    record { size = is.size; kept = subst (λ (k : g.Config). AllWellFormed g k old.table.conns) (sym same) is.kept }
