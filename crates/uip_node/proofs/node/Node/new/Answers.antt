-- Ten CLOSED connections and an empty history.
use Rattle.uip_node.proofs.Prelude.{ℕ, length, ap, ◌∙◌, refl, length-replicate, Buffer}
use Rattle.uip_node.proofs.Opening.{all_kept, all_represent}
use Rattle.uip_node.proofs.node.Node.new.Goals as goal

pub invariant_of-result : goal.invariant_of-result
invariant_of-result g c = record {
  size = ap (λ (b : Buffer). length b.area) c.in_ok-packet.ensures ∙ length-replicate {A = ℕ} 1500 0;
  kept = all_kept g.A.App (g.A.App.config c.args.shared) c.in_ok-table.table.conns c.in_ok-table.ensures.closed;
}

pub returns-clause-represented : goal.returns-clause-represented
returns-clause-represented g c = record {
  addr = refl;
  slots = all_represent g.A.App (g.A.App.config c.args.shared) c.in_ok-table.table.conns c.in_ok-table.ensures.closed c.count_slots.ensures.all;
  iss = c.in_ok-table.ensures.iss;
  numbers_represented = refl;
  counts = record { net = refl; ticks = refl; ident = refl };
}
