use Rattle.own_node.proofs.Prelude.{List, ap, subst, sym, ℕ, ◌∙◌, AllWellFormed, SlotsRepresent, message_of, write_message}
use Rattle.own_node.proofs.message_output.put_message.Goals as goal

pub invariant_of-node : goal.invariant_of-node
invariant_of-node g c = record {
  size = c.node.invariant.size;
  kept = subst (λ k. AllWellFormed g.H.App k c.node.inside.table.conns) (sym c.put.ensures.same) c.node.invariant.kept;
}

pub returns-clause-replaces : goal.returns-clause-replaces
returns-clause-replaces g c = rw (← c.node.view_is) (λ n represents. record {
  addr = represents.addr;
  slots = subst (λ k. SlotsRepresent g.H.App k c.node.inside.table.conns n.connections) (sym c.put.ensures.same) represents.slots;
  iss = represents.iss;
  numbers_represented = c.put.ensures.numbers ∙ ap (λ (l : List ℕ). g.H.HoldsOwn.among (write_message (message_of c.args.message)) l)
      represents.numbers_represented;
  counts = represents.counts;
})

pub returns-clause-kept : goal.returns-clause-kept
returns-clause-kept g c = rw (← c.node.view_is) c.put.ensures.same
