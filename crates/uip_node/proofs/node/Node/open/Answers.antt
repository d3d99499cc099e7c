-- The connection that was opened.
use Rattle.uip_node.proofs.Prelude.{ℕ, arith, ap, length, ◌∙◌, subst, refl, slice_set, Connection, accept, accepted, plain, seen}
use Rattle.uip_node.proofs.Prelude.{initial_number, sockets_of, SlotsRepresent}
use Rattle.uip_node.proofs.Naming.{like_named}
use Rattle.uip_node.proofs.Settling.{get_set}
use Rattle.uip_node.proofs.node.Node.open.Goals as goal

pub invariant_of-self : goal.invariant_of-self
invariant_of-self g c = record { size = c.self.invariant.size; kept = c.open_in-step.ensures.kept (g.A.App.config c.self.inside.shared) c.self.invariant.kept }

pub send_step-requires-clause-within : goal.send_step-requires-clause-within
send_step-requires-clause-within g c = omega (arith, c.open_in-step.ensures.long, c.requires.within, ap (λ x. length x.table.conns) c.self.view_is)

pub returns-clause-step : goal.returns-clause-step
returns-clause-step g c = rw (← c.self.view_is) (λ n event old text h within.
    let now = c.self.inside in
    let k = g.A.App.config now.shared in
    let app = g.A.App in
    let b : Connection = accepted (initial_number (seen event n.history)) (sockets_of c.args.peer c.args.seg.now) (plain c.args.seg.now text) in
    let slots = subst (λ (i : ℕ). SlotsRepresent app k c.open_in-step.new.table.conns
    (slice_set n.connections c.args.slot (accepted i (sockets_of c.args.peer c.args.seg.now) (plain c.args.seg.now text)))) h.iss
    (c.open_in-step.ensures.represented k n.connections text h.slots) in
    c.send_step.ensures.step n event old (accept (initial_number (seen event n.history)) (sockets_of c.args.peer c.args.seg.now)
    (plain c.args.seg.now text) n.numbers) h.addr within (c.open_in-step.ensures.iss ∙ h.iss) h.counts
    (record {
      slots = slots;
      counted = h.numbers_represented;
      asked = c.open_in-step.ensures.step;
      named = λ speaks d at. like_named d b ((slots.each c.args.slot d b at (get_set n.connections c.args.slot b within)).numbers.like refl);
    }))
