-- A CLOSED connection does nothing, and any other counts its tick.
use Rattle.uip_node.proofs.Prelude.{rules, ℕ, ◌≡◌, ◌+◌, ◌%◌, ◌<◌, List, Some, arith, ap, sym, ◌∙◌, subst, length, false, slice_get}
use Rattle.uip_node.proofs.Prelude.{slice_get-get_or, is_live, Conn, Outcome, asked, Connection, closed, on_tick, Event, Periodic}
use Rattle.uip_node.proofs.Prelude.{connection_in, happened, snapshot, AllWellFormed, MeetsAt, SlotsRepresent, Steps, CountsRepresent, seen}
use Rattle.uip_node.proofs.Prelude.{Counts}
use Rattle.uip_node.proofs.Finishing.{finished}
use Rattle.uip_node.proofs.Stepping.{next_first, rests_at, slice_get-element}
use Rattle.uip_node.proofs.node.Node.periodic.Goals as goal

pub returns-then-not-is_live_in-clause-refines : goal.returns-then-not-is_live_in-clause-refines
returns-then-not-is_live_in-clause-refines g c = rw (← c.self.view_is) (record {
  same = search rules;
  step = λ n h.
      let now = c.self.inside in
      let k = g.A.App.config now.shared in
      let m = g.A.App.app_spec k in
      let app = g.A.App in
      let slot = c.args.slot in
      let a : Connection = connection_in slot n in
      let within : slot < length n.connections = omega (arith, c.requires.within, c.count_slots.ensures.all, h.slots.same_length) in
      let there : slice_get n.connections slot ≡ Some a = slice_get-get_or n.connections slot closed within in
      let conns = now.table.conns in
      let at = slice_get-element conns slot (omega (arith, c.requires.within, c.count_slots.ensures.all)) in
      let stand = h.slots.each slot at.0 a at.1 there in
      let here = subst (λ (cs : List (Conn g.row.A.Denot)). slice_get cs slot ≡ Some at.0) (sym c.next_iss.ensures.conns) at.1 in
      let dead : is_live a.state ≡ false = sym (ap is_live stand.numbers.state) ∙ (sym (c.is_live_in.ensures at.0 here) ∙ c.if-not-is_live_in.true) in
      let counts : Counts = record { net = now.net; ticks = c.ticks_at-self-inside.result; ident = now.ident } in
      rests_at app m (record { addr = now.addr; packet = now.packet; table = c.next_iss.new.self; counts = counts; shared = now.shared }) n slot h.addr
      (subst (λ (cs : List (Conn g.row.A.Denot)). SlotsRepresent app k cs n.connections) (sym c.next_iss.ensures.conns) h.slots)
      (c.next_iss.ensures.iss ∙ ap (λ (i : ℕ). (i + 1) % 4294967296) h.iss ∙ next_first n.history slot)
      h.numbers_represented (record { net = h.counts.net; ticks = c.ticks_at-self-inside.ensures n.history h.counts.ticks; ident = h.counts.ident }) there dead;
})

pub invariant_of-self : goal.invariant_of-self
invariant_of-self g c = record {
  size = c.self.invariant.size;
  kept = subst (λ (cs : List (Conn g.row.A.Denot)). AllWellFormed g.A.App (g.A.App.config c.self.inside.shared) cs)
      (sym c.next_iss.ensures.conns) c.self.invariant.kept;
}

pub take_tick-step-requires-clause-kept : goal.take_tick-step-requires-clause-kept
take_tick-step-requires-clause-kept g c =
    subst (λ (cs : List (Conn g.row.A.Denot)). AllWellFormed g.A.App (g.A.App.config c.self.inside.shared) cs)
    (sym c.next_iss.ensures.conns) c.self.invariant.kept

pub ask_app-answer-requires-clause-others : goal.ask_app-answer-requires-clause-others
ask_app-answer-requires-clause-others g c = λ j d other h.
    (c.self.invariant.kept j d (subst (λ (cs : List (Conn g.row.A.Denot)). slice_get cs j ≡ Some d) c.next_iss.ensures.conns
    (c.take_tick-step.ensures.took.others j d other h))).busy

pub returns-clause-refines : goal.returns-clause-refines
returns-clause-refines g c = rw (← c.self.view_is) (record {
  same = search rules;
  step = λ n h.
      let app = g.A.App in
      let now = c.self.inside in
      let k = app.config now.shared in
      let m = app.app_spec k in
      let slot = c.args.slot in
      let step = c.take_tick-step in
      let answer = c.ask_app-answer in
      let counts : Counts = record { net = now.net; ticks = c.ticks_at-self-inside.result; ident = now.ident } in
      let a : Connection = connection_in slot n in
      let within : slot < length n.connections = omega (arith, c.requires.within, c.count_slots.ensures.all, h.slots.same_length) in
      let there : slice_get n.connections slot ≡ Some a = slice_get-get_or n.connections slot closed within in
      let event : Event = Periodic slot in
      let o : Outcome = on_tick m a n.numbers in
      let slots = subst (λ (cs : List (Conn g.row.A.Denot)). SlotsRepresent app k cs n.connections) (sym c.next_iss.ensures.conns) h.slots in
      let one = step.ensures.meets n.connections a slots there in
      let two = subst (λ (ns : List ℕ). MeetsAt app k step.new.table.conns (app.numbers step.new.shared) step.result n.connections slot
      (on_tick m a ns)) h.numbers_represented one in
      let three = subst (λ (j : app.Config). MeetsAt app j step.new.table.conns (app.numbers step.new.shared) step.result n.connections slot
      o) (sym step.ensures.same) two in
      let stand : CountsRepresent counts (seen event n.history) =
      record { net = h.counts.net; ticks = c.ticks_at-self-inside.ensures n.history h.counts.ticks; ident = h.counts.ident } in
      let four = finished app (app.config step.new.shared) (app.app_spec (app.config step.new.shared)) answer.new.table.conns
      (app.numbers step.new.shared) answer.result n event slot o counts stand
      (answer.ensures.meets n.connections o within three) in
      subst (λ (j : app.Config). Steps app c.send_step.new.self c.send_step.result
      (happened (app.app_spec j) n event slot a (asked (app.app_spec j) (snapshot n event slot) o))) step.ensures.same
      (c.send_step.ensures.step n event a (asked (app.app_spec (app.config step.new.shared)) (snapshot n event slot) o) h.addr within
      (answer.ensures.iss ∙ step.ensures.took.iss ∙ c.next_iss.ensures.iss ∙ ap (λ (i : ℕ). (i + 1) % 4294967296) h.iss
      ∙ next_first n.history slot) stand four);
})
