-- The step of the connection, and what follows.
use Rattle.uip_node.proofs.Prelude.{ℕ, ◌≡◌, List, Some, length, arith, ap, sym, ◌∙◌, subst, slice_get, slice_get-get_or, Outcome, asked}
use Rattle.uip_node.proofs.Prelude.{Connection, closed, on_segment, plain, plain_of, datagram_in, connection_in, happened, snapshot}
use Rattle.uip_node.proofs.Prelude.{MeetsAt, Steps, Counts}
use Rattle.uip_node.proofs.Finishing.{finished}
use Rattle.uip_node.proofs.node.Node.deliver.Goals as goal

pub ask_app-answer-requires-clause-within : goal.ask_app-answer-requires-clause-within
ask_app-answer-requires-clause-within g c = omega (
  arith,
  c.take_segment-step.ensures.took.long,
  c.requires.within,
  ap (λ x. length x.table.conns) c.self.view_is,
)

pub ask_app-answer-requires-clause-others : goal.ask_app-answer-requires-clause-others
ask_app-answer-requires-clause-others g c = λ j d other h. (c.self.invariant.kept j d (c.take_segment-step.ensures.took.others j d other h)).busy

pub returns-clause-step : goal.returns-clause-step
returns-clause-step g c = rw (← c.self.view_is) (λ n event h within.
    let now = c.self.inside in
    let k = g.A.App.config now.shared in
    let m = g.A.App.app_spec k in
    let app = g.A.App in
    let slot = c.args.slot in
    let step = c.take_segment-step in
    let answer = c.ask_app-answer in
    let counts : Counts = record { net = now.net; ticks = now.ticks; ident = now.ident } in
    let a : Connection = connection_in slot n in
    let there : slice_get n.connections slot ≡ Some a = slice_get-get_or n.connections slot closed within in
    let one = step.ensures.meets n.connections a h.slots there in
    let two = subst (λ (ns : List ℕ). MeetsAt app k step.new.table.conns (g.A.App.numbers step.new.shared) step.result n.connections slot
    (on_segment m a ns (plain c.args.seg.now c.text-piece.result.now))) h.numbers_represented one in
    let three = subst (λ (text : List ℕ). MeetsAt app k step.new.table.conns (g.A.App.numbers step.new.shared) step.result n.connections
    slot (on_segment m a n.numbers (plain c.args.seg.now text)))
    (c.text-piece.ensures ∙ ap (λ (bytes : List ℕ). (plain_of c.args.seg.now bytes).text) c.bytes.ensures) two in
    let o : Outcome = on_segment m a n.numbers (plain_of c.args.seg.now (datagram_in now.packet)) in
    let four = subst (λ (j : g.A.App.Config). MeetsAt app j step.new.table.conns (g.A.App.numbers step.new.shared) step.result n.connections
    slot o) (sym step.ensures.same) three in
    let five = finished app (g.A.App.config step.new.shared) (g.A.App.app_spec (g.A.App.config step.new.shared)) answer.new.table.conns
    (g.A.App.numbers step.new.shared) answer.result n event slot o counts h.counts
    (answer.ensures.meets n.connections o within four) in
    subst (λ (j : g.A.App.Config). Steps app c.send_step.new.self c.send_step.result (happened (g.A.App.app_spec j) n event slot a
    (asked (g.A.App.app_spec j) (snapshot n event slot) o))) step.ensures.same
    (c.send_step.ensures.step n event a (asked (g.A.App.app_spec (g.A.App.config step.new.shared)) (snapshot n event slot) o) h.addr within
    (answer.ensures.iss ∙ step.ensures.took.iss ∙ h.iss) h.counts five))
