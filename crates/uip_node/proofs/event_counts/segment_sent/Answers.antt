-- The counters represent the longer history.
use Rattle.uip_node.proofs.Prelude.{ℕ, ap, ◌∙◌, again_place, Spoke, marks, raise}
use Rattle.uip_node.proofs.Twice.{second, speaks}
use Rattle.uip_node.proofs.event_counts.segment_sent.Goals as goal

pub returns : goal.returns
returns c = λ history event h.
    second event (Spoke c.args.again) history 1 15 (again_place c.args.again) c.args.net.now c.raised.result (speaks c.args.again event) h
    (c.raised.ensures ∙ ap (λ (p : ℕ). raise (marks 1 15 p) c.args.net.now) c.again_place.ensures)
