-- The counters represent the longer history.
use Rattle.uip_node.proofs.Prelude.{ℕ, ap, ◌∙◌, marks, raise, IpRefused}
use Rattle.uip_node.proofs.Twice.{counted}
use Rattle.uip_node.proofs.event_counts.refuse_ip.Goals as goal

pub returns : goal.returns
returns c = λ history h. counted (IpRefused c.args.fate) history c.args.net.now c.raised.result h
    (c.raised.ensures ∙ ap (λ (p : ℕ). raise (marks 0 p 20) c.args.net.now) c.ip_place.ensures)
