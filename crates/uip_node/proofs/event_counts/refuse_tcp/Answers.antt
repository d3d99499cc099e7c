-- The counters represent the longer history.
use Rattle.uip_node.proofs.Prelude.{ℕ, ap, ◌∙◌, marks, raise, TcpRefused}
use Rattle.uip_node.proofs.Twice.{counted}
use Rattle.uip_node.proofs.event_counts.refuse_tcp.Goals as goal

pub returns : goal.returns
returns c = λ history h. counted (TcpRefused c.args.fate) history c.args.net.now c.raised.result h
    (c.raised.ensures ∙ ap (λ (p : ℕ). raise (marks 0 14 p) c.args.net.now) c.tcp_place.ensures)
