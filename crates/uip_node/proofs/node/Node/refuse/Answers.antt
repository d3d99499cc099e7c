-- The reset.
use Rattle.uip_node.proofs.Prelude.{ℕ, List, Some, ap, ◌∙◌, length, false, reset_for_no_connection, plain, datagram_bytes, datagram_to}
use Rattle.uip_node.proofs.Prelude.{sockets_of, Event, Arrived, Counts}
use Rattle.uip_node.proofs.Twice.{next_ident, sent_counted}
use Rattle.uip_node.proofs.node.Node.refuse.Goals as goal

pub returns-clause-step : goal.returns-clause-step
returns-clause-step g c = rw (← c.self.view_is) (λ n text h.
    let now = c.self.inside in
    let counts : Counts = record { net = now.net; ticks = now.ticks; ident = now.ident } in
    let event : Event = Arrived (sockets_of c.args.peer c.args.seg.now) (plain c.args.seg.now text) in
    let e = c.put_reset-len.ensures.bytes text
    ∙ ap (λ (i : ℕ). datagram_bytes (datagram_to now.addr (sockets_of c.args.peer c.args.seg.now) i
    (reset_for_no_connection (plain c.args.seg.now text)))) (next_ident counts event false n.history h.counts) in
    record {
      represented = record {
        addr = h.addr;
        slots = h.slots;
        iss = h.iss;
        numbers_represented = h.numbers_represented;
        counts = sent_counted counts event false n.history c.segment_sent.new.net h.counts (c.segment_sent.ensures n.history event h.counts.net);
      };
      sent = record {
        answer = ap (λ (k : ℕ). Some k) (c.put_reset-len.ensures.length ∙ ap (λ (xs : List ℕ). length xs) e);
        datagram = e;
      };
    })
