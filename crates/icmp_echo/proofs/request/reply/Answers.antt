use Rattle.icmp_echo.proofs.Prelude.{arith, ap, sym, ◌∙◌, ◌-◌, length, length-take, take, drop, echo_fate, head_facts, datagram_in}
use Rattle.icmp_echo.proofs.InPlace.{message_received}
use Rattle.icmp_echo.proofs.request.reply.Goals as goal

pub slice_bounds-fate_of-count : goal.slice_bounds-fate_of-count
slice_bounds-fate_of-count c =
    let facts = head_facts c.args.head.now (datagram_in c.args.packet.now) c.requires in omega (arith, facts.least)

pub slice_bounds-fate_of-start : goal.slice_bounds-fate_of-start
slice_bounds-fate_of-start c =
    let facts = head_facts c.args.head.now (datagram_in c.args.packet.now) c.requires in
    omega (arith, facts.least, facts.most, ap length c.bytes-datagram.ensures)

pub slice_bounds-fate_of-end : goal.slice_bounds-fate_of-end
slice_bounds-fate_of-end c =
    let facts = head_facts c.args.head.now (datagram_in c.args.packet.now) c.requires in
    omega (arith, facts.most, ap length c.bytes-datagram.ensures)

pub answer-requires-clause-asks : goal.answer-requires-clause-asks
answer-requires-clause-asks c =
    let facts = head_facts c.args.head.now (datagram_in c.args.packet.now) c.requires in
    let area = c.args.packet.now.area in
    ap (λ l. echo_fate (drop 20 (take c.from-total.result l))) c.area_mut.ensures.value
    ∙ ap echo_fate (message_received area c.args.packet.now.len c.from-total.result (omega (arith, facts.least))
    (omega (arith, facts.most, length-take c.args.packet.now.len area)))
    ∙ ap (λ l. echo_fate (take (c.from-total.result - 20) (drop 20 l))) (sym c.bytes-datagram.ensures)
    ∙ sym c.fate_of.ensures ∙ c.in_default.is
