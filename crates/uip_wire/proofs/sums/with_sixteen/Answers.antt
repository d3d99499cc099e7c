use Rattle.uip_wire.proofs.Prelude.{◌∙◌, ap, take_rest, little_number}
use Rattle.uip_wire.proofs.Wide.{next_sixteen}
use Rattle.uip_wire.proofs.sums.with_sixteen.Goals as goal

pub returns-then-bytes-ge16-clause-same : goal.returns-then-bytes-ge16-clause-same
returns-then-bytes-ge16-clause-same c =
    rw take_rest
    (next_sixteen c.args.sum c.from.result c.from-then-bytes-ge16.result c.args.bytes.now c.if-bytes-ge16.true
    (c.from.ensures ∙ c.read_u64.ensures)
    (c.from-then-bytes-ge16.ensures ∙ c.read_u64-then-bytes-ge16.ensures ∙ ap (little_number 8) (take_rest c.args.bytes.now 8)))
