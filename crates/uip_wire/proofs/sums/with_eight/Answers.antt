use Rattle.uip_wire.proofs.Prelude.{ℕ, ◌+◌, ap, ◌∙◌, drop, take_rest, folded, swapped_sum}
use Rattle.uip_wire.proofs.Wide.{next_eight}
use Rattle.uip_wire.proofs.sums.with_eight.Goals as goal

pub returns-then-bytes-ge8-clause-same : goal.returns-then-bytes-ge8-clause-same
returns-then-bytes-ge8-clause-same c =
    rw take_rest
    (ap (λ (n : ℕ). folded (c.args.sum + n + swapped_sum (drop 8 c.args.bytes.now))) (c.from-one.ensures ∙ c.read_u64.ensures)
    ∙ next_eight c.args.sum c.args.bytes.now c.if-bytes-ge8.true)
