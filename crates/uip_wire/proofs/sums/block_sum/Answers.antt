use Rattle.uip_wire.proofs.Prelude.{◌∙◌, ap, take_rest, little_number}
use Rattle.uip_wire.proofs.Wide.{next_block}
use Rattle.uip_wire.proofs.sums.block_sum.Goals as goal

pub returns-clause-same : goal.returns-clause-same
returns-clause-same c = λ before.
    next_block before c.from.result c.from-2.result c.from-3.result c.from-4.result c.args.bytes.now c.requires
    (c.from.ensures ∙ c.read_u64.ensures)
    (c.from-2.ensures ∙ c.read_u64-2.ensures ∙ ap (little_number 8) (take_rest c.args.bytes.now 8))
    (c.from-3.ensures ∙ c.read_u64-3.ensures ∙ ap (little_number 8) (take_rest c.args.bytes.now 16))
    (c.from-4.ensures ∙ c.read_u64-4.ensures ∙ ap (little_number 8) (take_rest c.args.bytes.now 24))
