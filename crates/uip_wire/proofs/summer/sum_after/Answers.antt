use Rattle.uip_wire.proofs.Prelude.{◌∙◌, take_rest}
use Rattle.uip_wire.proofs.Pieces.{low_first}
use Rattle.uip_wire.proofs.summer.sum_after.Goals as goal

pub returns-in-len1-up : goal.returns-in-len1-up
returns-in-len1-up c =
    c.ones_add.ensures
    ∙ low_first c.args.piece.now c.args.is_odd c.from.result c.ones_sum.result c.if-is_odd.true c.in-len1-up.len_at_least
    c.from.ensures (rw take_rest at c.ones_sum.ensures)
