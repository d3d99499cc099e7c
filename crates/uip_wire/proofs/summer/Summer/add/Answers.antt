use Rattle.uip_wire.proofs.Prelude.{◌∙◌}
use Rattle.uip_wire.proofs.Pieces.{add_piece}
use Rattle.uip_wire.proofs.summer.Summer.add.Goals as goal

pub returns : goal.returns
returns c = λ bytes e.
    let v = c.self.view_is in
    add_piece bytes c.args.piece.now _ c.sum_after.result c.ones_add-self-inside.result (v ∙ e) c.sum_after.ensures
    c.ones_add-self-inside.ensures
