-- The buffer holds what there is of the longer text.
use Rattle.generators.proofs.Prelude.{arith}
use Rattle.generators.proofs.parts.put.Goals as goal
use Rattle.generators.proofs.Pasting.{put_holds}

pub returns-clause-part : goal.returns-clause-part
returns-clause-part c = λ text h.
    rw c.paste.ensures
    (put_holds text c.args.piece.now c.args.out.now c.args.place c.min-from.result c.min-to.result c.min-count.result (omega arith)
    (omega arith) c.min-count.ensures h)
