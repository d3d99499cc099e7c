-- What is left of two texts after a prefix of both.
use Rattle.std.proofs.Common.{◌∙◌, ap, min}
use Rattle.protothread.proofs.both.advance_both.Goals as goal
use Rattle.protothread.proofs.Splits.{drop_split}

pub returns-clause-rest : goal.returns-clause-rest
returns-clause-rest g c =
    rw (c.advance.ensures.rest, c.advance-2.ensures.rest)
    (drop_split (g.A.Says.text_left c.args.first.now c.args.world.now) (g.B.Says.text_left c.args.second.now c.args.world.now) c.min-middle.result c.args.count
    (c.min-middle.ensures ∙ ap (λ n. min n c.args.count) c.left.ensures))
