use Rattle.file_tree.proofs.Prelude.{◌∙◌, arith}
use Rattle.file_tree.proofs.InsertLemmas.{moved-down}
use Rattle.file_tree.proofs.table_reader.insert_reserved.Goals as goal

pub loop-at-preserved : goal.loop-at-preserved
loop-at-preserved c =
    let at = c.loop-at.at in (
      omega (arith, c.loop-at-test.true),
      omega (arith, c.loop-at.invariant.1),
      c.swap.ensures.items
          ∙ moved-down c.args.order.now.items c.loop-at.order.items at c.args.id (omega (arith, c.loop-at-test.true)) c.loop-at.invariant.1
          c.loop-at.invariant.2,
      c.swap.ensures.capacity ∙ c.loop-at.invariant.3,
    )
