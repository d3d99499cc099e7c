use Rattle.file_tree.proofs.Prelude.{arith}
use Rattle.file_tree.proofs.MeasureLemmas.{measuring-goes-on, measuring-fails, measuring-ends, measuring-measured}
use Rattle.file_tree.proofs.pages.measure.Goals as goal

pub returns-in-Err-clause-scripts : goal.returns-in-Err-clause-scripts
returns-in-Err-clause-scripts c =
    measuring-fails c.args.image.now c.args.files.now c.loop-index.files c.args.order.now c.loop-index.index
    (record { name_at = 0; name_len = 0; kind_at = 0; kind_len = 0; at = 0; len = 0; greatest = 0 }) c.in-Err.why
    c.loop-index.invariant (omega (arith, c.loop-index-test.true, c.loop-index.invariant.count)) c.in-Err.ensures.err

pub loop-index-preserved : goal.loop-index-preserved
loop-index-preserved c =
    measuring-goes-on c.args.image.now c.args.files.now c.loop-index.files c.args.order.now c.loop-index.index c.in-Ok.greatest
    (record { name_at = 0; name_len = 0; kind_at = 0; kind_len = 0; at = 0; len = 0; greatest = 0 })
    c.loop-index.invariant (omega (arith, c.loop-index-test.true, c.loop-index.invariant.count)) c.in-Ok.ensures.sound c.in-Ok.ensures.len

pub returns-clause-scripts : goal.returns-clause-scripts
returns-clause-scripts c =
    measuring-ends c.args.image.now c.args.files.now c.loop-index.files c.args.order.now c.loop-index.index c.loop-index.invariant
    (omega (arith, c.loop-index-test.false, c.loop-index.invariant.count))

pub returns-clause-measured : goal.returns-clause-measured
returns-clause-measured c =
    measuring-measured c.args.image.now c.args.files.now c.loop-index.files c.args.order.now c.loop-index.index c.loop-index.invariant
    (omega (arith, c.loop-index-test.false, c.loop-index.invariant.count))
