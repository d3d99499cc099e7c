use Rattle.httpd.proofs.Prelude.{arith, script_functions, reply_by}
use Rattle.httpd.proofs.Walking.{fills_on, less_by, nearer}
use Rattle.httpd.proofs.reply.fill_reply.Goals as goal

pub loop-from-preserved : goal.loop-from-preserved
loop-from-preserved g c =
    fills_on g.R.CallRecord.text (reply_by (script_functions g.R.Function.Calls.calling g.R.CallRecord.output) g.R.CallRecord.text
    c.args.site.now c.args.found c.args.capture.now) c.args.thread c.loop-from.place c.loop-from.from c.span_len.result c.min-count.result
    c.loop-from.out c.look-seen.result
    c.requires.fits (omega (arith, c.loop-from.auto.out, c.requires.enough)) c.loop-from.invariant c.loop-from-test.true
    c.look-seen.ensures.sees c.span_len.ensures.length c.min-count.ensures c.write_at.new.out c.write_at.ensures

pub loop-from-smaller : goal.loop-from-smaller
loop-from-smaller g c =
    let r = reply_by (script_functions g.R.Function.Calls.calling g.R.CallRecord.output) g.R.CallRecord.text c.args.site.now c.args.found c.args.capture.now in
    let down = nearer g.R.CallRecord.text r c.args.thread c.loop-from.place c.loop-from.from c.span_len.result c.look-seen.result
    (omega (arith, c.loop-from.auto.out, c.requires.enough)) (c.loop-from.invariant.walks (omega arith)) c.look-seen.ensures.sees c.span_len.ensures.length in
    less_by _ _ c.span_len.result _ _ down.0 down.1 (omega arith) (λ some. omega arith) (omega arith)
