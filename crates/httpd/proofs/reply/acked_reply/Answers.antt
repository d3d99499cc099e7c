use Rattle.httpd.proofs.Prelude.{arith, ◌-◌, sym, subst, script_functions, reply_by, KeepsDirective}
use Rattle.httpd.proofs.Seeing.{keeps_in}
use Rattle.httpd.proofs.Walking.{acked_on, less_by, nearer}
use Rattle.httpd.proofs.reply.acked_reply.Goals as goal

pub loop-left-preserved : goal.loop-left-preserved
loop-left-preserved g c = (
  acked_on g.R.CallRecord.text (reply_by (script_functions g.R.Function.Calls.calling g.R.CallRecord.output) g.R.CallRecord.text
      c.args.site.now c.args.found c.args.capture.now) c.args.thread c.loop-left.place c.args.count c.loop-left.left c.span_len-len.result c.look-seen.result
      c.requires.enough c.loop-left.invariant.0 c.loop-left.invariant.1 c.loop-left-test.true c.look-seen.ensures.sees
      c.span_len-len.ensures.length c.if-left-len.false,
  omega (arith, c.loop-left.invariant.1),
)

pub loop-left-smaller : goal.loop-left-smaller
loop-left-smaller g c =
    let r = reply_by (script_functions g.R.Function.Calls.calling g.R.CallRecord.output) g.R.CallRecord.text c.args.site.now c.args.found c.args.capture.now in
    let down = nearer g.R.CallRecord.text r c.args.thread c.loop-left.place (c.args.count - c.loop-left.left) c.span_len-len.result c.look-seen.result
    (omega (arith, c.requires.enough, c.loop-left.invariant.1)) c.loop-left.invariant.0 c.look-seen.ensures.sees c.span_len-len.ensures.length in
    less_by _ _ c.span_len-len.result c.loop-left.left _ down.0 down.1 (omega arith) (λ some. omega arith) (omega arith)

pub returns-then-left-len-clause-kept : goal.returns-then-left-len-clause-kept
returns-then-left-len-clause-kept g c =
    let r = reply_by (script_functions g.R.Function.Calls.calling g.R.CallRecord.output) g.R.CallRecord.text c.args.site.now c.args.found c.args.capture.now in
    λ captures keeps. subst (λ t. KeepsDirective r captures t) (sym c.moved.ensures)
    (keeps_in r c.look-seen.result.here _ captures (c.look-seen.ensures.kept captures (c.loop-left.invariant.0.kept captures keeps)))
