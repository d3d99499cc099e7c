use Rattle.httpd.proofs.Prelude.{◌+◌, arith, script_functions, left_from, reply_by}
use Rattle.httpd.proofs.Walking.{plain_seen, text_unless, walks_on, walks_to}
use Rattle.httpd.proofs.reply.due_call.Goals as goal

pub loop-seen-preserved : goal.loop-seen-preserved
loop-seen-preserved g c =
    let r = reply_by (script_functions g.R.Function.Calls.calling g.R.CallRecord.output) g.R.CallRecord.text c.args.site.now c.args.found c.args.capture.now in
    let text = text_unless c.look-seen.result.span c.in_default.not-Call c.in_default.not-End in
    walks_to r c.args.thread c.look-seen.result.next (0 + c.span_len-len.result) 0 (omega arith)
    (walks_on g.R.CallRecord.text r c.args.thread c.loop-seen.place 0 c.span_len-len.result c.look-seen.result c.loop-seen.invariant
    (plain_seen g.R.CallRecord.text r (left_from r c.loop-seen.place) c.look-seen.result text c.look-seen.ensures.sees) c.span_len-len.ensures.length)
