use Rattle.httpd.proofs.Prelude.{length, script_functions, left_from, reply_by}
use Rattle.httpd.proofs.Walking.{Walks}
use Rattle.httpd.proofs.reply.due_call.Given as goal

abbrev pub invariant-loop-seen : goal.invariant-loop-seen
invariant-loop-seen g l = Walks (reply_by (script_functions g.R.Function.Calls.calling g.R.CallRecord.output) g.R.CallRecord.text l.site
    l.found l.capture) l.fn.thread l.place 0

abbrev pub decreases-loop-seen : goal.decreases-loop-seen
decreases-loop-seen g l = length (left_from (reply_by (script_functions g.R.Function.Calls.calling g.R.CallRecord.output)
    g.R.CallRecord.text l.site l.found l.capture) l.place)
