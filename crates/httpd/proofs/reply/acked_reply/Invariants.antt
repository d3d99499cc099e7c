use Rattle.httpd.proofs.Prelude.{◌≤◌, ◌+◌, ◌-◌, length, script_functions, left_from, reply_by}
use Rattle.httpd.proofs.Walking.{Walks}
use Rattle.httpd.proofs.reply.acked_reply.Given as goal

abbrev pub invariant-loop-left : goal.invariant-loop-left
invariant-loop-left g l = Walks (reply_by (script_functions g.R.Function.Calls.calling g.R.CallRecord.output) g.R.CallRecord.text l.site
    l.found l.capture) l.fn.thread l.place (l.count - l.left) × (l.left ≤ l.count)

abbrev pub decreases-loop-left : goal.decreases-loop-left
decreases-loop-left g l = length (left_from (reply_by (script_functions g.R.Function.Calls.calling g.R.CallRecord.output)
    g.R.CallRecord.text l.site l.found l.capture) l.place) + l.left
