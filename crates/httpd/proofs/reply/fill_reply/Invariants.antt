use Rattle.httpd.proofs.Prelude.{◌+◌, ◌-◌, length, script_functions, left_from, reply_by}
use Rattle.httpd.proofs.Walking.{Fills}
use Rattle.httpd.proofs.reply.fill_reply.Given as goal

abbrev pub invariant-loop-from : goal.invariant-loop-from
invariant-loop-from g l = Fills (reply_by (script_functions g.R.Function.Calls.calling g.R.CallRecord.output) g.R.CallRecord.text l.site
    l.found l.capture) l.fn.thread l.place l.from l.out

abbrev pub decreases-loop-from : goal.decreases-loop-from
decreases-loop-from g l = length (left_from (reply_by (script_functions g.R.Function.Calls.calling g.R.CallRecord.output)
    g.R.CallRecord.text l.site l.found l.capture) l.place) + (length l.out - l.from)
