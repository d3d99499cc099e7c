use Rattle.httpd.proofs.Prelude.{◌≤◌, ◌+◌, ◌-◌, [], length, files_of, text_by, LARGEST_SEGMENT, script_functions, left_from, reply_by}
use Rattle.httpd.proofs.Walking.{Walks}
use Rattle.httpd.proofs.reply.want_reply.Given as goal

abbrev pub invariant-loop-ready : goal.invariant-loop-ready
invariant-loop-ready g l =
    Walks (reply_by (script_functions g.R.Function.Calls.calling g.R.CallRecord.output) g.R.CallRecord.text l.site l.found l.capture)
    l.fn.thread l.place l.ready
    × (l.ready ≤ length (text_by (script_functions g.R.Function.Calls.calling g.R.CallRecord.output) (files_of l.site)
    (left_from (reply_by (script_functions g.R.Function.Calls.calling g.R.CallRecord.output) g.R.CallRecord.text l.site l.found l.capture) l.fn.thread) []))

abbrev pub decreases-loop-ready : goal.decreases-loop-ready
decreases-loop-ready g l = length (left_from (reply_by (script_functions g.R.Function.Calls.calling g.R.CallRecord.output)
    g.R.CallRecord.text l.site l.found l.capture) l.place) + (LARGEST_SEGMENT - l.ready)
