use Rattle.httpd.proofs.Prelude.{ap, script_functions, left_from, reply_by}
use Rattle.httpd.proofs.Seeing.{end_seen}
use Rattle.httpd.proofs.next_span.look.Goals as goal

pub returns-clause-sees : goal.returns-clause-sees
unfolding left_from
returns-clause-sees g c =
    let r = reply_by (script_functions g.R.Function.Calls.calling g.R.CallRecord.output) g.R.CallRecord.text c.args.site.now c.args.found c.args.capture.now in
    end_seen g.R.CallRecord.text r (left_from r c.args.thread) c.look_end.result (ap (λ t. left_from r t) c.in-End.is) c.look_end.ensures.span

pub returns-in-Body-clause-kept : goal.returns-in-Body-clause-kept
returns-in-Body-clause-kept g c = λ captures keeps. c.look_body.ensures.kept captures
