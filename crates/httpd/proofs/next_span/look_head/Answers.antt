use Rattle.httpd.proofs.Prelude.{◌≤◌, length, drop, sym, ap, subst, script_functions, reply_by, Fits}
use Rattle.httpd.proofs.Seeing.{span_along}
use Rattle.httpd.proofs.Threads.{head_seen}
use Rattle.httpd.proofs.next_span.look_head.Goals as goal

pub rest_of-requires-clause-within : goal.rest_of-requires-clause-within
unfolding Fits
rest_of-requires-clause-within g c = subst (λ xs. c.args.at ≤ length xs) (sym c.head_of.ensures.text) c.requires.fits

pub returns-clause-sees : goal.returns-clause-sees
unfolding Fits
returns-clause-sees g c =
    let r = reply_by (script_functions g.R.Function.Calls.calling g.R.CallRecord.output) g.R.CallRecord.text c.args.site.now c.args.found c.args.capture.now in
    head_seen g.R.CallRecord.text r c.args.at c.rest_of.result c.requires.fits (subst (λ xs. length xs ≤ 60) c.head_of.ensures.text c.head_of.ensures.short)
    (span_along g.R.CallRecord.text c.rest_of.result _ _ (ap (λ xs. drop c.args.at xs) c.head_of.ensures.text) c.rest_of.ensures)
