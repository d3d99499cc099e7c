use Rattle.httpd.proofs.Prelude.{◌≤◌, length, drop, sym, ap, subst, script_functions, reply_by, Fits}
use Rattle.httpd.proofs.Seeing.{span_along}
use Rattle.httpd.proofs.Threads.{inside_seen}
use Rattle.httpd.proofs.next_span.look_inside.Goals as goal

pub bytes_at-requires : goal.bytes_at-requires
unfolding Fits
bytes_at-requires g c = c.requires.fits.1

pub rest_of-requires-clause-within : goal.rest_of-requires-clause-within
unfolding Fits
rest_of-requires-clause-within g c = subst (λ xs. c.args.at ≤ length xs) (sym c.bytes_at.ensures.text) c.requires.fits.2

pub returns-clause-sees : goal.returns-clause-sees
unfolding Fits
returns-clause-sees g c =
    let r = reply_by (script_functions g.R.Function.Calls.calling g.R.CallRecord.output) g.R.CallRecord.text c.args.site.now c.args.found c.args.capture.now in
    inside_seen g.R.CallRecord.text r c.args.next c.args.file c.args.at c.rest_of.result c.requires.fits.0 c.requires.fits.1 c.requires.fits.2
    (subst (λ xs. length xs ≤ 16777216) c.bytes_at.ensures.text c.bytes_at.ensures.short)
    (span_along g.R.CallRecord.text c.rest_of.result _ _ (ap (λ xs. drop c.args.at xs) c.bytes_at.ensures.text) c.rest_of.ensures)
