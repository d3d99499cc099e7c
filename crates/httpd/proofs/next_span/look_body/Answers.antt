use Rattle.httpd.proofs.Prelude.{◌≤◌, length, drop, sym, ap, subst, ◌∙◌, script_functions, left_from, reply_by, Fits, Sees, Body, End}
use Rattle.httpd.proofs.Seeing.{span_along}
use Rattle.httpd.proofs.Threads.{plain_from, plain_seen}
use Rattle.httpd.proofs.next_span.look_body.Goals as goal

pub look_script-requires-clause-fits : goal.look_script-requires-clause-fits
unfolding Fits
look_script-requires-clause-fits g c = c.requires.fits

pub rest_of-requires-clause-within : goal.rest_of-requires-clause-within
unfolding Fits
rest_of-requires-clause-within g c = subst (λ xs. c.args.at ≤ length xs) (sym c.body_of.ensures.text) c.requires.fits.within

pub returns-clause-sees : goal.returns-clause-sees
unfolding Fits left_from
returns-clause-sees g c =
    let r = reply_by (script_functions g.R.Function.Calls.calling g.R.CallRecord.output) g.R.CallRecord.text c.args.site.now c.args.found c.args.capture.now in
    let plain = sym c.is_scripted.ensures ∙ c.if-is_scripted.false in
    subst (λ ps. Sees g.R.CallRecord.text r ps (record { span = c.rest_of.result; here = Body c.args.at; next = End })) (sym (plain_from r c.args.at plain))
    (plain_seen g.R.CallRecord.text r c.args.at c.rest_of.result plain c.requires.fits.within
    (subst (λ xs. length xs ≤ 16777216) c.body_of.ensures.text c.body_of.ensures.short)
    (span_along g.R.CallRecord.text c.rest_of.result _ _ (ap (λ xs. drop c.args.at xs) c.body_of.ensures.text) c.rest_of.ensures))
