use Rattle.httpd.proofs.Prelude.{[], ◌∷◌, sym, ap, subst, arith, bytes_or, Plain, script_functions, body_from, left_from, reply_by, Fits}
use Rattle.httpd.proofs.Prelude.{Body, Inside, Sees}
use Rattle.httpd.proofs.Seeing.{keeps_all, leads_first, nothing_seen}
use Rattle.httpd.proofs.next_span.look_include.Goals as goal

pub look_inside-requires-clause-fits : goal.look_inside-requires-clause-fits
unfolding Fits
look_inside-requires-clause-fits g c = (
  c.requires.inner,
  c.in-Some.ensures.found,
  omega arith,
)

pub returns-clause-sees : goal.returns-clause-sees
unfolding left_from
returns-clause-sees g c =
    let r = reply_by (script_functions g.R.Function.Calls.calling g.R.CallRecord.output) g.R.CallRecord.text c.args.site.now c.args.found c.args.capture.now in
    subst (λ o. Sees g.R.CallRecord.text r (Plain (bytes_or [] o) ∷ body_from r c.args.next) c.look_inside.result) c.in-Some.ensures.file
    c.look_inside.ensures.sees

pub returns-in_default-clause-sees : goal.returns-in_default-clause-sees
unfolding left_from Fits
returns-in_default-clause-sees g c =
    let r = reply_by (script_functions g.R.Function.Calls.calling g.R.CallRecord.output) g.R.CallRecord.text c.args.site.now c.args.found c.args.capture.now in
    let more = body_from r c.args.next in
    subst (λ o. Sees g.R.CallRecord.text r (Plain (bytes_or [] o) ∷ more) c.look_nothing.result) c.in_default.ensures.file
    (nothing_seen g.R.CallRecord.text r (Plain []) more c.look_nothing.result c.look_nothing.ensures.nothing
    (ap (λ t. left_from r t) c.look_nothing.ensures.next) (subst (λ t. Fits r t) (sym c.look_nothing.ensures.next) c.requires.inner.goes_on)
    (keeps_all r (Body c.args.next) c.look_nothing.result.next c.look_nothing.ensures.next (λ captures. tt))
    (leads_first r.functions r.files [] more))

pub returns-clause-kept : goal.returns-clause-kept
returns-clause-kept g c =
    let r = reply_by (script_functions g.R.Function.Calls.calling g.R.CallRecord.output) g.R.CallRecord.text c.args.site.now c.args.found c.args.capture.now in
    keeps_all r (Inside c.args.next c.in-Some.file 0) c.look_inside.result.here c.look_inside.ensures.here (λ captures. record {
      name = c.args.name.now;
      directive = c.requires.directive;
      place = sym c.in-Some.ensures.place;
    })
