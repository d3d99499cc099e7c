use Rattle.httpd.proofs.Prelude.{◌≤◌, length, drop, sym, ap, subst, kind_line, script_functions, reply_by, Fits}
use Rattle.httpd.specs.declared.span.Span.TheVariants as span
use Rattle.httpd.proofs.Threads.{kind_seen}
use Rattle.httpd.proofs.next_span.look_kind.Goals as goal

pub returns-clause-sees : goal.returns-clause-sees
unfolding Fits
returns-clause-sees g c =
    let r = reply_by (script_functions g.R.Function.Calls.calling g.R.CallRecord.output) g.R.CallRecord.text c.args.site.now c.args.found c.args.capture.now in
    kind_seen g.R.CallRecord.text r c.args.at (span.Line c.kind_of.result c.args.at) c.requires.fits
    (subst (λ xs. length xs ≤ 64) c.kind_of.ensures.text c.kind_of.ensures.short)
    (record {
      plain = tt;
      text = ap (λ xs. drop c.args.at (kind_line xs)) c.kind_of.ensures.text;
      fits = (c.kind_of.ensures.short, subst (λ xs. c.args.at ≤ length (kind_line xs)) (sym c.kind_of.ensures.text) c.requires.fits);
    })
