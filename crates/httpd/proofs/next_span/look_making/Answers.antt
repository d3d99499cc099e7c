use Rattle.httpd.proofs.Prelude.{refl, arith, script_functions, reply_by, Fits}
use Rattle.httpd.specs.declared.span.Span.TheVariants as span
use Rattle.httpd.proofs.Threads.{making_seen}
use Rattle.httpd.proofs.next_span.look_making.Goals as goal

pub returns-clause-sees : goal.returns-clause-sees
unfolding Fits
returns-clause-sees g c =
    let r = reply_by (script_functions g.R.Function.Calls.calling g.R.CallRecord.output) g.R.CallRecord.text c.args.site.now c.args.found c.args.capture.now in
    let size = c.text_len-end.ensures.length in
    let bound = c.text_len-end.ensures.short in
    making_seen g.R.CallRecord.text r c.args.next c.args.at (span.Made c.args.capture c.args.at c.text_len-end.result) c.requires.0
    c.requires.1 (omega (arith, size, bound))
    (record { plain = tt; text = refl; fits = (omega (arith, size, c.requires.1), size, bound) })
