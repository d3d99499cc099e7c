use Rattle.httpd.proofs.Prelude.{◌≤◌, ◌+◌, length, subst, ap, arith, slice_range, script_functions, body, reply_by}
use Rattle.httpd.proofs.Seeing.{span_along}
use Rattle.httpd.proofs.Scripts.{long_seen, run_short}
use Rattle.httpd.proofs.next_span.look_run.Goals as goal

pub part_of-requires-clause-within : goal.part_of-requires-clause-within
part_of-requires-clause-within g c =
    omega (
      arith,
      c.requires.long,
      run_short
          (body (reply_by (script_functions g.R.Function.Calls.calling g.R.CallRecord.output) g.R.CallRecord.text c.args.site.now
          c.args.found c.args.capture.now)) c.args.at c.requires.fits.within,
      ap length c.body_of-script.ensures.text,
    )

pub returns-clause-sees : goal.returns-clause-sees
returns-clause-sees g c =
    let r = reply_by (script_functions g.R.Function.Calls.calling g.R.CallRecord.output) g.R.CallRecord.text c.args.site.now c.args.found c.args.capture.now in
    long_seen g.R.CallRecord.text r c.args.at 1460 c.part_of.result c.requires.script c.requires.fits
    (subst (λ xs. length xs ≤ 16777216) c.body_of-script.ensures.text c.body_of-script.ensures.short) (omega arith) c.requires.long
    (span_along g.R.CallRecord.text c.part_of.result _ _ (ap (λ xs. slice_range xs c.args.at (c.args.at + 1460))
    c.body_of-script.ensures.text) c.part_of.ensures)
