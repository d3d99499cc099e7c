use Rattle.httpd.proofs.Prelude.{◌+◌, ◌∙◌, sym, subst, ap, if◌then◌else◌, script_functions, Body, Made, silent_text, silent_end, body_from}
use Rattle.httpd.proofs.Prelude.{calls_in, left_from, reply_by, Fits}
use Rattle.httpd.proofs.Seeing.{keeps_all, nothing_seen}
use Rattle.httpd.proofs.next_span.look_call.Goals as goal

pub returns-then-not-takes_capture-clause-sees : goal.returns-then-not-takes_capture-clause-sees
unfolding left_from Fits
returns-then-not-takes_capture-clause-sees g c =
    let r = reply_by (script_functions g.R.Function.Calls.calling g.R.CallRecord.output) g.R.CallRecord.text c.args.site.now c.args.found c.args.capture.now in
    let more = body_from r c.args.next in
    let silent = sym c.takes_capture.ensures ∙ c.if-not-takes_capture.true in
    nothing_seen g.R.CallRecord.text r (Made c.args.function c.args.argument.now) more c.look_nothing.result c.look_nothing.ensures.nothing
    (ap (λ t. left_from r t) c.look_nothing.ensures.next) (subst (λ t. Fits r t) (sym c.look_nothing.ensures.next) c.requires.inner.goes_on)
    (keeps_all r (Body c.args.next) c.look_nothing.result.next c.look_nothing.ensures.next (λ captures. tt))
    (record {
      text = λ later. silent_text r.functions r.files c.args.function c.args.argument.now more later silent;
      whole = λ later. silent_end r.functions c.args.function c.args.argument.now more later silent;
      calls = ap (λ b. if b then 1 + calls_in r.functions.function_table more else calls_in r.functions.function_table more) silent;
    })
