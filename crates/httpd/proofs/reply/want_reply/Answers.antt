use Rattle.httpd.proofs.Prelude.{[], refl, sym, ap, ◌∙◌, true, false, arith, Nothing, Close, script_functions, left_from, reply_by}
use Rattle.httpd.proofs.Prelude.{reach_by, text_by}
use Rattle.httpd.proofs.Walking.{call_seen, call_stops, end_reached, less_by, plain_seen, ready_on, text_unless, want_at}
use Rattle.httpd.proofs.reply.want_reply.Goals as goal

pub returns-in-Call : goal.returns-in-Call
returns-in-Call g c =
    let r = reply_by (script_functions g.R.Function.Calls.calling g.R.CallRecord.output) g.R.CallRecord.text c.args.site.now c.args.found c.args.capture.now in
    let call = call_seen g.R.CallRecord.text r (left_from r c.loop-ready.place) c.look-seen.result c.in-Call.function c.in-Call.argument
    c.in-Call.is c.look-seen.ensures.sees in
    let stops = call_stops r (left_from r c.loop-ready.place) c.in-Call.function c.in-Call.argument.now c.look-seen.result.next call in
    c.sent_or-in-Call.ensures
    ∙ want_at r c.args.thread c.loop-ready.place c.loop-ready.ready Nothing false c.loop-ready.invariant.0 c.loop-ready.invariant.1
    c.loop-ready-test.true stops.0 stops.1 refl

pub returns-in-End : goal.returns-in-End
unfolding left_from
returns-in-End g c =
    let r = reply_by (script_functions g.R.Function.Calls.calling g.R.CallRecord.output) g.R.CallRecord.text c.args.site.now c.args.found c.args.capture.now in
    let end = ap (λ t. left_from r t) c.in-End.is in
    c.sent_or.ensures
    ∙ want_at r c.args.thread c.loop-ready.place c.loop-ready.ready Close true c.loop-ready.invariant.0 c.loop-ready.invariant.1 c.loop-ready-test.true
    (ap (λ p. text_by r.functions r.files p []) end) (ap (λ p. reach_by r.functions p []) end) refl

pub returns-in-End-span : goal.returns-in-End-span
returns-in-End-span g c =
    let r = reply_by (script_functions g.R.Function.Calls.calling g.R.CallRecord.output) g.R.CallRecord.text c.args.site.now c.args.found c.args.capture.now in
    let end = end_reached g.R.CallRecord.text r (left_from r c.loop-ready.place) c.look-seen.result c.in-End-span.is c.look-seen.ensures.sees in
    c.sent_or-in-End-span.ensures
    ∙ want_at r c.args.thread c.loop-ready.place c.loop-ready.ready Close true c.loop-ready.invariant.0 c.loop-ready.invariant.1 c.loop-ready-test.true
    (ap (λ p. text_by r.functions r.files p []) end) (ap (λ p. reach_by r.functions p []) end) refl

pub loop-ready-preserved : goal.loop-ready-preserved
loop-ready-preserved g c =
    let r = reply_by (script_functions g.R.Function.Calls.calling g.R.CallRecord.output) g.R.CallRecord.text c.args.site.now c.args.found c.args.capture.now in
    ready_on g.R.CallRecord.text r c.args.thread c.loop-ready.place c.loop-ready.ready c.span_len-ready.result c.look-seen.result
    c.loop-ready.invariant.0 c.loop-ready.invariant.1
    (text_unless c.look-seen.result.span c.in_default-span.not-Call c.in_default-span.not-End) c.look-seen.ensures.sees c.span_len-ready.ensures.length

pub loop-ready-smaller : goal.loop-ready-smaller
loop-ready-smaller g c =
    let r = reply_by (script_functions g.R.Function.Calls.calling g.R.CallRecord.output) g.R.CallRecord.text c.args.site.now c.args.found c.args.capture.now in
    let some =
    plain_seen g.R.CallRecord.text r (left_from r c.loop-ready.place) c.look-seen.result
    (text_unless c.look-seen.result.span c.in_default-span.not-Call c.in_default-span.not-End) c.look-seen.ensures.sees in
    less_by _ _ c.span_len-ready.result _ _ some.no_more (λ none. some.fewer (sym c.span_len-ready.ensures.length ∙ none)) (omega arith)
    (λ len. omega arith) (omega arith)
