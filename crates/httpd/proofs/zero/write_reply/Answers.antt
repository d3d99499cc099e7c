use Rattle.httpd.proofs.Prelude.{◌∙◌, ap, refl, capture_of, capture_text, Empty, left_from, reply_in}
use Rattle.httpd.proofs.Walking.{call_seen, end_reached, plain_seen, text_unless}
use Rattle.httpd.proofs.ZeroWriting.{sending_ends, sending_more, sending_starts, sending_stops, sending_taken, smaller_call, smaller_text}
use Rattle.httpd.proofs.zero.write_reply.Goals as goal

pub loop-function-init : goal.loop-function-init
loop-function-init g c = sending_starts (reply_in c.args.site.now c.args.found Empty) refl _

pub returns-in-End : goal.returns-in-End
returns-in-End g c =
    let r = reply_in c.args.site.now c.args.found c.loop-function.capture in
    sending_ends r c.loop-function.thread _ _ tt c.loop-function.invariant (end_reached capture_text r (left_from r c.loop-function.thread)
    c.look-seen.result c.in-End.is c.look-seen.ensures.sees)

pub loop-function-preserved-in-Call : goal.loop-function-preserved-in-Call
loop-function-preserved-in-Call g c =
    let r = reply_in c.args.site.now c.args.found c.loop-function.capture in
    sending_taken c.args.site.now c.args.found c.loop-function.capture c.take-capture.result c.loop-function.thread c.look-seen.result.next
    c.in-Call.function c.in-Call.argument.now _ _
    c.loop-function.invariant (call_seen capture_text r (left_from r c.loop-function.thread) c.look-seen.result c.in-Call.function
    c.in-Call.argument c.in-Call.is c.look-seen.ensures.sees)
    (c.take-capture.ensures ∙ ap (λ now. capture_of c.in-Call.function 0 now) c.zero_now.ensures)

pub loop-function-smaller-in-Call : goal.loop-function-smaller-in-Call
loop-function-smaller-in-Call g c =
    let r = reply_in c.args.site.now c.args.found c.loop-function.capture in
    smaller_call c.args.site.now c.args.found c.loop-function.capture c.take-capture.result c.loop-function.thread c.look-seen.result.next
    c.in-Call.function c.in-Call.argument.now
    (call_seen capture_text r (left_from r c.loop-function.thread) c.look-seen.result c.in-Call.function c.in-Call.argument c.in-Call.is
    c.look-seen.ensures.sees)
    (c.take-capture.ensures ∙ ap (λ now. capture_of c.in-Call.function 0 now) c.zero_now.ensures)

pub loop-function-preserved : goal.loop-function-preserved
loop-function-preserved g c =
    let r = reply_in c.args.site.now c.args.found c.loop-function.capture in
    sending_more r refl c.loop-function.thread c.look-seen.result _ _ _ c.in_ok-write_one_span-in_default.field-0 c.loop-function.invariant
    (plain_seen capture_text r (left_from r c.loop-function.thread) c.look-seen.result
    (text_unless c.look-seen.result.span c.in_default.not-Call c.in_default.not-End) c.look-seen.ensures.sees)
    c.in_ok-write_one_span-in_default.ensures

pub loop-function-smaller : goal.loop-function-smaller
loop-function-smaller g c =
    let r = reply_in c.args.site.now c.args.found c.loop-function.capture in
    smaller_text r refl c.loop-function.thread c.look-seen.result
    (plain_seen capture_text r (left_from r c.loop-function.thread) c.look-seen.result
    (text_unless c.look-seen.result.span c.in_default.not-Call c.in_default.not-End) c.look-seen.ensures.sees)

pub returns-in_err-write_one_span-in_default : goal.returns-in_err-write_one_span-in_default
returns-in_err-write_one_span-in_default g c =
    let r = reply_in c.args.site.now c.args.found c.loop-function.capture in
    sending_stops r refl c.loop-function.thread c.look-seen.result _ _ _ c.in_err-write_one_span-in_default.field-0.0 c.from_residual.result
    c.from_residual.ensures.0 c.loop-function.invariant
    (plain_seen capture_text r (left_from r c.loop-function.thread) c.look-seen.result
    (text_unless c.look-seen.result.span c.in_default.not-Call c.in_default.not-End) c.look-seen.ensures.sees)
    c.in_err-write_one_span-in_default.ensures
