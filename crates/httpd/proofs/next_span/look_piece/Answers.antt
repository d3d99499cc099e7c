use Rattle.httpd.proofs.Prelude.{◌≡◌, ◌+◌, ◌≤◌, [], length, ap, subst, arith, slice_range, LiesWithin, pieces_by, script_functions, body}
use Rattle.httpd.proofs.Prelude.{left_from, reply_by, Sees, Body}
use Rattle.httpd.proofs.Seeing.{end_seen, span_along}
use Rattle.httpd.proofs.Scripts.{Reads, call_step, ends_call, ends_include, include_step, is_place, run_seen, script_end, text_at}
use Rattle.httpd.proofs.Scripts.{text_found}
use Rattle.httpd.proofs.next_span.look_piece.Goals as goal
use Rattle.httpd.proofs.next_span.look_piece.Goals.{In-Some, In-Text}

reads : (g : _) (c : In-Some g) → Reads g.R.Function.Calls.calling.named
    (body (reply_by (script_functions g.R.Function.Calls.calling g.R.CallRecord.output) g.R.CallRecord.text c.args.site.now c.args.found
    c.args.capture.now)) c.args.at c.in-Some.read
reads g c =
    subst (λ s. Reads g.R.Function.Calls.calling.named s c.args.at c.in-Some.read) c.body_of-script.ensures.text
    (record { pieces = c.in-Some.ensures.pieces; after = c.in-Some.ensures.next.0; place = c.in-Some.ensures.next.1 })

run : (g : _) (c : In-Text g) → Reads g.R.Function.Calls.calling.named
    (body (reply_by (script_functions g.R.Function.Calls.calling g.R.CallRecord.output) g.R.CallRecord.text c.args.site.now c.args.found
    c.args.capture.now)) c.args.at (text_found c.in-Text.at c.in-Text.len c.in-Some.read.next)
run g c =
    subst (λ s. Reads g.R.Function.Calls.calling.named s c.args.at (text_found c.in-Text.at c.in-Text.len c.in-Some.read.next)) c.body_of-script.ensures.text
    (subst (λ p. Reads g.R.Function.Calls.calling.named c.body_of-script.result.now c.args.at (record { piece = p; next = c.in-Some.read.next })) c.in-Text.is
    (record { pieces = c.in-Some.ensures.pieces; after = c.in-Some.ensures.next.0; place = c.in-Some.ensures.next.1 }))

pub returns-in_default-clause-sees : goal.returns-in_default-clause-sees
returns-in_default-clause-sees g c =
    let r = reply_by (script_functions g.R.Function.Calls.calling g.R.CallRecord.output) g.R.CallRecord.text c.args.site.now c.args.found c.args.capture.now in
    end_seen g.R.CallRecord.text r (left_from r (Body c.args.at)) c.look_end.result
    (script_end r c.args.at c.requires.script (subst (λ s. pieces_by g.R.Function.Calls.calling.named s c.args.at ≡ [])
    c.body_of-script.ensures.text c.in_default.ensures.pieces)) c.look_end.ensures.span

pub part_of-requires-clause-within : goal.part_of-requires-clause-within
part_of-requires-clause-within g c =
    let r = reply_by (script_functions g.R.Function.Calls.calling g.R.CallRecord.output) g.R.CallRecord.text c.args.site.now c.args.found c.args.capture.now in
    let within : c.in-Text.at + c.in-Text.len ≤ length c.body_of-script.result.now = subst
    (λ p. LiesWithin (length c.body_of-script.result.now) p) c.in-Text.is c.in-Some.ensures.within in
    let same = text_at g.R.Function.Calls.calling.named (body r) c.args.at c.in-Text.at c.in-Text.len c.in-Some.read.next
    (is_place r c.args.at c.requires.script c.requires.fits) (run g c) in
    omega (arith, within, same)

pub returns-in-Text-clause-sees : goal.returns-in-Text-clause-sees
returns-in-Text-clause-sees g c =
    let r = reply_by (script_functions g.R.Function.Calls.calling g.R.CallRecord.output) g.R.CallRecord.text c.args.site.now c.args.found c.args.capture.now in
    run_seen g.R.CallRecord.text r c.args.at c.in-Text.at c.in-Text.len c.in-Some.read.next c.part_of.result c.requires.script c.requires.fits
    (subst (λ xs. length xs ≤ 16777216) c.body_of-script.ensures.text c.body_of-script.ensures.short)
    (run g (goal.at.returns-in-Text-clause-sees g c).In-Text)
    (span_along g.R.CallRecord.text c.part_of.result _ _ (ap (λ xs. slice_range xs c.args.at (c.args.at + c.in-Text.len))
    c.body_of-script.ensures.text) c.part_of.ensures)

pub returns-in-Include-clause-sees : goal.returns-in-Include-clause-sees
returns-in-Include-clause-sees g c =
    let r = reply_by (script_functions g.R.Function.Calls.calling g.R.CallRecord.output) g.R.CallRecord.text c.args.site.now c.args.found c.args.capture.now in
    subst (λ ps. Sees g.R.CallRecord.text r ps c.look_include.result)
    (include_step r c.args.at c.body_of-script.result.now c.in-Some.read c.in-Include.from c.in-Include.len c.body_of-script.ensures.text c.requires.script
    (reads g (goal.at.returns-in-Include-clause-sees g c).In-Some) c.in-Include.is)
    c.look_include.ensures.sees

pub returns-in-Call-clause-sees : goal.returns-in-Call-clause-sees
returns-in-Call-clause-sees g c =
    let r = reply_by (script_functions g.R.Function.Calls.calling g.R.CallRecord.output) g.R.CallRecord.text c.args.site.now c.args.found c.args.capture.now in
    subst (λ ps. Sees g.R.CallRecord.text r ps c.look_call.result)
    (call_step r c.args.at c.body_of-script.result.now c.in-Some.read c.in-Call.function c.in-Call.from c.in-Call.len
    c.body_of-script.ensures.text c.requires.script
    (reads g (goal.at.returns-in-Call-clause-sees g c).In-Some) c.in-Call.is)
    c.look_call.ensures.sees

pub look_include-requires-clause-directive : goal.look_include-requires-clause-directive
look_include-requires-clause-directive g c =
    let r = reply_by (script_functions g.R.Function.Calls.calling g.R.CallRecord.output) g.R.CallRecord.text c.args.site.now c.args.found c.args.capture.now in
    ends_include r c.args.at c.body_of-script.result.now c.in-Some.read c.in-Include.from c.in-Include.len c.body_of-script.ensures.text
    c.requires.script c.requires.fits
    (reads g (goal.at.look_include-requires-clause-directive g c).In-Some) c.in-Include.is

pub look_call-requires-clause-directive : goal.look_call-requires-clause-directive
look_call-requires-clause-directive g c =
    let r = reply_by (script_functions g.R.Function.Calls.calling g.R.CallRecord.output) g.R.CallRecord.text c.args.site.now c.args.found c.args.capture.now in
    ends_call r c.args.at c.body_of-script.result.now c.in-Some.read c.in-Call.function c.in-Call.from c.in-Call.len
    c.body_of-script.ensures.text c.requires.script c.requires.fits
    (reads g (goal.at.look_call-requires-clause-directive g c).In-Some) c.in-Call.is
