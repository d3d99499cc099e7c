use Rattle.httpd.proofs.Prelude.{false, true, ◌++◌, ap, refl, subst, sym, ◌∙◌, files_of, script_functions, wanted, CompactRepresent}
use Rattle.httpd.proofs.Prelude.{is_target_stage, pages_kept, IsDecided}
use Rattle.httpd.specs.declared.compact.CompactPages.TheVariants as compact
use Rattle.httpd.proofs.Compacting.{enters_refused, enters_reply, enters_word, word_received, word_open}
use Rattle.httpd.proofs.Reporting.{hits_opened, refused_stays, reply_stays, with_more}
use Rattle.httpd.proofs.compact.CompactPages.take_piece.Goals as goal

pub returns-in-Replying-clause-part : goal.returns-in-Replying-clause-part
returns-in-Replying-clause-part g c = λ p s.
    reply_stays (script_functions g.R.Function.Calls.calling g.R.CallRecord.output) (λ made. made)
    (pages_kept g.R.CallRecord.text (compact.Replying c.in-Replying.polls c.in-Replying.found c.in-Replying.thread c.in-Replying.capture))
    c.args.site.now p c.args.piece.now c.in-Replying.found refl
    (subst (λ v. CompactRepresent (script_functions g.R.Function.Calls.calling g.R.CallRecord.output) g.R.CallRecord.text v c.args.site.now
    p) c.in-Replying.is s)

pub returns-in-Refused-clause-part : goal.returns-in-Refused-clause-part
returns-in-Refused-clause-part g c = λ p s.
    refused_stays (script_functions g.R.Function.Calls.calling g.R.CallRecord.output) (λ made. made)
    (pages_kept g.R.CallRecord.text (compact.Refused c.in-Refused.polls)) c.args.site.now p c.args.piece.now refl
    (subst (λ v. CompactRepresent (script_functions g.R.Function.Calls.calling g.R.CallRecord.output) g.R.CallRecord.text v c.args.site.now
    p) c.in-Refused.is s)

pub returns-in-Method-clause-part : goal.returns-in-Method-clause-part
returns-in-Method-clause-part g c = λ p s.
    let heard = word_received (script_functions g.R.Function.Calls.calling g.R.CallRecord.output) g.R.CallRecord.text c.args.site.now p
    c.in-Receiving.polls c.in-Receiving.target c.in-Receiving.line
    (subst (λ v. CompactRepresent (script_functions g.R.Function.Calls.calling g.R.CallRecord.output) g.R.CallRecord.text v c.args.site.now
    p) c.in-Receiving.is s) in
    subst (λ b. CompactRepresent (script_functions g.R.Function.Calls.calling g.R.CallRecord.output) g.R.CallRecord.text
    (compact.Receiving 0 b c.receive-stage.new.line) c.args.site.now (with_more p c.args.piece.now))
    (sym (c.is_target_stage.ensures ∙ ap is_target_stage c.in-Method.is))
    (enters_word (script_functions g.R.Function.Calls.calling g.R.CallRecord.output) g.R.CallRecord.text c.args.site.now p c.args.piece.now
    false c.receive-stage.new.line heard.1
    (subst (λ st. IsDecided (files_of c.args.site.now) c.receive-stage.new.line (p.input ++ c.args.piece.now) st) c.in-Method.is
    (c.receive-stage.ensures.stage p.input heard.0)))

pub returns-in-Method-clause-hits : goal.returns-in-Method-clause-hits
returns-in-Method-clause-hits g c = λ p s.
    let heard = word_received (script_functions g.R.Function.Calls.calling g.R.CallRecord.output) g.R.CallRecord.text c.args.site.now p
    c.in-Receiving.polls c.in-Receiving.target c.in-Receiving.line
    (subst (λ v. CompactRepresent (script_functions g.R.Function.Calls.calling g.R.CallRecord.output) g.R.CallRecord.text v c.args.site.now
    p) c.in-Receiving.is s) in
    c.receive-stage.ensures.hits p.input heard.0
    ∙ hits_opened (files_of c.args.site.now) c.args.hits.now (wanted p.input) (wanted (p.input ++ c.args.piece.now))
    (word_open c.in-Receiving.target c.in-Receiving.line p.input heard.0)

pub returns-in-Target-clause-part : goal.returns-in-Target-clause-part
returns-in-Target-clause-part g c = λ p s.
    let heard = word_received (script_functions g.R.Function.Calls.calling g.R.CallRecord.output) g.R.CallRecord.text c.args.site.now p
    c.in-Receiving.polls c.in-Receiving.target c.in-Receiving.line
    (subst (λ v. CompactRepresent (script_functions g.R.Function.Calls.calling g.R.CallRecord.output) g.R.CallRecord.text v c.args.site.now
    p) c.in-Receiving.is s) in
    subst (λ b. CompactRepresent (script_functions g.R.Function.Calls.calling g.R.CallRecord.output) g.R.CallRecord.text
    (compact.Receiving 0 b c.receive-stage.new.line) c.args.site.now (with_more p c.args.piece.now))
    (sym (c.is_target_stage.ensures ∙ ap is_target_stage c.in-Target.is))
    (enters_word (script_functions g.R.Function.Calls.calling g.R.CallRecord.output) g.R.CallRecord.text c.args.site.now p c.args.piece.now
    true c.receive-stage.new.line heard.1
    (subst (λ st. IsDecided (files_of c.args.site.now) c.receive-stage.new.line (p.input ++ c.args.piece.now) st) c.in-Target.is
    (c.receive-stage.ensures.stage p.input heard.0)))

pub returns-in-Target-clause-hits : goal.returns-in-Target-clause-hits
returns-in-Target-clause-hits g c = λ p s.
    let heard = word_received (script_functions g.R.Function.Calls.calling g.R.CallRecord.output) g.R.CallRecord.text c.args.site.now p
    c.in-Receiving.polls c.in-Receiving.target c.in-Receiving.line
    (subst (λ v. CompactRepresent (script_functions g.R.Function.Calls.calling g.R.CallRecord.output) g.R.CallRecord.text v c.args.site.now
    p) c.in-Receiving.is s) in
    c.receive-stage.ensures.hits p.input heard.0
    ∙ hits_opened (files_of c.args.site.now) c.args.hits.now (wanted p.input) (wanted (p.input ++ c.args.piece.now))
    (word_open c.in-Receiving.target c.in-Receiving.line p.input heard.0)

pub returns-in-Reply-clause-part : goal.returns-in-Reply-clause-part
returns-in-Reply-clause-part g c = λ p s.
    let heard = word_received (script_functions g.R.Function.Calls.calling g.R.CallRecord.output) g.R.CallRecord.text c.args.site.now p
    c.in-Receiving.polls c.in-Receiving.target c.in-Receiving.line
    (subst (λ v. CompactRepresent (script_functions g.R.Function.Calls.calling g.R.CallRecord.output) g.R.CallRecord.text v c.args.site.now
    p) c.in-Receiving.is s) in
    enters_reply (script_functions g.R.Function.Calls.calling g.R.CallRecord.output) g.R.CallRecord.text c.args.site.now p c.args.piece.now
    c.in-Reply.found c.empty.result heard.1
    (subst (λ st. IsDecided (files_of c.args.site.now) c.receive-stage.new.line (p.input ++ c.args.piece.now) st) c.in-Reply.is
    (c.receive-stage.ensures.stage p.input heard.0))

pub returns-in-Reply-clause-hits : goal.returns-in-Reply-clause-hits
returns-in-Reply-clause-hits g c = λ p s.
    let heard = word_received (script_functions g.R.Function.Calls.calling g.R.CallRecord.output) g.R.CallRecord.text c.args.site.now p
    c.in-Receiving.polls c.in-Receiving.target c.in-Receiving.line
    (subst (λ v. CompactRepresent (script_functions g.R.Function.Calls.calling g.R.CallRecord.output) g.R.CallRecord.text v c.args.site.now
    p) c.in-Receiving.is s) in
    c.receive-stage.ensures.hits p.input heard.0
    ∙ hits_opened (files_of c.args.site.now) c.args.hits.now (wanted p.input) (wanted (p.input ++ c.args.piece.now))
    (word_open c.in-Receiving.target c.in-Receiving.line p.input heard.0)

pub returns-in-Refused-stage-clause-part : goal.returns-in-Refused-stage-clause-part
returns-in-Refused-stage-clause-part g c = λ p s.
    let heard = word_received (script_functions g.R.Function.Calls.calling g.R.CallRecord.output) g.R.CallRecord.text c.args.site.now p
    c.in-Receiving.polls c.in-Receiving.target c.in-Receiving.line
    (subst (λ v. CompactRepresent (script_functions g.R.Function.Calls.calling g.R.CallRecord.output) g.R.CallRecord.text v c.args.site.now
    p) c.in-Receiving.is s) in
    enters_refused (script_functions g.R.Function.Calls.calling g.R.CallRecord.output) g.R.CallRecord.text c.args.site.now p c.args.piece.now heard.1
    (subst (λ st. IsDecided (files_of c.args.site.now) c.receive-stage.new.line (p.input ++ c.args.piece.now) st) c.in-Refused-stage.is
    (c.receive-stage.ensures.stage p.input heard.0))

pub returns-in-Refused-stage-clause-hits : goal.returns-in-Refused-stage-clause-hits
returns-in-Refused-stage-clause-hits g c = λ p s.
    let heard = word_received (script_functions g.R.Function.Calls.calling g.R.CallRecord.output) g.R.CallRecord.text c.args.site.now p
    c.in-Receiving.polls c.in-Receiving.target c.in-Receiving.line
    (subst (λ v. CompactRepresent (script_functions g.R.Function.Calls.calling g.R.CallRecord.output) g.R.CallRecord.text v c.args.site.now
    p) c.in-Receiving.is s) in
    c.receive-stage.ensures.hits p.input heard.0
    ∙ hits_opened (files_of c.args.site.now) c.args.hits.now (wanted p.input) (wanted (p.input ++ c.args.piece.now))
    (word_open c.in-Receiving.target c.in-Receiving.line p.input heard.0)
