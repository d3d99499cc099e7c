use Rattle.httpd.proofs.Prelude.{◌++◌, ap, refl, subst, sym, ◌∙◌, files_of, script_functions, made_prefix, CompactRepresent, pages_kept}
use Rattle.httpd.specs.declared.compact.CompactPages.TheVariants as compact
use Rattle.httpd.proofs.Asking.{due_represents, not_due}
use Rattle.httpd.proofs.Compacting.{sent_fits, sent_found}
use Rattle.httpd.proofs.compact.CompactPages.prepare_at.Goals as goal

pub due_call-requires-clause-found : goal.due_call-requires-clause-found
due_call-requires-clause-found g c = sent_found (script_functions g.R.Function.Calls.calling g.R.CallRecord.output) g.R.CallRecord.text
    c.args.site.now c.args.self.now c.in-Replying.polls c.in-Replying.found c.in-Replying.thread c.in-Replying.capture c.in-Replying.is c.requires.part

pub due_call-requires-clause-fits : goal.due_call-requires-clause-fits
due_call-requires-clause-fits g c = sent_fits (script_functions g.R.Function.Calls.calling g.R.CallRecord.output) g.R.CallRecord.text
    c.args.site.now c.args.self.now c.in-Replying.polls c.in-Replying.found c.in-Replying.thread c.in-Replying.capture c.in-Replying.is c.requires.part

pub returns-in-Some : goal.returns-in-Some
returns-in-Some g c = λ p s.
    due_represents (script_functions g.R.Function.Calls.calling g.R.CallRecord.output) (λ made. made)
    (pages_kept g.R.CallRecord.text (compact.Replying c.in-Replying.polls c.in-Replying.found c.in-Replying.thread c.in-Replying.capture))
    c.args.site.now c.in-Replying.found p c.in-Some.due (g.R.CallRecord.text c.take.result)
    (record { numbers = c.args.hits.now ++ g.R.CallRecord.own_numbers c.args.own.now; now = c.args.now.now }) refl
    c.in-Some.ensures (subst (λ v. CompactRepresent (script_functions g.R.Function.Calls.calling g.R.CallRecord.output) g.R.CallRecord.text
    v c.args.site.now p) c.in-Replying.is s)
    (c.take.ensures
    ∙ ap (λ n. g.R.CallRecord.output c.in-Some.due.function c.in-Some.due.argument.now n (g.R.CallRecord.own_numbers c.args.own.now)
    c.args.now.now) c.hits_of-count.ensures
    ∙ sym (made_prefix (script_functions g.R.Function.Calls.calling g.R.CallRecord.output) (files_of c.args.site.now) c.args.hits.now
    (g.R.CallRecord.own_numbers c.args.own.now) c.in-Some.due.function c.in-Some.due.argument.now c.args.now.now c.requires.counted))

pub returns-in_default-due_call : goal.returns-in_default-due_call
returns-in_default-due_call g c = λ p s.
    not_due (script_functions g.R.Function.Calls.calling g.R.CallRecord.output) (λ made. made)
    (pages_kept g.R.CallRecord.text (compact.Replying c.in-Replying.polls c.in-Replying.found c.in-Replying.thread c.in-Replying.capture))
    c.args.site.now c.in-Replying.found p
    (record { numbers = c.args.hits.now ++ g.R.CallRecord.own_numbers c.args.own.now; now = c.args.now.now }) refl
    c.in_default-due_call.ensures (subst (λ v. CompactRepresent (script_functions g.R.Function.Calls.calling g.R.CallRecord.output)
    g.R.CallRecord.text v c.args.site.now p) c.in-Replying.is s)
