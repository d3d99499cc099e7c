use Rattle.httpd.proofs.Prelude.{refl, subst, CanSupply, script_functions, CompactRepresent, pages_kept}
use Rattle.httpd.specs.declared.compact.CompactPages.TheVariants as compact
use Rattle.httpd.proofs.Compacting.{sent_enough, sent_fits, sent_found, sent_some, word_quiet}
use Rattle.httpd.proofs.Representing.{means, quiet_acked, reply_acked}
use Rattle.httpd.proofs.compact.CompactPages.pass.Goals as goal

pub acked_reply-requires-clause-found : goal.acked_reply-requires-clause-found
acked_reply-requires-clause-found g c = sent_found (script_functions g.R.Function.Calls.calling g.R.CallRecord.output) g.R.CallRecord.text
    c.args.site.now c.args.self.now c.in-Replying.polls c.in-Replying.found c.in-Replying.thread c.in-Replying.capture c.in-Replying.is
    (sent_some (script_functions g.R.Function.Calls.calling g.R.CallRecord.output) g.R.CallRecord.text c.args.site.now c.args.self.now
    c.in-Replying.polls c.in-Replying.found c.in-Replying.thread c.in-Replying.capture c.in-Replying.is c.args.count c.requires)

pub acked_reply-requires-clause-fits : goal.acked_reply-requires-clause-fits
acked_reply-requires-clause-fits g c = sent_fits (script_functions g.R.Function.Calls.calling g.R.CallRecord.output) g.R.CallRecord.text
    c.args.site.now c.args.self.now c.in-Replying.polls c.in-Replying.found c.in-Replying.thread c.in-Replying.capture c.in-Replying.is
    (sent_some (script_functions g.R.Function.Calls.calling g.R.CallRecord.output) g.R.CallRecord.text c.args.site.now c.args.self.now
    c.in-Replying.polls c.in-Replying.found c.in-Replying.thread c.in-Replying.capture c.in-Replying.is c.args.count c.requires)

pub acked_reply-requires-clause-enough : goal.acked_reply-requires-clause-enough
acked_reply-requires-clause-enough g c = sent_enough (script_functions g.R.Function.Calls.calling g.R.CallRecord.output) g.R.CallRecord.text
    c.args.site.now c.args.self.now c.in-Replying.polls c.in-Replying.found c.in-Replying.thread c.in-Replying.capture c.in-Replying.is c.args.count c.requires

pub returns-in-Replying : goal.returns-in-Replying
returns-in-Replying g c = λ p s.
    reply_acked (script_functions g.R.Function.Calls.calling g.R.CallRecord.output) (λ made. made)
    (pages_kept g.R.CallRecord.text (compact.Replying c.in-Replying.polls c.in-Replying.found c.in-Replying.thread c.in-Replying.capture))
    c.args.site.now c.in-Replying.found p c.args.count c.acked_reply.result refl
    c.acked_reply.ensures.fits c.acked_reply.ensures.kept c.acked_reply.ensures.history
    (sent_enough (script_functions g.R.Function.Calls.calling g.R.CallRecord.output) g.R.CallRecord.text c.args.site.now c.args.self.now
    c.in-Replying.polls c.in-Replying.found c.in-Replying.thread c.in-Replying.capture c.in-Replying.is c.args.count c.requires)
    (subst (λ v. CompactRepresent (script_functions g.R.Function.Calls.calling g.R.CallRecord.output) g.R.CallRecord.text v c.args.site.now
    p) c.in-Replying.is s)

pub returns-in-Receiving : goal.returns-in-Receiving
returns-in-Receiving g c = λ p s.
    quiet_acked (script_functions g.R.Function.Calls.calling g.R.CallRecord.output) (λ made. made)
    (pages_kept g.R.CallRecord.text (compact.Receiving c.in-Receiving.polls c.in-Receiving.target c.in-Receiving.line)) c.args.site.now p
    c.args.count (word_quiet c.in-Receiving.target)
    (subst (λ v. CanSupply (means (script_functions g.R.Function.Calls.calling g.R.CallRecord.output))
    (CompactRepresent (script_functions g.R.Function.Calls.calling g.R.CallRecord.output) g.R.CallRecord.text) v c.args.site.now
    c.args.count) c.in-Receiving.is c.requires)
    (subst (λ v. CompactRepresent (script_functions g.R.Function.Calls.calling g.R.CallRecord.output) g.R.CallRecord.text v c.args.site.now
    p) c.in-Receiving.is s)

pub returns-in-Refused : goal.returns-in-Refused
returns-in-Refused g c = λ p s.
    quiet_acked (script_functions g.R.Function.Calls.calling g.R.CallRecord.output) (λ made. made)
    (pages_kept g.R.CallRecord.text (compact.Refused c.in-Refused.polls)) c.args.site.now p c.args.count (λ found e. cc)
    (subst (λ v. CanSupply (means (script_functions g.R.Function.Calls.calling g.R.CallRecord.output))
    (CompactRepresent (script_functions g.R.Function.Calls.calling g.R.CallRecord.output) g.R.CallRecord.text) v c.args.site.now
    c.args.count) c.in-Refused.is c.requires)
    (subst (λ v. CompactRepresent (script_functions g.R.Function.Calls.calling g.R.CallRecord.output) g.R.CallRecord.text v c.args.site.now
    p) c.in-Refused.is s)
