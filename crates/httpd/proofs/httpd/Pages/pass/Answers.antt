use Rattle.httpd.proofs.Prelude.{script_functions}
use Rattle.httpd.specs.declared.stage.Stage.TheVariants as stage
use Rattle.httpd.proofs.Representing.{can_supply, quiet_acked, reply_acked, reply_fits, reply_found, some_part}
use Rattle.httpd.proofs.httpd.Pages.pass.Goals as goal

pub acked_reply-self-requires-clause-found : goal.acked_reply-self-requires-clause-found
acked_reply-self-requires-clause-found g c =
    reply_found (script_functions g.R.Function.Calls.calling g.R.CallRecord.output) g.R.CallRecord.text c.args.self.now c.args.site.now
    c.in-Reply.found c.in-Reply.is (some_part (script_functions g.R.Function.Calls.calling g.R.CallRecord.output) g.R.CallRecord.text
    c.args.self.now c.args.site.now c.args.count c.requires)

pub acked_reply-self-requires-clause-fits : goal.acked_reply-self-requires-clause-fits
acked_reply-self-requires-clause-fits g c =
    reply_fits (script_functions g.R.Function.Calls.calling g.R.CallRecord.output) g.R.CallRecord.text c.args.self.now c.args.site.now
    c.in-Reply.found c.in-Reply.is (some_part (script_functions g.R.Function.Calls.calling g.R.CallRecord.output) g.R.CallRecord.text
    c.args.self.now c.args.site.now c.args.count c.requires)

pub acked_reply-self-requires-clause-enough : goal.acked_reply-self-requires-clause-enough
acked_reply-self-requires-clause-enough g c =
    can_supply (script_functions g.R.Function.Calls.calling g.R.CallRecord.output) g.R.CallRecord.text c.args.self.now c.args.site.now
    c.args.count (stage.Reply c.in-Reply.found) c.in-Reply.is c.requires

pub returns-in-Reply : goal.returns-in-Reply
returns-in-Reply g c = λ p s.
    let G = script_functions g.R.Function.Calls.calling g.R.CallRecord.output in
    let T = g.R.CallRecord.text in
    reply_acked G T c.args.self.now c.args.site.now c.in-Reply.found p c.args.count c.acked_reply-self.result c.in-Reply.is
    c.acked_reply-self.ensures.fits c.acked_reply-self.ensures.kept c.acked_reply-self.ensures.history
    (can_supply G T c.args.self.now c.args.site.now c.args.count (stage.Reply c.in-Reply.found) c.in-Reply.is c.requires) s

pub returns-in_default : goal.returns-in_default
returns-in_default g c = λ p s.
    quiet_acked (script_functions g.R.Function.Calls.calling g.R.CallRecord.output) g.R.CallRecord.text c.args.self.now c.args.site.now p
    c.args.count c.in_default.not-Reply c.requires s
