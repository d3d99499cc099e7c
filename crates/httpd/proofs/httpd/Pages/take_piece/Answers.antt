use Rattle.httpd.proofs.Prelude.{◌++◌, refl, script_functions}
use Rattle.httpd.proofs.Reporting.{received_represents, method_received, refused_stays, reply_stays, target_received}
use Rattle.httpd.proofs.httpd.Pages.take_piece.Goals as goal

pub returns-in-Method-clause-part : goal.returns-in-Method-clause-part
returns-in-Method-clause-part g c = λ p s.
    let delivered = method_received (script_functions g.R.Function.Calls.calling g.R.CallRecord.output) g.R.CallRecord.text c.args.self.now
    c.args.site.now p c.in-Method.is s in
    received_represents (script_functions g.R.Function.Calls.calling g.R.CallRecord.output) g.R.CallRecord.text c.args.self.now _
    c.args.site.now p c.args.piece.now delivered.1 refl refl
    (c.decide-self.ensures.stage (p.input ++ c.args.piece.now) (c.receive_method-delivered.ensures p.input delivered.0))

pub returns-in-Target-clause-part : goal.returns-in-Target-clause-part
returns-in-Target-clause-part g c = λ p s.
    let delivered = target_received (script_functions g.R.Function.Calls.calling g.R.CallRecord.output) g.R.CallRecord.text c.args.self.now
    c.args.site.now p c.in-Target.is s in
    received_represents (script_functions g.R.Function.Calls.calling g.R.CallRecord.output) g.R.CallRecord.text c.args.self.now _
    c.args.site.now p c.args.piece.now delivered.1 refl refl
    (c.decide-self-in-Target.ensures.stage (p.input ++ c.args.piece.now) (c.receive_target-delivered.ensures p.input delivered.0))

pub returns-in-Reply-clause-part : goal.returns-in-Reply-clause-part
returns-in-Reply-clause-part g c = λ p s. reply_stays (script_functions g.R.Function.Calls.calling g.R.CallRecord.output)
    g.R.CallRecord.text c.args.self.now c.args.site.now p c.args.piece.now c.in-Reply.found c.in-Reply.is s

pub returns-in-Refused-clause-part : goal.returns-in-Refused-clause-part
returns-in-Refused-clause-part g c = λ p s. refused_stays (script_functions g.R.Function.Calls.calling g.R.CallRecord.output)
    g.R.CallRecord.text c.args.self.now c.args.site.now p c.args.piece.now c.in-Refused.is s
