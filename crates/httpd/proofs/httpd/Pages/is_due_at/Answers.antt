use Rattle.httpd.proofs.Prelude.{subst, sym, ◌∙◌, script_functions, reply_by, IsNotDue}
use Rattle.httpd.proofs.Asking.{head_not_due, none_due, plain_whole}
use Rattle.httpd.proofs.Representing.{reply_fits, reply_found}
use Rattle.httpd.proofs.httpd.Pages.is_due_at.Goals as goal

pub is_scripted-requires : goal.is_scripted-requires
is_scripted-requires g c =
    reply_found (script_functions g.R.Function.Calls.calling g.R.CallRecord.output) g.R.CallRecord.text c.args.self.now c.args.site.now
    c.in-Reply.found c.in-Reply.is c.requires

pub returns-in-Head : goal.returns-in-Head
returns-in-Head g c = record {
  not_due = λ e numbers p now s.
      none_due (script_functions g.R.Function.Calls.calling g.R.CallRecord.output) g.R.CallRecord.text c.args.self.now c.args.site.now
      c.in-Reply.found p (record { numbers = numbers; now = now }) c.in-Reply.is
      (subst (λ t. IsNotDue (reply_by (script_functions g.R.Function.Calls.calling g.R.CallRecord.output) g.R.CallRecord.text
      c.args.site.now c.in-Reply.found c.args.self.now.capture) t) (sym c.in-Head.is)
      (head_not_due (reply_by (script_functions g.R.Function.Calls.calling g.R.CallRecord.output) g.R.CallRecord.text c.args.site.now
      c.in-Reply.found c.args.self.now.capture) c.in-Head.at)) s;
}

pub returns-in_default-thread : goal.returns-in_default-thread
returns-in_default-thread g c = record {
  not_due = λ e numbers p now s.
      none_due (script_functions g.R.Function.Calls.calling g.R.CallRecord.output) g.R.CallRecord.text c.args.self.now c.args.site.now
      c.in-Reply.found p (record { numbers = numbers; now = now }) c.in-Reply.is
      (λ _. plain_whole (reply_by (script_functions g.R.Function.Calls.calling g.R.CallRecord.output) g.R.CallRecord.text c.args.site.now
      c.in-Reply.found c.args.self.now.capture) c.args.self.now.thread
      (sym c.is_scripted.ensures ∙ e)
      (reply_fits (script_functions g.R.Function.Calls.calling g.R.CallRecord.output) g.R.CallRecord.text c.args.self.now c.args.site.now
      c.in-Reply.found c.in-Reply.is c.requires)) s;
}
