use Rattle.httpd.proofs.Prelude.{refl, subst, sym, script_functions, CompactRepresent, pages_kept, reply_by, IsNotDue}
use Rattle.httpd.specs.declared.compact.CompactPages.TheVariants as compact
use Rattle.httpd.proofs.Asking.{head_not_due, none_due}
use Rattle.httpd.proofs.Compacting.{sent_found}
use Rattle.httpd.proofs.compact.CompactPages.is_due_at.Goals as goal

pub is_scripted-requires : goal.is_scripted-requires
is_scripted-requires g c = sent_found (script_functions g.R.Function.Calls.calling g.R.CallRecord.output) g.R.CallRecord.text
    c.args.site.now c.args.self.now c.in-Replying.polls c.in-Replying.found c.in-Replying.thread c.in-Replying.capture c.in-Replying.is c.requires

pub returns-in-Head : goal.returns-in-Head
returns-in-Head g c = record {
  not_due = λ e numbers p now s.
      none_due (script_functions g.R.Function.Calls.calling g.R.CallRecord.output) (λ made. made)
      (pages_kept g.R.CallRecord.text (compact.Replying c.in-Replying.polls c.in-Replying.found c.in-Replying.thread c.in-Replying.capture))
      c.args.site.now c.in-Replying.found p (record { numbers = numbers; now = now }) refl
      (subst (λ t. IsNotDue (reply_by (script_functions g.R.Function.Calls.calling g.R.CallRecord.output) g.R.CallRecord.text
      c.args.site.now c.in-Replying.found c.in-Replying.capture) t) (sym c.in-Head.is)
      (head_not_due (reply_by (script_functions g.R.Function.Calls.calling g.R.CallRecord.output) g.R.CallRecord.text c.args.site.now
      c.in-Replying.found c.in-Replying.capture) c.in-Head.at))
      (subst (λ v. CompactRepresent (script_functions g.R.Function.Calls.calling g.R.CallRecord.output) g.R.CallRecord.text v
      c.args.site.now p) c.in-Replying.is s);
}
