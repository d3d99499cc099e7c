use Rattle.httpd.proofs.Prelude.{script_functions}
use Rattle.httpd.proofs.Representing.{reply_fits, reply_found}
use Rattle.httpd.proofs.httpd.Pages.want_of.Goals as goal

pub want_reply-requires-clause-found : goal.want_reply-requires-clause-found
want_reply-requires-clause-found g c =
    reply_found (script_functions g.R.Function.Calls.calling g.R.CallRecord.output) g.R.CallRecord.text c.args.self.now c.args.site.now
    c.in-Reply.found c.in-Reply.is c.requires

pub want_reply-requires-clause-fits : goal.want_reply-requires-clause-fits
want_reply-requires-clause-fits g c =
    reply_fits (script_functions g.R.Function.Calls.calling g.R.CallRecord.output) g.R.CallRecord.text c.args.self.now c.args.site.now
    c.in-Reply.found c.in-Reply.is c.requires
