use Rattle.httpd.proofs.Prelude.{script_functions}
use Rattle.httpd.proofs.Compacting.{sent_fits, sent_found}
use Rattle.httpd.proofs.compact.CompactPages.want_of.Goals as goal

pub want_reply-requires-clause-found : goal.want_reply-requires-clause-found
want_reply-requires-clause-found g c = sent_found (script_functions g.R.Function.Calls.calling g.R.CallRecord.output) g.R.CallRecord.text
    c.args.site.now c.args.self.now c.in-Replying.polls c.in-Replying.found c.in-Replying.thread c.in-Replying.capture c.in-Replying.is c.requires

pub want_reply-requires-clause-fits : goal.want_reply-requires-clause-fits
want_reply-requires-clause-fits g c = sent_fits (script_functions g.R.Function.Calls.calling g.R.CallRecord.output) g.R.CallRecord.text
    c.args.site.now c.args.self.now c.in-Replying.polls c.in-Replying.found c.in-Replying.thread c.in-Replying.capture c.in-Replying.is c.requires
