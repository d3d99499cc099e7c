use Rattle.httpd.proofs.Prelude.{reply_in, sink_view}
use Rattle.httpd.proofs.ZeroWriting.{Transmission, zero_size}
use Rattle.httpd.proofs.zero.write_reply.Given as goal

abbrev pub invariant-loop-function : goal.invariant-loop-function
invariant-loop-function g l = Transmission (reply_in l.site l.found l.capture) l.thread (sink_view g.K.Sink l.initial.sink) (sink_view g.K.Sink l.sink)

abbrev pub decreases-loop-function : goal.decreases-loop-function
decreases-loop-function g l = zero_size (reply_in l.site l.found l.capture) l.thread
