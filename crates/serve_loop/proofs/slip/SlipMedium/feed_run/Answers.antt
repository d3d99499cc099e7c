use Rattle.serve_loop.proofs.Prelude.{[], ◌∷◌, Datagram, Overlong}
use Rattle.serve_loop.proofs.SlipLaws.{brought_reported}
use Rattle.serve_loop.proofs.slip.SlipMedium.feed_run.Goals as goal

pub returns-in-More-clause-reported : goal.returns-in-More-clause-reported
returns-in-More-clause-reported c = λ k before fed.
    let reported = rw c.in-More.is at c.feed_run-run.ensures.prefix.frames in
    brought_reported before _ [] (reported before fed).1

pub returns-in-Overlong-clause-reported : goal.returns-in-Overlong-clause-reported
returns-in-Overlong-clause-reported c = λ k before fed.
    let reported = rw c.in-Overlong.is at c.feed_run-run.ensures.prefix.frames in
    brought_reported before _ (Overlong ∷ []) (reported before fed).1

pub returns-in-Datagram-clause-reported : goal.returns-in-Datagram-clause-reported
returns-in-Datagram-clause-reported c = λ k before fed.
    let reported = rw c.in-Datagram.is at c.feed_run-run.ensures.prefix.frames in
    brought_reported before _ (Datagram c.feed_run-run.new.self.bytes ∷ []) (reported before fed).1
