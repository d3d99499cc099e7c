use Rattle.serve_loop.proofs.Prelude.{on_err}
use Rattle.serve_loop.proofs.TakenLaws.{datagram_broke, datagram_wrote, nothing_wrote, overlong_wrote, own_broke, own_wrote}
use Rattle.serve_loop.proofs.line_turn.feed_medium.Goals as goal

pub returns-in-Nothing-clause-ok : goal.returns-in-Nothing-clause-ok
returns-in-Nothing-clause-ok g c =
    nothing_wrote g.A.App g.M.Medium.spec
    (λ k before. g.M.Medium.fed c.args.medium.now k before) (λ k acts. g.M.Medium.did c.args.medium.now k acts)
    (λ k acts. g.M.Medium.did c.feed_run-run.new.self k acts)
    c.args.bytes.now c.feed_run-run.result.count (g.M.Medium.shown c.feed_run-run.new.self) c.args.node.now c.feed_run-run.ensures.did
    (rw c.in-Nothing.is at c.feed_run-run.ensures.reported) _

pub returns-in-Overlong-clause-ok : goal.returns-in-Overlong-clause-ok
returns-in-Overlong-clause-ok g c =
    overlong_wrote g.A.App g.M.Medium.spec
    (λ k before. g.M.Medium.fed c.args.medium.now k before) (λ k acts. g.M.Medium.did c.args.medium.now k acts)
    (λ k acts. g.M.Medium.did c.feed_run-run.new.self k acts)
    c.args.bytes.now c.feed_run-run.result.count (g.M.Medium.shown c.feed_run-run.new.self) c.args.node.now c.feed_run-run.ensures.did
    c.count_overlong.new.self _ (rw c.in-Overlong.is at c.feed_run-run.ensures.reported) c.count_overlong.ensures.same c.count_overlong.ensures.step

pub returns-in_err-input_datagram-in-Datagram-clause-err : goal.returns-in_err-input_datagram-in-Datagram-clause-err
returns-in_err-input_datagram-in-Datagram-clause-err g c = on_err _
    (datagram_broke g.A.App g.M.Medium.spec
    (λ k before. g.M.Medium.fed c.args.medium.now k before) (λ k acts. g.M.Medium.did c.args.medium.now k acts)
    (λ k acts. g.M.Medium.did c.feed_run-run.new.self k acts)
    c.args.bytes.now c.feed_run-run.result.count (g.M.Medium.shown c.feed_run-run.new.self) c.args.node.now c.feed_run-run.ensures.did
    _ _ _ c.feed_run-run.ensures.some c.feed_run-run.ensures.within (rw c.in-Datagram.is at c.feed_run-run.ensures.reported)
    c.in_err-input_datagram-in-Datagram.ensures.err)

pub returns-in_ok-input_datagram-in-Datagram-clause-ok : goal.returns-in_ok-input_datagram-in-Datagram-clause-ok
returns-in_ok-input_datagram-in-Datagram-clause-ok g c =
    datagram_wrote g.A.App g.M.Medium.spec
    (λ k before. g.M.Medium.fed c.args.medium.now k before) (λ k acts. g.M.Medium.did c.args.medium.now k acts)
    (λ k acts. g.M.Medium.did c.feed_run-run.new.self k acts)
    c.args.bytes.now c.feed_run-run.result.count (g.M.Medium.shown c.feed_run-run.new.self) c.args.node.now c.feed_run-run.ensures.did
    _ _ _ (rw c.in-Datagram.is at c.feed_run-run.ensures.reported) c.in_ok-input_datagram-in-Datagram.ensures.ok

pub returns-in_err-write_out-in-Own-clause-err : goal.returns-in_err-write_out-in-Own-clause-err
returns-in_err-write_out-in-Own-clause-err g c = on_err _
    (own_broke g.A.App g.M.Medium.spec
    (λ k before. g.M.Medium.fed c.args.medium.now k before) (λ k acts. g.M.Medium.did c.args.medium.now k acts)
    (λ k acts. g.M.Medium.did c.feed_run-run.new.self k acts)
    c.args.bytes.now c.feed_run-run.result.count (g.M.Medium.shown c.feed_run-run.new.self) c.args.node.now c.feed_run-run.ensures.did
    _ _ (rw c.in-Own.is at c.feed_run-run.ensures.reported) c.feed_run-run.ensures.some c.feed_run-run.ensures.within
    (rw c.shown.ensures at c.in_err-write_out-in-Own.ensures.prefix))

pub returns-in_ok-write_out-in-Own-clause-ok : goal.returns-in_ok-write_out-in-Own-clause-ok
returns-in_ok-write_out-in-Own-clause-ok g c =
    own_wrote g.A.App g.M.Medium.spec
    (λ k before. g.M.Medium.fed c.args.medium.now k before) (λ k acts. g.M.Medium.did c.args.medium.now k acts)
    (λ k acts. g.M.Medium.did c.feed_run-run.new.self k acts)
    c.args.bytes.now c.feed_run-run.result.count (g.M.Medium.shown c.feed_run-run.new.self) c.args.node.now c.feed_run-run.ensures.did
    _ _ (rw c.in-Own.is at c.feed_run-run.ensures.reported) (rw c.shown.ensures at c.in_ok-write_out-in-Own.ensures.whole)
