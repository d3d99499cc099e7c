use Rattle.serve_loop.proofs.Prelude.{arith, length-take, on_err}
use Rattle.serve_loop.proofs.PrefixLaws.{prefix_broke, prefix_taken, rest_wrote, tick_broke, tick_wrote}
use Rattle.serve_loop.proofs.line_turn.feed_prefix.Goals as goal

pub returns-in_err-count-clause-err : goal.returns-in_err-count-clause-err
returns-in_err-count-clause-err g c = on_err _
    (prefix_broke g.M.Medium.spec (λ k before. g.M.Medium.fed c.args.medium.now k before) c.args.pacer.now c.args.bytes.now c.due-due.result
    c.due-due.ensures.within c.due-due.ensures.reaches
    g.A.App.served _ _ _ _ c.in_err-count.ensures.err)

pub returns-in_err-tick-clause-err : goal.returns-in_err-tick-clause-err
returns-in_err-tick-clause-err g c = on_err _
    (tick_broke g.M.Medium.spec (λ k before. g.M.Medium.fed c.args.medium.now k before) c.args.pacer.now c.args.bytes.now c.due-due.result
    c.due-due.ensures.within c.due-due.ensures.reaches
    g.A.App.served _ _ _ _ _ _ c.in_ok-count.count c.pass.result c.in_ok-count.ensures.count.0
    (omega (arith, c.in_ok-count.ensures.count.1, length-take c.due-due.result c.args.bytes.now))
    c.if-pass.true c.pass.ensures.beat c.in_ok-count.ensures.ok c.in_err-tick.ensures.err)

pub returns-in_ok-tick-clause-taken : goal.returns-in_ok-tick-clause-taken
returns-in_ok-tick-clause-taken g c =
    prefix_taken g.M.Medium.spec (λ k before. g.M.Medium.fed c.args.medium.now k before) c.args.pacer.now c.args.bytes.now c.due-due.result
    c.due-due.ensures.within c.due-due.ensures.reaches
    (λ k before. g.M.Medium.fed c.tick.new.medium k before) _ c.in_ok-count.count
    (omega (arith, c.in_ok-count.ensures.count.1, length-take c.due-due.result c.args.bytes.now))
    (λ k before p. c.in_ok-tick.ensures.fed k _ (c.in_ok-count.ensures.fed k before p)) c.pass.ensures.pace c.pass.ensures.passed

pub returns-in_ok-tick-clause-ok : goal.returns-in_ok-tick-clause-ok
returns-in_ok-tick-clause-ok g c =
    tick_wrote g.M.Medium.spec (λ k before. g.M.Medium.fed c.args.medium.now k before) c.args.pacer.now c.args.bytes.now c.due-due.result
    c.due-due.ensures.within c.due-due.ensures.reaches
    g.A.App.served _ _ _ _ _ _ c.in_ok-count.count c.pass.result c.in_ok-count.ensures.count.0
    (omega (arith, c.in_ok-count.ensures.count.1, length-take c.due-due.result c.args.bytes.now))
    c.if-pass.true c.pass.ensures.beat c.in_ok-count.ensures.ok c.in_ok-tick.ensures.ok

pub returns-else-pass-clause-taken : goal.returns-else-pass-clause-taken
returns-else-pass-clause-taken g c =
    prefix_taken g.M.Medium.spec (λ k before. g.M.Medium.fed c.args.medium.now k before) c.args.pacer.now c.args.bytes.now c.due-due.result
    c.due-due.ensures.within c.due-due.ensures.reaches
    (λ k before. g.M.Medium.fed c.feed_medium.new.medium k before) _ c.in_ok-count.count
    (omega (arith, c.in_ok-count.ensures.count.1, length-take c.due-due.result c.args.bytes.now))
    c.in_ok-count.ensures.fed c.pass.ensures.pace c.pass.ensures.passed

pub returns-else-pass-clause-ok : goal.returns-else-pass-clause-ok
returns-else-pass-clause-ok g c =
    rest_wrote g.M.Medium.spec (λ k before. g.M.Medium.fed c.args.medium.now k before) c.args.pacer.now c.args.bytes.now c.due-due.result
    c.due-due.ensures.within c.due-due.ensures.reaches
    g.A.App.served _ _ _ _ c.in_ok-count.count c.pass.result c.in_ok-count.ensures.count.0
    (omega (arith, c.in_ok-count.ensures.count.1, length-take c.due-due.result c.args.bytes.now))
    c.if-pass.false c.pass.ensures.beat c.in_ok-count.ensures.ok
