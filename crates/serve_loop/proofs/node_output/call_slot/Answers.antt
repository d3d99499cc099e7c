use Rattle.serve_loop.proofs.Prelude.{Periodic}
use Rattle.serve_loop.proofs.NodeLaws.{call_reported}
use Rattle.serve_loop.proofs.node_output.call_slot.Goals as goal

pub returns-clause-ok : goal.returns-clause-ok
returns-clause-ok g c =
    (call_reported g.A.App c.write_sent.result g.M.Medium.spec (λ k acts. g.M.Medium.did c.args.medium.now k acts)
    (λ k acts. g.M.Medium.did c.write_sent.new.medium k acts)
    c.args.node.now c.periodic-sent.new.self c.periodic-sent.result (λ own. Periodic c.args.slot) (g.K.Sink.written c.args.sink.now)
    (g.K.Sink.written c.write_sent.new.sink)
    c.periodic-sent.ensures.refines.same (λ m own n p. c.periodic-sent.ensures.refines.step n p.represented) c.write_sent.ensures.did
    c.write_sent.ensures.ok c.write_sent.ensures.err).0

pub returns-clause-err : goal.returns-clause-err
returns-clause-err g c =
    (call_reported g.A.App c.write_sent.result g.M.Medium.spec (λ k acts. g.M.Medium.did c.args.medium.now k acts)
    (λ k acts. g.M.Medium.did c.write_sent.new.medium k acts)
    c.args.node.now c.periodic-sent.new.self c.periodic-sent.result (λ own. Periodic c.args.slot) (g.K.Sink.written c.args.sink.now)
    (g.K.Sink.written c.write_sent.new.sink)
    c.periodic-sent.ensures.refines.same (λ m own n p. c.periodic-sent.ensures.refines.step n p.represented) c.write_sent.ensures.did
    c.write_sent.ensures.ok c.write_sent.ensures.err).1
