use Rattle.serve_loop.proofs.Prelude.{subst, Addr, event_of, step, Steps}
use Rattle.serve_loop.proofs.NodeLaws.{call_reported}
use Rattle.serve_loop.proofs.node_output.input_datagram.Goals as goal

pub returns : goal.returns
returns g c =
    let old = c.args.node.now in
    let new = c.input-sent.new.self in
    let shown = g.M.Medium.shown c.args.medium.now in
    let m = g.A.App.app_spec (g.A.App.config old.shared) in
    let reported = call_reported g.A.App c.write_sent.result g.M.Medium.spec (λ k acts. g.M.Medium.did c.args.medium.now k acts)
    (λ k acts. g.M.Medium.did c.write_sent.new.medium k acts)
    old new c.input-sent.result (λ own. event_of own shown) (g.K.Sink.written c.args.sink.now) (g.K.Sink.written c.write_sent.new.sink)
    c.input-sent.ensures.same
    (λ m' own n p. subst (λ (a : Addr). Steps g.A.App new c.input-sent.result (step m g.A.App.served n (event_of a shown))) p.address
    (rw c.shown.ensures at (c.input-sent.ensures.step n p.represented)))
    c.write_sent.ensures.did c.write_sent.ensures.ok c.write_sent.ensures.err in
    record {
      same = c.input-sent.ensures.same;
      fed = c.write_sent.ensures.fed;
      ok = reported.0;
      err = reported.1;
      cause = c.write_sent.ensures.cause;
    }
