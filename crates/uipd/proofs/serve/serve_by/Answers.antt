-- [add: line-kind] The arm of a kind of line.
use Rattle.uipd.proofs.Prelude.{refl, sym, subst, line_view, any_acts, slip_medium, RunsBy, status_of_serving, LineKind, Serial}
use Rattle.uipd.proofs.ServeLaws.{ether_run, line_run}
use Rattle.uipd.proofs.serve.serve_by.Goals as goal

pub returns-in-Serial : goal.returns-in-Serial
returns-in-Serial g c =
    let old = line_view g.L.Link g.K.Sink c.args.link.now c.args.out.now in
    let new = line_view g.L.Link g.K.Sink c.serve.new.link c.serve.new.sink in
    rw c.from.ensures
    (subst (λ (k : LineKind). RunsBy (g.A.App.app_spec (g.A.App.config c.args.shared)) g.A.App.served (g.A.App.numbers c.args.shared)
    (record c.args.line { kind = k }) old new (status_of_serving c.serve.result)) (sym c.in-Serial.is)
    (line_run g.A.App c.args.shared c.args.line Serial slip_medium c.in-Ok.node c.serve.new.node any_acts any_acts old new c.serve.result
    (λ m numbers items. refl)
    c.in-Ok.ensures.shared c.in-Ok.ensures.represented tt c.serve.ensures.serves))

pub returns-in-Ok : goal.returns-in-Ok
returns-in-Ok g c =
    let old = line_view g.L.Link g.K.Sink c.args.link.now c.args.out.now in
    let new = line_view g.L.Link g.K.Sink c.serve_ether.new.link c.serve_ether.new.sink in
    rw c.from-in-Ethernet.ensures
    (subst (λ (k : LineKind). RunsBy (g.A.App.app_spec (g.A.App.config c.args.shared)) g.A.App.served (g.A.App.numbers c.args.shared)
    (record c.args.line { kind = k }) old new (status_of_serving c.serve_ether.result)) (sym c.in-Ethernet.is)
    (ether_run g.A.App c.args.shared c.args.line c.in-Ethernet.mac c.in-Ok.node c.serve_ether.new.node _ _ _ old new c.serve_ether.result
    c.in-Ok.ensures.shared c.in-Ok.ensures.represented
    c.new-arp.ensures.knows c.new-arp.ensures.host c.serve_ether.ensures.serves))
