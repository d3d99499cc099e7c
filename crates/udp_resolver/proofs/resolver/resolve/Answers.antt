use Rattle.udp_resolver.proofs.Prelude.{List, ℕ, subst, Asking, questions, Resolves, streams}
use Rattle.udp_resolver.proofs.ResolveLaws.{names_part, names_reported}
use Rattle.udp_resolver.proofs.resolver.resolve.Goals as goal

pub returns-in-Ok-clause-resolves : goal.returns-in-Ok-clause-resolves
returns-in-Ok-clause-resolves g c =
    let asking : Asking = record { own = c.args.own; server = c.args.server; id = c.args.id } in
    let old = streams g.L.Link g.K.Sink g.T.Sink c.args.link.now c.args.out.now c.args.tell.now in
    let new = streams g.L.Link g.K.Sink g.T.Sink c.ask-end.new.link c.ask-end.new.out c.report_all.new.tell in
    subst (λ (l : List (List ℕ)). Resolves (questions asking l) c.args.items old new c.ask-end.result) c.as_slice-names.ensures.value
    (names_reported asking c.as_slice-names.result.now c.args.items c.ask-end.new.run old new c.as_slice.result.now c.as_slice.ensures.value c.ask-end.result
    c.in_default.not-LinkFault c.in_default.not-WriteFault c.ask-end.ensures.asks c.in-Ok.ensures.writes.cause.same c.in-Ok.ensures.writes.whole)

pub returns-in-Err-clause-resolves : goal.returns-in-Err-clause-resolves
returns-in-Err-clause-resolves g c =
    let asking : Asking = record { own = c.args.own; server = c.args.server; id = c.args.id } in
    let old = streams g.L.Link g.K.Sink g.T.Sink c.args.link.now c.args.out.now c.args.tell.now in
    let new = streams g.L.Link g.K.Sink g.T.Sink c.ask-end.new.link c.ask-end.new.out c.report_all.new.tell in
    subst (λ (l : List (List ℕ)). Resolves (questions asking l) c.args.items old new _) c.as_slice-names.ensures.value
    (names_part asking c.as_slice-names.result.now c.args.items c.ask-end.new.run old new c.as_slice.result.now c.as_slice.ensures.value c.ask-end.result
    c.in_default.not-LinkFault c.in_default.not-WriteFault c.ask-end.ensures.asks c.in-Err.ensures.writes.cause.failed c.in-Err.ensures.writes.prefix
    c.in-Err.ensures.some)
