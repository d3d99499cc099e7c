use Rattle.udp_resolver.proofs.Prelude.{◌∙◌, ap, list_any, is_none, questions}
use Rattle.udp_resolver.proofs.RunLaws.{open_by, open_else, open_then}
use Rattle.udp_resolver.proofs.run.Run.is_open.Goals as goal

pub returns-then-not-self : goal.returns-then-not-self
returns-then-not-self c = λ items k.
    let run = c.args.self.now in
    c.any_open.ensures ∙ ap (λ l. list_any is_none l) c.as_slice.ensures.value
    ∙ open_then run.clock.given_up (list_any is_none run.answers.items) c.if-not-self.true
    ∙ open_by (questions c.args.asking c.args.names.now) items run k

pub returns-else-not-self : goal.returns-else-not-self
returns-else-not-self c = λ items k.
    let run = c.args.self.now in
    open_else run.clock.given_up (list_any is_none run.answers.items) c.if-not-self.false
    ∙ open_by (questions c.args.asking c.args.names.now) items run k
