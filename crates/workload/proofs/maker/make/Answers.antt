use Rattle.workload.proofs.Prelude.{◌+◌, List, length, sym, ap, subst, arith, ◌∙◌, Keeps, Event, events_of, numbered_from}
use Rattle.workload.proofs.Keeping.{all_events, keeps, length-events, same_content}
use Rattle.workload.proofs.maker.make.Goals as goal

pub lines_from-requires : goal.lines_from-requires
lines_from-requires c =
    let all = c.as_slice.ensures.value ∙ all_events c.args.seed c.args.clients c.new.result _ _ _ _ c.new.ensures c.new-events.ensures.items
    c.in_ok-push_opens.ensures c.in_ok-push_drawn.ensures c.in_ok-push_rounds.ensures in
    let len = ap (λ (l : List Event). length l) all ∙ length-events c.args.seed c.args.clients in
    omega (arith, len, c.from.ensures, c.requires.few)

pub invariant_of-result : goal.invariant_of-result
invariant_of-result c =
    let all = c.as_slice.ensures.value ∙ all_events c.args.seed c.args.clients c.new.result _ _ _ _ c.new.ensures c.new-events.ensures.items
    c.in_ok-push_opens.ensures c.in_ok-push_drawn.ensures c.in_ok-push_rounds.ensures in
    let lines = c.in_ok-lines.ensures ∙ ap (λ (l : List Event). numbered_from (c.from.result + 1) l) all
    ∙ ap (λ n. numbered_from (n + 1) (events_of c.args.seed c.args.clients)) c.from.ensures in
    subst Keeps (sym (same_content _ _ _ _ c.in_ok-clients.ensures lines)) (keeps c.args.seed c.args.clients c.requires.some c.requires.few)
