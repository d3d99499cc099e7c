use Rattle.workload.proofs.Prelude.{◌≡◌, ◌++◌, ◌+◌, List, [], ◌∷◌, rules, tests, get_or, sym, ap, ◌∙◌, Line}
use Rattle.workload.proofs.Working.{line_with, numbered_more}
use Rattle.workload.proofs.events.lines_from.Goals as goal

pub loop-place-preserved : goal.loop-place-preserved
loop-place-preserved c =
    let xs = c.args.events.now in
    let place = c.loop-place.place in
    let x = c.line_at.result.event in
    let here : get_or xs place x ≡ x = search (rules, tests) in
    let items : c.push.new.self.items ≡ c.loop-place.lines.items ++ line_with (c.args.first + place) x ∷ [] = search (rules, tests) in
    items ∙ ap (λ (l : List Line). l ++ line_with (c.args.first + place) x ∷ []) c.loop-place.invariant
    ∙ sym (numbered_more c.args.first place xs x c.loop-place-test.true here)
