use Rattle.workload.proofs.Prelude.{◌≡◌, ◌++◌, ◌+◌, List, [], ◌∷◌, map, sym, ap, ◌∙◌, arith, rules, tests, range_with_len}
use Rattle.workload.proofs.Prelude.{map-range_with_len_more, Plan, client_of}
use Rattle.workload.proofs.maker.clients_of.Goals as goal

pub loop-place-preserved : goal.loop-place-preserved
loop-place-preserved c =
    let place = c.loop-place.place in
    let plan = c.in_ok-plan.plan in
    let prefix = c.loop-place.plans.items in
    let items : c.push.new.self.items ≡ prefix ++ plan ∷ [] = search (rules, tests) in
    items
    ∙ ap (λ (l : List Plan). l ++ plan ∷ []) c.loop-place.invariant
    ∙ ap (λ (p : Plan). map client_of (range_with_len 1 place) ++ p ∷ []) c.in_ok-plan.ensures
    ∙ sym (map-range_with_len_more client_of 1 place (place + 1) (omega arith))
