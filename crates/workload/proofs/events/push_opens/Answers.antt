use Rattle.workload.proofs.Prelude.{◌++◌, ◌+◌, List, [], ◌∷◌, map, sym, ap, ◌∙◌, append_assoc, arith, range_with_len}
use Rattle.workload.proofs.Prelude.{map-range_with_len_more, Event, Opens}
use Rattle.workload.proofs.events.push_opens.Goals as goal

pub loop-place-preserved : goal.loop-place-preserved
loop-place-preserved c =
    let place = c.loop-place.place in
    let old = c.args.events.now.items in
    c.in_ok-push.ensures ∙ ap (λ (l : List Event). l ++ Opens (place + 1) ∷ []) c.loop-place.invariant
    ∙ append_assoc old (map (λ k. Opens k) (range_with_len 1 place)) (Opens (place + 1) ∷ [])
    ∙ ap (λ (l : List Event). old ++ l) (sym (map-range_with_len_more (λ k. Opens k) 1 place (place + 1) (omega arith)))
