use Rattle.link_replay.proofs.Prelude.{◌≡◌, ◌∷◌, [], ◌++◌, drop, flat_map, Act}
use Rattle.link_replay.proofs.world.line_acts.gives_twice.Given as goal

abbrev pub invariant-loop-number : goal.invariant-loop-number
invariant-loop-number l =
    l.acts.items ++ flat_map (λ k. Act.Give k ∷ Act.Give k ∷ []) (drop l.number-index l.numbers)
    ≡ flat_map (λ k. Act.Give k ∷ Act.Give k ∷ []) l.numbers
