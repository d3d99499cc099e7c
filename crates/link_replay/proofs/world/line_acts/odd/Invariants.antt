use Rattle.link_replay.proofs.Prelude.{◌≡◌, ◌==◌, ◌%◌, ◌++◌, drop, filter}
use Rattle.link_replay.proofs.world.line_acts.odd.Given as goal

abbrev pub invariant-loop-number : goal.invariant-loop-number
invariant-loop-number l = l.odd.items ++ filter (λ k. k % 2 == 1) (drop l.number-index l.numbers) ≡ filter (λ k. k % 2 == 1) l.numbers
