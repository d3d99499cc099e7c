use Rattle.link_replay.proofs.Prelude.{◌≡◌, ◌++◌, drop, map, Act}
use Rattle.link_replay.proofs.world.line_acts.gives.Given as goal

abbrev pub invariant-loop-number : goal.invariant-loop-number
invariant-loop-number l = l.acts.items ++ map Act.Give (drop l.number-index l.numbers) ≡ map Act.Give l.numbers
