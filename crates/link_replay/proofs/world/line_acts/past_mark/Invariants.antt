use Rattle.link_replay.proofs.Prelude.{◌≡◌, ◌+◌, ◌-◌, ◌++◌, range_with_len}
use Rattle.link_replay.proofs.world.line_acts.past_mark.Given as goal

abbrev pub invariant-loop-number : goal.invariant-loop-number
invariant-loop-number l = l.numbers.items ++ range_with_len (l.number + 1) (l.sent - l.number) ≡ range_with_len (l.mark + 1) (l.sent - l.mark)
