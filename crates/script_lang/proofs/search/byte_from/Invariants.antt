use Rattle.script_lang.proofs.Prelude.{◌≡◌, ◌≤◌, ◌-◌, is_byte, first_place}
use Rattle.script_lang.proofs.search.byte_from.Given as goal

abbrev pub decreases-loop-at : goal.decreases-loop-at
decreases-loop-at l = l.to - l.at

abbrev pub invariant-loop-at : goal.invariant-loop-at
invariant-loop-at l =
    (l.fn.from ≤ l.at) × (l.at ≤ l.to) × (first_place (is_byte l.text l.byte) l.at l.to ≡ first_place (is_byte l.text l.byte) l.fn.from l.to)
