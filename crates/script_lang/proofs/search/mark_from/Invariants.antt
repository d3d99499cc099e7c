use Rattle.script_lang.proofs.Prelude.{◌≡◌, ◌≤◌, ◌-◌, first_place, is_directive_mark}
use Rattle.script_lang.proofs.search.mark_from.Given as goal

abbrev pub decreases-loop-at : goal.decreases-loop-at
decreases-loop-at l = l.to - l.at

abbrev pub invariant-loop-at : goal.invariant-loop-at
invariant-loop-at l =
    (l.fn.from ≤ l.at) × (l.at ≤ l.to) × (first_place (is_directive_mark l.text) l.at l.to ≡ first_place (is_directive_mark l.text) l.fn.from l.to)
