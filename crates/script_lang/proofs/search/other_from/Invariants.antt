use Rattle.script_lang.proofs.Prelude.{◌≡◌, not, is_byte, first_place}
use Rattle.script_lang.proofs.search.other_from.Given as goal

abbrev pub invariant-loop-at : goal.invariant-loop-at
invariant-loop-at l = first_place (λ p. not (is_byte l.text l.byte p)) l.at l.to ≡ first_place (λ p. not (is_byte l.text l.byte p)) l.fn.from l.to
