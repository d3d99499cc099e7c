use Rattle.script_lang.proofs.Prelude.{◌≡◌, is_byte, first_place}
use Rattle.script_lang.proofs.search.byte_one_by_one.Given as goal

abbrev pub invariant-loop-at : goal.invariant-loop-at
invariant-loop-at l = first_place (is_byte l.text l.byte) l.at l.to ≡ first_place (is_byte l.text l.byte) l.fn.from l.to
