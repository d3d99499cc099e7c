use Rattle.script_lang.proofs.Prelude.{◌∙◌, sym, arith, ne_eqb, is_byte}
use Rattle.script_lang.proofs.PlaceLemmas.{first_place-later}
use Rattle.script_lang.proofs.search.byte_one_by_one.Goals as goal

pub loop-at-preserved : goal.loop-at-preserved
loop-at-preserved c =
    sym (first_place-later (is_byte c.args.text.now c.args.byte) c.loop-at.at c.args.to (omega arith) (ne_eqb _ _ c.if-text-at.false)) ∙ c.loop-at.invariant
