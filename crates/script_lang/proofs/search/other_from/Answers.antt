use Rattle.script_lang.proofs.Prelude.{◌∙◌, ap, not, sym, arith, eq-eqb, is_byte}
use Rattle.script_lang.proofs.PlaceLemmas.{first_place-later}
use Rattle.script_lang.proofs.search.other_from.Goals as goal

pub loop-at-preserved : goal.loop-at-preserved
loop-at-preserved c =
    sym (first_place-later (λ p. not (is_byte c.args.text.now c.args.byte p)) c.loop-at.at c.args.to (omega arith)
    (ap not (eq-eqb _ _ c.if-text-at.false))) ∙ c.loop-at.invariant
