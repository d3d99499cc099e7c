use Rattle.uipd.proofs.Prelude.{◌∙◌, ap, sym, has_parts}
use Rattle.uipd.proofs.PartLaws.{all_fails}
use Rattle.uipd.proofs.parts.have_parts.Goals as goal

pub returns-then-not-has_parts : goal.returns-then-not-has_parts
returns-then-not-has_parts c =
    sym (all_fails has_parts c.args.words.now c.loop-word.word-index c.word-item.result c.loop-word-test.true c.word-item.is
    (ap has_parts (sym c.deref.ensures) ∙ sym c.has_parts.ensures ∙ c.if-not-has_parts.true))
