use Rattle.uipd.proofs.Prelude.{◌∙◌, ap, sym, is_kind_word}
use Rattle.uipd.proofs.PartLaws.{all_fails}
use Rattle.uipd.proofs.parts.are_kind_words.Goals as goal

pub returns-then-not-is_kind_word : goal.returns-then-not-is_kind_word
returns-then-not-is_kind_word c =
    sym (all_fails is_kind_word c.args.words.now c.loop-word.word-index c.word-item.result c.loop-word-test.true c.word-item.is
    (ap is_kind_word (sym c.deref.ensures) ∙ sym c.is_kind_word.ensures ∙ c.if-not-is_kind_word.true))
