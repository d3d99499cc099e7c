use Rattle.uip_slip.proofs.Words.{eight_more}
use Rattle.uip_slip.proofs.marks.plain_by_words.Goals as goal

pub words-preserved : goal.words-preserved
words-preserved c =
    eight_more c.args.bytes.now c.in-Some.word.now c.words.at c.words.invariant c.in-Some.ensures.cases (c.is_plain_word.ensures c.if-not-is_plain_word.false)
