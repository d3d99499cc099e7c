use Rattle.uip_wire.proofs.Prelude.{◌∙◌, sym, arith}
use Rattle.uip_wire.proofs.Folding.{folded_halves, folded_shorts, folded_small, folded_words}
use Rattle.uip_wire.proofs.sums.fold.Goals as goal

pub returns : goal.returns
returns c =
    sym (folded_small _ (omega arith)) ∙ folded_shorts _ ∙ folded_shorts c.add_word-word.result ∙ c.add_word-word.ensures
    ∙ folded_words c.add_long-long.result ∙ c.add_long-long.ensures ∙ folded_halves c.args.sum
