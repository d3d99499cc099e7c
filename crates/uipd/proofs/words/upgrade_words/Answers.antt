use Rattle.uipd.proofs.Prelude.{◌∙◌, ◌-◌, length, take, drop, sym}
use Rattle.uipd.proofs.PartLaws.{kinds_allowed}
use Rattle.uipd.proofs.words.upgrade_words.Goals as goal

pub returns-in-len1-up-clause-allowed : goal.returns-in-len1-up-clause-allowed
returns-in-len1-up-clause-allowed c =
    kinds_allowed (take (length c.args.words.now - 1) (drop 1 c.args.words.now)) (sym c.are_kind_words.ensures ∙ c.if-are_kind_words.true)
