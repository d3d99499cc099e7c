use Rattle.uipd.proofs.WordLaws.{few_for_ether}
use Rattle.uipd.proofs.words.ether_words.Goals as goal

pub returns-in_default : goal.returns-in_default
returns-in_default c = few_for_ether _ c.args.words.now c.in_default.len_below
