-- [add: command] Words of a command: a folder for each function that reads them, as this one.
use Rattle.uipd.proofs.Prelude.{◌∙◌, string_bytes, codes, limits_at}
use Rattle.uipd.proofs.WordLaws.{few}
use Rattle.uipd.proofs.words.limits_of.Goals as goal

pub returns-in_default : goal.returns-in_default
returns-in_default c = c.limits_at.ensures ∙ few string_bytes (codes "pace") 0 limits_at c.args.words.now c.in_default.len_below
