use Rattle.uipd.proofs.Prelude.{◌∙◌, string_bytes, codes, all_items, limited}
use Rattle.uipd.proofs.WordLaws.{few}
use Rattle.uipd.proofs.words.limits_at.Goals as goal

pub returns-in_default : goal.returns-in_default
returns-in_default c =
    c.limited.ensures ∙ few string_bytes (codes "items") all_items (limited c.args.pace) c.args.words.now c.in_default.len_below
