use Rattle.uipd.proofs.Prelude.{Some, None, ap, ◌∙◌, codes, bytes_eq}
use Rattle.uipd.proofs.WordLaws.{last_reported}
use Rattle.uipd.proofs.words.ends_in_tty.Goals as goal

pub returns-in-Some : goal.returns-in-Some
returns-in-Some c =
    c.eq.ensures ∙ ap (λ word. bytes_eq word (codes "tty")) c.as_str.ensures.value
    ∙ last_reported c.args.words.now (Some c.in-Some.word.now) c.in-Some.ensures.value

pub returns-in-None : goal.returns-in-None
returns-in-None c = last_reported c.args.words.now None c.in-None.ensures.value
