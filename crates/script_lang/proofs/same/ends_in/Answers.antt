use Rattle.script_lang.proofs.Prelude.{◌∙◌}
use Rattle.script_lang.proofs.WordLemmas.{end-decides}
use Rattle.script_lang.proofs.same.ends_in.Goals as goal

pub returns-then-text-word : goal.returns-then-text-word
returns-then-text-word c = c.has_at.ensures ∙ end-decides c.args.text.now c.args.word.now c.if-text-word.true
