use Rattle.script_lang.proofs.Prelude.{length, ◌-◌, arith}
use Rattle.std.proofs.lemmas.Bool.Decides.{Decides-eqb}
use Rattle.script_lang.proofs.WordLemmas.{windows-decide, five-decide}
use Rattle.script_lang.proofs.same.has_at.Goals as goal

pub returns-then-last-eq1 : goal.returns-then-last-eq1
returns-then-last-eq1 c = five-decide c.args.text.now c.args.at c.args.word.now _ _ c.requires.room
    (omega (arith, c.requires.low, c.if-last-eq1.true)) c.same_four.ensures (Decides-eqb _ _)

pub returns : goal.returns
returns c =
    windows-decide c.args.text.now c.args.at c.args.word.now _ _ (length c.args.word.now - 4) _ _ _ _ c.requires.room c.min-second.ensures
    c.min-third.ensures (omega (arith, c.requires.low)) c.requires.high c.same_four-2.ensures c.same_four-3.ensures c.same_four-4.ensures c.same_four-5.ensures
