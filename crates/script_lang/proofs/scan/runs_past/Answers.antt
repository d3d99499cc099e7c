use Rattle.script_lang.proofs.Prelude.{◌==◌, ◌+◌, ◌∙◌, ap, arith, length, sym, le-ltb, is_directive_mark, run_end}
use Rattle.script_lang.proofs.PlaceLemmas.{first_place-is, history-prefix}
use Rattle.script_lang.proofs.scan.runs_past.Goals as goal

pub returns-then-text-at : goal.returns-then-text-at
returns-then-text-at c =
    sym (le-ltb (c.args.at + c.args.count) (run_end c.args.text.now c.args.at)
    (omega (arith, (first_place-is (is_directive_mark c.args.text.now) c.args.at (length c.args.text.now) (omega arith)).high)))

pub returns : goal.returns
returns c =
    let last = c.args.at + c.args.count in
    ap (λ r. r == last + 1) c.mark_from.ensures.place
    ∙ history-prefix (is_directive_mark c.args.text.now) c.args.at last (length c.args.text.now) _ _ (omega arith) (omega arith)
    (first_place-is (is_directive_mark c.args.text.now) c.args.at (last + 1) (omega arith))
    (first_place-is (is_directive_mark c.args.text.now) c.args.at (length c.args.text.now) (omega arith))
