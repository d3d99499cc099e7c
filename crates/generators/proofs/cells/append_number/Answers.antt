use Rattle.generators.proofs.Prelude.{◌∙◌, ◌++◌, ap, sym, take, decimal_digit}
use Rattle.generators.proofs.cells.append_number.Goals as goal

pub returns-then-number-lt10-clause-text : goal.returns-then-number-lt10-clause-text
returns-then-number-lt10-clause-text c =
    c.append.ensures.text ∙ ap (λ l. take c.args.len c.args.room.now ++ l) (sym (decimal_digit c.args.number c.if-number-lt10.true))
