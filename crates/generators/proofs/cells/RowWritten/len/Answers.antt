-- The cells of a row.
use Rattle.generators.proofs.Prelude.{◌+◌, ◌∙◌, length, sym, row_long}
use Rattle.generators.proofs.cells.RowWritten.len.Goals as goal

pub returns-clause-length : goal.returns-clause-length
returns-clause-length c =
    sym (row_long c.args.self.now
    ∙ (λ i.
    70 + sym c.byte_len.ensures.length i + sym c.byte_len-2.ensures.length i + sym c.byte_len-3.ensures.length i + sym c.byte_len-4.ensures.length i
    + sym c.byte_len-5.ensures.length i + sym c.decimal_len.ensures.length i + length (sym c.name_of.ensures.text i)
    + sym c.byte_len-6.ensures.length i + sym c.byte_len-7.ensures.length i))
