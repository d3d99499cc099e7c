use Rattle.generators.proofs.Prelude.{ap, length, ◌∙◌}
use Rattle.generators.proofs.Packing.{packed_text}
use Rattle.generators.proofs.slices.rows_len.Goals as goal

pub returns-clause-length : goal.returns-clause-length
returns-clause-length c = c.len_all.ensures.length ∙ ap length (packed_text c.args.rows.now c.packed.result.now c.packed.ensures.rows)
