use Rattle.generators.proofs.Prelude.{◌+◌, ◌≤◌, List, ℕ, ◌≡◌, ap, drop, length, subst, sym, take, ◌∙◌}
use Rattle.generators.proofs.Packing.{packed_text}
use Rattle.generators.proofs.slices.fill_rows.Goals as goal

pub fill_all-requires-clause-enough : goal.fill_all-requires-clause-enough
fill_all-requires-clause-enough c =
    subst (λ (text : List ℕ). c.args.at + length c.args.out.now ≤ length text)
    (sym (packed_text c.args.rows.now c.packed.result.now c.packed.ensures.rows)) c.requires

pub returns : goal.returns
returns c =
    c.fill_all.ensures ∙ ap (λ text. take (length c.args.out.now) (drop c.args.at text)) (packed_text c.args.rows.now c.packed.result.now c.packed.ensures.rows)
