use Rattle.link_schedule.proofs.Prelude.{◌≡◌, ◌∙◌, sym, ap, arith, length, ℕ, List, Bor, eqb, slice_split, length-map}
use Rattle.link_schedule.proofs.Lines.{few_parts}
use Rattle.link_schedule.proofs.schedule.Schedule.read.Goals as goal

pub read_lines-requires : goal.read_lines-requires
read_lines-requires c =
    let few = few_parts (λ b. eqb b 10) c.args.text.now in
    let same : length c.as_slice.result.now ≡ length (slice_split (λ b. eqb b 10) c.args.text.now)
    = ap length c.as_slice.ensures.value ∙ sym (length-map c.in-Ok.lines.items (λ (x : Bor (List ℕ)). x.now))
    ∙ ap length c.in-Ok.ensures in
    omega (arith, few, same)
