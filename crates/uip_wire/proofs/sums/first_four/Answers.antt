use Rattle.uip_wire.proofs.Prelude.{ℕ, ◌+◌, ◌-◌, List, take, drop, length, ap, ◌∙◌, take_rest, little_number, folded, swapped_sum}
use Rattle.uip_wire.proofs.Wide.{next_four}
use Rattle.uip_wire.proofs.sums.first_four.Goals as goal

pub returns-then-bytes-ge4-clause-same : goal.returns-then-bytes-ge4-clause-same
returns-then-bytes-ge4-clause-same c = λ before.
    ap (λ (n : ℕ). folded (before + n + swapped_sum (take (length c.args.bytes.now - 4) (drop 4 c.args.bytes.now)))) (c.from.ensures ∙ c.read_u32.ensures)
    ∙ ap (λ (xs : List ℕ). folded (before + little_number 4 c.args.bytes.now + swapped_sum xs)) (take_rest c.args.bytes.now 4)
    ∙ next_four before c.args.bytes.now c.if-bytes-ge4.true
