use Rattle.uip_wire.proofs.Prelude.{ℕ, ◌-◌, ap}
use Rattle.uip_wire.proofs.Wide.{joined_back}
use Rattle.uip_wire.proofs.sums.checksum_joined.Goals as goal

pub returns : goal.returns
returns c =
    ap (λ (n : ℕ). 65535 - n)
    (joined_back c.args.first.now c.args.second.now c.wide_sum.result c.wide_sum-2.result c.fold-swapped.result c.requires
    c.wide_sum.ensures.same c.wide_sum-2.ensures.same c.fold-swapped.ensures)
