use Rattle.uip_device.proofs.Prelude.{◌≡◌, ℕ, Option, ap, arith, initial_node}
use Rattle.std.specs.Prelude.{unwrap_or}
use Rattle.uip_device.proofs.device.Device.protect.Goals.{then-node_ticks-ne0-via-then-node_ticks-ne0}
use Rattle.uip_device.proofs.device.Device.protect.Goals.{then-node_ticks-ne0-via-else-node_ticks-ne0+then-node_counter-ne0}
use Rattle.uip_device.proofs.device.Device.protect.Goals as goal

pub returns-then-node_ticks-ne0-clause-fresh : goal.returns-then-node_ticks-ne0-clause-fresh
returns-then-node_ticks-ne0-clause-fresh g c = λ it.
    let n = initial_node it.own it.numbers in
    let ticks = c.node_ticks.ensures n it.fresh.represented.represented in
    elim c.then-node_ticks-ne0.branch [
      | then-node_ticks-ne0-via-then-node_ticks-ne0 w ↦ absurd (let h = w.if-node_ticks-ne0 in omega (arith, ticks, h))
      | then-node_ticks-ne0-via-else-node_ticks-ne0+then-node_counter-ne0 w ↦ absurd (
          let h = w.if-node_counter-ne0 in
          let count = w.node_counter.ensures n it.fresh.represented.represented in
          let none : 0 ≡ w.node_counter.result = ap (λ (o : Option ℕ). unwrap_or o 0) count in
          omega (arith, none, h))
    ]
