use Rattle.std.proofs.Math.Logic.{∥∥₁_map}
use Rattle.uip_both_c.proofs.Prelude.{List, both, ℕ}
use Rattle.uip_both_c.proofs.BothLaws.{part_with_ports}
use Rattle.uip_both_c.proofs.device.listen.Goals as goal

-- the state of a connection does not depend on the open ports
pub invariant_of-device : goal.invariant_of-device
invariant_of-device c = record {
  size = c.device.invariant.size;
  kept = λ slot conn at.
      (let it = c.device.invariant.kept slot conn at in
      let ports : List ℕ = c.listen.new.self.ports.items in
      record {
        sound = record {
          numbers = it.sound.numbers;
          says = λ opened. ∥∥₁_map (it.sound.says opened)
              (λ said. (said.0, part_with_ports conn.app (both.config c.device.inside.0.1.0.shared) ports said.0 said.1, said.2));
        };
        busy = it.busy;
      });
}
