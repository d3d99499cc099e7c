use Rattle.uip_device.proofs.Prelude.{ap, datagram_in, refl, subst, sym, text_to_come, Buffer, WasFed, state_in}
use Rattle.uip_device.proofs.web_device.WebDevice.set_value.Goals as goal

pub returns-clause-gives : goal.returns-clause-gives
returns-clause-gives c =
    let changes = c.set_node_value.ensures in
    record {
      guard = refl;
      kept = changes.kept;
      input = λ before h. subst (λ (b : Buffer). WasFed before (state_in b.area c.args.self.now.part)) (sym changes.packet) h;
      left = ap (λ p. text_to_come (datagram_in p) c.args.self.now.left) changes.packet;
      represented = changes.represented;
    }
