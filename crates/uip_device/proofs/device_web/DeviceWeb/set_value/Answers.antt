use Rattle.uip_device.proofs.Prelude.{List, ℕ, ◌++◌, ap, sym, ◌∙◌}
use Rattle.uip_device.proofs.WebLaws.{written_after}
use Rattle.uip_device.proofs.device_web.DeviceWeb.set_value.Goals as goal

pub returns-clause-numbers : goal.returns-clause-numbers
returns-clause-numbers c =
    let hits : List ℕ = c.args.self.now.web.hits in
    ap (λ (l : List ℕ). hits ++ l) c.give.ensures
    ∙ sym (written_after c.args.number c.args.text.now hits c.args.self.now.values.bytes c.see_values.ensures)
