use Rattle.uip_device.proofs.Prelude.{ap, WebContent, write_value}
use Rattle.uip_device.proofs.NumberLaws.{numbers_changed, well_formed_still}
use Rattle.uip_device.specs.contracts.value_pages.ValuePagesApp.TheImpl.{ghosts}
use Rattle.uip_device.proofs.web_device.set_node_value.Goals as goal

pub invariant_of-node : goal.invariant_of-node
invariant_of-node c =
    well_formed_still ghosts
    (record {
      addr = c.node.inside.addr;
      packet = c.node.inside.packet;
      table = c.node.inside.table;
      counts = record { net = c.node.inside.net; ticks = c.node.inside.ticks; ident = c.node.inside.ident };
      shared = c.node.inside.shared;
    })
    c.set_value.new.self (ap (λ (w : WebContent). w.site) c.set_value.ensures.web) c.node.invariant

pub returns : goal.returns
returns c =
    rw (← c.node.view_is) (numbers_changed ghosts (write_value c.args.number c.args.text.now) _ c.set_value.new.self
    (ap (λ (w : WebContent). w.site) c.set_value.ensures.web) c.set_value.ensures.numbers)
