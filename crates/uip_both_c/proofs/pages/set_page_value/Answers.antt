use Rattle.uip_both_c.proofs.Prelude.{BothShared, both, change_own, false, write_value}
use Rattle.uip_both_c.proofs.PageNumbers.{config_kept, value_set}
use Rattle.uip_device.proofs.NumberLaws.{numbers_changed, well_formed_still}
use Rattle.uip_both_c.proofs.pages.set_page_value.Goals as goal

pub invariant_of-node : goal.invariant_of-node
invariant_of-node c =
    let old : BothShared = c.node.inside.shared in
    well_formed_still both
    (record {
      addr = c.node.inside.addr;
      packet = c.node.inside.packet;
      table = c.node.inside.table;
      counts = record { net = c.node.inside.net; ticks = c.node.inside.ticks; ident = c.node.inside.ident };
      shared = old;
    })
    (record old { first = c.set_value.new.self }) (config_kept old c.set_value.new.self c.set_value.ensures.web) c.node.invariant

pub returns : goal.returns
returns c =
    let old : BothShared = c.node.inside.shared in
    rw (← c.node.view_is) (numbers_changed both (change_own false (write_value c.args.number c.args.text.now)) _ (record old { first = c.set_value.new.self })
    (config_kept old c.set_value.new.self c.set_value.ensures.web) (value_set c.args.number c.args.text.now old c.set_value.new.self
    c.set_value.ensures.numbers))
