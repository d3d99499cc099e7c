use Rattle.uip_both_c.proofs.Opened.{both_given}
use Rattle.uip_both_c.proofs.device.give.Goals as goal

pub returns : goal.returns
returns c = both_given c.args.number c.args.text.now c.args.device.now c.set_page_value.new.node c.set_page_value.ensures
