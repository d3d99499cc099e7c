use Rattle.uip_both_c.proofs.Prelude.{interface_at}
use Rattle.uip_both_c.proofs.Opened.{opened_both}
use Rattle.uip_both_c.proofs.open_close.open_ether.Goals as goal

pub returns-in-Ok-new : goal.returns-in-Ok-new
returns-in-Ok-new c =
    opened_both c.args.image.now c.args.own c.args.mac c.args.network c.in-Ok-new.device c.in-Ok.first c.first.result c.in-Ok-new.ensures.shared c.in-Ok.ensures
    c.first.ensures.opened c.first.ensures.none c.first.ensures.ports
    (c.in-Ok-new.ensures.fresh (interface_at c.args.own c.args.mac c.args.network) (c.new.ensures.interface, c.new.ensures.knows))
