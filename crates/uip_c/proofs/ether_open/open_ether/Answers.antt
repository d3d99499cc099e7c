use Rattle.uip_c.proofs.Prelude.{interface_at}
use Rattle.uip_c.proofs.Opened.{opened_ether}
use Rattle.uip_c.proofs.ether_open.open_ether.Goals as goal

pub returns-in-Ok-new : goal.returns-in-Ok-new
returns-in-Ok-new c =
    opened_ether c.args.image.now c.args.own c.args.mac c.args.network c.in-Ok-new.device c.in-Ok.shared c.in-Ok-new.ensures.shared c.in-Ok.ensures
    (c.in-Ok-new.ensures.fresh (interface_at c.args.own c.args.mac c.args.network) (c.new.ensures.interface, c.new.ensures.knows))
