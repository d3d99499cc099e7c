use Rattle.ethernet_arp.proofs.Prelude.{arith}
use Rattle.ethernet_arp.proofs.Bytes.{parts_are}
use Rattle.ethernet_arp.proofs.packets.arp_frame.Goals as goal

pub returns : goal.returns
returns c =
    parts_are c.args.to.0 c.args.mac.0 c.args.own.0 c.args.target_mac.0 c.args.target.0 c.args.operation (omega arith) (omega arith)
    (omega arith) (omega arith) (omega arith)
    (omega arith)
