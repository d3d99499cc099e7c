use Rattle.ethernet_arp.proofs.Prelude.{arith}
use Rattle.ethernet_arp.proofs.Bytes.{head_is}
use Rattle.ethernet_arp.proofs.packets.datagram_head.Goals as goal

pub returns : goal.returns
returns c = head_is c.args.to.0 c.args.from.0 (omega arith) (omega arith)
