use Rattle.ethernet_arp.proofs.Prelude.{length, length-take-le}
use Rattle.ethernet_arp.proofs.packets.put_prefix.Goals as goal

pub copy_from_slice-requires : goal.copy_from_slice-requires
copy_from_slice-requires c = length-take-le (length c.args.part.now) c.args.out.now c.requires
