use Rattle.uip_ipv4.proofs.Prelude.{arith, length-take-le}
use Rattle.uip_ipv4.proofs.sent.put_numbered_head.Goals as goal

pub copy_from_slice-requires : goal.copy_from_slice-requires
copy_from_slice-requires c = omega (arith, length-take-le 20 c.args.out.now c.requires)
