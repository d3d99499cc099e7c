use Rattle.ethernet_arp.proofs.Prelude.{◌∙◌, ap, arith, written}
use Rattle.ethernet_arp.proofs.Bytes.{frame_is}
use Rattle.ethernet_arp.proofs.sent.put_datagram.Goals as goal

pub returns-clause-puts : goal.returns-clause-puts
returns-clause-puts c =
    frame_is c.args.to.0 c.args.from.0 c.args.datagram.now (omega arith) (omega arith) c.args.out.now c.copy_from_slice.new.self c.put_prefix.new.out
    (c.copy_from_slice.ensures.after ∙ c.datagram_head.ensures) (c.put_prefix.ensures ∙ ap (λ l. written l 0 c.args.datagram.now)
    c.split_at_mut-head.ensures.back)
