use Rattle.ethernet_arp.proofs.Prelude.{wrapped, host_of}
use Rattle.ethernet_arp.proofs.Bytes.{framed_is}
use Rattle.ethernet_arp.proofs.framing.frame_datagram.Goals as goal

pub returns-clause-text : goal.returns-clause-text
returns-clause-text c = λ acts k.
    framed_is c.split_at_mut-length.result.0.now c.split_at_mut-length.result.1.now
    (wrapped (host_of c.args.arp.now) acts c.args.datagram.now) c.put16.new.bytes c.wrap-len.new.out
    c.wrap-len.result c.split_at_mut-length.ensures.front_len c.put16.ensures (c.wrap-len.ensures.puts acts k)
