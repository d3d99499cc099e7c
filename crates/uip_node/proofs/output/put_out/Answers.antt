-- The datagram in the packet.
use Rattle.uip_node.proofs.Prelude.{arith, ◌∙◌}
use Rattle.uip_node.proofs.Lengths.{HasAddrs, fits_area, sent_is, sent_length}
use Rattle.uip_node.proofs.output.put_out.Goals as goal

pub put-requires-clause-fits : goal.put-requires-clause-fits
put-requires-clause-fits c = fits_area c.args.out.now c.args.packet.now.area c.requires.size c.requires.len c.requires.no_text

pub returns-clause-size : goal.returns-clause-size
returns-clause-size c =
    let addrs : HasAddrs c.args.out.now = (c.has_four_bytes.ensures, c.has_four_bytes-2.ensures) in
    sent_length c.args.out.now c.args.packet.now.area c.put.new.packet.area addrs (omega (arith, c.requires.size, c.requires.len))
    (fits_area c.args.out.now c.args.packet.now.area c.requires.size c.requires.len c.requires.no_text) c.put.ensures.area ∙ c.requires.size

pub returns-clause-bytes : goal.returns-clause-bytes
returns-clause-bytes c =
    let addrs : HasAddrs c.args.out.now = (c.has_four_bytes.ensures, c.has_four_bytes-2.ensures) in
    sent_is c.args.out.now c.args.packet.now.area c.put.new.packet.area c.put.new.packet.len addrs
    (omega (arith, c.requires.size, c.requires.len)) c.put.ensures.area c.put.ensures.len
