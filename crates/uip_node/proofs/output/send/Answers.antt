-- The connection's numbers in the segment.
use Rattle.uip_node.proofs.output.send.Goals as goal

pub returns-clause-bytes : goal.returns-clause-bytes
returns-clause-bytes g c = λ a n.
    let peer = n.peer in
    let peer_port = n.peer_port in
    let own_port = n.own_port in
    let rcv_nxt = n.rcv_nxt in
    let snd_nxt = n.snd_nxt in
    let bytes = c.put_out.ensures.bytes in
    cc
