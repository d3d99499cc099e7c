-- The RST, and then the segment.
use Rattle.std.proofs.Common.{ap, ◌∙◌, length}
use Rattle.packet_buffer.specs.Prelude.{datagram_in}
use Rattle.uip_node.specs.Prelude.{Node, connection_in}
use Rattle.guarded_node.specs.Guarded.{gives_up}
use Rattle.guarded_node.proofs.Joining.{then_arrives, with_len}
use Rattle.guarded_node.proofs.input.displace.Goals as goal

pub returns : goal.returns
returns g c =
    let inside = c.node-2.inside in
    let view : Node g.row.A.Denot g.row.A-Shared.Denot = record {
      addr = inside.addr;
      packet = inside.packet;
      table = inside.table;
      counts = record { net = inside.net; ticks = inside.ticks; ident = inside.ident };
      shared = inside.shared;
    } in
    then_arrives g.A.App (λ n. gives_up (connection_in c.args.slot n)) c.args.head.now c.args.seg.now c.args.node.now c.give_up.new.node
    (record view { packet = c.set_len.new.self }) c.segment_arrives.new.self c.segment_arrives.result
    c.give_up.ensures
    (with_len view c.give_up.new.node c.args.node.now c.set_len.new.self (length c.bytes-len.result.now) c.node-2.view_is c.set_len.ensures
    (ap length (c.bytes-len.ensures ∙ ap (λ x. datagram_in x.packet) c.node.view_is)))
    c.segment_arrives.ensures.refines
