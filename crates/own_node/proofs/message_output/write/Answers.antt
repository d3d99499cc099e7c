use Rattle.own_node.proofs.Prelude.{◌∙◌, sym, connection_in, message_of}
use Rattle.own_node.proofs.ReadingLaws.{can_is, cannot_write, message_is, none_seen, own_seen}
use Rattle.own_node.proofs.message_output.write.Goals as goal

pub returns-in_default-clause-can : goal.returns-in_default-clause-can
returns-in_default-clause-can g c = λ n represents.
    cannot_write (g.H.HoldsOwn.seen (connection_in c.args.slot n)) c.args.taken
    (none_seen g.H.App g.H.HoldsOwn.seen c.args.node.now.table.conns n c.args.slot c.conn-conn.result.now
    (g.H.App.config c.args.node.now.shared) c.own.result represents.slots c.conn-conn.ensures
    c.own.ensures c.in_default.is)

pub returns-then-not-can_write_by-clause-can : goal.returns-then-not-can_write_by-clause-can
returns-then-not-can_write_by-clause-can g c = λ n represents.
    sym c.if-not-can_write_by.true ∙ c.can_write_by.ensures
    ∙ can_is c.conn-conn.result.now.state c.conn-conn.result.now.len c.conn-conn.result.now.own_port.0 c.in-Some.app.now
    (g.H.HoldsOwn.seen (connection_in c.args.slot n)) c.args.taken
    (own_seen g.H.App g.H.HoldsOwn.seen c.args.node.now.table.conns n c.args.slot c.conn-conn.result.now
    (g.H.App.config c.args.node.now.shared) c.own.result represents.slots c.conn-conn.ensures
    c.own.ensures c.in-Some.app c.in-Some.is)

pub returns-clause-can : goal.returns-clause-can
returns-clause-can g c = λ n represents.
    sym c.if-not-can_write_by.false ∙ c.can_write_by.ensures
    ∙ can_is c.conn-conn.result.now.state c.conn-conn.result.now.len c.conn-conn.result.now.own_port.0 c.in-Some.app.now
    (g.H.HoldsOwn.seen (connection_in c.args.slot n)) c.args.taken
    (own_seen g.H.App g.H.HoldsOwn.seen c.args.node.now.table.conns n c.args.slot c.conn-conn.result.now
    (g.H.App.config c.args.node.now.shared) c.own.result represents.slots c.conn-conn.ensures
    c.own.ensures c.in-Some.app c.in-Some.is)

pub returns-clause-written : goal.returns-clause-written
returns-clause-written g c = λ done. record {
  message = message_of c.next_message-message.result;
  next = λ n represents.
      c.next_message-message.ensures
      ∙ message_is c.conn-conn.result.now.state c.conn-conn.result.now.len c.conn-conn.result.now.own_port.0 c.in-Some.app.now
      (g.H.HoldsOwn.seen (connection_in c.args.slot n)) c.args.taken c.args.text.now c.args.last
      (own_seen g.H.App g.H.HoldsOwn.seen c.args.node.now.table.conns n c.args.slot c.conn-conn.result.now
      (g.H.App.config c.args.node.now.shared) c.own.result represents.slots c.conn-conn.ensures
      c.own.ensures c.in-Some.app c.in-Some.is)
      (sym c.can_write_by.ensures ∙ c.if-not-can_write_by.false);
  changes = c.put_message.ensures.replaces;
  kept = c.put_message.ensures.kept;
}
