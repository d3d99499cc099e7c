-- The connection in its slot.
use Rattle.uip_node.proofs.Tables.{at_viewed}
use Rattle.uip_node.proofs.slot_events.is_due_in.Goals as goal

pub is_due-requires-clause-asked : goal.is_due-requires-clause-asked
is_due-requires-clause-asked g c =
    c.requires.asked c.index-conn.result.now (at_viewed _ _ c.args.slot c.index-conn.result.now c.table.view_is c.requires.within c.index-conn.ensures)

pub is_due-requires-clause-sound : goal.is_due-requires-clause-sound
is_due-requires-clause-sound g c =
    c.requires.sound c.args.slot c.index-conn.result.now (at_viewed _ _ c.args.slot c.index-conn.result.now c.table.view_is
    c.requires.within c.index-conn.ensures)

pub returns : goal.returns
returns g c = record {
  not_due = λ e abstracts a now stand there.
      c.is_due.ensures.not_due e a now
      (stand.each c.args.slot c.index-conn.result.now a
      (at_viewed _ _ c.args.slot c.index-conn.result.now c.table.view_is c.requires.within c.index-conn.ensures) there);
}
