-- The connection in its slot.
use Rattle.uip_node.proofs.Settling.{get_set}
use Rattle.uip_node.proofs.Tables.{at_viewed}
use Rattle.uip_node.proofs.slot_events.speak_in.Goals as goal

pub speak-requires-clause-sound : goal.speak-requires-clause-sound
speak-requires-clause-sound g c =
    (c.requires.kept c.args.slot c.index-conn.result.now (at_viewed _ _ c.args.slot c.index-conn.result.now c.table.view_is
    c.requires.within c.index-conn.ensures)).sound

pub speak-requires-clause-fits : goal.speak-requires-clause-fits
speak-requires-clause-fits g c =
    c.requires.fits c.index-conn.result.now (at_viewed _ _ c.args.slot c.index-conn.result.now c.table.view_is c.requires.within c.index-conn.ensures)

pub returns-clause-spoken : goal.returns-clause-spoken
returns-clause-spoken g c = λ abstracts ns o within h.
    let at = at_viewed _ _ c.args.slot c.index-conn.result.now c.table.view_is c.requires.within c.index-conn.ensures in
    c.speak.ensures.spoken o.connection
    (h.slots.each c.args.slot c.index-conn.result.now o.connection at (get_set abstracts c.args.slot o.connection within))
    (λ speaks. h.named speaks c.index-conn.result.now at)
