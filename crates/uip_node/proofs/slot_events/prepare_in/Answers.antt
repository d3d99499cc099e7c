-- The connection in its slot.
use Rattle.uip_node.proofs.Prelude.{ap, sym, ◌∙◌, length, length-set, subst, Connections, open_lives, prepared, CanBeAsked, AllSound}
use Rattle.uip_node.proofs.Prelude.{OthersRest, SlotsRepresent}
use Rattle.uip_node.proofs.Places.{is_in_after, others_stay, sound_after, represents_after}
use Rattle.uip_node.proofs.Tables.{at_inside, at_viewed, table_keeps}
use Rattle.uip_node.proofs.slot_events.prepare_in.Goals as goal

pub prepare-requires-clause-asked : goal.prepare-requires-clause-asked
prepare-requires-clause-asked g c =
    c.requires.asked c.index_mut-conn.result.now (at_viewed _ _ c.args.slot c.index_mut-conn.result.now c.table.view_is c.requires.within
    c.index_mut-conn.ensures.value)

pub prepare-requires-clause-sound : goal.prepare-requires-clause-sound
prepare-requires-clause-sound g c =
    c.requires.sound c.args.slot c.index_mut-conn.result.now (at_viewed _ _ c.args.slot c.index_mut-conn.result.now c.table.view_is
    c.requires.within c.index_mut-conn.ensures.value)

pub invariant_of-table : goal.invariant_of-table
invariant_of-table g c =
    let at = at_viewed _ _ c.args.slot c.index_mut-conn.result.now c.table.view_is c.requires.within c.index_mut-conn.ensures.value in
    table_keeps c.table.inside.conns.items c.args.slot c.index_mut-conn.result.now c.prepare.new.conn c.table.invariant
    (at_inside _ _ c.args.slot c.index_mut-conn.result.now c.table.view_is c.requires.within c.index_mut-conn.ensures.value)
    (open_lives c.index_mut-conn.result.now.state (c.requires.asked _ at).open_to_it) c.prepare.ensures.place

pub returns-clause-asked : goal.returns-clause-asked
returns-clause-asked g c = is_in_after (λ d. CanBeAsked d) c.table.inside.conns.items c.args.slot c.prepare.new.conn c.prepare.ensures.asked

pub returns-clause-sound : goal.returns-clause-sound
returns-clause-sound g c =
    let k = g.A.App.config c.args.shared.now in
    sound_after g.A.App k c.table.inside.conns.items c.args.slot c.prepare.new.conn
    (subst (λ (t : Connections g.row.A.Denot). AllSound g.A.App k t.conns) (sym c.table.view_is) c.requires.sound) c.prepare.ensures.sound

pub returns-clause-others : goal.returns-clause-others
returns-clause-others g c = λ j d other h.
    subst (λ (t : Connections g.row.A.Denot). OthersRest c.args.slot t.conns) (sym c.table.view_is) c.requires.others j d other
    (others_stay c.table.inside.conns.items c.args.slot c.prepare.new.conn j d other h)

pub returns-clause-meets : goal.returns-clause-meets
returns-clause-meets g c = λ abstracts a stand there.
    let k = g.A.App.config c.args.shared.now in
    let at = at_viewed _ _ c.args.slot c.index_mut-conn.result.now c.table.view_is c.requires.within c.index_mut-conn.ensures.value in
    represents_after g.A.App k c.table.inside.conns.items abstracts c.args.slot c.prepare.new.conn
    (prepared (g.A.App.app_spec k) c.args.now.now a (g.A.App.numbers c.args.shared.now))
    (subst (λ (t : Connections g.row.A.Denot). SlotsRepresent g.A.App k t.conns abstracts) (sym c.table.view_is) stand)
    (c.prepare.ensures.conn a (stand.each c.args.slot c.index_mut-conn.result.now a at there))

pub returns-clause-long : goal.returns-clause-long
returns-clause-long g c =
    length-set c.table.inside.conns.items c.args.slot c.prepare.new.conn ∙ ap (λ (t : Connections g.row.A.Denot). length t.conns) c.table.view_is
