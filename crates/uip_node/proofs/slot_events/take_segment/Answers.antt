-- The connection in its slot.
use Rattle.uip_node.proofs.Prelude.{ap, sym, ◌∙◌, is_live, on_segment, plain}
use Rattle.uip_node.proofs.Naming.{segment_named}
use Rattle.uip_node.proofs.Places.{meets_viewed, took_step}
use Rattle.uip_node.proofs.Tables.{at_inside, at_viewed, table_keeps}
use Rattle.uip_node.proofs.slot_events.take_segment.Goals as goal

pub on_segment-requires-clause-sound : goal.on_segment-requires-clause-sound
on_segment-requires-clause-sound g c =
    (c.requires.kept c.args.slot c.index_mut-conn.result.now (at_viewed _ _ c.args.slot c.index_mut-conn.result.now c.table.view_is
    c.requires.within c.index_mut-conn.ensures.value)).sound

pub invariant_of-table : goal.invariant_of-table
invariant_of-table g c =
    let at = at_viewed _ _ c.args.slot c.index_mut-conn.result.now c.table.view_is c.requires.within c.index_mut-conn.ensures.value in
    table_keeps c.table.inside.conns.items c.args.slot c.index_mut-conn.result.now c.on_segment.new.conn c.table.invariant
    (at_inside _ _ c.args.slot c.index_mut-conn.result.now c.table.view_is c.requires.within c.index_mut-conn.ensures.value)
    (c.requires.live _ at) c.on_segment.ensures.place

pub returns-clause-took : goal.returns-clause-took
returns-clause-took g c =
    took_step g.A.App (g.A.App.config c.args.shared.now) _ c.args.table.now c.args.slot c.index_mut-conn.result.now c.on_segment.new.conn
    c.on_segment.result c.table.view_is
    (at_viewed _ _ c.args.slot c.index_mut-conn.result.now c.table.view_is c.requires.within c.index_mut-conn.ensures.value) c.requires.kept
    c.on_segment.ensures.sound c.on_segment.ensures.fits

pub returns-clause-meets : goal.returns-clause-meets
returns-clause-meets g c =
    let k = g.A.App.config c.args.shared.now in
    let m = g.A.App.app_spec k in
    let seg = plain c.args.seg.now c.args.piece.now in
    let at = at_viewed _ _ c.args.slot c.index_mut-conn.result.now c.table.view_is c.requires.within c.index_mut-conn.ensures.value in
    meets_viewed g.A.App k _ c.args.table.now c.args.slot c.index_mut-conn.result.now c.on_segment.new.conn
    (g.A.App.numbers c.on_segment.new.shared) c.on_segment.result
    (λ a. on_segment m a (g.A.App.numbers c.args.shared.now) seg) c.table.view_is at c.on_segment.ensures.meets
    (λ a represented. segment_named g.A.App k c.on_segment.new.conn a c.on_segment.result m (g.A.App.numbers c.args.shared.now) seg
    (g.A.App.numbers c.on_segment.new.shared)
    (c.on_segment.ensures.meets a represented) (sym (ap is_live represented.numbers.state) ∙ c.requires.live _ at))
