-- The connection in its slot.
use Rattle.uip_node.proofs.Prelude.{on_tick}
use Rattle.uip_node.proofs.Naming.{live_named, named_after, on_tick_same}
use Rattle.uip_node.proofs.Places.{meets_viewed, took_step}
use Rattle.uip_node.proofs.Tables.{at_inside, at_viewed, table_keeps}
use Rattle.uip_node.proofs.slot_events.take_tick.Goals as goal

pub on_tick-requires : goal.on_tick-requires
on_tick-requires g c =
    let kept = c.requires.kept c.args.slot c.index_mut-conn.result.now (at_viewed _ _ c.args.slot c.index_mut-conn.result.now
    c.table.view_is c.requires.within c.index_mut-conn.ensures.value) in
    record { sound = kept.sound; busy = kept.busy }

pub invariant_of-table : goal.invariant_of-table
invariant_of-table g c =
    let at = at_viewed _ _ c.args.slot c.index_mut-conn.result.now c.table.view_is c.requires.within c.index_mut-conn.ensures.value in
    table_keeps c.table.inside.conns.items c.args.slot c.index_mut-conn.result.now c.on_tick.new.conn c.table.invariant
    (at_inside _ _ c.args.slot c.index_mut-conn.result.now c.table.view_is c.requires.within c.index_mut-conn.ensures.value)
    (c.requires.live _ at) c.on_tick.ensures.takes.place

pub returns-clause-took : goal.returns-clause-took
returns-clause-took g c =
    took_step g.A.App (g.A.App.config c.args.shared.now) _ c.args.table.now c.args.slot c.index_mut-conn.result.now c.on_tick.new.conn
    c.on_tick.result c.table.view_is
    (at_viewed _ _ c.args.slot c.index_mut-conn.result.now c.table.view_is c.requires.within c.index_mut-conn.ensures.value) c.requires.kept
    c.on_tick.ensures.takes.sound c.on_tick.ensures.takes.fits

pub returns-clause-meets : goal.returns-clause-meets
returns-clause-meets g c =
    let k = g.A.App.config c.args.shared.now in
    let at = at_viewed _ _ c.args.slot c.index_mut-conn.result.now c.table.view_is c.requires.within c.index_mut-conn.ensures.value in
    meets_viewed g.A.App k _ c.args.table.now c.args.slot c.index_mut-conn.result.now c.on_tick.new.conn (g.A.App.numbers c.on_tick.new.shared) c.on_tick.result
    (λ a. on_tick (g.A.App.app_spec k) a (g.A.App.numbers c.args.shared.now)) c.table.view_is at c.on_tick.ensures.takes.meets
    (λ a represented speaks. named_after c.index_mut-conn.result.now c.on_tick.new.conn a _
    (live_named g.A.App k c.index_mut-conn.result.now a represented (c.requires.live _ at))
    c.on_tick.ensures.takes.place c.on_tick.ensures.same_numbers (on_tick_same (g.A.App.app_spec k) a (g.A.App.numbers c.args.shared.now)))
