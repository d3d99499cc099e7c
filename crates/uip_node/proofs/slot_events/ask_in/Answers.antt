-- The connection in its slot.
use Rattle.uip_node.proofs.Prelude.{ap, sym, ◌∙◌, length, length-set, subst, Connections, open_lives, ask_prepared, StepFits, AllSound}
use Rattle.uip_node.proofs.Prelude.{OthersRest}
use Rattle.uip_node.proofs.Naming.{asked_same, live_named, named_after}
use Rattle.uip_node.proofs.Places.{is_in_after, meets_viewed}
use Rattle.uip_node.proofs.Settling.{kept_after, rests_of}
use Rattle.uip_node.proofs.Tables.{at_inside, at_viewed, table_keeps}
use Rattle.uip_node.proofs.slot_events.ask_in.Goals as goal

pub ask_prepared-requires-clause-asked : goal.ask_prepared-requires-clause-asked
ask_prepared-requires-clause-asked g c =
    c.requires.asked c.index_mut-conn.result.now (at_viewed _ _ c.args.slot c.index_mut-conn.result.now c.table.view_is c.requires.within
    c.index_mut-conn.ensures.value)

pub ask_prepared-requires-clause-sound : goal.ask_prepared-requires-clause-sound
ask_prepared-requires-clause-sound g c =
    c.requires.sound c.args.slot c.index_mut-conn.result.now (at_viewed _ _ c.args.slot c.index_mut-conn.result.now c.table.view_is
    c.requires.within c.index_mut-conn.ensures.value)

pub invariant_of-table : goal.invariant_of-table
invariant_of-table g c =
    let at = at_viewed _ _ c.args.slot c.index_mut-conn.result.now c.table.view_is c.requires.within c.index_mut-conn.ensures.value in
    table_keeps c.table.inside.conns.items c.args.slot c.index_mut-conn.result.now c.ask_prepared.new.conn c.table.invariant
    (at_inside _ _ c.args.slot c.index_mut-conn.result.now c.table.view_is c.requires.within c.index_mut-conn.ensures.value)
    (open_lives c.index_mut-conn.result.now.state (c.requires.asked _ at).open_to_it) c.ask_prepared.ensures.takes.place

pub returns-clause-kept : goal.returns-clause-kept
returns-clause-kept g c =
    let k = g.A.App.config c.args.shared.now in
    kept_after g.A.App k c.table.inside.conns.items c.args.slot c.ask_prepared.new.conn
    (subst (λ (t : Connections g.row.A.Denot). AllSound g.A.App k t.conns) (sym c.table.view_is) c.requires.sound)
    (subst (λ (t : Connections g.row.A.Denot). OthersRest c.args.slot t.conns) (sym c.table.view_is) c.requires.others)
    (record {
      sound = c.ask_prepared.ensures.takes.sound;
      busy = rests_of c.ask_prepared.new.conn c.ask_prepared.result
          c.ask_prepared.ensures.answer c.ask_prepared.ensures.fits;
    })

pub returns-clause-text : goal.returns-clause-text
returns-clause-text g c = is_in_after (λ d. StepFits d c.ask_prepared.result) c.table.inside.conns.items c.args.slot c.ask_prepared.new.conn
    c.ask_prepared.ensures.fits

pub returns-clause-meets : goal.returns-clause-meets
returns-clause-meets g c =
    let k = g.A.App.config c.args.shared.now in
    let at = at_viewed _ _ c.args.slot c.index_mut-conn.result.now c.table.view_is c.requires.within c.index_mut-conn.ensures.value in
    meets_viewed g.A.App k _ c.args.table.now c.args.slot c.index_mut-conn.result.now c.ask_prepared.new.conn
    (g.A.App.numbers c.args.shared.now) c.ask_prepared.result
    (λ a. ask_prepared (g.A.App.app_spec k) c.args.fresh a (g.A.App.numbers c.args.shared.now)) c.table.view_is at c.ask_prepared.ensures.takes.meets
    (λ a represented speaks. named_after c.index_mut-conn.result.now c.ask_prepared.new.conn a _
    (live_named g.A.App k c.index_mut-conn.result.now a represented (open_lives c.index_mut-conn.result.now.state (c.requires.asked _ at).open_to_it))
    c.ask_prepared.ensures.takes.place c.ask_prepared.ensures.same_numbers (asked_same (g.A.App.app_spec k) c.args.fresh a (g.A.App.numbers c.args.shared.now)))

pub returns-clause-long : goal.returns-clause-long
returns-clause-long g c =
    length-set c.table.inside.conns.items c.args.slot c.ask_prepared.new.conn ∙ ap (λ (t : Connections g.row.A.Denot). length t.conns) c.table.view_is
