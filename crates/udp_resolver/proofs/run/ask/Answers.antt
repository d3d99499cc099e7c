use Rattle.udp_resolver.proofs.Prelude.{◌++◌, refl, arith, length-append, length-take, inr, Consumes-then, calm_then, all_settled}
use Rattle.udp_resolver.proofs.Prelude.{questions, events, line_view}
use Rattle.udp_resolver.proofs.AskLaws.{added, open_by_test, stopped}
use Rattle.udp_resolver.proofs.run.ask.Goals as goal

pub loop-asking-preserved : goal.loop-asking-preserved
loop-asking-preserved g c =
    let inv = c.loop-asking.invariant in
    let asked = questions c.args.asking c.args.names.now in
    let is_open = open_by_test (all_settled asked (events inv.taken)) c.is_open.result (c.is_open.ensures inv.taken inv.knows) c.loop-asking-test.true in
    let went = c.in-Took.ensures in
    let turn = went.turns inv.taken is_open inv.knows in
    let room = length-take c.min-room.result c.loop-asking.buf in
    record {
      tries = went.tries;
      area = went.area;
      each = went.each;
      taken = inv.taken ++ turn.more;
      consumed = Consumes-then (g.L.Link.coming c.args.link.now) (g.L.Link.coming c.loop-asking.link) (g.L.Link.coming c.turn.new.link)
          inv.taken turn.more inv.consumed turn.consumed;
      number = omega (arith, length-append inv.taken turn.more, turn.cause.0, inv.number, went.fits.1, room);
      needed = inr (record { before = inv.taken; last = turn.more; whole = refl; is_open = is_open; once = turn.by.once });
      knows = turn.by.knows;
      wrote =
          added asked inv.taken turn.more turn.by.text (g.K.Sink.written c.args.out.now) (g.K.Sink.written c.loop-asking.out) (g.K.Sink.written c.turn.new.out)
          turn.by.adds inv.wrote turn.by.out;
      calm = calm_then _ _ _ inv.calm turn.cause.1;
    }

pub returns-in-Ended-clause-asks : goal.returns-in-Ended-clause-asks
returns-in-Ended-clause-asks g c =
    let inv = c.loop-asking.invariant in
    let asked = questions c.args.asking c.args.names.now in
    let is_open = open_by_test (all_settled asked (events inv.taken)) c.is_open.result (c.is_open.ensures inv.taken inv.knows) c.loop-asking-test.true in
    let turn = c.in-Ended.ensures.turns inv.taken is_open inv.knows in
    let room = length-take c.min-room.result c.loop-asking.buf in
    stopped asked c.args.items inv.taken turn.more c.turn.new.self
    (line_view g.L.Link g.K.Sink c.args.link.now c.args.out.now)
    (line_view g.L.Link g.K.Sink c.loop-asking.link c.loop-asking.out)
    (line_view g.L.Link g.K.Sink c.turn.new.link c.turn.new.out)
    _ c.in-Ended.end is_open inv.consumed turn.consumed (omega (arith, inv.number, c.if-left-eq0.false)) turn.within (omega (arith, inv.number, room))
    inv.calm inv.needed inv.wrote turn.cause turn.by
