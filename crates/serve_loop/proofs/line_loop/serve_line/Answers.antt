use Rattle.serve_loop.proofs.Prelude.{◌++◌, [], refl, arith, ◌∙◌, length-take, length-append, All-append, All-nil, Consumes-none}
use Rattle.serve_loop.proofs.Prelude.{Consumes-then, bytes_among-append, calm_then, IsItem, bytes_among, line_view}
use Rattle.serve_loop.proofs.RunLaws.{wrote_none}
use Rattle.serve_loop.proofs.ServeLaws.{on_wrote, spent, stopped}
use Rattle.serve_loop.proofs.line_loop.serve_line.Goals as goal

pub loop-left-init : goal.loop-left-init
loop-left-init g c = record {
  same = refl;
  served = λ k pace h. record {
    taken = [];
    are = All-nil IsItem;
    consumed = Consumes-none _;
    number = omega arith;
    at = h;
    wrote = λ m own. wrote_none m g.A.App.served (g.M.Medium.spec k) own _ _ _ (λ n p. p);
    calm = record { link = refl; sink = refl };
  };
}

pub loop-left-preserved : goal.loop-left-preserved
loop-left-preserved g c = record {
  same = c.in-Took.ensures.same ∙ c.loop-left.invariant.same;
  served = λ k pace h.
      let inv = c.loop-left.invariant.served k pace h in
      let turn = c.in-Took.ensures.turns k pace (bytes_among inv.taken) inv.at in
      let room = length-take c.min-room.result c.loop-left.buf in
      record {
        taken = inv.taken ++ turn.items;
        are = All-append IsItem inv.taken turn.items inv.are turn.are;
        consumed = Consumes-then (g.L.Link.coming c.args.link.now) (g.L.Link.coming c.loop-left.link) (g.L.Link.coming c.poll_link.new.link)
            inv.taken turn.items inv.consumed turn.consumed;
        number = omega (arith, length-append inv.taken turn.items, turn.cause.0, inv.number, c.in-Took.ensures.fits.1, room);
        at = rw bytes_among-append turn.on;
        wrote = on_wrote g.A.App (g.M.Medium.spec k) (g.M.Medium.did c.args.medium.now k) (g.M.Medium.did c.loop-left.medium k)
            (g.M.Medium.did c.poll_link.new.medium k) pace inv.taken turn.items c.args.node.now c.loop-left.node c.poll_link.new.node
            (g.K.Sink.written c.args.sink.now) (g.K.Sink.written c.loop-left.sink) (g.K.Sink.written c.poll_link.new.sink) inv.wrote turn.wrote;
        calm = calm_then _ _ _ inv.calm turn.cause.1;
      };
}

pub returns-in-Ended-clause-serves : goal.returns-in-Ended-clause-serves
returns-in-Ended-clause-serves g c = λ k pace h.
    let inv = c.loop-left.invariant.served k pace h in
    let room = length-take c.min-room.result c.loop-left.buf in
    stopped g.A.App g.M.Medium k c.args.medium.now c.loop-left.medium c.poll_link.new.medium pace c.args.items inv.taken c.args.node.now
    c.loop-left.node c.poll_link.new.node
    (line_view g.L.Link g.K.Sink c.args.link.now c.args.sink.now)
    (line_view g.L.Link g.K.Sink c.loop-left.link c.loop-left.sink)
    (line_view g.L.Link g.K.Sink c.poll_link.new.link c.poll_link.new.sink)
    _ _ c.in-Ended.end inv.are inv.consumed (omega arith) (omega (arith, inv.number, room)) inv.calm inv.wrote
    (c.in-Ended.ensures.turns k pace (bytes_among inv.taken) inv.at)

pub returns-clause-serves : goal.returns-clause-serves
returns-clause-serves g c = λ k pace h.
    let inv = c.loop-left.invariant.served k pace h in
    spent g.A.App (g.M.Medium.spec k) (g.M.Medium.did c.args.medium.now k) (g.M.Medium.did c.loop-left.medium k) pace c.args.items inv.taken
    c.args.node.now c.loop-left.node
    (line_view g.L.Link g.K.Sink c.args.link.now c.args.sink.now)
    (line_view g.L.Link g.K.Sink c.loop-left.link c.loop-left.sink)
    inv.are inv.consumed (omega (arith, inv.number, c.loop-left-test.false)) inv.calm inv.wrote
