use Rattle.trace.proofs.Prelude.{rules, ◌++◌, [], ◌∷◌, map, take, refl, arith, length-append, length-take, length-take-le, Consumes-none}
use Rattle.trace.proofs.Prelude.{Consumes-then, Byte, Quiet, line_view}
use Rattle.uip_edge.proofs.Turns.{calm_then, counted as bytes_counted}
use Rattle.trace.proofs.LineLaws.{stops_read}
use Rattle.trace.proofs.line_loop.read_line.Goals as goal

pub loop-left-init : goal.loop-left-init
loop-left-init g c = record {
  ready = c.requires.ready;
  counted = omega (arith, c.requires.counted);
  taken = [];
  consumed = Consumes-none _;
  number = omega arith;
  took = λ k h. h;
  calm = record { link = refl; sink = refl };
}

pub loop-left-preserved-in-Ok-Quiet : goal.loop-left-preserved-in-Ok-Quiet
loop-left-preserved-in-Ok-Quiet g c =
    let inv = c.loop-left.invariant in
    let reported = rw c.in-Ok-Quiet.field-0-is at c.in-Ok-Quiet.ensures in
    record {
      ready = c.silence.ensures.ready;
      counted = omega (arith, c.silence.ensures.counted, inv.counted, c.loop-left-test.true);
      taken = inv.taken ++ Quiet ∷ [];
      consumed = Consumes-then (g.L.Link.coming c.args.link.now) (g.L.Link.coming c.loop-left.link) (g.L.Link.coming c.next.new.self)
          inv.taken (Quiet ∷ []) inv.consumed reported.items;
      number = omega (arith, length-append inv.taken (Quiet ∷ []), inv.number, c.loop-left-test.true);
      took = λ k h. c.silence.ensures.took k inv.taken _ (inv.took k h);
      calm = calm_then _ _ _ inv.calm (record { link = reported.cause.same; sink = refl });
    }

pub returns-in_err-take_bytes-in-Ok-Bytes : goal.returns-in_err-take_bytes-in-Ok-Bytes
returns-in_err-take_bytes-in-Ok-Bytes g c = λ k h.
    let inv = c.loop-left.invariant in
    let reported = rw c.in-Ok-Bytes.field-0-is at c.in-Ok-Bytes.ensures in
    let n = c.in-Ok-Bytes.count in
    let buf = c.next.new.buf in
    let room = length-take c.min-room.result c.loop-left.buf in
    let size = length-take-le n buf reported.count.1 in
    search (
      rules,
      stops_read g.R.LineReader k c.args.items inv.taken (take n buf)
          (line_view g.L.Link g.K.Sink c.args.link.now c.args.sink.now)
          (line_view g.L.Link g.K.Sink c.loop-left.link c.loop-left.sink)
          (line_view g.L.Link g.K.Sink c.next.new.self c.take_bytes.new.sink)
          c.take_bytes.new.reader c.in_err-take_bytes-in-Ok-Bytes.field-0.0 inv.consumed reported.items
          (omega (arith, size, reported.count.1, c.next.auto.buf, room, inv.number))
          (omega (arith, size, reported.count.1, c.next.auto.buf, room)) inv.calm reported.cause.same
          (c.in_err-take_bytes-in-Ok-Bytes.ensures.stopped k inv.taken (inv.took k h)),
    )

pub loop-left-preserved : goal.loop-left-preserved
loop-left-preserved g c =
    let inv = c.loop-left.invariant in
    let reported = rw c.in-Ok-Bytes.field-0-is at c.in-Ok-Bytes.ensures in
    let done = c.in_ok-take_bytes-in-Ok-Bytes.ensures in
    let n = c.in-Ok-Bytes.count in
    let buf = c.next.new.buf in
    let room = length-take c.min-room.result c.loop-left.buf in
    let size = length-take-le n buf reported.count.1 in
    record {
      ready = done.ready;
      counted = omega (arith, done.counted, size, inv.counted, reported.count.1, c.next.auto.buf, room);
      taken = inv.taken ++ map Byte (take n buf);
      consumed = Consumes-then (g.L.Link.coming c.args.link.now) (g.L.Link.coming c.loop-left.link) (g.L.Link.coming c.next.new.self)
          inv.taken (map Byte (take n buf)) inv.consumed reported.items;
      number = omega (
        arith,
        length-append inv.taken (map Byte (take n buf)),
        bytes_counted n buf reported.count.1,
        inv.number,
        reported.count.1,
        c.next.auto.buf,
        room,
      );
      took = λ k h. done.took k inv.taken (inv.took k h);
      calm = calm_then _ _ _ inv.calm (record { link = reported.cause.same; sink = done.calm });
    }
