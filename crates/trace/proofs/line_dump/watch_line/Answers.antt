use Rattle.trace.proofs.Prelude.{◌++◌, [], ap, arith, length, length-append, map, breaks_prefix, prefix_by, Byte, text_after}
use Rattle.trace.proofs.SeenLaws.{text-then}
use Rattle.trace.proofs.ReportingLaws.{written_by}
use Rattle.trace.proofs.line_dump.watch_line.Goals as goal

pub returns-in-Ok : goal.returns-in-Ok
returns-in-Ok g c =
    let r = c.in-Ok.ensures (c.args.form, g.K.Sink.written c.args.sink.now) (c.new-watch.ensures.watched _) in
    record {
      taken = r.taken;
      consumed = r.consumed;
      ends = r.ends;
      wrote = written_by _ _ _ c.in-Ok.end r.took.written;
      some = λ is. absurd (r.written is);
    }

pub returns-in-Err : goal.returns-in-Err
returns-in-Err g c =
    let r = c.in-Err.ensures (c.args.form, g.K.Sink.written c.args.sink.now) (c.new-watch.ensures.watched _) in
    let both = text-then c.args.form [] r.before (map Byte r.bytes) in
    record {
      taken = r.before ++ map Byte r.bytes;
      consumed = r.consumed;
      ends = (r.within, r.calm, r.stopped.rose);
      wrote = prefix_by _ _ _ _ both (breaks_prefix _ _ _ _ r.stopped.broke);
      some = λ is. (let some = r.stopped.broke.some in
          omega (
            arith,
            some,
            ap (λ l. length l) both,
            length-append (text_after c.args.form [] r.before)
                (text_after c.args.form r.before (map Byte r.bytes)),
          ));
    }
