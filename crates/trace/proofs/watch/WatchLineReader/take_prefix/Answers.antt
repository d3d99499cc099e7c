use Rattle.trace.proofs.Prelude.{take, ◌∙◌, ap, sym, map, Byte, sink_view, reported_by}
use Rattle.trace.proofs.PrefixLaws.{broke_watch, prefix_broke, prefix_seen, prefix_text, if_err, wrote_on}
use Rattle.trace.proofs.watch.WatchLineReader.take_prefix.Goals as goal

pub returns-in_err-write_area-clause-stopped : goal.returns-in_err-write_area-clause-stopped
returns-in_err-write_area-clause-stopped g c =
    let self = c.args.self.now in
    if_err _ (broke_watch self c.args.bytes.now (g.K.Sink.written c.args.sink.now) (g.K.Sink.faults c.args.sink.now) (sink_view g.K.Sink c.write_area.new.sink)
    (prefix_broke self.decoder c.feed_run-run.new.self self.frames self.silences c.feed_run-run.result.count c.args.bytes.now
    (reported_by c.feed_run-run.result.fed c.feed_run-run.new.self) c.feed_run-run.ensures.prefix.frames self.form _ _ _
    (ap (λ w. w.area) c.put_frame.ensures) c.in_err-write_area.ensures.broke) c.in_err-write_area.ensures.cause.failed)

pub returns-clause-took : goal.returns-clause-took
returns-clause-took g c = λ k before h.
    let self = c.args.self.now in
    let reported = reported_by c.feed_run-run.result.fed c.feed_run-run.new.self in
    let bytes = take c.feed_run-run.result.count c.args.bytes.now in
    record {
      form = ap (λ w. w.form) c.put_frame.ensures ∙ h.form;
      seen = rw c.put_frame.ensures (prefix_seen self.decoder c.feed_run-run.new.self self.frames self.silences bytes reported
          c.feed_run-run.ensures.prefix.frames before h.seen);
      written = wrote_on k before _ _ self h (map Byte bytes) _
          (prefix_text self.decoder c.feed_run-run.new.self self.frames self.silences bytes reported c.feed_run-run.ensures.prefix.frames
          self.form before h.seen
          ∙ sym (ap (λ w. w.area) c.put_frame.ensures)) c.in_ok-write_area.ensures.whole;
    }
