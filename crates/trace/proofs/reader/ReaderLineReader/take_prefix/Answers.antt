use Rattle.trace.proofs.Prelude.{rules, ◌≡◌, ◌++◌, Err, map, take, bytes_among, sink_view, Byte}
use Rattle.trace.proofs.ConvertLaws.{grown, stopped_prefix}
use Rattle.trace.proofs.reader.ReaderLineReader.take_prefix.Goals as goal

pub returns-in_err-look-clause-stopped : goal.returns-in_err-look-clause-stopped
returns-in_err-look-clause-stopped g c =
    let self = c.args.self.now in
    let failed : c.from_residual.result ≡ Err c.in_err-look.field-0.0 = search rules in
    rw failed
    (stopped_prefix c.in_err-look.field-0.0 (g.K.Sink.written c.args.sink.now) (g.K.Sink.faults c.args.sink.now) (sink_view g.K.Sink c.look.new.sink)
    c.min-count.result c.args.bytes.now self.stage self.number c.look.new.self.number self.part c.put.new.self self.want
    c.requires.ready c.put.ensures.text c.in_err-look.ensures.by c.in_err-look.ensures.stop)

pub returns-in_ok-look-clause-took : goal.returns-in_ok-look-clause-took
returns-in_ok-look-clause-took g c = λ start before at.
    let self = c.args.self.now in
    let bytes = take c.min-count.result c.args.bytes.now in
    c.in_ok-look.ensures.at start (bytes_among (before ++ map Byte bytes))
    (grown start (g.K.Sink.written c.args.sink.now) before bytes self.stage self.number self.part c.put.new.self c.put.ensures.text at)

pub returns-else-len-self-clause-took : goal.returns-else-len-self-clause-took
returns-else-len-self-clause-took g c = λ start before at.
    let self = c.args.self.now in
    grown start (g.K.Sink.written c.args.sink.now) before (take c.min-count.result c.args.bytes.now) self.stage self.number self.part
    c.put.new.self c.put.ensures.text at
