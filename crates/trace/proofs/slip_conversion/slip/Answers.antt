use Rattle.trace.proofs.ConvertLaws.{line_ended, line_lost, line_spent, line_unwritten, stop_bad, stop_soon, stop_unwritten}
use Rattle.trace.proofs.slip_conversion.slip.Goals as goal

pub returns-in-Ok-End-clause-converts : goal.returns-in-Ok-End-clause-converts
returns-in-Ok-End-clause-converts g c = rw c.end.ensures (line_ended c.args.items _ _ c.read_line.new.reader
    ((rw c.in-Ok-End.field-0-is at c.in-Ok-End.ensures) (g.K.Sink.written c.args.sink.now) (c.new-reader.ensures.at _)))

pub returns-in-Ok-LinkFault-clause-converts : goal.returns-in-Ok-LinkFault-clause-converts
returns-in-Ok-LinkFault-clause-converts g c = line_lost c.args.items _ _ c.read_line.new.reader
    ((rw c.in-Ok-LinkFault.field-0-is at c.in-Ok-LinkFault.ensures) (g.K.Sink.written c.args.sink.now) (c.new-reader.ensures.at _))

pub returns-in-Ok-Budget-clause-converts : goal.returns-in-Ok-Budget-clause-converts
returns-in-Ok-Budget-clause-converts g c = line_spent c.args.items _ _ c.read_line.new.reader
    ((rw c.in-Ok-Budget.field-0-is at c.in-Ok-Budget.ensures) (g.K.Sink.written c.args.sink.now) (c.new-reader.ensures.at _))

pub returns-in-Ok-WriteFault-clause-converts : goal.returns-in-Ok-WriteFault-clause-converts
returns-in-Ok-WriteFault-clause-converts g c = line_unwritten c.args.items _ _ c.read_line.new.reader
    ((rw c.in-Ok-WriteFault.field-0-is at c.in-Ok-WriteFault.ensures) (g.K.Sink.written c.args.sink.now) (c.new-reader.ensures.at _))

pub returns-in-Err-WriteFault-clause-converts : goal.returns-in-Err-WriteFault-clause-converts
returns-in-Err-WriteFault-clause-converts g c = stop_unwritten c.args.items _ _ c.read_line.new.reader
    ((rw c.in-Err-WriteFault.field-0-is at c.in-Err-WriteFault.ensures) (g.K.Sink.written c.args.sink.now) (c.new-reader.ensures.at _))

pub returns-in-Err-Bad-clause-converts : goal.returns-in-Err-Bad-clause-converts
returns-in-Err-Bad-clause-converts g c = rw c.bad.ensures (stop_bad c.args.items _ _ c.read_line.new.reader c.in-Err-Bad.why
    ((rw c.in-Err-Bad.field-0-is at c.in-Err-Bad.ensures) (g.K.Sink.written c.args.sink.now) (c.new-reader.ensures.at _)))

pub returns-in-Err-Bad-clause-soon : goal.returns-in-Err-Bad-clause-soon
returns-in-Err-Bad-clause-soon g c = rw c.bad.ensures (stop_soon c.args.items _ _ c.read_line.new.reader c.in-Err-Bad.why
    ((rw c.in-Err-Bad.field-0-is at c.in-Err-Bad.ensures) (g.K.Sink.written c.args.sink.now) (c.new-reader.ensures.at _)))
