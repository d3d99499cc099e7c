use Rattle.trace.proofs.PrefixLaws.{silence_watched}
use Rattle.trace.proofs.watch.WatchLineReader.silence.Goals as goal

pub returns-clause-took : goal.returns-clause-took
returns-clause-took c = λ k before now h. silence_watched k before now c.args.self.now h
