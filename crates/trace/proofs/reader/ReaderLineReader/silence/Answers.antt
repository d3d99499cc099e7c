use Rattle.trace.proofs.ConvertLaws.{silence_read}
use Rattle.trace.proofs.reader.ReaderLineReader.silence.Goals as goal

pub returns-clause-took : goal.returns-clause-took
returns-clause-took c = λ start before now at. silence_read start now before _ _ _ at
