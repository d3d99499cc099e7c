-- What is left of a run is the run that begins later.
use Rattle.std.proofs.Common.{arith, ◌-◌, drop}
use Rattle.std.proofs.lemmas.List.{length-take}
use Rattle.protothread.proofs.run.RunSays.advance.Goals as goal
use Rattle.protothread.proofs.Splits.{run_rest}

pub returns-clause-rest : goal.returns-clause-rest
returns-clause-rest c = run_rest c.args._world.now c.args.self.now.at c.args.self.now.end c.args.count
    (omega (arith, c.requires.enough, length-take (c.args.self.now.end - c.args.self.now.at) (drop c.args.self.now.at c.args._world.now)))
