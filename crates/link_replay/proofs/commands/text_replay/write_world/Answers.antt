use Rattle.link_replay.proofs.Prelude.{on_err_weaker}
use Rattle.link_replay.proofs.commands.text_replay.write_world.Goals as goal

pub returns-in-Report-clause-ok : goal.returns-in-Report-clause-ok
returns-in-Report-clause-ok g c = rw c.in-Report.is c.report.ensures.ok

pub returns-in-Report-clause-err : goal.returns-in-Report-clause-err
returns-in-Report-clause-err g c = rw c.in-Report.is c.report.ensures.err

pub returns-in-Summary-clause-err : goal.returns-in-Summary-clause-err
returns-in-Summary-clause-err g c = rw c.in-Summary.is
    (on_err_weaker c.summary.result (λ wrote m served w represented at. wrote w represented) c.summary.ensures.err)
