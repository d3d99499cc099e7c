use Rattle.guard_laws.proofs.Through.{arrives_through_guard}
use Rattle.guard_laws.proofs.laws.arrives_through_guard.Goals as goal

pub returns : goal.returns
returns c = arrives_through_guard
