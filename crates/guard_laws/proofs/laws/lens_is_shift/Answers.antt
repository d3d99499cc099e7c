use Rattle.guard_laws.proofs.Lens.{lens_is_shift}
use Rattle.guard_laws.proofs.laws.lens_is_shift.Goals as goal

pub returns : goal.returns
returns c = lens_is_shift
