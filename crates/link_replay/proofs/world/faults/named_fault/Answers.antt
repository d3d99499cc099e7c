use Rattle.link_replay.proofs.Prelude.{sym, ap, ◌∙◌, named_fault}
use Rattle.link_replay.proofs.world.faults.named_fault.Goals as goal

pub returns-in-Damage-clause-exact : goal.returns-in-Damage-clause-exact
returns-in-Damage-clause-exact c = λ w h. c.no_byte.ensures.exact w 0 h.sent ∙ sym (ap (named_fault w) c.in-Damage.is)
