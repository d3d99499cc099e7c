use Rattle.link_schedule.proofs.Prelude.{arith}
use Rattle.link_schedule.proofs.NoForm.{no_event}
use Rattle.link_schedule.proofs.events.event_of.Goals as goal

pub returns-in_default-2 : goal.returns-in_default-2
returns-in_default-2 c = no_event (λ word. word.now) c.args.clients c.args.words.now (omega (arith, c.in_default.len_at_least))
