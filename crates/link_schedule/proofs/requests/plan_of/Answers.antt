use Rattle.link_schedule.proofs.Prelude.{arith}
use Rattle.link_schedule.proofs.NoForm.{no_plan}
use Rattle.link_schedule.proofs.requests.plan_of.Goals as goal
use Rattle.link_schedule.proofs.requests.plan_of.Goals.{in_default-via-then-words-lt6, in_default-via-else-words-lt6+else-words-lt7}

pub returns-in_default : goal.returns-in_default
returns-in_default c =
    no_plan (λ word. word.now) c.args.words.now
    (elim c.in_default.branch [ in_default-via-then-words-lt6 w ↦ λ e. grind arith | in_default-via-else-words-lt6+else-words-lt7 w ↦ λ e. grind arith ])
