use Rattle.workload.proofs.events.+push_drawn.Given as goal

abbrev pub decreases-push_drawn : goal.decreases-push_drawn
decreases-push_drawn l = l.left
