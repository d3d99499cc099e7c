-- The row of FIN-WAIT-1.
use Rattle.tcp_machine.proofs.closing_states.in_fin_wait_1.Goals as goal

pub returns-else-acked-clause-takes : goal.returns-else-acked-clause-takes
returns-else-acked-clause-takes g c = λ m. rw c.if-acked.false (c.fin_waits.ensures.takes m)
