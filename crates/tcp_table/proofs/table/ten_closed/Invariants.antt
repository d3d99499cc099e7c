use Rattle.std.proofs.Common.{◌≡◌, length}
use Rattle.std.specs.List.{All}
use Rattle.app_events.specs.declared.state.State.TheVariants.{Closed}
use Rattle.tcp_table.proofs.table.ten_closed.Given as goal

abbrev pub invariant-loop : goal.invariant-loop
invariant-loop g l = record { count : length l.conns.items ≡ l.counter; closed : All (λ c. c.state ≡ Closed) l.conns.items }
