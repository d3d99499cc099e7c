-- A guard before its first call, and what it counts.
use Rattle.std.specs.Prelude.{ℕ, ◌+◌, Option, None}
use Rattle.uip_wire.specs.Prelude.{wrap}
use Rattle.uip_wire.specs.declared.port.Port.{Port}
use Rattle.guarded_node.specs.declared.guard.Guard.{Guard}
use Rattle.guarded_node.specs.declared.guard.GuardCounts.{GuardCounts}
use Rattle.guarded_node.specs.declared.guard.Rules.{Rules}
use Rattle.guarded_node.specs.declared.verdict.Verdict.{Verdict}
use Rattle.guarded_node.specs.declared.verdict.Verdict.TheVariants.{Drop, Pass, Displace}

-- A guard with these rules that has done nothing.
abbrev pub fresh_guard : Rules → Guard
fresh_guard rules = record { rules = rules; counts = record { dropped = 0; displaced = 0 } }

-- It has no secret, and has done nothing.
abbrev pub initial_guard : Option Port → Guard
initial_guard pages = fresh_guard (record { key = None; pages = pages })

abbrev pub counted : Verdict → GuardCounts → GuardCounts
counted Drop c = record c { dropped = wrap (c.dropped + 1) }
counted Pass c = c
counted (Displace slot) c = record c { displaced = wrap (c.displaced + 1) }
