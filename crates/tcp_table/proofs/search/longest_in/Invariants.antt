-- The rest of the slots decides what is missing.
use Rattle.std.proofs.Common.{◌≡◌, drop, max}
use Rattle.tcp_table.specs.Prelude.{longest_rest}
use Rattle.tcp_table.proofs.search.longest_in.Given as goal

abbrev pub invariant-loop-conn : goal.invariant-loop-conn
invariant-loop-conn g l = max l.longest (longest_rest (drop l.conn-index l.conns)) ≡ longest_rest l.conns
