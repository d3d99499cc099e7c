-- The rest of the slots decides what is missing.
use Rattle.std.proofs.Common.{◌≡◌, drop, max}
use Rattle.slot_guard.specs.Displaced.{held, highest_of}
use Rattle.slot_guard.proofs.choice.highest.Given as goal

abbrev pub invariant-loop-conn : goal.invariant-loop-conn
invariant-loop-conn g l =
    max l.highest (highest_of held l.claim l.conns (drop l.conn-index l.conns)) ≡ highest_of held l.claim l.conns l.conns
