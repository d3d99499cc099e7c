-- The timer after a tick, by the result of the tick.
use Rattle.std.specs.Prelude.{◌≡◌, ◌+◌, ◌-◌, ◌*◌, ◌^◌, min}
use Rattle.rexmit_timer.specs.declared.timer.Beat.{Beat}
use Rattle.rexmit_timer.specs.declared.timer.Beat.TheVariants.{Wait, Again, GiveUp}
use Rattle.rexmit_timer.specs.declared.timer.Timer.{Timer}

-- The wait doubles with each of the first four retransmissions.
abbrev pub IsAfter : Beat → Timer → Timer → Type 0
IsAfter Wait old new = new ≡ record old { count = old.count - 1 }
IsAfter Again old new = new ≡ record { count = 3 * 2 ^ min old.tries 4; tries = old.tries + 1 }
IsAfter GiveUp old new = new ≡ old
