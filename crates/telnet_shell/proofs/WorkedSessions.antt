-- Each session is computed from the definitions.
use Rattle.telnet_shell.proofs.Prelude.{rules, digits, AreWorkedSessions}

pub worked : AreWorkedSessions
unfolding digits
worked = search rules
