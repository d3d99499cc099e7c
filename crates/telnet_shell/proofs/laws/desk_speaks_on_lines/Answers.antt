use Rattle.telnet_shell.proofs.laws.desk_speaks_on_lines.Goals as goal
use Rattle.telnet_shell.proofs.DeskLines.{speaks_on_lines}

pub returns : goal.returns
returns c = speaks_on_lines
