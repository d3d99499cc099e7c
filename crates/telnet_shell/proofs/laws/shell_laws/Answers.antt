use Rattle.telnet_shell.proofs.Prelude.{shell_lawful, shell_starts}
use Rattle.telnet_shell.proofs.laws.shell_laws.Goals as goal

pub returns : goal.returns
returns c = record { lawful = shell_lawful (λ part. Unit {0}); starts = shell_starts }
