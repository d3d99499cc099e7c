use Rattle.telnet_shell.proofs.shell.ShellApp.connected.Goals as goal

pub returns-clause-part : goal.returns-clause-part
returns-clause-part c = c.new.ensures c.args._port.0
