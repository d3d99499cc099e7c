use Rattle.telnet_shell.proofs.Prelude.{files_of, web_port, shell_port}
use Rattle.telnet_shell.proofs.DeskParts.{web_has, shell_has, web_moves, shell_moves}
use Rattle.telnet_shell.proofs.desk.DeskApp.prepare.Goals as goal

pub prepare-requires : goal.prepare-requires
prepare-requires c = web_has c.args.self.now c.in-Web.web c.args.shared.now.site c.in-Web.is c.requires

pub prepare-requires-in-Shell : goal.prepare-requires-in-Shell
prepare-requires-in-Shell c = shell_has c.args.self.now c.in-Shell.shell c.args.shared.now.site c.in-Shell.is c.requires

pub returns-in-Web : goal.returns-in-Web
returns-in-Web c = web_moves c.args.self.now c.in-Web.web c.prepare.new.self c.args.shared.now.site
    (λ m p. m.prepare c.args.shared.now.hits p c.args.now.now) c.in-Web.is
    (λ p. (web_port (files_of c.args.shared.now.site)).prepare c.args.shared.now.hits p c.args.now.now) c.prepare.ensures

pub returns-in-Shell : goal.returns-in-Shell
returns-in-Shell c = shell_moves c.args.self.now c.in-Shell.shell c.prepare-in-Shell.new.self c.args.shared.now.site
    (λ m p. m.prepare c.args.shared.now.hits p c.args.now.now) c.in-Shell.is
    (λ p. shell_port.prepare c.args.shared.now.hits p c.args.now.now) c.prepare-in-Shell.ensures
