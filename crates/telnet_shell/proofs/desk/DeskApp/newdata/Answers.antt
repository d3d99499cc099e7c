use Rattle.telnet_shell.proofs.Prelude.{files_of, web_port, shell_port}
use Rattle.telnet_shell.proofs.DeskParts.{web_has, shell_has, web_moves, shell_moves, web_reports, shell_reports}
use Rattle.telnet_shell.proofs.desk.DeskApp.newdata.Goals as goal

pub newdata-requires : goal.newdata-requires
newdata-requires c = web_has c.args.self.now c.in-Web.web c.args.shared.now.site c.in-Web.is c.requires

pub newdata-requires-in-Shell : goal.newdata-requires-in-Shell
newdata-requires-in-Shell c = shell_has c.args.self.now c.in-Shell.shell c.args.shared.now.site c.in-Shell.is c.requires

pub returns-in-Web-clause-part : goal.returns-in-Web-clause-part
returns-in-Web-clause-part c = web_moves c.args.self.now c.in-Web.web c.newdata.new.self c.args.shared.now.site
    (λ m p. (m.newdata c.args.shared.now.hits p c.args.piece.now).part) c.in-Web.is
    (λ p. (web_port (files_of c.args.shared.now.site)).newdata c.args.shared.now.hits p c.args.piece.now) c.newdata.ensures.part

pub returns-in-Web-clause-numbers : goal.returns-in-Web-clause-numbers
returns-in-Web-clause-numbers c = web_reports c.args.self.now c.in-Web.web c.args.shared.now.site c.newdata.new.shared.hits
    (λ m p. (m.newdata c.args.shared.now.hits p c.args.piece.now).numbers) c.in-Web.is c.newdata.ensures.numbers

pub returns-in-Shell-clause-part : goal.returns-in-Shell-clause-part
returns-in-Shell-clause-part c = shell_moves c.args.self.now c.in-Shell.shell c.newdata-in-Shell.new.self c.args.shared.now.site
    (λ m p. (m.newdata c.args.shared.now.hits p c.args.piece.now).part) c.in-Shell.is
    (λ p. shell_port.newdata c.args.shared.now.hits p c.args.piece.now) c.newdata-in-Shell.ensures.part

pub returns-in-Shell-clause-numbers : goal.returns-in-Shell-clause-numbers
returns-in-Shell-clause-numbers c = shell_reports c.args.self.now c.in-Shell.shell c.args.shared.now.site
    c.newdata-in-Shell.new._shared.hits (λ m p. (m.newdata c.args.shared.now.hits p c.args.piece.now).numbers) c.in-Shell.is c.newdata-in-Shell.ensures.numbers
