use Rattle.telnet_shell.proofs.Prelude.{files_of, web_port, shell_port}
use Rattle.telnet_shell.proofs.DeskParts.{web_has, shell_has, web_moves, shell_moves, web_reports, shell_reports}
use Rattle.telnet_shell.proofs.desk.DeskApp.polled.Goals as goal

pub polled-requires : goal.polled-requires
polled-requires c = web_has c.args.self.now c.in-Web.web c.args.shared.now.site c.in-Web.is c.requires

pub polled-requires-in-Shell : goal.polled-requires-in-Shell
polled-requires-in-Shell c = shell_has c.args.self.now c.in-Shell.shell c.args.shared.now.site c.in-Shell.is c.requires

pub returns-in-Web-clause-part : goal.returns-in-Web-clause-part
returns-in-Web-clause-part c = web_moves c.args.self.now c.in-Web.web c.polled.new.self c.args.shared.now.site
    (λ m p. (m.polled c.args.shared.now.hits p).part) c.in-Web.is
    (λ p. (web_port (files_of c.args.shared.now.site)).polled c.args.shared.now.hits p) c.polled.ensures.part

pub returns-in-Web-clause-numbers : goal.returns-in-Web-clause-numbers
returns-in-Web-clause-numbers c = web_reports c.args.self.now c.in-Web.web c.args.shared.now.site c.polled.new._shared.hits
    (λ m p. (m.polled c.args.shared.now.hits p).numbers) c.in-Web.is c.polled.ensures.numbers

pub returns-in-Shell-clause-part : goal.returns-in-Shell-clause-part
returns-in-Shell-clause-part c = shell_moves c.args.self.now c.in-Shell.shell c.polled-in-Shell.new.self c.args.shared.now.site
    (λ m p. (m.polled c.args.shared.now.hits p).part) c.in-Shell.is
    (λ p. shell_port.polled c.args.shared.now.hits p) c.polled-in-Shell.ensures.part

pub returns-in-Shell-clause-numbers : goal.returns-in-Shell-clause-numbers
returns-in-Shell-clause-numbers c = shell_reports c.args.self.now c.in-Shell.shell c.args.shared.now.site c.polled-in-Shell.new._shared.hits
    (λ m p. (m.polled c.args.shared.now.hits p).numbers) c.in-Shell.is c.polled-in-Shell.ensures.numbers
