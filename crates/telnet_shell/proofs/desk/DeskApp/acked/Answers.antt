use Rattle.telnet_shell.proofs.Prelude.{files_of, web_port, shell_port}
use Rattle.telnet_shell.proofs.DeskParts.{web_can, shell_can, web_moves, shell_moves, web_reports, shell_reports}
use Rattle.telnet_shell.proofs.desk.DeskApp.acked.Goals as goal

pub acked-requires : goal.acked-requires
acked-requires c = web_can c.args.self.now c.in-Web.web c.args.shared.now.site c.args.count c.in-Web.is c.requires

pub acked-requires-in-Shell : goal.acked-requires-in-Shell
acked-requires-in-Shell c = shell_can c.args.self.now c.in-Shell.shell c.args.shared.now.site c.args.count c.in-Shell.is c.requires

pub returns-in-Web-clause-part : goal.returns-in-Web-clause-part
returns-in-Web-clause-part c = web_moves c.args.self.now c.in-Web.web c.acked.new.self c.args.shared.now.site
    (λ m p. (m.acked c.args.shared.now.hits p c.args.count).part) c.in-Web.is
    (λ p. (web_port (files_of c.args.shared.now.site)).acked c.args.shared.now.hits p c.args.count) c.acked.ensures.part

pub returns-in-Web-clause-numbers : goal.returns-in-Web-clause-numbers
returns-in-Web-clause-numbers c = web_reports c.args.self.now c.in-Web.web c.args.shared.now.site c.acked.new.shared.hits
    (λ m p. (m.acked c.args.shared.now.hits p c.args.count).numbers) c.in-Web.is c.acked.ensures.numbers

pub returns-in-Shell-clause-part : goal.returns-in-Shell-clause-part
returns-in-Shell-clause-part c = shell_moves c.args.self.now c.in-Shell.shell c.acked-in-Shell.new.self c.args.shared.now.site
    (λ m p. (m.acked c.args.shared.now.hits p c.args.count).part) c.in-Shell.is
    (λ p. shell_port.acked c.args.shared.now.hits p c.args.count) c.acked-in-Shell.ensures.part

pub returns-in-Shell-clause-numbers : goal.returns-in-Shell-clause-numbers
returns-in-Shell-clause-numbers c = shell_reports c.args.self.now c.in-Shell.shell c.args.shared.now.site c.acked-in-Shell.new._shared.hits
    (λ m p. (m.acked c.args.shared.now.hits p c.args.count).numbers) c.in-Shell.is c.acked-in-Shell.ensures.numbers
