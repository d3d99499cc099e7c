use Rattle.telnet_shell.proofs.DeskParts.{web_has, shell_has, web_reports, shell_reports}
use Rattle.telnet_shell.proofs.desk.DeskApp.ended.Goals as goal

pub ended-requires : goal.ended-requires
ended-requires c = web_has c.args.self.now c.in-Web.web c.args.shared.now.site c.in-Web.is c.requires

pub ended-requires-in-Shell : goal.ended-requires-in-Shell
ended-requires-in-Shell c = shell_has c.args.self.now c.in-Shell.shell c.args.shared.now.site c.in-Shell.is c.requires

pub returns-in-Web-clause-numbers : goal.returns-in-Web-clause-numbers
returns-in-Web-clause-numbers c = web_reports c.args.self.now c.in-Web.web c.args.shared.now.site c.ended.new._shared.hits
    (λ m p. m.ended c.args.shared.now.hits p c.args.how) c.in-Web.is c.ended.ensures.numbers

pub returns-in-Shell-clause-numbers : goal.returns-in-Shell-clause-numbers
returns-in-Shell-clause-numbers c = shell_reports c.args.self.now c.in-Shell.shell c.args.shared.now.site c.ended-in-Shell.new._shared.hits
    (λ m p. m.ended c.args.shared.now.hits p c.args.how) c.in-Shell.is c.ended-in-Shell.ensures.numbers
