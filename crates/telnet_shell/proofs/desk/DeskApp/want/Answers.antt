use Rattle.telnet_shell.proofs.DeskParts.{web_has, shell_has, web_reports, shell_reports}
use Rattle.telnet_shell.proofs.desk.DeskApp.want.Goals as goal

pub want-requires : goal.want-requires
want-requires c = web_has c.args.self.now c.in-Web.web c.args.shared.now.site c.in-Web.is c.requires

pub want-requires-in-Shell : goal.want-requires-in-Shell
want-requires-in-Shell c = shell_has c.args.self.now c.in-Shell.shell c.args.shared.now.site c.in-Shell.is c.requires

pub returns-in-Web : goal.returns-in-Web
returns-in-Web c = web_reports c.args.self.now c.in-Web.web c.args.shared.now.site c.want.result (λ m p. m.want c.args.shared.now.hits p)
    c.in-Web.is c.want.ensures

pub returns-in-Shell : goal.returns-in-Shell
returns-in-Shell c = shell_reports c.args.self.now c.in-Shell.shell c.args.shared.now.site c.want-in-Shell.result
    (λ m p. m.want c.args.shared.now.hits p) c.in-Shell.is c.want-in-Shell.ensures
