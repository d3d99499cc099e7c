use Rattle.telnet_shell.proofs.Prelude.{length, take, text_left}
use Rattle.telnet_shell.proofs.DeskParts.{web_can, shell_can, web_reports, shell_reports}
use Rattle.telnet_shell.proofs.desk.DeskApp.fill.Goals as goal

pub fill-requires : goal.fill-requires
fill-requires c = web_can c.args.self.now c.in-Web.web c.args.shared.now.site (length c.args.out.now) c.in-Web.is c.requires

pub fill-requires-in-Shell : goal.fill-requires-in-Shell
fill-requires-in-Shell c = shell_can c.args.self.now c.in-Shell.shell c.args.shared.now.site (length c.args.out.now) c.in-Shell.is c.requires

pub returns-in-Web : goal.returns-in-Web
returns-in-Web c = web_reports c.args.self.now c.in-Web.web c.args.shared.now.site c.fill.new.out
    (λ m p. take (length c.args.out.now) (text_left m p)) c.in-Web.is c.fill.ensures

pub returns-in-Shell : goal.returns-in-Shell
returns-in-Shell c = shell_reports c.args.self.now c.in-Shell.shell c.args.shared.now.site c.fill-in-Shell.new.out
    (λ m p. take (length c.args.out.now) (text_left m p)) c.in-Shell.is c.fill-in-Shell.ensures
