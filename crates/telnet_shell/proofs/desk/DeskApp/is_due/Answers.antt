use Rattle.telnet_shell.proofs.Prelude.{◌≡◌, AppSpec}
use Rattle.telnet_shell.proofs.DeskParts.{by_shell, by_web, shell_has, web_has}
use Rattle.telnet_shell.proofs.desk.DeskApp.is_due.Goals as goal

pub is_due-requires : goal.is_due-requires
is_due-requires c = web_has c.args.self.now c.in-Web.web c.args.shared.now.site c.in-Web.is c.requires

pub is_due-requires-in-Shell : goal.is_due-requires-in-Shell
is_due-requires-in-Shell c = shell_has c.args.self.now c.in-Shell.shell c.args.shared.now.site c.in-Shell.is c.requires

pub returns-in-Web : goal.returns-in-Web
returns-in-Web c = record {
  not_due = λ e p now s.
      by_web (λ (m : AppSpec). m.prepare c.args.shared.now.hits p now ≡ p) c.args.self.now c.in-Web.web c.args.shared.now.site p c.in-Web.is s
      (λ at. c.is_due.ensures.not_due e p now at.represented);
}

pub returns-in-Shell : goal.returns-in-Shell
returns-in-Shell c = record {
  not_due = λ e p now s.
      by_shell (λ (m : AppSpec). m.prepare c.args.shared.now.hits p now ≡ p) c.args.self.now c.in-Shell.shell c.args.shared.now.site p c.in-Shell.is s
      (λ at. c.is_due-in-Shell.ensures.not_due e p now at.represented);
}
