use Rattle.telnet_shell.proofs.Prelude.{List, sym, ap, ◌∙◌, Command, due}
use Rattle.telnet_shell.proofs.Asking.{none_of, stays}
use Rattle.telnet_shell.proofs.shell.ShellApp.is_due.Goals as goal

pub returns : goal.returns
returns c = record {
  not_due = λ e. rw (← c.self.view_is) (λ p now s.
      stays _ p c.args._shared.now.hits now
      (ap (λ (q : List Command). due q c.self.inside.capture) (sym c.as_slice.ensures.value) ∙ sym c.due.ensures
      ∙ none_of c.due.result (sym c.is_some.ensures ∙ e)) s);
}
