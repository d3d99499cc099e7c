use Rattle.telnet_shell.proofs.Prelude.{List, sym, ap, ◌∙◌, Command, due}
use Rattle.telnet_shell.proofs.Asking.{prepared, unprepared}
use Rattle.telnet_shell.proofs.shell.ShellApp.prepare.Goals as goal

pub returns-in-Some : goal.returns-in-Some
returns-in-Some c = rw (← c.self.view_is) (λ p s.
    prepared _ p c.take-self-inside.result c.args._shared.now.hits c.in-Some.function c.args.now.now
    (ap (λ (q : List Command). due q c.self.inside.capture) (sym c.as_slice.ensures.value) ∙ sym c.in-Some.ensures) c.take-self-inside.ensures s)

pub returns-in-None : goal.returns-in-None
returns-in-None c = rw (← c.self.view_is) (λ p s.
    unprepared _ p c.args._shared.now.hits c.args.now.now
    (ap (λ (q : List Command). due q c.self.inside.capture) (sym c.as_slice.ensures.value) ∙ sym c.in-None.ensures) s)
