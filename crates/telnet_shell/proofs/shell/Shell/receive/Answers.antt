use Rattle.telnet_shell.proofs.Representing.{receive_lost, receive_done, receive_none, receive_full, receive_command}
use Rattle.telnet_shell.proofs.shell.Shell.receive.Goals as goal
use Rattle.telnet_shell.proofs.shell.Shell.receive.Goals.{then-self-via-then-self, then-self-via-else-self+then-self-2}

pub returns-then-self : goal.returns-then-self
returns-then-self c = rw (← c.self.view_is) (λ p s. elim c.then-self.branch [
  | then-self-via-then-self w ↦ receive_lost _ p c.args.byte w.if-self.true s
  | then-self-via-else-self+then-self-2 w ↦ receive_done _ p c.args.byte w.if-self.false w.if-self-2.true c.is_full-full.ensures.fits s
])

pub returns-in-None : goal.returns-in-None
returns-in-None c = rw (← c.self.view_is) (λ p s.
    receive_none _ p c.args.byte c.receive.new.kept.items c.receive.new.over c.receive.new.iac c.if-self.false c.if-self-2.false
    c.is_full-full.ensures.fits c.in-None.ensures.open c.in-None.ensures.command s)

pub returns-then-full : goal.returns-then-full
returns-then-full c = rw (← c.self.view_is) (λ p s.
    receive_full _ p c.args.byte c.in-Some.command c.receive.new.kept.items c.receive.new.over c.receive.new.iac c.if-self.false
    c.if-self-2.false c.is_full-full.result c.if-full.true c.is_full-full.ensures.value c.in-Some.ensures.command s)

pub returns-else-full : goal.returns-else-full
returns-else-full c = rw (← c.self.view_is) (λ p s.
    receive_command _ p c.args.byte c.in-Some.command c.receive.new.kept.items c.receive.new.over c.receive.new.iac c.push.new.self.items
    c.is_quit-self-inside.result c.if-self.false c.if-self-2.false c.is_full-full.result c.if-full.false c.is_full-full.ensures.value
    c.is_full-full.ensures.fits
    c.in-Some.ensures.open c.in-Some.ensures.command c.push.ensures.items c.is_quit-self-inside.ensures s)
