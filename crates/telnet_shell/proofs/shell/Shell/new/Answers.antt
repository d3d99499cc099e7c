use Rattle.telnet_shell.proofs.Prelude.{refl}
use Rattle.telnet_shell.proofs.Opened.{opened_after, opened_place}
use Rattle.telnet_shell.proofs.shell.Shell.new.Goals as goal

pub returns : goal.returns
returns c = λ port. record {
  polls = refl;
  lost = refl;
  done = refl;
  delivers_text = λ e. record { awaits = refl; line = record { prefix = c.new.ensures; more = refl } };
  trailing = opened_after c.new-2.result.items port c.new-2.ensures;
  place = opened_place c.new-2.result.items c.new-2.ensures;
}
