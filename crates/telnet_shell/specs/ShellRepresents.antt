-- The states that a shell represents.
use Rattle.std.specs.Prelude.{◌≡◌, ℕ, ◌||◌, false, [], if◌then◌else◌}
use Rattle.app_events.specs.Prelude.{AppState}
use Rattle.telnet_shell.specs.State.{Shell}
use Rattle.telnet_shell.specs.Reading.{all_commands, has_quit}
use Rattle.telnet_shell.specs.Reception.{IsOpen}
use Rattle.telnet_shell.specs.Transmission.{IsTrailing, IsLeading}

abbrev pub fresh_part : ℕ → AppState
fresh_part port = record { port = port; input = []; snapshots = []; acked = 0; polls = 0; own = 0 }

pub record ShellRepresents (a : Shell) (p : AppState) : Type 0 where
  pub polls : a.polls ≡ p.polls
  pub lost : p.own ≡ (if a.lost then 1 else 0)
  pub done : a.done ≡ has_quit (all_commands p.input)
  pub delivers_text : (a.lost || a.done) ≡ false → IsOpen a.line a.over a.iac p.input
  pub trailing : IsTrailing a.queue a.capture a.at p
  pub place : IsLeading a.queue a.capture a.at
