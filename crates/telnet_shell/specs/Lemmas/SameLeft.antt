-- What is left to send is a function of the value alone.
use Rattle.std.proofs.Common.{◌≡◌, ℕ, ◌+◌, List, length, drop, sym, ap, ◌∙◌}
use Rattle.std.proofs.Math.Seq.{drop-append-add}
use Rattle.app_events.specs.Prelude.{AppState, text_left}
use Rattle.telnet_shell.specs.State.{Shell}
use Rattle.telnet_shell.specs.Transcript.{transcript}
use Rattle.telnet_shell.specs.Transmission.{replies_left}
use Rattle.telnet_shell.specs.Lemmas.Speaking.{session_is}
use Rattle.telnet_shell.specs.ShellSpec.{shell_spec, session}
use Rattle.telnet_shell.specs.ShellRepresents.{ShellRepresents}

pub left_of_value : (a : Shell) (p : AppState) → ShellRepresents a p → text_left shell_spec p ≡ drop a.at (replies_left a.queue a.capture)
left_of_value a p s =
    ap (λ (n : ℕ). drop n (session p)) s.trailing.acked
    ∙ ap (λ (xs : List ℕ). drop (length (transcript s.trailing.before s.trailing.spoken) + a.at) xs)
    (session_is a.queue a.capture a.at p s.trailing)
    ∙ drop-append-add (transcript s.trailing.before s.trailing.spoken) (replies_left a.queue a.capture) a.at

pub same_session_left : (a : Shell) (p q : AppState) → ShellRepresents a p → ShellRepresents a q
    → text_left shell_spec p ≡ text_left shell_spec q
same_session_left a p q s t = left_of_value a p s ∙ sym (left_of_value a q t)
