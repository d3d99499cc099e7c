-- Sessions of the shell, worked by hand.
-- [add: counter] The number of zeros.
use Rattle.std.specs.Prelude.{◌≡◌, ℕ, true, false, List, [], ◌∷◌, ◌++◌, codes, length, replicate}
use Rattle.std.specs.List.{concat}
use Rattle.app_events.specs.Prelude.{AppState, Snapshot, IsLawful, StartsAnew}
use Rattle.app_events.specs.declared.want.Want.TheVariants.{Nothing, Send, Close, Abort}
use Rattle.uip_wire.specs.declared.port.TheConstants.{WEB_PORT}
use Rattle.telnet_shell.specs.declared.shell.TheConstants.{TELNET_PORT}
use Rattle.telnet_shell.specs.declared.telnet_input.TheConstants.{IAC, WILL, WONT, DO, DONT}
use Rattle.telnet_shell.specs.declared.command.Command.TheVariants.{Refuse, Help, Stats, Conns, Ticks, Quit, Blank, Other}
use Rattle.telnet_shell.specs.Reading.{commands_in}
use Rattle.telnet_shell.specs.Transcript.{transcript}
use Rattle.telnet_shell.specs.ShellSpec.{shell_spec, session}
use Rattle.telnet_shell.specs.DeskSpec.{is_served_at}

-- a snapshot in which nothing has happened except these ticks
abbrev pub at_tick : ℕ → Snapshot
at_tick ticks = record { numbers = []; now = record { ticks = ticks; net = replicate 20 0; rows = [] } }

abbrev pub opened : AppState
opened = (shell_spec.connected [] TELNET_PORT).part

abbrev pub after_receiving : List ℕ → AppState
after_receiving piece = (shell_spec.newdata [] opened piece).part

abbrev pub after_preparing : List ℕ → AppState
after_preparing piece = shell_spec.prepare [] (after_receiving piece) (at_tick 0).now

abbrev pub acked : AppState → ℕ → AppState
acked part count = (shell_spec.acked [] part count).part

-- an offer of an option, and then the end
abbrev pub offer_and_quit : List ℕ
offer_and_quit = IAC ∷ WILL ∷ 1 ∷ codes "quit\n"

abbrev pub many_helps : ℕ → List ℕ
many_helps count = concat (replicate count (codes "help\n"))

pub record AreWorkedSessions : Type 0 where
  -- a snapshot is captured when its text is next
  pub ticks : session (after_preparing (codes "ticks\r\n")) ≡ codes "         0\r\n> "
  pub ticks_before : session (after_receiving (codes "ticks\r\n")) ≡ []
  pub ticks_length : length (session (after_preparing (codes "ticks\r\n"))) ≡ 14
  pub ticks_once : (shell_spec.prepare [] (after_preparing (codes "ticks\r\n")) (at_tick 7).now).snapshots ≡ at_tick 0 ∷ []
  pub two_ticks : transcript (Ticks ∷ Ticks ∷ []) (at_tick 0 ∷ at_tick 7 ∷ []) ≡ codes "         0\r\n>          7\r\n> "
  -- an option is refused, and `quit` closes once its text is acknowledged
  pub quit : session (after_receiving offer_and_quit) ≡ IAC ∷ DONT ∷ 1 ∷ codes "bye\r\n"
  pub quit_length : length (session (after_receiving offer_and_quit)) ≡ 8
  pub quit_sends : shell_spec.want [] (after_receiving offer_and_quit) ≡ Send 8
  pub quit_waits : shell_spec.want [] (acked (after_receiving offer_and_quit) 7) ≡ Send 1
  pub quit_closes : shell_spec.want [] (acked (after_receiving offer_and_quit) 8) ≡ Close
  pub after_quit : commands_in (codes "quit\nhelp\n") ≡ Quit ∷ []
  -- 32 commands are accepted, and the next one ends the connection; the output before it stays
  pub full : shell_spec.want [] (after_receiving (many_helps 32)) ≡ Send 992
  pub lost : shell_spec.want [] (after_receiving (many_helps 33)) ≡ Abort
  pub lost_keeps : session (after_receiving (many_helps 33)) ≡ session (after_receiving (many_helps 32))
  pub room_again : (shell_spec.newdata [] (acked (after_receiving (many_helps 32)) 31) (codes "help\n")).part.own ≡ 0
  -- a silent connection is aborted at 1200 ticks, and not before
  pub silent : shell_spec.want [] (record opened { polls = 1199 }) ≡ Nothing
  pub too_silent : shell_spec.want [] (shell_spec.polled [] (record opened { polls = 1199 })).part ≡ Abort
  pub receives_again : (shell_spec.newdata [] (record opened { polls = 1199 }) (codes "h")).part.polls ≡ 0
  -- the ports
  pub pages_served : is_served_at WEB_PORT ≡ true
  pub shell_served : is_served_at TELNET_PORT ≡ true
  pub no_other_served : is_served_at 24 ≡ false
  -- the table of the protocol's sequences
  pub byte_255 : commands_in (IAC ∷ IAC ∷ codes "\n") ≡ Other ∷ []
  pub offers : commands_in (IAC ∷ WILL ∷ 3 ∷ IAC ∷ DO ∷ 24 ∷ []) ≡ Refuse DONT 3 ∷ Refuse WONT 24 ∷ []
  pub no_answer : commands_in (IAC ∷ WONT ∷ 3 ∷ IAC ∷ DONT ∷ 24 ∷ []) ≡ []
  pub inside_a_line : commands_in (codes "he" ++ IAC ∷ DO ∷ 1 ∷ codes "lp\n") ≡ Refuse WONT 1 ∷ Help ∷ []
  pub two_taken_out : commands_in (codes "he" ++ IAC ∷ codes "\nlp\n") ≡ Help ∷ []
  -- lines
  pub words : commands_in (codes "help\nstats\nconns\r\nticks\n\nhelp \n") ≡ Help ∷ Stats ∷ Conns ∷ Ticks ∷ Blank ∷ Other ∷ []
  pub returns_drop : commands_in (codes "\rh\relp\r\r\n\r\n") ≡ Help ∷ Blank ∷ []
  pub long_line : commands_in (replicate 17 104 ++ codes "\nhelp\n") ≡ Other ∷ Help ∷ []
  pub open_line : commands_in (codes "help") ≡ []

-- What the shell must satisfy: it never retracts output. This holds for every state.
pub record KeepsLaws : Type 0 where
  pub lawful : IsLawful shell_spec (λ part. Unit {0})
  pub starts : StartsAnew shell_spec
