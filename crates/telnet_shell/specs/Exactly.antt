-- What a shell requests, when it captures a snapshot and when it is aborted, determined by its session. Each happens exactly when this
-- states it.
use Rattle.std.specs.Prelude.{◌≡◌, ◌<◌, ◌≤◌, ◌-◌, ◌==◌, ◌&&◌, ◌||◌, ℕ, Bool, List, [], ◌∷◌, ◌++◌, length, min, nat_lt, if◌then◌else◌}
use Rattle.app_events.specs.Prelude.{AppState}
use Rattle.app_events.specs.declared.now.Now.{Now}
use Rattle.app_events.specs.declared.want.Want.{Want}
use Rattle.app_events.specs.declared.want.Want.TheVariants.{Nothing, Send, Close, Abort}
use Rattle.telnet_shell.specs.declared.command.Command.TheVariants.{Other}
use Rattle.telnet_shell.specs.Reading.{command_of, commands_in}
use Rattle.telnet_shell.specs.Transmission.{needed}
use Rattle.telnet_shell.specs.ShellSpec.{shell_spec, session, waiting, with_byte, receive_byte, take_capture}
use Rattle.telnet_shell.specs.Traces.{sessions}

-- The whole output is acknowledged.
abbrev pub all_acknowledged : AppState → Bool
all_acknowledged p = p.acked == length (session p)

-- A command too many was received, or 1200 polls had no other event.
abbrev pub is_given_up : AppState → Bool
is_given_up p = (p.own == 1) || (p.polls == 1200)

-- It aborts if it is given up. Otherwise it closes exactly if the session is complete and acknowledged. Otherwise it sends 1460 bytes or
-- the rest, whichever is smaller. Otherwise it requests nothing.
abbrev pub exact_want : AppState → Want
exact_want p =
    if is_given_up p then Abort
    else if sessions.complete p.input p.snapshots && all_acknowledged p then Close
    else if nat_lt p.acked (length (session p)) then Send (min 1460 (length (session p) - p.acked))
    else Nothing

-- The whole output is acknowledged, and more commands need a snapshot than were captured: the next command has none.
abbrev pub capture_comes_next : AppState → Bool
capture_comes_next p = all_acknowledged p && nat_lt (length p.snapshots) (needed (commands_in p.input))

-- This byte completes a command.
abbrev pub completes : AppState → ℕ → Bool
completes p byte = nat_lt (length (commands_in p.input)) (length (commands_in (p.input ++ byte ∷ [])))

-- For every state in which no more is acknowledged than was sent.
pub record IsExact : Type 0 where
  pub wants : (numbers : List ℕ) (p : AppState) → p.acked ≤ length (session p) → shell_spec.want numbers p ≡ exact_want p
  pub prepares : (numbers : List ℕ) (p : AppState) (now : Now)
      → shell_spec.prepare numbers p now ≡ (if capture_comes_next p then take_capture numbers p now else p)
  -- it is given up exactly if a command arrives while 32 are not wholly acknowledged; there are never more
  pub loses : (p : AppState) (byte : ℕ) → p.acked ≤ length (session p) → length (waiting p) ≤ 32
      → receive_byte p byte
      ≡ (if p.own == 1 then p else if completes p byte && (length (waiting p) == 32) then record p { own = 1 } else with_byte p byte)
  pub has_room : (p : AppState) (byte : ℕ) → length (waiting p) ≤ 32 → length (waiting (receive_byte p byte)) ≤ 32
  -- a line of more than 16 bytes is `Other`
  pub long_line : (line : List ℕ) → 16 < length line → command_of line ≡ Other
