-- The transitions of a connection of the shell. Its output is the transcript of the delivered commands and the captured snapshots. Its own
-- number is 1 if it was given up for a command too many.
use Rattle.std.specs.Prelude.{ℕ, ◌+◌, ◌-◌, ◌==◌, Bool, ◌&&◌, ◌||◌, not, List, [], ◌∷◌, ◌++◌, length, min, nat_lt, if◌then◌else◌}
use Rattle.app_events.specs.Prelude.{AppState, AppSpec}
use Rattle.app_events.specs.declared.now.Now.{Now}
use Rattle.app_events.specs.declared.want.Want.{Want}
use Rattle.app_events.specs.declared.want.Want.TheVariants.{Nothing, Send, Close, Abort}
use Rattle.web_pages.specs.declared.TheConstants.{LARGEST_SEGMENT}
use Rattle.telnet_shell.specs.declared.command.Command.{Command}
use Rattle.telnet_shell.specs.declared.TheConstants.{MOST_SILENT_POLLS, MOST_COMMANDS}
use Rattle.telnet_shell.specs.Reading.{all_commands, commands_in, has_quit}
use Rattle.telnet_shell.specs.Transcript.{transcript, unfinished}

-- the output so far
abbrev pub session : AppState → List ℕ
session part = transcript (commands_in part.input) part.snapshots

-- the commands that are not wholly acknowledged
abbrev pub waiting : AppState → List Command
waiting part = unfinished (commands_in part.input) part.snapshots part.acked

abbrev pub with_byte : AppState → ℕ → AppState
with_byte part byte = record part { input = part.input ++ byte ∷ [] }

-- A byte is delivered, except one that would complete a command too many: it is ignored, and so is every later byte.
abbrev pub receive_byte : AppState → ℕ → AppState
receive_byte part byte =
    if part.own == 1 then part
    else if nat_lt MOST_COMMANDS (length (waiting (with_byte part byte))) then record part { own = 1 }
    else with_byte part byte

abbrev pub receive_all : AppState → List ℕ → AppState
receive_all part [] = part
receive_all part (byte ∷ more) = receive_all (receive_byte part byte) more

-- every command is wholly acknowledged
abbrev pub is_settled : AppState → Bool
is_settled part = length (waiting part) == 0

-- The whole output is acknowledged, and a command is left: it waits for its snapshot.
abbrev pub is_stopped : AppState → Bool
is_stopped part = part.acked == length (session part) && not (is_settled part)

-- The output includes that of `quit`, and all of it is acknowledged.
abbrev pub session_has_ended : AppState → Bool
session_has_ended part = has_quit (all_commands part.input) && is_settled part

abbrev pub left_of_session : AppState → ℕ
left_of_session part = length (session part) - part.acked

abbrev pub shell_want : AppState → Want
shell_want part =
    if (part.own == 1) || (part.polls == MOST_SILENT_POLLS) then Abort
    else if session_has_ended part then Close
    else if nat_lt 0 (left_of_session part) then Send (min LARGEST_SEGMENT (left_of_session part))
    else Nothing

abbrev pub take_capture : List ℕ → AppState → Now → AppState
take_capture numbers part now = record part { snapshots = part.snapshots ++ record { numbers = numbers; now = now } ∷ [] }

abbrev pub shell_spec : AppSpec
shell_spec = record {
  output = session;
  connected = λ numbers port. record {
    part = record { port = port; input = []; snapshots = []; acked = 0; polls = 0; own = 0 };
    numbers = numbers;
  };
  newdata = λ numbers part piece. record { part = receive_all (record part { polls = 0 }) piece; numbers = numbers };
  prepare = λ numbers part now. if is_stopped part then take_capture numbers part now else part;
  want = λ numbers part. shell_want part;
  acked = λ numbers part count. record { part = record part { acked = part.acked + count; polls = 0 }; numbers = numbers };
  polled = λ numbers part. record { part = record part { polls = min MOST_SILENT_POLLS (part.polls + 1) }; numbers = numbers };
  ended = λ numbers part how. numbers;
}
