-- The commands in a list of bytes. The sequences of the Telnet protocol (RFC 854) are removed, and the rest are lines. Each line and each
-- offer of an option is a command.
use Rattle.std.specs.Prelude.{◌==◌, ◌&&◌, ◌∷◌, ◌++◌, if◌then◌else◌, [], Bool, bytes_eq, codes, false, List, nat_le, true, ℕ}
use Rattle.telnet_shell.specs.declared.telnet_input.TheConstants.{IAC, WILL, WONT, DO, DONT}
use Rattle.telnet_shell.specs.declared.command.Command.{Command}
use Rattle.telnet_shell.specs.declared.command.Command.TheVariants.{Refuse, Help, Stats, Conns, Ticks, Quit, Blank, Other}

-- The role of the next byte: text, the second byte of a sequence, or the option of a verb.
pub data Awaits : Type 0 where
  Text : Awaits
  Second : Awaits
  Choice : (verb : ℕ) → Awaits

pub data Token : Type 0 where
  Byte : (byte : ℕ) → Token
  Answer : (command : Command) → Token

-- a verb is one of WILL, WONT, DO and DONT
abbrev pub next_awaits : Awaits → ℕ → Awaits
next_awaits Text byte = if byte == IAC then Second else Text
next_awaits Second byte = if nat_le WILL byte && nat_le byte DONT then Choice byte else Text
next_awaits (Choice verb) byte = Text

-- an option is refused: WILL by DONT, DO by WONT; a WONT and a DONT need no answer
abbrev pub refusal : ℕ → ℕ → List Token
refusal verb option =
    if verb == WILL then Answer (Refuse DONT option) ∷ []
    else if verb == DO then Answer (Refuse WONT option) ∷ []
    else []

-- the tokens of a byte in its role
abbrev pub tokens_at : Awaits → ℕ → List Token
tokens_at Text byte = if byte == IAC then [] else Byte byte ∷ []
tokens_at Second byte = if byte == IAC then Byte IAC ∷ [] else []
tokens_at (Choice verb) byte = refusal verb byte

abbrev pub tokens : Awaits → List ℕ → List Token
tokens awaits [] = []
tokens awaits (byte ∷ more) = tokens_at awaits byte ++ tokens (next_awaits awaits byte) more

-- the role of the byte after these
abbrev pub awaits_after : Awaits → List ℕ → Awaits
awaits_after awaits [] = awaits
awaits_after awaits (byte ∷ more) = awaits_after (next_awaits awaits byte) more

abbrev pub command_of : List ℕ → Command
command_of line =
    if bytes_eq line [] then Blank
    else if bytes_eq line (codes "help") then Help
    else if bytes_eq line (codes "stats") then Stats
    else if bytes_eq line (codes "conns") then Conns
    else if bytes_eq line (codes "ticks") then Ticks
    else if bytes_eq line (codes "quit") then Quit
    else Other

-- the commands of tokens after the start of a line; a line ends at LF, and a CR is dropped
abbrev pub commands : List ℕ → List Token → List Command
commands line [] = []
commands line (Answer command ∷ more) = command ∷ commands line more
commands line (Byte byte ∷ more) =
    if byte == 10 then command_of line ∷ commands [] more
    else if byte == 13 then commands line more
    else commands (line ++ byte ∷ []) more

-- the line that is open after tokens
abbrev pub line_after : List ℕ → List Token → List ℕ
line_after line [] = line
line_after line (Answer command ∷ more) = line_after line more
line_after line (Byte byte ∷ more) =
    if byte == 10 then line_after [] more
    else if byte == 13 then line_after line more
    else line_after (line ++ byte ∷ []) more

abbrev pub is_quit : Command → Bool
is_quit Quit = true
is_quit _ = false

-- nothing after `quit` counts
abbrev pub until_quit : List Command → List Command
until_quit [] = []
until_quit (command ∷ more) = command ∷ (if is_quit command then [] else until_quit more)

abbrev pub has_quit : List Command → Bool
has_quit [] = false
has_quit (command ∷ more) = if is_quit command then true else has_quit more

-- all commands in the bytes
abbrev pub all_commands : List ℕ → List Command
all_commands delivered = commands [] (tokens Text delivered)

-- those that count
abbrev pub commands_in : List ℕ → List Command
commands_in delivered = until_quit (all_commands delivered)
