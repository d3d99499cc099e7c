-- The output of the shell: the concatenated texts of its commands. Each command that needs a snapshot takes the next one. The output stops
-- before the first such command without one.
use Rattle.std.specs.Prelude.{ℕ, ◌-◌, Bool, List, [], ◌∷◌, ◌++◌, codes, length, nat_le, if◌then◌else◌}
use Rattle.script_lang.specs.declared.function.Function.{Function}
use Rattle.script_lang.specs.declared.function.Function.TheVariants as function
use Rattle.generators.specs.Prelude.{capture_of, capture_text}
use Rattle.generators.specs.declared.capture.Capture.{Capture}
use Rattle.generators.specs.declared.capture.Capture.TheVariants.{Empty}
use Rattle.app_events.specs.Prelude.{Snapshot}
use Rattle.script_lang.specs.Prelude.{takes_capture}
use Rattle.telnet_shell.specs.declared.telnet_input.TheConstants.{IAC}
use Rattle.telnet_shell.specs.declared.command.Command.{Command}
use Rattle.telnet_shell.specs.declared.command.Command.TheVariants.{Refuse, Help, Stats, Conns, Ticks, Quit, Blank, Other}

-- the function whose snapshot a command shows; the others show none
abbrev pub function_of : Command → Function
function_of Stats = function.NetStats
function_of Conns = function.TcpConnections
function_of Ticks = function.Ticks
function_of _ = function.Unknown

abbrev pub needs_capture : Command → Bool
needs_capture command = takes_capture (function_of command)

-- the text of a command with its record
abbrev pub reply_with : Command → Capture → List ℕ
reply_with (Refuse verb option) capture = IAC ∷ verb ∷ option ∷ []
reply_with Help capture = codes "help stats conns ticks quit\r\n> "
reply_with Stats capture = capture_text capture ++ codes "> "
reply_with Conns capture = capture_text capture ++ codes "> "
reply_with Ticks capture = capture_text capture ++ codes "\r\n> "
reply_with Quit capture = codes "bye\r\n"
reply_with Blank capture = codes "> "
reply_with Other capture = codes "?\r\n> "

-- the text of a command that needs no snapshot
abbrev pub plain_reply : Command → List ℕ
plain_reply command = reply_with command Empty

-- the text of a command with a snapshot
abbrev pub sent_at : Command → Snapshot → List ℕ
sent_at command snapshot = reply_with command (capture_of (function_of command) 0 snapshot.now)

abbrev pub transcript : List Command → List Snapshot → List ℕ
transcript [] captures = []
transcript (command ∷ more) [] = if needs_capture command then [] else plain_reply command ++ transcript more []
transcript (command ∷ more) (capture ∷ later) =
    if needs_capture command then sent_at command capture ++ transcript more later
    else plain_reply command ++ transcript more (capture ∷ later)

-- continues with the bytes after a text, if the text is within them
abbrev pub past_text : List ℕ → ℕ → (ℕ → List Command) → List Command → List Command
past_text text bytes goes_on stays = if nat_le (length text) bytes then goes_on (bytes - length text) else stays

-- the commands whose texts are not within the first bytes
abbrev pub unfinished : List Command → List Snapshot → ℕ → List Command
unfinished [] captures bytes = []
unfinished (command ∷ more) [] bytes =
    if needs_capture command then command ∷ more
    else past_text (plain_reply command) bytes (λ n. unfinished more [] n) (command ∷ more)
unfinished (command ∷ more) (capture ∷ later) bytes =
    if needs_capture command then past_text (sent_at command capture) bytes (λ n. unfinished more later n) (command ∷ more)
    else past_text (plain_reply command) bytes (λ n. unfinished more (capture ∷ later) n) (command ∷ more)
