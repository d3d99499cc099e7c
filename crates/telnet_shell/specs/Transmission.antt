-- The rest of the output of a queue of commands; a capture is held for the first, or is still to come.
use Rattle.std.specs.Prelude.{◌≡◌, ℕ, ◌+◌, ◌<◌, ◌&&◌, Bool, true, false, not, List, [], ◌∷◌}
use Rattle.std.specs.Prelude.{◌++◌, length, nat_le, if◌then◌else◌, Option, None, Some}
use Rattle.script_lang.specs.declared.function.Function.{Function}
use Rattle.generators.specs.Prelude.{capture_of}
use Rattle.generators.specs.declared.capture.Capture.{Capture}
use Rattle.generators.specs.declared.capture.Capture.TheVariants.{Empty, Hits, Ticks, Net, Rows}
use Rattle.app_events.specs.Prelude.{AppState, Snapshot}
use Rattle.telnet_shell.specs.declared.command.Command.{Command}
use Rattle.telnet_shell.specs.Reading.{commands_in}
use Rattle.telnet_shell.specs.Transcript.{function_of, needs_capture, reply_with, transcript}

abbrev pub is_captured : Capture → Bool
is_captured Empty = false
is_captured (Hits hits) = true
is_captured (Ticks ticks) = true
is_captured (Net counters) = true
is_captured (Rows rows) = true

-- The first command waits for its snapshot.
abbrev pub stops_at : Command → Capture → Bool
stops_at command capture = needs_capture command && not (is_captured capture)

abbrev pub replies_left : List Command → Capture → List ℕ
replies_left [] capture = []
replies_left (command ∷ more) capture = if stops_at command capture then [] else reply_with command capture ++ transcript more []

-- the function whose snapshot the first command waits for
abbrev pub due : List Command → Capture → Option Function
due [] capture = None
due (command ∷ more) capture = if stops_at command capture then Some (function_of command) else None

-- the length of the text of the first command
abbrev pub prefix_size : List Command → Capture → ℕ
prefix_size [] capture = 0
prefix_size (command ∷ more) capture = if stops_at command capture then 0 else length (reply_with command capture)

-- This number of bytes of the first command is acknowledged, and not all.
abbrev pub IsLeading : List Command → Capture → ℕ → Type 0
IsLeading [] capture at = at ≡ 0
IsLeading (command ∷ more) capture at =
    (stops_at command capture ≡ true → at ≡ 0) × (stops_at command capture ≡ false → at < length (reply_with command capture))

-- The snapshot is that of the first command.
abbrev pub Shows : List Command → Capture → List Snapshot → Type 0
Shows queue capture [] = capture ≡ Empty
Shows [] capture (snapshot ∷ more) = ⊥
Shows (command ∷ rest) capture (snapshot ∷ more) =
    (more ≡ []) × (needs_capture command ≡ true) × (capture ≡ capture_of (function_of command) 0 snapshot.now)

-- the number of snapshots that commands take
abbrev pub needed : List Command → ℕ
needed [] = 0
needed (command ∷ more) = if needs_capture command then needed more + 1 else needed more

-- Everything before the queue is acknowledged, and this number of bytes of the queue's output.
pub record IsTrailing (queue : List Command) (capture : Capture) (at : ℕ) (part : AppState) : Type 0 where
  pub before : List Command
  pub spoken : List Snapshot
  pub prefix : List Snapshot
  pub commands : commands_in part.input ≡ before ++ queue
  pub snapshots : part.snapshots ≡ spoken ++ prefix
  pub took : length spoken ≡ needed before
  pub acked : part.acked ≡ length (transcript before spoken) + at
  pub shows : Shows queue capture prefix

-- The text of the first command is within the first bytes.
abbrev pub is_past : List Command → Capture → ℕ → Bool
is_past [] capture at = false
is_past (command ∷ more) capture at = not (stops_at command capture) && nat_le (length (reply_with command capture)) at

-- The first command is dropped.
abbrev pub Passes : List Command → Capture → ℕ → List Command → Capture → ℕ → Type 0
Passes [] capture at queue held place = ⊥
Passes (command ∷ more) capture at queue held place =
    (queue ≡ more) × (held ≡ Empty) × (at ≡ length (reply_with command capture) + place)
