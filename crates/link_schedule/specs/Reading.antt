-- A schedule as text: its lines in turn, and the first bad one.
use Rattle.std.specs.Prelude.{ℕ, ◌+◌, ◌==◌, ◌&&◌, nat_le, if◌then◌else◌, Bool, true, List, [], ◌∷◌, ◌++◌, length, Result, Ok, Err, codes}
use Rattle.std.specs.List.{list_any, slice_split}
use Rattle.std.specs.Str.{bytes_eq}
use Rattle.link_schedule.specs.declared.event.Event.{Event}
use Rattle.link_schedule.specs.declared.line.Line.{Line}
use Rattle.link_schedule.specs.declared.why.Why.{Why}
use Rattle.link_schedule.specs.declared.why.Why.TheVariants.{Long, Form, Clients, Ports}
use Rattle.link_schedule.specs.Numbers.{◌>>=◌}
use Rattle.link_schedule.specs.Events.{event_of_words}
use Rattle.link_schedule.specs.Clients.{Plan, plan_of}

-- the content of a schedule: its clients, and the other lines, with their numbers
pub record SchedulePlan : Type 0 where
  pub clients : List Plan
  pub lines : List Line

-- the first bad line, and what is bad there
pub record BadText : Type 0 where
  pub line : ℕ
  pub why : Why

-- two clients have one address and port
abbrev pub meets : Plan → Plan → Bool
meets p q = bytes_eq p.addr.0 q.addr.0 && p.port.0 == q.port.0

-- One more client after those of the lines before. The 65th is too many, and no two have one address and port.
unfoldable pub with_plan : SchedulePlan → Plan → Result SchedulePlan Why
with_plan above plan =
    if nat_le 64 (length above.clients) then Err Clients
    else if list_any (λ earlier. meets earlier plan) above.clients then Err Ports
    else Ok (record { clients = above.clients ++ plan ∷ []; lines = above.lines })

-- one more line that states what happens
abbrev pub with_line : SchedulePlan → ℕ → Event → SchedulePlan
with_line above number event = record { clients = above.clients; lines = above.lines ++ record { at = number; event = event } ∷ [] }

abbrev pub with_event : ℕ → SchedulePlan → List (List ℕ) → Result SchedulePlan Why
with_event number above words = event_of_words (length above.clients) words >>= λ event. Ok (with_line above number event)

-- the words of a line after the lines before it: `client` and its setup, or what happens
abbrev pub read_words : ℕ → SchedulePlan → List (List ℕ) → Result SchedulePlan Why
read_words number above [] = Err Form
read_words number above (verb ∷ words) =
    if bytes_eq verb (codes "client") then plan_of words >>= with_plan above else with_event number above (verb ∷ words)

-- an empty line, or a remark
abbrev pub is_passed_over : List ℕ → Bool
is_passed_over [] = true
is_passed_over (c ∷ line) = c == 35

-- one line after the lines before it
abbrev pub read_line : ℕ → SchedulePlan → List ℕ → Result SchedulePlan Why
read_line number above line = if is_passed_over line then Ok above else read_words number above (slice_split (λ c. c == 32) line)

abbrev pub reads_on : ℕ → (SchedulePlan → Result SchedulePlan BadText) → Result SchedulePlan Why → Result SchedulePlan BadText
reads_on number next (Ok content) = next content
reads_on number next (Err why) = Err (record { line = number; why = why })

-- the lines from a number on, after the lines before them
abbrev pub read_lines : ℕ → SchedulePlan → List (List ℕ) → Result SchedulePlan BadText
read_lines number above [] = Ok above
read_lines number above (line ∷ lines) = reads_on number (λ content. read_lines (number + 1) content lines) (read_line number above line)

abbrev pub nothing_yet : SchedulePlan
nothing_yet = record { clients = []; lines = [] }

-- a whole text: LF separates its lines, so one more LF at the end adds only an empty line
unfoldable pub read_text : List ℕ → Result SchedulePlan BadText
read_text text =
    if nat_le (length text) 4194304 then read_lines 1 nothing_yet (slice_split (λ c. c == 10) text)
    else Err (record { line = 0; why = Long })
