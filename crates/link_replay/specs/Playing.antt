-- What the lines of a schedule do, and which of them is refused.
use Rattle.std.specs.Prelude.{◌≡◌, All, Bool, Err, List, map, Ok, Result, slice_get, Some, ℕ, ⊤}
use Rattle.app_events.specs.Prelude.{AppSpec, IsPaged, IsU32, Pages}
use Rattle.uip_node.specs.Prelude.{HasBytes}
use Rattle.link_schedule.specs.Reading.{SchedulePlan}
use Rattle.link_schedule.specs.declared.line.Line.{Line}
use Rattle.link_schedule.specs.declared.read_schedule.ReadSchedule.{ReadSchedule}
use Rattle.link_schedule.specs.declared.read_schedule.ReadSchedule.TheVariants.{Bad, NoMemory as NoRoom}
use Rattle.link_schedule.specs.declared.why.Why.{Why}
use Rattle.link_world.specs.Prelude.{World, BadLine, plays}
use Rattle.link_schedule.specs.declared.event.Event.{Event}
use Rattle.link_world.specs.declared.step_fault.StepFault.{StepFault}
use Rattle.link_world.specs.declared.step_fault.StepFault.TheVariants.{NoDatagram, NoByte, AlreadyOpen, NotOpen, Full, NoMemory}
use Rattle.link_replay.specs.Opening.{opening_for}
use Rattle.link_replay.specs.Reaching.{IsAt}

-- the refusal of a line, with its number
abbrev pub refusal_at : ℕ → StepFault → ReadSchedule
refusal_at line NoDatagram = Bad line Why.NoDatagram
refusal_at line NoByte = Bad line Why.NoByte
refusal_at line AlreadyOpen = Bad line Why.AlreadyOpen
refusal_at line NotOpen = Bad line Why.NotOpen
refusal_at line Full = Bad line Why.Full
refusal_at line NoMemory = NoRoom

abbrev pub event_at : Line → Event
event_at line = line.event

-- The lines reach a world.
pub record Reaches (m : AppSpec) (served : ℕ → Bool) (Now : World → Type 0) (meant : Result World BadLine) : Type 0 where
  pub world : World
  pub meant_so : meant ≡ Ok world
  pub at : IsAt m served world
  pub now : Now world

-- The first line that is refused has this number, and this is the reason.
pub record Refuses (lines : List Line) (meant : Result World BadLine) (number : ℕ) (why : Why) : Type 0 where
  pub place : ℕ
  pub fault : StepFault
  pub meant_so : meant ≡ Err (record { place = place; why = fault })
  pub line : Line
  pub there : slice_get lines place ≡ Some line
  pub numbered : line.at ≡ number
  pub reported : refusal_at number fault ≡ Bad number why

-- Lines in order: the world of the code represents the one reached, or a line is refused. If memory ran out, nothing is stated.
abbrev pub LinesEnd : {X : Type 0} → AppSpec → (ℕ → Bool) → (X → World → Type 0) → List Line → Result X ReadSchedule
    → Result World BadLine → Type 0
LinesEnd m served Now lines (Ok x) meant = Reaches m served (Now x) meant
LinesEnd m served Now lines (Err (Bad number why)) meant = Refuses lines meant number why
LinesEnd m served Now lines (Err NoRoom) meant = ⊤

-- a schedule, from the initial world of its clients
abbrev pub PlaysSchedule : {X : Type 0} → AppSpec → (ℕ → Bool) → List ℕ → SchedulePlan → (X → World → Type 0) → Result X ReadSchedule
    → Type 0
PlaysSchedule m served numbers content Now result =
    LinesEnd m served Now content.lines result (plays m served (map event_at content.lines) (opening_for numbers content.clients))

-- The same for an application whose output is a page of bytes, if its counters are below 2^32 at the start.
abbrev pub PlaysIfPaged : {X : Type 0} → AppSpec → (ℕ → Bool) → List ℕ → SchedulePlan → (X → World → Type 0) → Result X ReadSchedule
    → Type 0
PlaysIfPaged m served numbers content Now result =
    (pages : Pages) → IsPaged m pages → HasBytes pages → All IsU32 numbers → PlaysSchedule m served numbers content Now result
