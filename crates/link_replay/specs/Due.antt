-- The text that a replay writes, and how it ends.
use Rattle.std.specs.Prelude.{◌≡◌, ◌⊎◌, ℕ, Bool, List, MatchResult, Ok}
use Rattle.site_image.specs.Prelude.{File}
use Rattle.uip_edge.specs.Prelude.{SinkView, WritesEnd}
use Rattle.web_pages.specs.Prelude.{pages_of}
use Rattle.link_world.specs.Prelude.{IsServedWhole, World}
use Rattle.link_schedule.specs.Clients.{Plan}
use Rattle.link_schedule.specs.Reading.{SchedulePlan, read_text}
use Rattle.link_schedule.specs.declared.read_schedule.ReadSchedule.{ReadSchedule}
use Rattle.link_schedule.specs.declared.read_schedule.ReadSchedule.TheVariants.{Bad, NoMemory}
use Rattle.link_replay.specs.Playing.{Refuses}
use Rattle.link_replay.specs.Report.{report}
use Rattle.link_replay.specs.Summary.{summary_of}
use Rattle.link_replay.specs.Honest.{IsHonest}
use Rattle.link_replay.specs.Outcome.{bad_schedule, outcome}
use Rattle.link_replay.specs.Promises.{KeepsPromises}
use Rattle.link_replay.specs.declared.commands.replay_end.ReplayEnd.{ReplayEnd}
use Rattle.link_replay.specs.declared.commands.replay_end.ReplayEnd.TheVariants as ends
use Rattle.link_replay.specs.declared.commands.output_form.OutputForm.{OutputForm}
use Rattle.link_replay.specs.declared.commands.output_form.OutputForm.TheVariants.{Report, Summary}

-- the text reported about a world
abbrev pub reported_of : OutputForm → World → List ℕ
reported_of (Report show) w = report show w
reported_of Summary w = summary_of w

-- The schedule was played to its end by the server of these files. The text reports the world reached, which satisfies the guarantees. If
-- the schedule has one client over a link that loses nothing, the client has its whole page.
pub record ReportsWorld (files : List File) (content : SchedulePlan) (chosen_form : OutputForm) (text : List ℕ) : Type 0 where
  pub world : World
  pub plays : outcome files content ≡ Ok world
  pub reported : text ≡ reported_of chosen_form world
  pub promises : KeepsPromises files world
  pub honest : (plan : Plan) → IsHonest files content plan → IsServedWhole (pages_of files) world

-- The schedule reaches a world with the server of these files. A world of the code represents it, and this property holds for it.
pub record HasReached (files : List File) (content : SchedulePlan) (Represents Holds : World → Type 0) : Type 0 where
  pub world : World
  pub plays : outcome files content ≡ Ok world
  pub represents : Represents world
  pub holds : Holds world

-- If the schedule has one client over a link that loses nothing, the client has its whole page.
abbrev pub ServesHonest : List File → SchedulePlan → World → Type 0
ServesHonest files content w = (plan : Plan) → IsHonest files content plan → IsServedWhole (pages_of files) w

-- the text that is due with an end, for the files of a site and a schedule
abbrev pub IsPlayDue : List File → SchedulePlan → OutputForm → List ℕ → ReplayEnd → Type 0
IsPlayDue files content chosen_form text ends.Done = ReportsWorld files content chosen_form text
IsPlayDue files content chosen_form text (ends.BadSchedule line why) =
    Refuses content.lines (outcome files content) line why × (text ≡ bad_schedule line why)
IsPlayDue files content chosen_form text _ = ⊥

-- The text that is due with an end, for the files of a site and the text of a schedule. It is that of the schedule in the text, or the
-- line of its first bad line.
abbrev pub IsTextDue : List File → List ℕ → Bool → List ℕ → ReplayEnd → Type 0
IsTextDue files bytes show text end =
    MatchResult (read_text bytes) (λ content. IsPlayDue files content (Report show) text end)
    (λ bad. (end ≡ ends.BadSchedule bad.line bad.why) × (text ≡ bad_schedule bad.line bad.why))

-- Memory ran out, and nothing was written.
abbrev pub IsShort : SinkView → SinkView → ReplayEnd → Type 0
IsShort old new result = (result ≡ ends.NoMemory) × (new ≡ old)

-- The text was written with this end, or memory ran out.
abbrev pub WritesText : List ℕ → ReplayEnd → SinkView → SinkView → ReplayEnd → Type 0
WritesText text end old new result = WritesEnd end ends.WriteFault old new text result ⊎ IsShort old new result

-- A text that is due with an end was written, or memory ran out.
abbrev pub WritesDue : (List ℕ → ReplayEnd → Type 0) → SinkView → SinkView → ReplayEnd → Type 0
WritesDue Due old new result =
    ((text : List ℕ) × (end : ReplayEnd) × Due text end × WritesEnd end ends.WriteFault old new text result) ⊎ IsShort old new result

-- The line of a bad schedule was written, or memory ran out.
abbrev pub WritesFault : ReadSchedule → SinkView → SinkView → ReplayEnd → Type 0
WritesFault (Bad line why) old new result = WritesText (bad_schedule line why) (ends.BadSchedule line why) old new result
WritesFault NoMemory old new result = IsShort old new result
