-- What a run does to its environment, by the task that the words name.
use Rattle.std.specs.Prelude.{◌≡◌, ℕ, List, Option, None, Some}
use Rattle.site_commands.specs.Prelude.{check_due, page_due, pack_due, upgrade_due, Ends}
use Rattle.link_replay.specs.Prelude.{LoadEnds, ReplayEnds}
use Rattle.trace.specs.Prelude.{capture_file, Converts, dump_text, ReportsLine}
use Rattle.uipd.specs.declared.status.Status.{Status}
use Rattle.uipd.specs.declared.status.Status.TheVariants.{BadWords}
use Rattle.uipd.specs.Help.{Shows}
use Rattle.uipd.specs.SiteServing.{SiteServes}
use Rattle.uipd.specs.Statuses.{RunsAs, status_of_replay, status_of_serving, status_of_site, status_of_slip}
use Rattle.uip_edge.specs.Prelude.{LineView, Outside, WorkView, line_in, work_in}
use Rattle.uipd.specs.Words.{Task, Serves, Checks, Pages, Packs, Upgrades, Replays, Loads, Dumps, Captures, PlaysBack, ShowsText, task_of}

-- work on files, which leaves the line unchanged
abbrev pub FileWorks : {E : Type 0} → (E → Status) → (WorkView → WorkView → E → Type 0) → Outside → Outside → Status → Type 0
FileWorks status_of Ends old new result = RunsAs status_of (Ends (work_in old) (work_in new)) result × (new.link ≡ old.link)

-- work on a line, which leaves the shelf unchanged
abbrev pub LineWorks : {E : Type 0} → (E → Status) → (LineView → LineView → E → Type 0) → Outside → Outside → Status → Type 0
LineWorks status_of Ends old new result = RunsAs status_of (Ends (line_in old) (line_in new)) result × (new.shelf ≡ old.shelf)

-- Words without a form are reported, and only these; all other words are carried out.
-- [add: command] An arm: what a run of the task does.
abbrev pub TaskRuns : Option Task → Outside → Outside → Status → Type 0
TaskRuns None old new result = result ≡ BadWords
TaskRuns (Some (Serves site line)) old new result = SiteServes site line old new result
TaskRuns (Some (Checks site)) old new result = FileWorks status_of_site (Ends (check_due site)) old new result
TaskRuns (Some (Packs files)) old new result = FileWorks status_of_site (Ends (pack_due files)) old new result
TaskRuns (Some (Upgrades site kinds)) old new result = FileWorks status_of_site (Ends (upgrade_due site kinds)) old new result
TaskRuns (Some (Pages site target)) old new result = FileWorks status_of_site (Ends (page_due site target)) old new result
TaskRuns (Some (Replays site schedule show)) old new result = FileWorks status_of_replay (ReplayEnds site schedule show) old new result
TaskRuns (Some (Loads site seed clients)) old new result = FileWorks status_of_replay (LoadEnds site seed clients) old new result
TaskRuns (Some (Dumps n)) old new result = LineWorks status_of_serving (ReportsLine dump_text n) old new result
TaskRuns (Some (Captures n)) old new result = LineWorks status_of_serving (ReportsLine capture_file n) old new result
TaskRuns (Some (PlaysBack n)) old new result = LineWorks status_of_slip (Converts n) old new result
TaskRuns (Some (ShowsText text)) old new result = Shows text old.sink new.sink result × (new.shelf ≡ old.shelf) × (new.link ≡ old.link)

-- the top statement about a run
abbrev pub Runs : List (List ℕ) → Outside → Outside → Status → Type 0
Runs words old new result = TaskRuns (task_of words) old new result
