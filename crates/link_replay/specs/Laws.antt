-- The result of a replay or a load if nothing disturbs its environment, and which line of a generated schedule is refused.
use Rattle.std.specs.Prelude.{◌≡◌, ◌≤◌, ◌⊎◌, ℕ, Bool, List, Ok}
use Rattle.std.specs.Io.KnownBytes.{Appends}
use Rattle.file_tree.specs.Prelude.{SiteContent, IsLoaded, files_of, LacksFile, site_read}
use Rattle.site_image.specs.Prelude.{File}
use Rattle.web_pages.specs.Prelude.{pages_of}
use Rattle.link_replay.specs.Honest.{IsHonest}
use Rattle.link_world.specs.Prelude.{World, IsServedWhole}
use Rattle.link_schedule.specs.Clients.{Plan}
use Rattle.link_schedule.specs.Reading.{SchedulePlan, read_text}
use Rattle.link_replay.specs.Playing.{Refuses}
use Rattle.link_schedule.specs.declared.why.Why.{Why}
use Rattle.link_schedule.specs.declared.why.Why.TheVariants.{Full}
use Rattle.workload.specs.Prelude.{workload_of}
use Rattle.link_replay.specs.Ending.{IsLoadText, IsReplayText, LacksEither, LoadEnds, ReplayEnds}
use Rattle.link_replay.specs.Outcome.{IsPlayed, outcome}
use Rattle.link_replay.specs.declared.commands.replay_end.ReplayEnd.{ReplayEnd}
use Rattle.uip_edge.specs.Prelude.{WorkView, WorkUnfailed}
use Rattle.link_replay.specs.declared.commands.replay_end.ReplayEnd.TheVariants as ends

-- The whole text due with the end was written, or memory ran out.
abbrev pub WroteDue : (List ℕ → ReplayEnd → Type 0) → WorkView → WorkView → ReplayEnd → Type 0
WroteDue Is old new end = (end ≡ ends.NoMemory) ⊎ ((text : List ℕ) × Is text end × Appends old.sink.written new.sink.written text)

-- If no fault counter rose and no file is missing, a replay ends as is due.
abbrev pub ReplayIsReported : Type 0
ReplayIsReported =
    (site schedule : List ℕ) (show : Bool) (old new : WorkView) (end : ReplayEnd)
    → ReplayEnds site schedule show old new end → WorkUnfailed old new
    → ¬ (LacksEither site schedule old.shelf.held) → WroteDue (IsReplayText site schedule show old.shelf.held) old new end

-- If no fault counter rose and the site is not missing, a load ends as is due.
abbrev pub LoadIsReported : Type 0
LoadIsReported =
    (site : List ℕ) (seed clients : ℕ) (old new : WorkView) (end : ReplayEnd)
    → LoadEnds site seed clients old new end → WorkUnfailed old new
    → ¬ (LacksFile (site_read site) old.shelf.held) → WroteDue (IsLoadText site seed clients old.shelf.held) old new end

-- The schedule of one cooperating client is played to its end, and the client has its whole page.
abbrev pub HonestReplay : Type 0
HonestReplay =
    (site : SiteContent) → IsLoaded site → (text : List ℕ) (content : SchedulePlan) → read_text text ≡ Ok content → (plan : Plan)
    → IsHonest (files_of site) content plan → (w : World) × IsPlayed (files_of site) text w × IsServedWhole (pages_of (files_of site)) w

-- A line of a schedule made from a seed is refused only if numbers ran out.
abbrev pub OnlyFull : Type 0
OnlyFull =
    (files : List File) (seed clients line : ℕ) (reason : Why) → 1 ≤ clients
    → Refuses (workload_of seed clients).lines (outcome files (workload_of seed clients)) line reason → reason ≡ Full
