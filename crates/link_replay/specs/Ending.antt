-- How a replay and a load end, and what they write.
use Rattle.std.specs.Prelude.{◌≡◌, ◌≤◌, ◌⊎◌, ℕ, Bool, List, Option, Result, Ok, Err, ⊤}
use Rattle.file_tree.specs.Prelude.{HoldsFile, FindsInFiles, LacksFile, site_read}
use Rattle.site_image.specs.Prelude.{File}
use Rattle.site_image.specs.declared.site_error.SiteError.{SiteError}
use Rattle.site_report.specs.Prelude.{bad_line}
use Rattle.uip_edge.specs.Prelude.{Rose, Files, IsMissing, WritesAll, WritesPrefix, SinkView, WorkView}
use Rattle.link_replay.specs.Due.{IsPlayDue, IsTextDue}
use Rattle.link_replay.specs.declared.commands.replay_end.ReplayEnd.{ReplayEnd}
use Rattle.link_replay.specs.declared.commands.replay_end.ReplayEnd.TheVariants as ends
use Rattle.link_replay.specs.declared.commands.output_form.OutputForm.TheVariants.{Summary}
use Rattle.workload.specs.Prelude.{workload_of}

-- A text that is due was written with this end, and the fault counter of the shelf is unchanged.
pub record ReportsRun (Wrote : SinkView → SinkView → List ℕ → Type 0) (Is : List ℕ → Type 0) (old new : WorkView) : Type 0 where
  pub text : List ℕ
  pub is : Is text
  pub wrote : Wrote old.sink new.sink text
  pub shelf : new.shelf.faults ≡ old.shelf.faults

-- The shelf failed, or a file is missing: nothing was written.
pub record Lacks (Missing : Type 0) (old new : WorkView) : Type 0 where
  pub cause : Rose old.shelf.faults new.shelf.faults ⊎ Missing
  pub later : old.shelf.faults ≤ new.shelf.faults
  pub sink : new.sink ≡ old.sink

-- How a command ends, given the text due with each end and when a file is missing. A failed write leaves a prefix of the text.
abbrev pub EndsWith : (Option Files → List ℕ → ReplayEnd → Type 0) → (Option Files → Type 0) → WorkView → WorkView → ReplayEnd → Type 0
EndsWith Is Missing old new ends.WriteFault = ReportsRun WritesPrefix (λ text. (end : ReplayEnd) × Is old.shelf.held text end) old new
EndsWith Is Missing old new ends.ShelfFault = Lacks (Missing old.shelf.held) old new
EndsWith Is Missing old new ends.NoMemory = new ≡ old
EndsWith Is Missing old new end = ReportsRun WritesAll (λ text. Is old.shelf.held text end) old new

-- The text due for these files, with its end. It is the line of a bad image, or what the server and the text of the schedule give.
abbrev pub IsReplayText : List ℕ → List ℕ → Bool → Option Files → List ℕ → ReplayEnd → Type 0
IsReplayText site schedule show held text (ends.BadSite error) =
    FindsInFiles (site_read site) held (Err error) × HoldsFile held schedule (λ bytes. ⊤) × (text ≡ bad_line error)
IsReplayText site schedule show held text end =
    (files : List File) × (bytes : List ℕ) × FindsInFiles (site_read site) held (Ok files)
    × HoldsFile held schedule (λ content. content ≡ bytes) × IsTextDue files bytes show text end

-- The shelf is known to lack the site or the schedule.
abbrev pub LacksEither : List ℕ → List ℕ → Option Files → Type 0
LacksEither site schedule held = LacksFile (site_read site) held ⊎ IsMissing held schedule

abbrev pub ReplayEnds : List ℕ → List ℕ → Bool → WorkView → WorkView → ReplayEnd → Type 0
ReplayEnds site schedule show old new end = EndsWith (IsReplayText site schedule show) (LacksEither site schedule) old new end

-- A replay ends so for each name under which the site is read with this result.
abbrev pub ReplayEndsFor : Result (List File) SiteError → List ℕ → Bool → WorkView → WorkView → ReplayEnd → Type 0
ReplayEndsFor read schedule show old new end =
    (site : List ℕ) → FindsInFiles (site_read site) old.shelf.held read → ReplayEnds site schedule show old new end

-- The text due for these files and the schedule made from a seed, with its end. If the schedule is played to its end, it is the summary of
-- the world reached, which satisfies the guarantees.
abbrev pub IsLoadText : List ℕ → ℕ → ℕ → Option Files → List ℕ → ReplayEnd → Type 0
IsLoadText site seed clients held text (ends.BadSite error) = FindsInFiles (site_read site) held (Err error) × (text ≡ bad_line error)
IsLoadText site seed clients held text end =
    (files : List File) × FindsInFiles (site_read site) held (Ok files) × IsPlayDue files (workload_of seed clients) Summary text end

abbrev pub LoadEnds : List ℕ → ℕ → ℕ → WorkView → WorkView → ReplayEnd → Type 0
LoadEnds site seed clients old new end = EndsWith (IsLoadText site seed clients) (LacksFile (site_read site)) old new end
