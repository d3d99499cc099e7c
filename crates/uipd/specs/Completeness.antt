-- The result of a run that nothing disturbs: no fault counter rises, and no file that the words name is missing.
use Rattle.std.specs.Prelude.{◌≡◌, ◌<◌, ◌⊎◌, ℕ, List, length, Option, None, Some, Err, Ok, ⊤}
use Rattle.std.specs.Io.KnownBytes.{Appends}
use Rattle.file_tree.specs.Prelude.{FindsInFiles, LacksFile, site_read}
use Rattle.site_image.specs.Prelude.{File}
use Rattle.site_image.specs.declared.site_error.SiteError.{SiteError}
use Rattle.site_commands.specs.Prelude.{Due, check_due, page_due, pack_due, upgrade_due, end_of}
use Rattle.link_replay.specs.Prelude.{IsLoadText, IsReplayText, LacksEither}
use Rattle.link_replay.specs.declared.commands.replay_end.ReplayEnd.{ReplayEnd}
use Rattle.trace.specs.Prelude.{capture_file, Converts, dump_text}
use Rattle.trace.specs.declared.slip_end.SlipEnd.{SlipEnd}
use Rattle.trace.specs.declared.slip_end.SlipEnd.TheVariants as slips
use Rattle.uip_edge.specs.Prelude.{Consumes, TookAll, LineView, Outside, line_in, Files}
use Rattle.uip_edge.specs.declared.item.Item.{Item}
use Rattle.uipd.specs.Output.{output_of}
use Rattle.uipd.specs.Running.{Runs}
use Rattle.uipd.specs.SiteServing.{IsUndisturbed}
use Rattle.uipd.specs.Statuses.{status_of_replay, status_of_site, status_of_slip}
use Rattle.uipd.specs.Words.{Task, Serves, Checks, Pages, Packs, Upgrades, Replays, Loads, Dumps, Captures, PlaysBack, ShowsText, task_of}
use Rattle.uipd.specs.declared.status.Status.{Status}
use Rattle.uipd.specs.declared.status.Status.TheVariants as status
use Rattle.uipd.specs.declared.words.ServedLine.{ServedLine}

-- The shelf is known to lack a file that the words name.
-- [add: command] An arm: the file that the task lacks.
abbrev pub LacksFor : Option Task → Option Files → Type 0
LacksFor None held = ⊥
LacksFor (Some (Serves site line)) held = LacksFile (site_read site) held
LacksFor (Some (Checks site)) held = LacksFile (check_due site) held
LacksFor (Some (Packs files)) held = LacksFile (pack_due files) held
LacksFor (Some (Upgrades site kinds)) held = LacksFile (upgrade_due site kinds) held
LacksFor (Some (Pages site target)) held = LacksFile (page_due site target) held
LacksFor (Some (Replays site schedule show)) held = LacksEither site schedule held
LacksFor (Some (Loads site seed clients)) held = LacksFile (site_read site) held
LacksFor (Some (Dumps n)) held = ⊥
LacksFor (Some (Captures n)) held = ⊥
LacksFor (Some (PlaysBack n)) held = ⊥
LacksFor (Some (ShowsText text)) held = ⊥

-- The line ended before n items, or n were consumed, and the output due for the items was written.
pub record LineDone (text : List Item → List ℕ) (n : ℕ) (old new : LineView) (result : Status) : Type 0 where
  pub taken : List Item
  pub consumed : Consumes old.link.coming new.link.coming taken
  pub written : Appends old.sink.written new.sink.written (text taken)
  pub ends : ((result ≡ status.Done) × TookAll old.link.coming taken × (length taken < n)) ⊎ ((result ≡ status.Budget) × (length taken ≡ n))

-- The line was served with the files of the site, or the site is bad.
abbrev pub ServingDone : List ℕ → ServedLine → Outside → Outside → Status → Type 0
ServingDone site line old new result =
    ((files : List File) × FindsInFiles (site_read site) old.shelf.held (Ok files)
    × LineDone (output_of files line) line.limits.items (line_in old) (line_in new) result)
    ⊎ ((error : SiteError) × FindsInFiles (site_read site) old.shelf.held (Err error) × (result ≡ status.BadSite error))

-- The text due for the files was written, and the result is the one that belongs to it.
abbrev pub ImageDone : (Files → Option Due) → Outside → Outside → Status → Type 0
ImageDone due old new result = (made : Due) × FindsInFiles due old.shelf.held made
    × Appends old.sink.written new.sink.written made.text × (result ≡ status_of_site (end_of made.fault))

abbrev pub ReplayDone : (List ℕ → ReplayEnd → Type 0) → Outside → Outside → Status → Type 0
ReplayDone Is old new result =
    (end : ReplayEnd) × (text : List ℕ) × Is text end × Appends old.sink.written new.sink.written text × (result ≡ status_of_replay end)

-- no fault of the line or the sink
abbrev pub IsFaultless : SlipEnd → Type 0
IsFaultless slips.LinkFault = ⊥
IsFaultless slips.WriteFault = ⊥
IsFaultless slips.End = ⊤
IsFaultless slips.Budget = ⊤
IsFaultless (slips.Bad number why) = ⊤

abbrev pub CaptureDone : ℕ → Outside → Outside → Status → Type 0
CaptureDone n old new result =
    (end : SlipEnd) × IsFaultless end × Converts n (line_in old) (line_in new) end × (result ≡ status_of_slip end)

-- Memory ran out instead.
abbrev pub OrShort : Status → Type 0 → Type 0
OrShort result Done = (result ≡ status.NoMemory) ⊎ Done

-- What is due was done, by the task that the words name.
-- [add: command] An arm: the result if nothing disturbs it.
abbrev pub Completes : Option Task → Outside → Outside → Status → Type 0
Completes None old new result = result ≡ status.BadWords
Completes (Some (Serves site line)) old new result = OrShort result (ServingDone site line old new result)
Completes (Some (Checks site)) old new result = OrShort result (ImageDone (check_due site) old new result)
Completes (Some (Packs files)) old new result = OrShort result (ImageDone (pack_due files) old new result)
Completes (Some (Upgrades site kinds)) old new result = OrShort result (ImageDone (upgrade_due site kinds) old new result)
Completes (Some (Pages site target)) old new result = OrShort result (ImageDone (page_due site target) old new result)
Completes (Some (Replays site schedule show)) old new result =
    OrShort result (ReplayDone (IsReplayText site schedule show old.shelf.held) old new result)
Completes (Some (Loads site seed clients)) old new result =
    OrShort result (ReplayDone (IsLoadText site seed clients old.shelf.held) old new result)
Completes (Some (Dumps n)) old new result = LineDone dump_text n (line_in old) (line_in new) result
Completes (Some (Captures n)) old new result = LineDone capture_file n (line_in old) (line_in new) result
Completes (Some (PlaysBack n)) old new result = CaptureDone n old new result
Completes (Some (ShowsText text)) old new result = Appends old.sink.written new.sink.written text × (result ≡ status.Done)

-- A run is complete: if no fault counter rose and no file is missing, what is due for the words was done.
abbrev pub RunIsComplete : Type 0
RunIsComplete =
    (words : List (List ℕ)) (old new : Outside) (result : Status) → Runs words old new result → IsUndisturbed old new
    → ¬ (LacksFor (task_of words) old.shelf.held) → Completes (task_of words) old new result
