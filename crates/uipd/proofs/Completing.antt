-- A run that nothing outside disturbs does what is due for its words.
-- [add: command] The result of a command that nothing disturbs.
use Rattle.uipd.proofs.Prelude.{◌≡◌, ℕ, ◌-◌, ◌^◌, ◌<◌, ◌≤◌, List, Option, None, Some, Ok, Err, refl, sym, ap, subst, ◌∙◌, inl, inr, arith}
use Rattle.uipd.proofs.Prelude.{◌⊎◌, ⊤, File, LoadFault, FailsToOpen, LacksFile, site_read, Due, Ends, SiteEnd, EndsWith, IsLoadText}
use Rattle.uipd.proofs.Prelude.{IsReplayText, LacksEither, WroteDue, ReplayEnd, as_due, LineView, LineUnfailed, Outside, WorkView}
use Rattle.uipd.proofs.Prelude.{WorkUnfailed, line_in, work_in, Converts, ReportsLine, SlipEnd, Rose, Files, Item, ServeEnd, CaptureDone}
use Rattle.uipd.proofs.Prelude.{Completes, ImageDone, LacksFor, LineDone, OrShort, ReplayDone, RunIsComplete, ServingDone, no_hits}
use Rattle.uipd.proofs.Prelude.{app_spec_of, output_of, ports_of, TaskRuns, ServeRuns, ServesBy, IsUndisturbed, SiteServes, RunsAs}
use Rattle.uipd.proofs.Prelude.{status_of_fault, status_of_replay, status_of_serving, status_of_site, status_of_slip, Task, Serves, Checks}
use Rattle.uipd.proofs.Prelude.{Pages, Packs, Upgrades, Replays, Loads, Dumps, Captures, PlaysBack, ShowsText, task_of, ServedLine, Status}
use Rattle.file_tree.specs.declared.load_fault.LoadFault.TheVariants as loads
use Rattle.site_commands.specs.declared.site_end.SiteEnd.TheVariants as sites
use Rattle.link_replay.specs.declared.commands.replay_end.ReplayEnd.TheVariants as replays
use Rattle.trace.specs.declared.slip_end.SlipEnd.TheVariants as slips
use Rattle.uip_edge.specs.declared.serve_end.ServeEnd.TheVariants as serves
use Rattle.uipd.specs.declared.status.Status.TheVariants as status

-- a count that stays below its end value did not rise
pub stayed : (before now : ℕ) → now ≡ before → before < 2 ^ 64 - 1 → Rose before now → ⊥
stayed before now e below rose = omega (arith, e, below, rose)

calm : (old new : Outside) → IsUndisturbed old new → WorkUnfailed (work_in old) (work_in new)
calm old new u = record { shelf = u.shelf; sink = u.line.sink }

-- ---- a line

line_done : (text : List Item → List ℕ) (n : ℕ) (old new : LineView) (result : Status) (end : ServeEnd) → LineUnfailed old new
    → result ≡ status_of_serving end → ReportsLine text n old new end → LineDone text n old new result
line_done text n old new result serves.End u e t = record { taken = t.taken; consumed = t.consumed; written = t.wrote; ends = inl (e, t.ends.0, t.ends.1) }
line_done text n old new result serves.Budget u e t = record { taken = t.taken; consumed = t.consumed; written = t.wrote; ends = inr (e, t.ends.0) }
line_done text n old new result serves.LinkFault u e t = absurd (stayed old.link.faults new.link.faults u.link.same u.link.below t.ends.1)
line_done text n old new result serves.WriteFault u e t = absurd (stayed old.sink.faults new.sink.faults u.sink.same u.sink.below t.ends.2)

served : (files : List File) (line : ServedLine) (old new : LineView) (result : Status) (end : ServeEnd) → LineUnfailed old new
    → result ≡ status_of_serving end → ServesBy (app_spec_of line.application files) (ports_of line.application) (no_hits files) line old new end
    → LineDone (output_of files line) line.limits.items old new result
served files line old new result serves.End u e t = record { taken = t.taken; consumed = t.consumed; written = t.written; ends = inl (e, t.ends.0, t.ends.1) }
served files line old new result serves.Budget u e t = record { taken = t.taken; consumed = t.consumed; written = t.written; ends = inr (e, t.ends.0) }
served files line old new result serves.LinkFault u e t = absurd (stayed old.link.faults new.link.faults u.link.same u.link.below t.ends.1)
served files line old new result serves.WriteFault u e t = absurd (stayed old.sink.faults new.sink.faults u.sink.same u.sink.below t.ends.2)

no_site : (site : List ℕ) (line : ServedLine) (old new : Outside) (result : Status) (fault : LoadFault) → IsUndisturbed old new
    → ¬ (LacksFile (site_read site) old.shelf.held) → result ≡ status_of_fault fault
    → FailsToOpen site old.shelf.held old.shelf.faults new.shelf.faults fault → OrShort result (ServingDone site line old new result)
no_site site line old new result loads.Shelf u there reported (inl rose, later) = absurd
    (stayed old.shelf.faults new.shelf.faults u.shelf.same u.shelf.below rose)
no_site site line old new result loads.Shelf u there reported (inr gone, later) = absurd (there gone)
no_site site line old new result (loads.Bad error) u there reported (is, same) = inr (inr (error, is, reported))
no_site site line old new result loads.NoMemory u there reported same = inl reported

serving : (site : List ℕ) (line : ServedLine) (old new : Outside) (result : Status) → SiteServes site line old new result
    → IsUndisturbed old new → ¬ (LacksFile (site_read site) old.shelf.held) → OrShort result (ServingDone site line old new result)
serving site line old new result (inl has) u there =
    elim has.done [
      | inl run ↦ inr (inl (has.files, has.read, served has.files line (line_in old) (line_in new) result run.0 u.line run.1 run.2.serves))
      | inr short ↦ inl short.0
    ]
serving site line old new result (inr none) u there = no_site site line old new result none.fault u there none.reported none.fails

-- ---- an image

image_by : (due : Files → Option Due) (old new : Outside) (result : Status) (end : SiteEnd) → status_of_site end ≡ result
    → Ends due (work_in old) (work_in new) end → WorkUnfailed (work_in old) (work_in new)
    → ¬ (LacksFile due old.shelf.held) → OrShort result (ImageDone due old new result)
image_by due old new result sites.Done e t c there = inr (record { text = t.0; fault = None }, t.1.0, t.1.1.whole, sym e)
image_by due old new result (sites.Bad error) e t c there = inr (record { text = t.0; fault = Some error }, t.1.0, t.1.1.whole, sym e)
image_by due old new result sites.ShelfFault e t c there =
    elim t.0 [ inl rose ↦ absurd (stayed old.shelf.faults new.shelf.faults c.shelf.same c.shelf.below rose) | inr lacks ↦ absurd (there lacks) ]
image_by due old new result sites.WriteFault e t c there = absurd (stayed old.sink.faults new.sink.faults c.sink.same c.sink.below t.1.1.rose)
image_by due old new result sites.NoMemory e t c there = inl (sym e)

image : (due : Files → Option Due) (old new : Outside) (result : Status) → RunsAs status_of_site (Ends due (work_in old) (work_in new))
    result → IsUndisturbed old new → ¬ (LacksFile due old.shelf.held) → OrShort result (ImageDone due old new result)
image due old new result run u there = image_by due old new result run.0 (sym run.1) run.2 (calm old new u) there

-- ---- a replay

replayed : (Is : Option Files → List ℕ → ReplayEnd → Type 0) (Missing : Option Files → Type 0) (old new : Outside) (result : Status)
    → RunsAs status_of_replay (EndsWith Is Missing (work_in old) (work_in new)) result → IsUndisturbed old new
    → ¬ (Missing old.shelf.held) → OrShort result (ReplayDone (Is old.shelf.held) old new result)
replayed Is Missing old new result run u there =
    elim (as_due Is Missing (work_in old) (work_in new) run.0 run.2 (calm old new u) there) [
      | inl short ↦ inl (run.1 ∙ ap status_of_replay short)
      | inr made ↦ inr (run.0, made.0, made.1, made.2, run.1)
    ]

-- ---- a capture

capture_by : (n : ℕ) (old new : Outside) (result : Status) (end : SlipEnd) → result ≡ status_of_slip end
    → Converts n (line_in old) (line_in new) end → LineUnfailed (line_in old) (line_in new) → CaptureDone n old new result
capture_by n old new result slips.End e t u = (slips.End, tt, t, e)
capture_by n old new result slips.Budget e t u = (slips.Budget, tt, t, e)
capture_by n old new result (slips.Bad number why) e t u = (slips.Bad number why, tt, t, e)
capture_by n old new result slips.LinkFault e t u = absurd (stayed old.link.faults new.link.faults u.link.same u.link.below t.ends.0.1)
capture_by n old new result slips.WriteFault e t u = absurd (stayed old.sink.faults new.sink.faults u.sink.same u.sink.below t.ends.2)

-- ---- by the words

by_task : (task : Option Task) (old new : Outside) (result : Status) → TaskRuns task old new result → IsUndisturbed old new
    → ¬ (LacksFor task old.shelf.held) → Completes task old new result
by_task None old new result run u there = run
by_task (Some (Serves site line)) old new result run u there = serving site line old new result run u there
by_task (Some (Checks site)) old new result run u there = image _ old new result run.0 u there
by_task (Some (Packs files)) old new result run u there = image _ old new result run.0 u there
by_task (Some (Upgrades site kinds)) old new result run u there = image _ old new result run.0 u there
by_task (Some (Pages site target)) old new result run u there = image _ old new result run.0 u there
by_task (Some (Replays site schedule show)) old new result run u there = replayed (IsReplayText site schedule show)
    (LacksEither site schedule) old new result run.0 u there
by_task (Some (Loads site seed clients)) old new result run u there = replayed (IsLoadText site seed clients) (LacksFile (site_read site))
    old new result run.0 u there
by_task (Some (Dumps n)) old new result run u there = (let r = run.0 in line_done _ n (line_in old) (line_in new) result r.0 u.line r.1 r.2)
by_task (Some (Captures n)) old new result run u there = (let r = run.0 in line_done _ n (line_in old) (line_in new) result r.0 u.line r.1 r.2)
by_task (Some (PlaysBack n)) old new result run u there = (let r = run.0 in capture_by n old new result r.0 r.1 r.2 u.line)
by_task (Some (ShowsText text)) old new result run u there =
    elim run.0 [
      | inl done ↦ (done.1.whole, done.0)
      | inr failed ↦ absurd (stayed old.sink.faults new.sink.faults u.line.sink.same u.line.sink.below failed.1.rose)
    ]

pub run_is_complete : RunIsComplete
run_is_complete words old new result run u there = by_task (task_of words) old new result run u there
