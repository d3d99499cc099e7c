-- A text that was written ends the replay as is due.
use Rattle.link_replay.proofs.Prelude.{◌≡◌, ℕ, List, Option, Ok, Err, sym, subst, refl, inl, inr, Bool, ⊤, HoldsFile, File, SiteError}
use Rattle.link_replay.proofs.Prelude.{FindsInFiles, LacksFile, site_read, Files, bad_line, EndsWith, IsLoadText, IsReplayText, LacksEither}
use Rattle.link_replay.proofs.Prelude.{LoadEnds, ReplayEnds, WritesDue, IsPlayDue, IsShort, IsTextDue, WritesText, ReplayEnd, Summary}
use Rattle.link_replay.proofs.Prelude.{workload_of, WorkView, WritesEnd, WritesAll}
use Rattle.link_replay.specs.declared.commands.replay_end.ReplayEnd.TheVariants as ends
use Rattle.link_replay.proofs.ReportTexts.{IsProperPrefixOf, holds_file, is_text, text_ends}

pub same_work : (old new : WorkView) → new.shelf.held ≡ old.shelf.held → new.sink ≡ old.sink → new.shelf.faults ≡ old.shelf.faults → new ≡ old
same_work old new held sink faults = λ i. record { shelf = record { held = held i; faults = faults i }; sink = sink i }

-- an end that goes with a text
abbrev pub IsReportedEnd : ReplayEnd → Type 0
IsReportedEnd ends.Done = ⊤
IsReportedEnd (ends.BadSite error) = ⊤
IsReportedEnd (ends.BadSchedule line why) = ⊤
IsReportedEnd _ = ⊥

module _ (Is : Option Files → List ℕ → ReplayEnd → Type 0) (Missing : Option Files → Type 0) (old new : WorkView)
    (only : (text : List ℕ) (end : ReplayEnd) → Is old.shelf.held text end → IsReportedEnd end)
    (held : new.shelf.held ≡ old.shelf.held) (shelf : new.shelf.faults ≡ old.shelf.faults) where
  -- the whole text
  whole_ends : (text : List ℕ) (end : ReplayEnd) → Is old.shelf.held text end → WritesAll old.sink new.sink text → EndsWith Is Missing old new end
  whole_ends text ends.Done is wrote = record { text = text; is = is; wrote = wrote; shelf = shelf }
  whole_ends text (ends.BadSite error) is wrote = record { text = text; is = is; wrote = wrote; shelf = shelf }
  whole_ends text (ends.BadSchedule line why) is wrote = record { text = text; is = is; wrote = wrote; shelf = shelf }
  whole_ends text ends.ShelfFault is wrote = absurd (only text ends.ShelfFault is)
  whole_ends text ends.WriteFault is wrote = absurd (only text ends.WriteFault is)
  whole_ends text ends.NoMemory is wrote = absurd (only text ends.NoMemory is)

  -- the text, or a prefix of it
  pub written_ends : (text : List ℕ) (end result : ReplayEnd) → Is old.shelf.held text end
      → WritesEnd end ends.WriteFault old.sink new.sink text result → EndsWith Is Missing old new result
  written_ends text end result is (inl done) = subst (EndsWith Is Missing old new) (sym done.0) (whole_ends text end is done.1)
  written_ends text end result is (inr failed) =
      subst (EndsWith Is Missing old new) (sym failed.0)
      (record { text = text; is = (end, is); wrote = failed.1; shelf = shelf })

  pub short_ends : (result : ReplayEnd) → IsShort old.sink new.sink result → EndsWith Is Missing old new result
  short_ends result short = subst (EndsWith Is Missing old new) (sym short.0) (same_work old new held short.1 shelf)

module _ (site schedule : List ℕ) (show : Bool) (old new : WorkView) (held : new.shelf.held ≡ old.shelf.held)
    (shelf : new.shelf.faults ≡ old.shelf.faults) where
  only_text : (text : List ℕ) (end : ReplayEnd) → IsReplayText site schedule show old.shelf.held text end → IsReportedEnd end
  only_text text ends.Done is = tt
  only_text text (ends.BadSite error) is = tt
  only_text text (ends.BadSchedule line why) is = tt
  only_text text ends.ShelfFault is = absurd (text_ends is.0 is.1 show text ends.ShelfFault is.4)
  only_text text ends.WriteFault is = absurd (text_ends is.0 is.1 show text ends.WriteFault is.4)
  only_text text ends.NoMemory is = absurd (text_ends is.0 is.1 show text ends.NoMemory is.4)

  -- the bytes that were read of the schedule's file
  pub schedule_ends : (files : List File) (bytes : List ℕ) (result : ReplayEnd) → FindsInFiles (site_read site) old.shelf.held (Ok files)
      → HoldsFile old.shelf.held schedule (IsProperPrefixOf bytes)
      → WritesDue (IsTextDue files bytes show) old.sink new.sink result → ReplayEnds site schedule show old new result
  schedule_ends files bytes result read prefix (inl reported) =
      written_ends (IsReplayText site schedule show) (LacksEither site schedule) old new only_text held shelf reported.0 reported.1 result
      (is_text site schedule show old.shelf.held files bytes reported.0 reported.1 read prefix reported.2) reported.3
  schedule_ends files bytes result read prefix (inr short) =
      short_ends (IsReplayText site schedule show) (LacksEither site schedule) old new only_text held shelf result short

  -- the line of a bad image
  pub image_ends : (error : SiteError) (bytes : List ℕ) (result : ReplayEnd) → FindsInFiles (site_read site) old.shelf.held (Err error)
      → HoldsFile old.shelf.held schedule (IsProperPrefixOf bytes)
      → WritesText (bad_line error) (ends.BadSite error) old.sink new.sink result → ReplayEnds site schedule show old new result
  image_ends error bytes result read prefix (inl wrote) =
      written_ends (IsReplayText site schedule show) (LacksEither site schedule) old new only_text held shelf (bad_line error) (ends.BadSite error) result
      (read, holds_file (IsProperPrefixOf bytes) (λ content. ⊤) (λ content e. tt) old.shelf.held schedule prefix, refl) wrote
  image_ends error bytes result read prefix (inr short) =
      short_ends (IsReplayText site schedule show) (LacksEither site schedule) old new only_text held shelf result short

module _ (site : List ℕ) (seed clients : ℕ) (old new : WorkView) (held : new.shelf.held ≡ old.shelf.held) (shelf : new.shelf.faults ≡ old.shelf.faults) where
  only_load : (text : List ℕ) (end : ReplayEnd) → IsLoadText site seed clients old.shelf.held text end → IsReportedEnd end
  only_load text ends.Done is = tt
  only_load text (ends.BadSite error) is = tt
  only_load text (ends.BadSchedule line why) is = tt
  only_load text _ is = absurd is.2

  load_text : (files : List File) (text : List ℕ) (end : ReplayEnd) → FindsInFiles (site_read site) old.shelf.held (Ok files)
      → IsPlayDue files (workload_of seed clients) Summary text end
      → IsLoadText site seed clients old.shelf.held text end
  load_text files text ends.Done read due = (files, read, due)
  load_text files text (ends.BadSchedule line why) read due = (files, read, due)
  load_text files text _ read due = absurd due

  -- the schedule that the number makes was played
  pub load_ends : (files : List File) (result : ReplayEnd) → FindsInFiles (site_read site) old.shelf.held (Ok files)
      → WritesDue (IsPlayDue files (workload_of seed clients) Summary) old.sink new.sink result → LoadEnds site seed clients old new result
  load_ends files result read (inl reported) =
      written_ends (IsLoadText site seed clients) (LacksFile (site_read site)) old new only_load held shelf reported.0 reported.1 result
      (load_text files reported.0 reported.1 read reported.2) reported.3
  load_ends files result read (inr short) = short_ends (IsLoadText site seed clients) (LacksFile (site_read site)) old new only_load held shelf result short

  -- the line of a bad image
  pub load_image_ends : (error : SiteError) (result : ReplayEnd) → FindsInFiles (site_read site) old.shelf.held (Err error)
      → WritesText (bad_line error) (ends.BadSite error) old.sink new.sink result → LoadEnds site seed clients old new result
  load_image_ends error result read (inl wrote) =
      written_ends (IsLoadText site seed clients) (LacksFile (site_read site)) old new only_load held shelf (bad_line error)
      (ends.BadSite error) result (read, refl) wrote
  load_image_ends error result read (inr short) = short_ends (IsLoadText site seed clients) (LacksFile (site_read site)) old new only_load
      held shelf result short
