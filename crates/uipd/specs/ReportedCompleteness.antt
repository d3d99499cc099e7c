-- The result of a run that nothing disturbs, `resolve` included, which has a second output.
-- [add: told-command] Its result if nothing disturbs it.
use Rattle.std.specs.Prelude.{◌≡◌, ℕ, List, Option, None, Some}
use Rattle.udp_resolver.specs.Prelude.{WroteAll, Streams, StreamsUnfailed}
use Rattle.uip_edge.specs.Prelude.{Consumes, Outside}
use Rattle.uip_edge.specs.declared.item.Item.{Item}
use Rattle.uip_edge.specs.declared.serve_end.ServeEnd.{ServeEnd}
use Rattle.uipd.specs.Completeness.{Completes, LacksFor, OrShort}
use Rattle.uipd.specs.ResolveWords.{Resolving, resolving_of}
use Rattle.uipd.specs.SiteServing.{IsUndisturbed}
use Rattle.uipd.specs.Statuses.{status_of_serving}
use Rattle.uipd.specs.ReportedRunning.{ReportedRuns, questions_of}
use Rattle.uipd.specs.Words.{task_of}
use Rattle.uipd.specs.declared.status.Status.{Status}

-- The names were asked for until all were settled, the line ended, or the number of items was consumed. The result of each was written.
pub record ResolvingDone (r : Resolving) (old new : Streams) (result : Status) : Type 0 where
  pub taken : List Item
  pub consumed : Consumes old.line.link.coming new.line.link.coming taken
  pub end : ServeEnd
  pub wrote : WroteAll (questions_of r) r.items old new taken end
  pub answer : result ≡ status_of_serving end

-- What is due for the words was done.
abbrev pub ReportCompletes : Option Resolving → List (List ℕ) → Outside → Outside → Streams → Streams → Status → Type 0
ReportCompletes None words old new before after result = Completes (task_of words) old new result
ReportCompletes (Some r) words old new before after result = OrShort result (ResolvingDone r before after result)

-- A run is complete for any words: if no fault counter rose and no file is missing, what is due was done.
abbrev pub ReportIsComplete : Type 0
ReportIsComplete =
    (words : List (List ℕ)) (old new : Outside) (before after : Streams) (result : Status)
    → ReportedRuns words old new before after result → IsUndisturbed old new → StreamsUnfailed before after
    → ¬ (LacksFor (task_of words) old.shelf.held) → ReportCompletes (resolving_of words) words old new before after result
