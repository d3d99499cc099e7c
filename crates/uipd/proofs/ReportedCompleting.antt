-- A run that nothing outside disturbs does what is due for its words, those of `resolve` too.
-- [add: told-command] The result of a run that nothing disturbs.
use Rattle.uipd.proofs.Prelude.{◌≡◌, ℕ, List, Option, None, Some, inl, inr, Resolves, Streams, StreamsUnfailed, Outside, ServeEnd, LacksFor}
use Rattle.uipd.proofs.Prelude.{OrShort, Resolving, resolving_of, IsUndisturbed, status_of_serving, ResolvingDone, ReportCompletes}
use Rattle.uipd.proofs.Prelude.{ReportIsComplete, ResolveRuns, ReportedBy, questions_of, task_of, Status}
use Rattle.uip_edge.specs.declared.serve_end.ServeEnd.TheVariants as ends
use Rattle.uipd.proofs.Completing.{run_is_complete, stayed}

resolved : (r : Resolving) (old new : Streams) (result : Status) (end : ServeEnd) → StreamsUnfailed old new → result ≡ status_of_serving end
    → Resolves (questions_of r) r.items old new end → ResolvingDone r old new result
resolved r old new result ends.End u e t = record { taken = t.taken; consumed = t.consumed; end = ends.End; wrote = t.ends; answer = e }
resolved r old new result ends.Budget u e t = record { taken = t.taken; consumed = t.consumed; end = ends.Budget; wrote = t.ends; answer = e }
resolved r old new result ends.LinkFault u e t =
    absurd (stayed old.line.link.faults new.line.link.faults u.line.link.same u.line.link.below t.ends.rose)
resolved r old new result ends.WriteFault u e t =
    elim t.ends [
      | inl out ↦ absurd (stayed old.line.sink.faults new.line.sink.faults u.line.sink.same u.line.sink.below out.out.rose)
      | inr tell ↦ absurd (stayed old.tell.faults new.tell.faults u.tell.same u.tell.below tell.reported.rose)
    ]

resolving : (r : Resolving) (old new : Streams) (result : Status) → StreamsUnfailed old new → ResolveRuns r old new result
    → OrShort result (ResolvingDone r old new result)
resolving r old new result u (inl run) = inr (resolved r old new result run.0 u run.1 run.2)
resolving r old new result u (inr short) = inl short.0

by_words : (r : Option Resolving) (words : List (List ℕ)) (old new : Outside) (before after : Streams) (result : Status)
    → ReportedBy r words old new before after result → IsUndisturbed old new → StreamsUnfailed before after
    → ¬ (LacksFor (task_of words) old.shelf.held) → ReportCompletes r words old new before after result
by_words None words old new before after result run u s there = run_is_complete words old new result run u there
by_words (Some r) words old new before after result run u s there = resolving r before after result s run

pub reported_is_complete : ReportIsComplete
reported_is_complete words old new before after result run u s there = by_words (resolving_of words) words old new before after result run u s there
