-- A command that nothing outside disturbs ends as is due.
use Rattle.site_commands.proofs.Prelude.{Option, Some, None, refl, inl, inr, arith, Files, SiteEnd, Due, Ends, EndsAsDue, LacksFile}
use Rattle.site_commands.proofs.Prelude.{WorkView, WorkUnfailed}
use Rattle.site_commands.specs.declared.site_end.SiteEnd.TheVariants as ends

pub as_due : (due : Files → Option Due) (old new : WorkView) (end : SiteEnd) → Ends due old new end → WorkUnfailed old new
    → ¬ (LacksFile due old.shelf.held) → EndsAsDue due old.shelf.held end
as_due due old new ends.Done e calm there = inr (record { text = e.0; fault = None }, e.1.0, refl)
as_due due old new (ends.Bad error) e calm there = inr (record { text = e.0; fault = Some error }, e.1.0, refl)
as_due due old new ends.ShelfFault e calm there =
    elim e.0 [ inl rose ↦ absurd (omega (arith, rose, calm.shelf.same, calm.shelf.below)) | inr lacks ↦ absurd (there lacks) ]
as_due due old new ends.WriteFault e calm there = absurd (omega (arith, e.1.1.rose, calm.sink.same, calm.sink.below))
as_due due old new ends.NoMemory e calm there = inl refl
