-- Commands for an image that nothing outside disturbs.
use Rattle.uipd.proofs.Prelude.{◌≡◌, Option, ap, inl, inr, subst, sym, ◌⊎◌, Files, SiteEnd, Due, Ends, end_of, FindsInFiles, LacksFile}
use Rattle.uipd.proofs.Prelude.{Status, RunsAs, status_of_site, WorkView, WorkUnfailed}
use Rattle.site_commands.proofs.EndLaws.{as_due}
use Rattle.uipd.specs.declared.status.Status.TheVariants as status

abbrev pub IsReported : (Files → Option Due) → WorkView → Status → Type 0
IsReported due old result = (result ≡ status.NoMemory) ⊎ ((made : Due) × FindsInFiles due old.shelf.held made × (result ≡ status_of_site (end_of made.fault)))

reported : (due : Files → Option Due) (old new : WorkView) (end : SiteEnd) → Ends due old new end → WorkUnfailed old new → ¬ (LacksFile due old.shelf.held)
    → IsReported due old (status_of_site end)
reported due old new end e calm there =
    elim (as_due due old new end e calm there) [
      | inl short ↦ inl (ap status_of_site short)
      | inr made ↦ inr (made.0, made.1, ap status_of_site made.2)
    ]

pub site_reported : (due : Files → Option Due) (old new : WorkView) (result : Status) → RunsAs status_of_site (Ends due old new) result
    → WorkUnfailed old new → ¬ (LacksFile due old.shelf.held)
    → IsReported due old result
site_reported due old new result run calm there = subst (IsReported due old) (sym run.1) (reported due old new run.0 run.2 calm there)
