-- A replay or a load that nothing outside disturbs ends as is due.
use Rattle.link_replay.proofs.Prelude.{ℕ, List, Option, refl, inl, inr, arith, Files, LacksFile, site_read, EndsWith, IsLoadText}
use Rattle.link_replay.proofs.Prelude.{IsReplayText, LacksEither, WroteDue, LoadIsReported, ReplayIsReported, ReplayEnd, WorkView}
use Rattle.link_replay.proofs.Prelude.{WorkUnfailed}
use Rattle.link_replay.specs.declared.commands.replay_end.ReplayEnd.TheVariants as ends

module _ (Is : Option Files → List ℕ → ReplayEnd → Type 0) (Missing : Option Files → Type 0) where
  pub as_due : (old new : WorkView) (end : ReplayEnd) → EndsWith Is Missing old new end → WorkUnfailed old new → ¬ (Missing old.shelf.held)
      → WroteDue (Is old.shelf.held) old new end
  as_due old new ends.Done e calm there = inr (e.text, e.is, e.wrote.whole)
  as_due old new (ends.BadSite error) e calm there = inr (e.text, e.is, e.wrote.whole)
  as_due old new (ends.BadSchedule line why) e calm there = inr (e.text, e.is, e.wrote.whole)
  as_due old new ends.ShelfFault e calm there =
      elim e.cause [ inl rose ↦ absurd (omega (arith, rose, calm.shelf.same, calm.shelf.below)) | inr lacks ↦ absurd (there lacks) ]
  as_due old new ends.WriteFault e calm there = absurd (omega (arith, e.wrote.rose, calm.sink.same, calm.sink.below))
  as_due old new ends.NoMemory e calm there = inl refl

pub replay_is_reported : ReplayIsReported
replay_is_reported site schedule show = as_due (IsReplayText site schedule show) (LacksEither site schedule)

pub load_is_reported : LoadIsReported
load_is_reported site seed clients = as_due (IsLoadText site seed clients) (LacksFile (site_read site))
