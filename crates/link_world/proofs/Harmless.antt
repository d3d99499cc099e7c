-- An act that damages is harmless if it is a loss.
use Rattle.link_world.proofs.Prelude.{ℕ, Bool, AppSpec, World, does, Act, IsPlainAct, IsLoss}

abbrev pub Harmless : AppSpec → (ℕ → Bool) → World → Act → Type 0
Harmless m served w (Act.Damage k at mask) = IsLoss w (does m served w (Act.Damage k at mask))
Harmless m served w _ = Unit {0}

pub plain_harmless : (m : AppSpec) (served : ℕ → Bool) (w : World) (act : Act) → IsPlainAct act → Harmless m served w act
plain_harmless m served w (Act.Damage k at mask) h = absurd h
plain_harmless m served w _ h = tt
