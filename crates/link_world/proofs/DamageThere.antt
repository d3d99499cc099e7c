-- Damage in a world that is reached.
use Rattle.link_world.proofs.Prelude.{◌≡◌, ℕ, zero, suc, ◌<◌, ◌≤◌, Bool, List, length, refl, sym, subst, Option, Some, AppSpec, World, Sent}
use Rattle.link_world.proofs.Prelude.{numbered, sent_bytes, changed, does, hands_over, Act, Who, FromNode, IsLoss, CountsBy}
use Rattle.link_world.proofs.Prelude.{DamageIsLossThere}
use Rattle.link_world.proofs.Doing.{damaged}
use Rattle.link_world.proofs.Loss.{same_world, damage_is_loss}
use Rattle.link_world.proofs.Runs.{reached_sound}
use Rattle.link_world.proofs.SoundWorlds.{SoundWorld}
use Rattle.link_world.proofs.Damages.{bytes_are, not_in_nothing}
use Rattle.link_world.proofs.Damages.Bytes.{wholly, nothing, nobody}

abbrev Lost : AppSpec → (ℕ → Bool) → World → ℕ → ℕ → Who → Option Sent → Type 0
Lost m served w at mask who o = IsLoss w (damaged m served w at mask o) × CountsBy who w (damaged m served w at mask o)

by_nobody : (m : AppSpec) (served : ℕ → Bool) (w : World) (bytes : List ℕ) (who : Who) → who ≡ FromNode 0
    → IsLoss w (hands_over m served w bytes who) × CountsBy who w (hands_over m served w bytes who)
by_nobody m served w bytes who y =
    subst (λ x. IsLoss w (hands_over m served w bytes x) × CountsBy x w (hands_over m served w bytes x)) (sym y) (same_world w, refl)

pub there : (m : AppSpec) (served : ℕ → Bool) (w : World) (k at mask : ℕ) (e : Sent) → numbered w.sent k ≡ Some e
    → at < length (sent_bytes w e) → 1 ≤ mask → mask < 256 → SoundWorld w
    → IsLoss w (does m served w (Act.Damage k at mask)) × CountsBy e.who w (does m served w (Act.Damage k at mask))
there m served w zero at mask e x l a b h = absurd (cc)
there m served w (suc j) at mask e x l a b h = elim (bytes_are w e.who e.content h (h.sent j e x)) [
  | wholly y ↦ damage_is_loss m served w (suc j) at mask e x y l a b
  | nothing y ↦ absurd (not_in_nothing at (sent_bytes w e) y l)
  | nobody y ↦ subst (λ o. Lost m served w at mask e.who o) (sym x) (by_nobody m served w (changed (sent_bytes w e) at mask) e.who y)
]

pub damage_is_loss_there : DamageIsLossThere
damage_is_loss_there m pages lawful bytes w r served k at mask e x l a b = there m served w k at mask e x l a b (reached_sound m pages lawful bytes w r)
