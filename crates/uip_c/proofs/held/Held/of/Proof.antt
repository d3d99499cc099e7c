-- Proves `of` by hand, since it makes a struct that owns memory: the handle takes what the parts own, with the fact that the device is
-- sound.
-- [add: c-application] A handle: proofs as those of this folder.
use Rattle.uip_c.proofs.Prelude.{refl, box_owns, ghosts, IsSoundWebDevice, LineRow, OnLine, holds, PartsRow, converts_well, parts_opened}
use base.Logic.{emp}
use contract.Monad.{fact_i}
use types.Kit.{fpack, ◌$◌}
use denote.Steps.{heard}
use Rattle.uip_c.proofs.Words.{HeldRow}
use Rattle.uip_c.specs.contracts.held.Held.of.{ended, clauses}
use Rattle.uip_c.specs.contracts.held.Held.of.Key.{name as #self}
use Rattle.uip_c.proofs.held.Held.of.Statement.{statement}
use Rattle.uip_c.proofs.held.Held.of.Code as code

pub of_spec : {M : Type 1} → statement M
of_spec 𝓤 𝓛 𝓜 𝓡 wired =
    converts_well 𝓛 𝓜 𝓡 ended.kept.0 (PartsRow LineRow) HeldRow (clauses 𝓛 𝓜.mem 𝓡.returns) (λ v. _) (λ v f. tt) (parts_opened LineRow)
    (λ v. IsSoundWebDevice v.value) (λ v _. holds v.alloc v.at (OnLine v.value)) (λ K t v g Γ G next. heard t (IsSoundWebDevice v.value) (λ sound.
    fpack t (IsSoundWebDevice v.value) (λ _. box_owns (ghosts.dealloc_token v.alloc) LineRow v.at v.value) sound $ next sound))
    (λ v sound. record { at = v.at; alloc = v.alloc; device = OnLine v.value }) (λ v sound words. refl)
    (λ v g sound. fact_i 𝓤 _ (emp 𝓤) refl) #self _ _ (code.unfolded 𝓤 𝓛.H 𝓜 𝓡 wired)
