-- Proves `into_parts` by hand, since it opens a struct that owns memory and makes another: the parts take what the handle owns.
use Rattle.uip_c.proofs.Prelude.{◌≡◌, refl, true, box_owns, ghosts, WebDevice, IsSoundWebDevice, LineRow, holds, Kept, OnLine, is_on_line}
use Rattle.uip_c.proofs.Prelude.{PartsRow, converts_well}
use base.Logic.{emp}
use contract.Monad.{fact_i}
use types.Kit.{fpick, rewrite, ‵, ◌$◌}
use denote.Steps.{heard}
use Rattle.uip_c.proofs.Taking.{line_of}
use Rattle.uip_c.proofs.Words.{HeldRow, held_opened}
use Rattle.uip_c.specs.contracts.held.Held.into_parts.{ended, clauses}
use Rattle.uip_c.specs.contracts.held.Held.into_parts.Key.{name as #self}
use Rattle.uip_c.proofs.held.Held.into_parts.Statement.{statement}
use Rattle.uip_c.proofs.held.Held.into_parts.Code as code

pub into_parts_spec : {M : Type 1} → statement M
into_parts_spec 𝓤 𝓛 𝓜 𝓡 wired =
    converts_well 𝓛 𝓜 𝓡 ended.kept.0 HeldRow (PartsRow LineRow) (clauses 𝓛 𝓜.mem 𝓡.returns) (λ v. _) (λ v f. tt) held_opened
    (λ v. (x : WebDevice) × (v.device ≡ OnLine x) × IsSoundWebDevice x) (λ v there. box_owns (ghosts.dealloc_token v.alloc) LineRow v.at there.0)
    (λ K t v g Γ G next. heard t (is_on_line v.device ≡ true) (λ is. let there = line_of v.device is in
    rewrite t 0 (λ (d : Kept). ‵ (holds v.alloc v.at d)) there.1 refl $ fpick t (λ sound. next (there.0, there.1, sound))))
    (λ v there. record { at = v.at; alloc = v.alloc; value = there.0 }) (λ v there words. refl)
    (λ v g there. fact_i 𝓤 _ (emp 𝓤) (there.1, there.2)) #self _ _ (code.unfolded 𝓤 𝓛.H 𝓜 𝓡 wired)
