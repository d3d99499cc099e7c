-- Proves `into_alloc` by hand, since it opens a struct that owns memory, though here it owns none.
use Rattle.uip_app_c.proofs.Prelude.{refl, opens_well}
use base.Logic.{emp}
use contract.Monad.{fact_i}
use Rattle.uip_app_c.proofs.Words.{HeldRow, held_opened}
use Rattle.uip_app_c.specs.contracts.held.Held.into_alloc.{ended, clauses}
use Rattle.uip_app_c.specs.contracts.held.Held.into_alloc.Key.{name as #self}
use Rattle.uip_app_c.proofs.held.Held.into_alloc.Statement.{statement}
use Rattle.uip_app_c.proofs.held.Held.into_alloc.Code as code

pub into_alloc_spec : {M : Type 1} → statement M
into_alloc_spec 𝓤 𝓛 𝓜 𝓡 wired =
    opens_well 𝓛 𝓜 𝓡 ended.kept.0 HeldRow (clauses 𝓛 𝓜.mem 𝓡.returns) (λ v. _) (λ v f. tt) held_opened (λ v g. fact_i 𝓤 _ (emp 𝓤) refl) #self _
    (code.unfolded 𝓤 𝓛.H 𝓜 𝓡 wired)
