-- Proves `of` by hand, since it makes a struct that owns memory: the handle takes what the parts own.
use Rattle.uip_both_c.proofs.Prelude.{refl, DeviceRow, Some, takes_parts_well}
use base.Logic.{emp}
use contract.Monad.{fact_i}
use Rattle.uip_both_c.proofs.Words.{HeldRow}
use Rattle.uip_both_c.specs.contracts.held.Held.of.{ended, clauses}
use Rattle.uip_both_c.specs.contracts.held.Held.of.Key.{name as #self}
use Rattle.uip_both_c.proofs.held.Held.of.Statement.{statement}
use Rattle.uip_both_c.proofs.held.Held.of.Code as code

pub of_spec : {M : Type 1} → statement M
of_spec 𝓤 𝓛 𝓜 𝓡 wired =
    takes_parts_well 𝓛 𝓜 𝓡 ended.kept.0 DeviceRow HeldRow (clauses 𝓛 𝓜.mem 𝓡.returns) (λ v. _) (λ v f. tt)
    (λ v. record { at = v.at; alloc = v.alloc; device = Some v.value }) (λ v words. refl) (λ v g. fact_i 𝓤 _ (emp 𝓤) refl) #self _ _
    (code.unfolded 𝓤 𝓛.H 𝓜 𝓡 wired)
