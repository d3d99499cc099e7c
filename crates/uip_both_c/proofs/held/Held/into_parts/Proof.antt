-- Proves `into_parts` by hand, since it opens a struct that owns memory and makes another: the parts take what the handle owns.
use Rattle.uip_both_c.proofs.Prelude.{◌≡◌, ap, true, DeviceRow, Kept, holds, is_some, gives_parts_well}
use base.Logic.{emp, id⊢}
use contract.Monad.{fact_i}
use Rattle.c_calls.proofs.Handles.{some_of}
use Rattle.uip_both_c.proofs.Words.{HeldRow, held_opened}
use Rattle.uip_both_c.specs.contracts.held.Held.into_parts.{ended, clauses}
use Rattle.uip_both_c.specs.contracts.held.Held.into_parts.Key.{name as #self}
use Rattle.uip_both_c.proofs.held.Held.into_parts.Statement.{statement}
use Rattle.uip_both_c.proofs.held.Held.into_parts.Code as code

pub into_parts_spec : {M : Type 1} → statement M
into_parts_spec 𝓤 𝓛 𝓜 𝓡 wired =
    gives_parts_well 𝓛 𝓜 𝓡 ended.kept.0 HeldRow DeviceRow (clauses 𝓛 𝓜.mem 𝓡.returns) (λ v. _) (λ v f. tt) held_opened
    (λ v. is_some v.device ≡ true) (λ v g. id⊢ 𝓤 _)
    (λ v is. ((some_of v.device is).0, ap (λ (d : Kept). holds v.alloc v.at d) (some_of v.device is).1))
    (λ v g is. fact_i 𝓤 _ (emp 𝓤) (some_of v.device is).1) #self _ _ (code.unfolded 𝓤 𝓛.H 𝓜 𝓡 wired)
