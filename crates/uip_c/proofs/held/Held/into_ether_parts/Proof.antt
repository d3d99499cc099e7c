-- Proves `into_ether_parts` by hand, since it opens a struct that owns memory and makes another: the parts take what the handle owns.
use Rattle.uip_c.proofs.Prelude.{◌≡◌, ap, true, EtherRow, Kept, holds, is_on_ether, gives_parts_well}
use base.Logic.{emp, id⊢}
use contract.Monad.{fact_i}
use Rattle.uip_c.proofs.Taking.{ether_of}
use Rattle.uip_c.proofs.Words.{HeldRow, held_opened}
use Rattle.uip_c.specs.contracts.held.Held.into_ether_parts.{ended, clauses}
use Rattle.uip_c.specs.contracts.held.Held.into_ether_parts.Key.{name as #self}
use Rattle.uip_c.proofs.held.Held.into_ether_parts.Statement.{statement}
use Rattle.uip_c.proofs.held.Held.into_ether_parts.Code as code

pub into_ether_parts_spec : {M : Type 1} → statement M
into_ether_parts_spec 𝓤 𝓛 𝓜 𝓡 wired =
    gives_parts_well 𝓛 𝓜 𝓡 ended.kept.0 HeldRow EtherRow (clauses 𝓛 𝓜.mem 𝓡.returns) (λ v. _) (λ v f. tt) held_opened
    (λ v. is_on_ether v.device ≡ true) (λ v g. id⊢ 𝓤 _)
    (λ v is. ((ether_of v.device is).0, ap (λ (d : Kept). holds v.alloc v.at d) (ether_of v.device is).1))
    (λ v g is. fact_i 𝓤 _ (emp 𝓤) (ether_of v.device is).1) #self _ _ (code.unfolded 𝓤 𝓛.H 𝓜 𝓡 wired)
