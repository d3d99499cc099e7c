-- Proves `none` by hand, since it makes a struct that owns memory, though here it owns none.
use Rattle.uip_app_c.proofs.Prelude.{refl, None, HeapRow, makes_null_well}
use base.Logic.{emp}
use contract.Monad.{fact_i}
use denote.RawPtr.{null_ptr}
use denote.Signature.{plain}
use denote.Triple.Walked.{Goes-dropped}
use Rattle.uip_app_c.proofs.Words.{HeldRow}
use Rattle.uip_app_c.specs.contracts.held.Held.none.{ended, clauses}
use Rattle.uip_app_c.specs.contracts.held.Held.none.Key.{name as #self}
use Rattle.uip_app_c.proofs.held.Held.none.Statement.{statement}
use Rattle.uip_app_c.proofs.held.Held.none.Code as code

pub none_spec : {M : Type 1} → statement M
none_spec 𝓤 𝓛 𝓜 𝓡 wired =
    let drops = Goes-dropped 𝓛 0 (plain (λ _. HeapRow)) ended.kept.0 (λ κs x f. refl) in
    makes_null_well 𝓛 𝓜 𝓡 ended.kept.0 HeldRow (clauses 𝓛 𝓜.mem 𝓡.returns) (λ a. _) drops (λ a. record { at = null_ptr; alloc = a; device = None })
    (λ a words. refl) (λ a g. fact_i 𝓤 _ (emp 𝓤) refl) #self _ (code.unfolded 𝓤 𝓛.H 𝓜 𝓡 wired)
