-- The two fields of a `Held`. Assumes nothing.
use Rattle.uip_app_c.proofs.Prelude.{refl, Held, holds, Opened}
use denote.RattleType.{RattleType}
use Rattle.uip_app_c.specs.contracts.held.Held as held

-- the row of `Held`
abbrev pub HeldRow : RattleType
HeldRow = held.the_row

abbrev pub held_opened : (h : Held) → Opened HeldRow h
held_opened h = record { at = h.at; alloc = h.alloc; heap = holds h.alloc h.at h.device; owned = λ words. refl }
