use Rattle.std.proofs.Common.{ap, ◌∙◌}
use Rattle.tcp_table.specs.Prelude.{Connections, slot_to_take}
use Rattle.tcp_table.proofs.table.Table.slot_for_syn.Goals as goal

-- src/table.rt:55:5
pub returns : goal.returns
returns g c = c.slot_in.ensures ∙ ap slot_to_take c.deref.ensures.value ∙ ap (λ (t : Connections _). slot_to_take t.conns) c.self.view_is
