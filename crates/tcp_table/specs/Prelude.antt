-- The names of the definitions of this crate that other files cite, passed on from one place. Declares nothing.
pub use Rattle.tcp_table.specs.Connections.{Connections, IsTable, is_at}
pub use Rattle.tcp_table.specs.Slots.{has_waited, longest_rest, longest_wait, slot_by, slot_to_take}
