-- A node of the code as plain data.
use Rattle.std.specs.Prelude.{ℕ, List}
use Rattle.uip_wire.specs.declared.addr.Addr.{Addr}
use Rattle.packet_buffer.specs.Prelude.{Buffer}
use Rattle.tcp_table.specs.Prelude.{Connections}

-- The numbers of a node that only rise: its counters, its ticks, and the identification of its last TCP datagram.
pub record Counts : Type 0 where
  pub net : List ℕ
  pub ticks : ℕ
  pub ident : ℕ

pub record Node (A S : Type 0) : Type 0 where
  pub addr : Addr
  pub packet : Buffer
  pub table : Connections A
  pub counts : Counts
  pub shared : S
