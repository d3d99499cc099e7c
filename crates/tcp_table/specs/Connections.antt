-- The table of connections as plain data: ten of them, identified by their sockets (RFC 793, section 1.5).
use Rattle.std.specs.Prelude.{ℕ, ◌≡◌, ◌==◌, ◌&&◌, Bool, true, List, length, Some, slice_get, bytes_eq}
use Rattle.uip_wire.specs.declared.addr.Addr.{Addr}
use Rattle.uip_wire.specs.declared.port.Port.{Port}
use Rattle.app_events.specs.Prelude.{is_live}
use Rattle.tcp_table.specs.declared.conn.Conn.{Conn}

-- The connections of a table, by their slots, and the ISS of the next one.
pub record Connections (A : Type 0) : Type 0 where
  pub conns : List (Conn A)
  pub iss : ℕ

-- It is not CLOSED and has this peer and these ports.
abbrev pub is_at : {A : Type 0} → Addr → Port → Port → Conn A → Bool
is_at peer peer_port own_port c =
    is_live c.state && (bytes_eq c.peer.0 peer.0 && ((c.peer_port.0 == peer_port.0) && (c.own_port.0 == own_port.0)))

-- No two that are not CLOSED have the same peer and ports.
abbrev pub AreDistinct : {A : Type 0} → List (Conn A) → Type 0
AreDistinct {A} cs = (i j : ℕ) (c d : Conn A) → slice_get cs i ≡ Some c → slice_get cs j ≡ Some d → is_live d.state ≡ true →
    is_at d.peer d.peer_port d.own_port c ≡ true → i ≡ j

pub record IsTable {A : Type 0} (cs : List (Conn A)) : Type 0 where
  pub ten : length cs ≡ 10
  pub distinct : AreDistinct cs
