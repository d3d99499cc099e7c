-- A client of the code as plain data, and its invariant.
use Rattle.std.specs.Prelude.{ℕ, ◌≤◌}
use Rattle.uip_wire.specs.declared.seq.Seq.{Seq}
use Rattle.link_client.specs.declared.client_state.ClientState.{ClientState}
use Rattle.link_client.specs.declared.fin_at.FinAt.{FinAt}
use Rattle.link_client.specs.declared.setup.Setup.{Setup}

pub record Client : Type 0 where
  pub setup : Setup
  pub state : ClientState
  pub acked : ℕ
  pub out : ℕ
  pub fin : FinAt
  pub rcv : Seq
  pub window : ℕ

-- the longest text that a client sends is from 1 to 1460 bytes, and at most that much of its request is outstanding
pub record IsClient (longest outstanding : ℕ) : Type 0 where
  pub least : 1 ≤ longest
  pub most : longest ≤ 1460
  pub out : outstanding ≤ longest
