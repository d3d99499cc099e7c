-- The clients and datagrams of the code as plain data.
use Rattle.std.specs.Prelude.{ℕ, Bool, List, Option}
use Rattle.link_client.specs.Prelude.{Client}
use Rattle.link_world.specs.declared.who.Who.{Who}

pub record CodeSide : Type 0 where
  pub client : Client
  pub request : List ℕ
  pub received : List ℕ
  pub epoch : ℕ
  pub first_stale : Option ℕ

pub record CodeSent : Type 0 where
  pub who : Who
  pub tick : ℕ
  pub epoch : ℕ
  pub again : Bool
  pub bytes : List ℕ
