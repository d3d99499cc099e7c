-- The constants of the code that definitions cite, with their values.
use Rattle.std.specs.Prelude.{◌≡◌, ℕ}
use Rattle.dns_message.specs.declared.query.TheConstants.{ASKING_PORT, SERVER_PORT}

pub record ConstantValues : Type 0 where
  pub asking_port : ASKING_PORT ≡ 4096
  pub server_port : SERVER_PORT ≡ 53
