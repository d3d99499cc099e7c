-- The constants of the code that definitions name, and their values.
use Rattle.std.specs.Prelude.{◌≡◌}
use Rattle.tcp_machine.specs.declared.passive_open.TheConstants.{DEFAULT_MSS}
use Rattle.tcp_machine.specs.declared.timeouts.TheConstants.{REST_TIME}

pub record ConstantValues : Type 0 where
  pub default_mss : DEFAULT_MSS ≡ 536
  pub rest_time : REST_TIME ≡ 120
