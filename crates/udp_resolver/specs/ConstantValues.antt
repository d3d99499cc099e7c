-- The constants of the code that definitions cite, with their values.
use Rattle.std.specs.Prelude.{◌≡◌}
use Rattle.udp_resolver.specs.declared.TheConstants.{MOST_NAMES}

pub record ConstantValues : Type 0 where
  pub most_names : MOST_NAMES ≡ 4
