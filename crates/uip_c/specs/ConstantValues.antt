-- The smallest `out`, which the header names; the statuses: `constant_values` of c_calls.
use Rattle.std.specs.Prelude.{◌≡◌}
use Rattle.uip_c.specs.declared.calls.TheConstants.{MIN_OUT}

pub record ConstantValues : Type 0 where
  pub least_room : MIN_OUT ≡ 2
