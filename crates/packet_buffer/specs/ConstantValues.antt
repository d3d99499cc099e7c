-- The constants of the code that definitions cite, with their values.
use Rattle.std.specs.Prelude.{◌≡◌}
use Rattle.packet_buffer.specs.declared.packet.TheConstants.{LEAST_AREA}

pub record ConstantValues : Type 0 where
  pub least_area : LEAST_AREA ≡ 44
