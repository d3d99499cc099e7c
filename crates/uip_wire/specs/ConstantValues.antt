-- The constants of the code that definitions cite, with their values.
use Rattle.std.specs.Prelude.{◌≡◌}
use Rattle.uip_wire.specs.declared.sizes.TheConstants.{LARGEST_DATAGRAM, OWN_MSS}
use Rattle.uip_wire.specs.declared.port.TheConstants.{WEB_PORT}

pub record ConstantValues : Type 0 where
  pub largest_datagram : LARGEST_DATAGRAM ≡ 1500
  pub own_mss : OWN_MSS ≡ 1460
  pub web_port : WEB_PORT ≡ 80
