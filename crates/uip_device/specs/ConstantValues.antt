-- The constant of the code that contracts name, and its value.
use Rattle.std.specs.Prelude.{◌≡◌}
use Rattle.uip_device.specs.declared.pending_output.TheConstants.{LARGEST_TEXT}

pub record ConstantValues : Type 0 where
  pub largest_text : LARGEST_TEXT ≡ 3002
