-- The constants of the code that definitions name, and their values.
use Rattle.std.specs.Prelude.{◌≡◌}
use Rattle.trace.specs.declared.area.TheConstants.{LONGEST_RECORD}

pub record ConstantValues : Type 0 where
  pub longest_record : LONGEST_RECORD ≡ 1516
