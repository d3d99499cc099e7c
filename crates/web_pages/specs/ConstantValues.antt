-- The constants of the code that definitions name, and their values.
use Rattle.std.specs.Prelude.{◌≡◌, ℕ}
use Rattle.web_pages.specs.declared.TheConstants.{MOST_POLLS, LARGEST_SEGMENT}

pub record ConstantValues : Type 0 where
  pub most_polls : MOST_POLLS ≡ 20
  pub largest_segment : LARGEST_SEGMENT ≡ 1460
