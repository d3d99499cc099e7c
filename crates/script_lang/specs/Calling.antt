-- The functions that a script can call, as far as reading a script needs them.
use Rattle.std.specs.Prelude.{ℕ, Bool, List}

pub record Calling (F : Type 0) : Type 0 where
  pub named : (name : List ℕ) → F  -- the function of that name
  pub takes_capture : F → Bool  -- whether its call takes a capture
  pub length_at_most : F → ℕ  -- the greatest length of its text
