-- Two lists that agree element by element.
use Rattle.std.specs.Prelude.{◌≡◌, ℕ, List, length, Some, slice_get}

pub record Matched {X Y : Type 0} (P : X → Y → Type 0) (xs : List X) (ys : List Y) : Type 0 where
  pub same_length : length xs ≡ length ys
  pub each : (i : ℕ) (x : X) (y : Y) → slice_get xs i ≡ Some x → slice_get ys i ≡ Some y → P x y
