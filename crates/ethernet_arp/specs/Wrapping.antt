-- A frame at the start of an area.
use Rattle.std.specs.Prelude.{◌≡◌, ℕ, List, length}
use Rattle.uip_wire.specs.Prelude.{written}

-- The frame was written at the start, this is its length, and all after it is unchanged.
pub record Puts (frame : List ℕ) (len : ℕ) (old new : List ℕ) : Type 0 where
  pub size : len ≡ length frame
  pub there : new ≡ written old 0 frame
