-- The guarantees for a world that a schedule reaches at its end.
use Rattle.std.specs.Prelude.{◌≡◌, ℕ, true, List, Some, slice_get}
use Rattle.site_image.specs.Prelude.{File}
use Rattle.web_pages.specs.Prelude.{pages_of}
use Rattle.link_world.specs.Prelude.{World, Side, is_clean, IsServed, MarksRepeats, RepeatsSameBytes, Tick}

-- Each client without a stale delivery has received a prefix of its page, and the whole page if it saw a normal close. A retransmission is
-- marked and has the same bytes as the first sending; every retransmission is marked. An expired timer sends in its tick, at every node.
pub record KeepsPromises (files : List File) (w : World) : Type 0 where
  pub pages : (k : ℕ) (side : Side) → slice_get w.sides k ≡ Some side → is_clean side ≡ true → IsServed (pages_of files) w side
  pub same_bytes : RepeatsSameBytes w
  pub marked : MarksRepeats w
  pub tick : Tick
