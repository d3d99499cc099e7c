-- The part of a line after its last whole frame, as the code stores it, and what more bytes decode to after it.
use Rattle.std.specs.Prelude.{◌≡◌, ◌<◌, ◌≤◌, ◌+◌, ◌*◌, ◌&&◌, ℕ, nat_le, if◌then◌else◌}
use Rattle.std.specs.Prelude.{List, [], ◌∷◌, ◌++◌, length, take, None, option_to_list}
use Rattle.line_medium.specs.Prelude.{MediumInput}
use Rattle.ethernet_arp.specs.EtherWay.{closed_by, is_whole, open_from}
use Rattle.ethernet_arp.specs.Frames.{Host, frame_brings}
use Rattle.ethernet_arp.specs.Learning.{Act}
use Rattle.ethernet_arp.specs.declared.frame_part.FramePart.{FramePart}
use Rattle.ethernet_arp.specs.declared.sizes.TheConstants.{LARGEST_FRAME, SMALLEST_FRAME}

-- What bytes decode to after a part.
abbrev pub brought_from : Host → List ℕ → List ℕ → List (MediumInput Act)
brought_from k part [] = []
brought_from k part (b ∷ bytes) =
    closed_by k (part ++ b ∷ []) ++ brought_from k (if is_whole (part ++ b ∷ []) then [] else part ++ b ∷ []) bytes

-- The length was received, and the frame waits for more.
abbrev pub IsWaiting : FramePart → Type 0
IsWaiting p = p.len < p.size

-- The part is a length and the bytes of a frame received so far, of which a prefix is stored.
pub record InFrame (p : FramePart) (part : List ℕ) : Type 0 where
  pub high : ℕ
  pub low : ℕ
  pub frame : List ℕ
  pub is : part ≡ high ∷ low ∷ frame
  pub size : p.size ≡ 256 * high + low
  pub len : length frame ≡ p.len
  pub kept : take p.len p.area ≡ take LARGEST_FRAME frame
  pub none : p.high ≡ None

-- The part is what waits for more.
pub record Holds (p : FramePart) (part : List ℕ) : Type 0 where
  pub waiting : p.len < p.size → InFrame p part
  pub between : p.size ≤ p.len → part ≡ option_to_list p.high

-- What a frame decodes to that has just become whole.
abbrev pub whole_brings : Host → FramePart → List (MediumInput Act)
whole_brings k p = if nat_le SMALLEST_FRAME p.len && nat_le p.len LARGEST_FRAME then frame_brings k (take p.len p.area) else []

-- Bytes of a length were received, which decode to nothing.
pub record GoesOn (old new : FramePart) (bytes : List ℕ) : Type 0 where
  pub holds : (part : List ℕ) → Holds old part → Holds new (open_from part bytes)
  pub nothing : (k : Host) (part : List ℕ) → Holds old part → brought_from k part bytes ≡ []

-- Bytes of a frame were received, which then waits for more or is whole.
pub record TakesIn (old new : FramePart) (bytes : List ℕ) : Type 0 where
  pub holds : (part : List ℕ) → Holds old part → Holds new (open_from part bytes)
  pub waits : IsWaiting new → (k : Host) (part : List ℕ) → Holds old part → brought_from k part bytes ≡ []
  pub whole : new.size ≤ new.len → (k : Host) (part : List ℕ) → Holds old part → brought_from k part bytes ≡ whole_brings k new
