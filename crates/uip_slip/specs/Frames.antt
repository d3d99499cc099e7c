-- The frames of a serial line (RFC 1055). END is 192 and ESC is 219.
use Rattle.std.specs.List.{flat_map, list_all, slice_split}
use Rattle.std.specs.Prelude.{◌≡◌, ◌<◌, ◌≤◌, ℕ, Bool, true, false, ◌==◌, ◌||◌, nat_le}
use Rattle.std.specs.Prelude.{if◌then◌else◌, List, [], ◌∷◌, length, slice_index, take}
use Rattle.uip_wire.specs.declared.sizes.TheConstants.{LARGEST_DATAGRAM}

-- The bytes that are escaped inside a datagram.
abbrev pub is_mark : ℕ → Bool
is_mark b = b == 192 || b == 219

-- All other bytes represent themselves.
abbrev pub is_plain : ℕ → Bool
is_plain b = if is_mark b then false else true

-- The first `count` bytes have no mark, and a mark follows them if anything does.
pub record IsPlainPrefix (bytes : List ℕ) (count : ℕ) : Type 0 where
  pub within : count ≤ length bytes
  pub plain : list_all is_plain (take count bytes) ≡ true
  pub marked : count < length bytes → is_mark (slice_index bytes count) ≡ true

-- The meaning of the byte after an ESC: 220 is END, 221 is ESC, and any other byte is itself.
abbrev pub meant : ℕ → ℕ
meant b = if b == 220 then 192 else if b == 221 then 219 else b

-- The bytes that a part represents; an ESC at its end is nothing.
abbrev pub unescaped : List ℕ → List ℕ
unescaped [] = []
unescaped (a ∷ []) = if a == 219 then [] else a ∷ []
unescaped (a ∷ b ∷ rest) = if a == 219 then meant b ∷ unescaped rest else a ∷ unescaped (b ∷ rest)

-- What a closed part is.
pub data Frame : Type 0 where
  Datagram : List ℕ → Frame
  Overlong : Frame

-- An empty part is nothing, a part of 1 to 1500 bytes is a datagram, and a longer part is overlong.
abbrev pub frame_of : List ℕ → List Frame
frame_of [] = []
frame_of (b ∷ bytes) = if nat_le (length (b ∷ bytes)) LARGEST_DATAGRAM then Datagram (b ∷ bytes) ∷ [] else Overlong ∷ []

-- The parts of a list of bytes, cut at every END: all but the last are closed, and the last is open.
abbrev pub parts : List ℕ → List (List ℕ)
parts bytes = slice_split (λ b. b == 192) bytes

abbrev pub all_but_last : List (List ℕ) → List (List ℕ)
all_but_last [] = []
all_but_last (part ∷ []) = []
all_but_last (part ∷ next ∷ rest) = part ∷ all_but_last (next ∷ rest)

abbrev pub last_of : List (List ℕ) → List ℕ
last_of [] = []
last_of (part ∷ []) = part
last_of (part ∷ next ∷ rest) = last_of (next ∷ rest)

-- The frames of a whole list of bytes: those of its closed parts, in order.
abbrev pub frames : List ℕ → List Frame
frames bytes = flat_map (λ part. frame_of (unescaped part)) (all_but_last (parts bytes))

-- The bytes after the last END, which wait for the next one.
abbrev pub open_part : List ℕ → List ℕ
open_part bytes = last_of (parts bytes)

-- The frame that a byte completes after the bytes before it: an END closes the part since the last END.
abbrev pub completed : List ℕ → ℕ → List Frame
completed before b = if b == 192 then frame_of (unescaped (open_part before)) else []
