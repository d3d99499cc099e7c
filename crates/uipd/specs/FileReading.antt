-- What a shelf over the files of the system reads, given what an open file has left, if that is known.
use Rattle.std.specs.Prelude.{◌≡◌, ◌<◌, ◌≤◌, ◌⊎◌, ℕ, List, Option, IsSomeAnd, length, take}
use Rattle.std.specs.Io.KnownBytes.{Consumes, IsAtEnd}
use Rattle.uipd.specs.declared.file_shelf.OpenFile.{OpenFile}

-- This number of bytes was read and dropped, or all that were left.
pub record Passes (old new : Option (List ℕ)) (n : ℕ) : Type 0 where
  pub dropped : List ℕ
  pub consumed : Consumes old new dropped
  pub all : (length dropped ≡ n) ⊎ ((length dropped ≤ n) × IsAtEnd new)

-- A file at this offset. It is the one that was kept, if it has the name and the offset. Otherwise everything before the offset was read
-- from it. At offset 0 any file is one.
abbrev pub IsAtOffset : {F : Type 0} → (F → Option (List ℕ)) → Option (OpenFile F) → List ℕ → ℕ → F → Type 0
IsAtOffset {F} left last name at file =
    IsSomeAnd last (λ held. (held.name.items ≡ name) × (held.at ≡ at) × (held.file ≡ file))
    ⊎ ((opened : F) × Passes (left opened) (left file) at)

-- The n bytes at the start of the buffer are those that a file at the offset lost in the read. There are none only if it has none left.
-- The file is kept.
pub record ReadsOn {F : Type 0} (left : F → Option (List ℕ)) (last now : Option (OpenFile F))
    (name : List ℕ) (at n : ℕ) (buf : List ℕ) : Type 0 where
  pub file : F
  pub is_at_offset : IsAtOffset left last name at file
  pub gave : IsSomeAnd now
      (λ held. Consumes (left file) (left held.file) (take n buf) × (n ≡ 0 → 0 < length buf → IsAtEnd (left held.file)))
