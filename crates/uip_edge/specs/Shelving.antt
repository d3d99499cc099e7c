-- What a call of a shelf reads, and when it may fail.
use Rattle.std.specs.Prelude.{◌≡◌, ◌≤◌, ◌⊎◌, ◌↔◌, drop, Err, find, length, List, None, Ok, OnErr, OnOk, Option, Result, Some, take, ℕ, ⊤}
use Rattle.std.specs.Option.{option_map}
use Rattle.std.specs.Str.{bytes_eq}
use Rattle.uip_edge.specs.declared.failed.Failed.{Failed}
use Rattle.uip_edge.specs.Causes.{Rose}

-- The files of a shelf: the bytes under a name, if there is such a file.
abbrev pub Files : Type 0
Files = List ℕ → Option (List ℕ)

-- A file of a shelf in memory.
pub record HeldFile : Type 0 where
  pub name : List ℕ
  pub content : List ℕ

-- The files of a list; of two files of one name the first counts.
abbrev pub reported_files : List HeldFile → Files
reported_files list name = option_map (λ held. held.content) (find (λ held. bytes_eq held.name name) list)

-- A result about a file, with the bytes read at the start of the buffer. They are the file's bytes from the offset on; there are none
-- exactly if the offset is at the file's end or beyond it. Without such a file the call fails.
abbrev pub ReadsFile : Option (List ℕ) → ℕ → Result ℕ Failed → List ℕ → Type 0
ReadsFile (Some content) at (Ok n) buf = (take n buf ≡ take n (drop at content)) × ((n ≡ 0) ↔ (length content ≤ at))
ReadsFile None at (Ok n) buf = ⊥
ReadsFile file at (Err e) buf = ⊤

-- The same, if the files of the shelf are known.
abbrev pub Reads : Option Files → List ℕ → ℕ → Result ℕ Failed → List ℕ → Type 0
Reads (Some files) name at result buf = ReadsFile (files name) at result buf
Reads None name at result buf = ⊤

-- The files of the shelf are known, and none has the name.
abbrev pub IsMissing : Option Files → List ℕ → Type 0
IsMissing (Some files) name = files name ≡ None
IsMissing None name = ⊥

-- The count never falls. It stays if the call succeeded; if it failed, the count rose or the file is missing.
pub record HasShelfCause {T E : Type 0} (before now : ℕ) (held : Option Files) (name : List ℕ) (result : Result T E) : Type 0 where
  pub later : before ≤ now
  pub same : OnOk result (now ≡ before)
  pub failed : OnErr result (Rose before now ⊎ IsMissing held name)

-- A shelf in memory: its files, the numbers of the calls that are to fail, and how many calls were made and how many failed so.
pub record ShelfContent : Type 0 where
  pub files : List HeldFile
  pub fails : List ℕ
  pub calls : ℕ
  pub faults : ℕ
