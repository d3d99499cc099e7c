-- A site is a list of files with distinct names.
use Rattle.std.specs.Prelude.{◌==◌, if◌then◌else◌, Bool, bytes_eq, find, length, List, Option, ℕ}
use Rattle.std.specs.List.{list_any}
use Rattle.site_image.specs.Names.{kind_by_name}

-- a file: its name, its content type and its bytes
pub record File : Type 0 where
  pub name : List ℕ
  pub kind : List ℕ
  pub content : List ℕ

-- some file has the name
abbrev pub has_name : List File → List ℕ → Bool
has_name files name = list_any (λ file. bytes_eq file.name name) files

-- the file of that name
abbrev pub file_named : List File → List ℕ → Option File
file_named files name = find (λ file. bytes_eq file.name name) files

-- the content type of a file's page: its own, or by its name if its own is empty
abbrev pub kind_of : File → List ℕ
kind_of file = if length file.kind == 0 then kind_by_name file.name else file.kind
