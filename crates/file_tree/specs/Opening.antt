-- Which site is opened under a name, and when that may fail.
use Rattle.std.specs.Prelude.{◌≡◌, ◌≤◌, ◌⊎◌, ℕ, List, [], codes, if◌then◌else◌, Option, None, Some, option_map, Result, Ok, Err, ⊤}
use Rattle.std.specs.Str.{bytes_eq}
use Rattle.uip_edge.specs.Prelude.{Rose, Files}
use Rattle.site_image.specs.declared.site_error.SiteError.{SiteError}
use Rattle.site_image.specs.Prelude.{File, read_image}
use Rattle.file_tree.specs.declared.load_fault.LoadFault.{LoadFault}
use Rattle.file_tree.specs.declared.load_fault.LoadFault.TheVariants.{Shelf, Bad, NoMemory}
use Rattle.file_tree.specs.Site.{SiteContent, files_of}

-- What reading the image under the name gives; `-` is the site without files. None if the file is missing.
abbrev pub site_read : List ℕ → Files → Option (Result (List File) SiteError)
site_read name files = if bytes_eq name (codes "-") then Some (Ok []) else option_map read_image (files name)

-- the value is what this way to read finds in the files, if they are known
abbrev pub FindsInFiles : {A : Type 0} → (Files → Option A) → Option Files → A → Type 0
FindsInFiles read None found = ⊤
FindsInFiles read (Some files) found = read files ≡ Some found

-- the files are known, and one that the way to read needs is missing
abbrev pub LacksFile : {A : Type 0} → (Files → Option A) → Option Files → Type 0
LacksFile read None = ⊥
LacksFile read (Some files) = read files ≡ None

-- why there is no site, with the count of the shelf's faults before and after
abbrev pub FailsToOpen : List ℕ → Option Files → ℕ → ℕ → LoadFault → Type 0
FailsToOpen name held before now (Bad error) = FindsInFiles (site_read name) held (Err error) × (now ≡ before)
FailsToOpen name held before now Shelf = (Rose before now ⊎ LacksFile (site_read name) held) × (before ≤ now)
FailsToOpen name held before now NoMemory = now ≡ before

-- the site, or why there is none
abbrev pub Opens : List ℕ → Option Files → ℕ → ℕ → Result SiteContent LoadFault → Type 0
Opens name held before now (Ok site) = FindsInFiles (site_read name) held (Ok (files_of site)) × (now ≡ before)
Opens name held before now (Err fault) = FailsToOpen name held before now fault
