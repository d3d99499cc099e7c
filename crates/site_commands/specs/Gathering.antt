-- Reading the files of a list to pack.
use Rattle.std.specs.Prelude.{◌≡◌, ◌<◌, ◌≤◌, ◌⊎◌, ℕ, ◌-◌, List, [], ◌∷◌, ◌++◌, length, nat_lt, if◌then◌else◌}
use Rattle.std.specs.Prelude.{Option, Some, option_map, option_and_then, Result, Ok, Err, ⊤}
use Rattle.uip_edge.specs.Prelude.{Rose, Files, HeldFile}
use Rattle.site_image.specs.declared.TheConstants.{LONGEST_IMAGE}
use Rattle.site_image.specs.declared.site_error.SiteError.{SiteError}
use Rattle.site_image.specs.declared.site_error.SiteWhy.TheVariants.{TooLong}
use Rattle.site_image.specs.Prelude.{◌>>=◌, fault}
use Rattle.file_tree.specs.Prelude.{HoldsFile, FindsInFiles, LacksFile}
use Rattle.file_tree.specs.declared.load_fault.LoadFault.{LoadFault}
use Rattle.file_tree.specs.declared.load_fault.LoadFault.TheVariants.{Shelf, Bad, NoMemory}

-- a file of the shelf, and its name in the image
pub record NamedContent : Type 0 where
  pub name : List ℕ
  pub file : List ℕ

-- the list with an entry before it, if there is a list
abbrev pub with_first : HeldFile → Result (List HeldFile) SiteError → Result (List HeldFile) SiteError
with_first entry list = list >>= λ entries. Ok (entry ∷ entries)

-- The named files in turn, with room for this number of bytes of content. There is no list if a file is missing. The list is
-- too long as soon as there is no room for a file; those after it are not read.
unfoldable pub gathered : Files → ℕ → List NamedContent → Option (Result (List HeldFile) SiteError)
gathered files room [] = Some (Ok [])
gathered files room (named ∷ rest) = option_and_then (λ content.
    if nat_lt room (length content) then Some (Err (fault TooLong 0))
    else option_map (with_first (record { name = named.name; content = content })) (gathered files (room - length content) rest))
    (files named.file)

-- the list to pack: its contents may have as many bytes as the longest image
abbrev pub list_of : List NamedContent → Files → Option (Result (List HeldFile) SiteError)
list_of named files = gathered files LONGEST_IMAGE named

-- what reading the files gave, mapped by the function, with the count of the shelf's faults before and after
abbrev pub Gathers : {X : Type 0} → (X → List HeldFile) → List NamedContent → Option Files → ℕ → ℕ → Result X LoadFault → Type 0
Gathers view named held before now (Ok x) = FindsInFiles (list_of named) held (Ok (view x)) × (now ≡ before)
Gathers view named held before now (Err (Bad error)) = FindsInFiles (list_of named) held (Err error) × (now ≡ before)
Gathers view named held before now (Err Shelf) = (Rose before now ⊎ LacksFile (list_of named) held) × (before ≤ now)
Gathers view named held before now (Err NoMemory) = now ≡ before

-- a file for which there is no room is too long
abbrev pub IsTooLong : Option Files → List ℕ → ℕ → LoadFault → Type 0
IsTooLong held name room (Bad error) = (error ≡ fault TooLong 0) × HoldsFile held name (λ content. room < length content)
IsTooLong held name room Shelf = ⊤
IsTooLong held name room NoMemory = ⊤

-- a file for which there is room was read and appended to the list
pub record WasRead (named : NamedContent) (room left : ℕ) (old new : List HeldFile) (content : List ℕ) : Type 0 where
  pub fits : length content ≤ room
  pub left_is : left ≡ room - length content
  pub entry : new ≡ old ++ record { name = named.name; content = content } ∷ []
