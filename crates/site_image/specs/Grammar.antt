-- The grammar of an image: the bytes that represent a list of files.
use Rattle.std.specs.Prelude.{◌≡◌, ◌≤◌, ◌∷◌, ◌++◌, [], codes, flat_map, IsTrue, length, List, None, slice_get, Some, ℕ}
use Rattle.std.specs.Int.{w16, w32, to_be_bytes}
use Rattle.site_image.specs.declared.TheConstants.{LONGEST_IMAGE, MOST_FILES}
use Rattle.site_image.specs.declared.version.Version.{Version}
use Rattle.site_image.specs.declared.version.Version.TheVariants.{One, Two}
use Rattle.site_image.specs.Names.{is_name, is_kind}
use Rattle.site_image.specs.Files.{File}
use Rattle.site_image.specs.Pages.{script_fault}

-- the eight bytes at the start, which identify the version
abbrev pub magic : Version → List ℕ
magic One = codes "UIPSITE1"
magic Two = codes "UIPSITE2"

-- one byte of length, and the text
abbrev pub short_text : List ℕ → List ℕ
short_text text = length text ∷ text

-- four bytes of length, and the content
abbrev pub long_text : List ℕ → List ℕ
long_text content = to_be_bytes w32 (length content) ++ content

-- entry = name, in version 2 the content type, content
abbrev pub entry : Version → File → List ℕ
entry One file = short_text file.name ++ long_text file.content
entry Two file = short_text file.name ++ (short_text file.kind ++ long_text file.content)

-- image = magic, two bytes with the count of the entries, the entries
abbrev pub image : Version → List File → List ℕ
image version files = magic version ++ (to_be_bytes w16 (length files) ++ flat_map (entry version) files)

-- a content type that an image of the version can hold
abbrev pub IsKindIn : Version → List ℕ → Type 0
IsKindIn One kind = kind ≡ []
IsKindIn Two kind = IsTrue (is_kind kind)

-- a file that an image of the version can hold
pub record IsFile (version : Version) (file : File) : Type 0 where
  pub name : IsTrue (is_name file.name)
  pub kind : IsKindIn version file.kind

-- The files of a good image: few enough, of distinct names, not too long; each include of a script names one of them, and no
-- page can be too long.
pub record IsSite (version : Version) (files : List File) : Type 0 where
  pub count : length files ≤ MOST_FILES
  pub each : (k : ℕ) (file : File) → slice_get files k ≡ Some file → IsFile version file
  pub distinct : (j k : ℕ) (one other : File) → slice_get files j ≡ Some one → slice_get files k ≡ Some other → one.name ≡ other.name
      → j ≡ k
  pub size : length (image version files) ≤ LONGEST_IMAGE
  pub scripts : (k : ℕ) (file : File) → slice_get files k ≡ Some file → script_fault files file ≡ None

-- a good image of the files
abbrev pub IsImage : List ℕ → List File → Type 0
IsImage bytes files = (version : Version) × IsSite version files × (bytes ≡ image version files)
