-- A site, and the files that it represents.
use Rattle.std.specs.Prelude.{◌≡◌, ◌≤◌, ℕ, List, [], ◌∷◌, length, slice_get, IsTrue, Some, None, Result, Ok}
use Rattle.script_lang.specs.Prelude.{Calling}
use Rattle.site_image.specs.declared.TheConstants.{LONGEST_IMAGE, MOST_FILES}
use Rattle.site_image.specs.declared.place.Place.{Place}
use Rattle.site_image.specs.declared.site_error.SiteError.{SiteError}
use Rattle.site_image.specs.Prelude.{is_name, is_kind, File, script_fault_by, read_image, files_in}
use Rattle.file_tree.specs.declared.file_id.FileId.{FileId}
use Rattle.file_tree.specs.Index.{IsIndex, AreMeasured}

-- the image, the places of its files, and their ids in the order of their names
pub record SiteContent : Type 0 where
  pub image : List ℕ
  pub files : List Place
  pub order : List FileId

-- the files that the site represents
abbrev pub files_of : SiteContent → List File
files_of site = files_in site.image site.files

-- the files of an image; the empty list of bytes represents the site without files
abbrev pub image_files : List ℕ → Result (List File) SiteError
image_files [] = Ok []
image_files (byte ∷ bytes) = read_image (byte ∷ bytes)

-- each name and each content type is well-formed
abbrev pub AreGood : List File → Type 0
AreGood files = (k : ℕ) (file : File) → slice_get files k ≡ Some file → IsTrue (is_name file.name) × IsTrue (is_kind file.kind)

-- two files have two names
abbrev pub AreApart : List File → Type 0
AreApart files =
    (j k : ℕ) (one other : File) → slice_get files j ≡ Some one → slice_get files k ≡ Some other → one.name ≡ other.name → j ≡ k

-- no script has a fault, if scripts call these functions
abbrev pub HasSoundScripts : {F : Type 0} → Calling F → List File → Type 0
HasSoundScripts c files = (k : ℕ) (file : File) → slice_get files k ≡ Some file → script_fault_by c files file ≡ None

-- the three parts are those of one good image, or of the site without files
pub record IsLoaded (site : SiteContent) : Type 0 where
  pub read : image_files site.image ≡ Ok (files_of site)
  pub good : AreGood (files_of site)
  pub apart : AreApart (files_of site)
  pub size : length site.image ≤ LONGEST_IMAGE
  pub few : length site.files ≤ MOST_FILES
  pub table : IsIndex site.image site.files site.order
  pub measured : AreMeasured site.image site.files
