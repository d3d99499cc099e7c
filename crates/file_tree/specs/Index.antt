-- The order of a site's files by their names, in which a name is searched.
use Rattle.std.specs.Prelude.{◌≡◌, ◌<◌, ◌≤◌, [], length, List, slice_get, slice_index_or, Some, ℕ}
use Rattle.std.specs.Ordering.{nat_cmp}
use Rattle.std.specs.Cmp.Lexicographic.{slice_cmp}
use Rattle.std.specs.declared.cmp.Ordering.TheVariants.{Less}
use Rattle.site_image.specs.declared.place.Place.{Place}
use Rattle.site_image.specs.Prelude.{File, page_length, IsWithin, file_in, files_in}
use Rattle.file_tree.specs.declared.file_id.FileId.{FileId}

-- one name is before another in the order of their bytes
abbrev pub IsBefore : List ℕ → List ℕ → Type 0
IsBefore one other = slice_cmp nat_cmp one other ≡ Less

-- the name of the file with the id
abbrev pub name_of : List File → ℕ → List ℕ
name_of files id = (slice_index_or files id (record { name = []; kind = []; content = [] })).name

-- the id at a rank of the order
abbrev pub id_at : List FileId → ℕ → ℕ
id_at order rank = (slice_index_or order rank (record { 0 = 0 })).0

-- the name at a rank of the order
abbrev pub name_at : List File → List FileId → ℕ → List ℕ
name_at files order rank = name_of files (id_at order rank)

-- the order holds each id once, in ascending order of the names' bytes
pub record IsOrder (files : List File) (order : List FileId) : Type 0 where
  pub count : length order ≡ length files
  pub ids : (rank : ℕ) → rank < length order → id_at order rank < length files
  pub each : (id : ℕ) → id < length files → (rank : ℕ) × (rank < length order) × (id_at order rank ≡ id)
  pub rising : (low high : ℕ) → low < high → high < length order → IsBefore (name_at files order low) (name_at files order high)

-- the rank at which a name that no file has would be inserted
pub record IsSlot (files : List File) (order : List FileId) (name : List ℕ) (slot : ℕ) : Type 0 where
  pub within : slot ≤ length order
  pub below : (rank : ℕ) → rank < slot → IsBefore (name_at files order rank) name
  pub above : (rank : ℕ) → slot ≤ rank → rank < length order → IsBefore name (name_at files order rank)

-- each place is within the image
abbrev pub AreWithin : List ℕ → List Place → Type 0
AreWithin image places = (k : ℕ) (place : Place) → slice_get places k ≡ Some place → IsWithin image place

-- places within an image, and the order of their files
pub record IsIndex (image : List ℕ) (places : List Place) (order : List FileId) : Type 0 where
  pub within : AreWithin image places
  pub order_is : IsOrder (files_in image places) order

-- each place holds the greatest length of its file's page
abbrev pub AreMeasured : List ℕ → List Place → Type 0
AreMeasured image places =
    (k : ℕ) (place : Place) → slice_get places k ≡ Some place → place.greatest ≡ page_length (files_in image places) (file_in image place)
