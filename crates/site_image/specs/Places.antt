-- The places of the files of an image.
use Rattle.std.specs.Prelude.{ℕ, ◌≡◌, ◌+◌, ◌≤◌, List, drop, slice_range, length, map}
use Rattle.site_image.specs.declared.place.Place.{Place}
use Rattle.site_image.specs.declared.part.Part.{Part}
use Rattle.site_image.specs.Files.{File}

-- a part of an image: it represents the value, and the rest follows it
pub record IsPart (image : List ℕ) (part : Part) (value rest : List ℕ) : Type 0 where
  pub within : part.at + part.len ≤ part.next
  pub next : part.next ≤ length image
  pub value_is : slice_range image part.at (part.at + part.len) ≡ value
  pub rest_is : drop part.next image ≡ rest

-- the parts of a place are within the image
pub record IsWithin (image : List ℕ) (place : Place) : Type 0 where
  pub name : place.name_at + place.name_len ≤ length image
  pub kind : place.kind_at + place.kind_len ≤ length image
  pub content : place.at + place.len ≤ length image

-- the file at a place
abbrev pub file_in : List ℕ → Place → File
file_in image place = record {
  name = slice_range image place.name_at (place.name_at + place.name_len);
  kind = slice_range image place.kind_at (place.kind_at + place.kind_len);
  content = slice_range image place.at (place.at + place.len);
}

-- the files at the places
abbrev pub files_in : List ℕ → List Place → List File
files_in image places = map (file_in image) places
