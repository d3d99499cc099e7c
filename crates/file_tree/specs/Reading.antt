-- What is known of an entry that was read, and of the entries that were read so far.
use Rattle.std.specs.Prelude.{◌≡◌, ◌≤◌, ℕ, List, drop, length, None}
use Rattle.site_image.specs.declared.part.Part.{Part}
use Rattle.site_image.specs.declared.place.Place.{Place}
use Rattle.site_image.specs.declared.version.Version.{Version}
use Rattle.site_image.specs.Prelude.{File, entry_fault, entry_file, after_entry, IsWithin, file_in}
use Rattle.file_tree.specs.declared.file_id.FileId.{FileId}
use Rattle.file_tree.specs.Index.{IsSlot}

-- the place of a file by its three parts
abbrev pub place_by : Part → Part → Part → Place
place_by name kind body = record {
  name_at = name.at;
  name_len = name.len;
  kind_at = kind.at;
  kind_len = kind.len;
  at = body.at;
  len = body.len;
  greatest = 0;
}

-- The entry at an offset of the image has no fault, its file is at its own place, the next entry follows it, and its name goes
-- to the slot of the order.
pub record IsEntry (image : List ℕ) (version : Version) (earlier : List File) (order : List FileId) (at : ℕ)
    (place : Place) (slot next : ℕ) : Type 0 where
  pub none : entry_fault version earlier (drop at image) ≡ None
  pub file_is : file_in image place ≡ entry_file version (drop at image)
  pub rest_is : drop next image ≡ after_entry version (drop at image)
  pub within : IsWithin image place
  pub next_in : next ≤ length image
  pub slot_is : IsSlot earlier order (file_in image place).name slot
