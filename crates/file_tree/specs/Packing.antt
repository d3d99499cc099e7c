-- Packing a list of files: its image, or its first fault; and the place of an entry that is written.
use Rattle.std.specs.Prelude.{ℕ, ◌+◌, not, ⊤, List, [], ◌∷◌, ◌++◌, length, map, nat_lt, Option, Result, Ok}
use Rattle.uip_edge.specs.Prelude.{HeldFile}
use Rattle.site_image.specs.declared.TheConstants.{LONGEST_IMAGE, MOST_FILES}
use Rattle.site_image.specs.declared.place.Place.{Place}
use Rattle.site_image.specs.declared.site_error.SiteWhy.{SiteWhy}
use Rattle.site_image.specs.declared.site_error.SiteWhy.TheVariants.{TooLong, TooMany, Name, Twice}
use Rattle.site_image.specs.declared.site_error.SiteError.{SiteError}
use Rattle.site_image.specs.declared.version.Version.{Version}
use Rattle.site_image.specs.declared.version.Version.TheVariants.{One, Two}
use Rattle.site_image.specs.Prelude.{is_name, File, has_name, image, first_of, ◌>>=◌, refuse, unless, scripts}

-- a file without a content type of its own
abbrev pub file_of : List ℕ → List ℕ → File
file_of name content = record { name = name; kind = []; content = content }

-- the files of a list to pack
abbrev pub listed : List HeldFile → List File
listed list = map (λ entry. file_of entry.name entry.content) list

-- what is wrong with a name after the earlier files: the name itself, or else that an earlier file has it
abbrev pub listed_fault : List File → List ℕ → Option SiteWhy
listed_fault earlier name = first_of ((not (is_name name), Name) ∷ (has_name earlier name, Twice) ∷ [])

-- the files in turn, after the earlier ones
unfoldable pub named : List File → List File → Result ⊤ SiteError
named earlier [] = Ok tt
named earlier (file ∷ files) = unless (listed_fault earlier file.name) (length earlier + 1) (named (earlier ++ file ∷ []) files)

-- the image of the files in version 1, or their first fault: of the whole, then name after name, then script after script
unfoldable pub packed : List File → Result (List ℕ) SiteError
packed files = do
  _ ← refuse (nat_lt LONGEST_IMAGE (length (image One files))) TooLong
  _ ← refuse (nat_lt MOST_FILES (length files)) TooMany
  _ ← named [] files
  _ ← scripts files 0 files
  Ok (image One files)

-- where an entry's content type begins, and where its content does, by the version and the offset after its name
abbrev pub kind_start : Version → ℕ → ℕ
kind_start One at = at
kind_start Two at = at + 1

-- the place of an entry that begins at an offset, by the lengths of its parts
abbrev pub place_after : Version → ℕ → ℕ → ℕ → ℕ → Place
place_after version start name kind content = record {
  name_at = start + 1;
  name_len = name;
  kind_at = kind_start version (start + 1 + name);
  kind_len = kind;
  at = kind_start version (start + 1 + name) + kind + 4;
  len = content;
  greatest = 0;
}
