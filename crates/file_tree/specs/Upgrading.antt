-- Upgrading a site to version 2: the same names and contents, each with a content type of its own.
use Rattle.std.specs.Prelude.{bytes_eq, find, length, List, map, nat_lt, Ok, option_map, Result, reverse, unwrap_or, ℕ}
use Rattle.site_image.specs.declared.TheConstants.{LONGEST_IMAGE}
use Rattle.site_image.specs.declared.site_error.SiteWhy.TheVariants.{TooLong}
use Rattle.site_image.specs.declared.site_error.SiteError.{SiteError}
use Rattle.site_image.specs.declared.version.Version.TheVariants.{Two}
use Rattle.site_image.specs.Prelude.{File, kind_of, image, ◌>>=◌, refuse, scripts}

-- a word that gives a file its content type
pub record KindContent : Type 0 where
  pub name : List ℕ
  pub kind : List ℕ

-- the type of the last word that names the file, else the one that the file had
abbrev pub chosen : List KindContent → File → List ℕ
chosen words file = unwrap_or (option_map (λ word. word.kind) (find (λ word. bytes_eq word.name file.name) (reverse words))) (kind_of file)

-- the file with that type
abbrev pub retyped : List KindContent → File → File
retyped words file = record { name = file.name; kind = chosen words file; content = file.content }

-- the new list
abbrev pub upgraded : List KindContent → List File → List File
upgraded words files = map (retyped words) files

-- the image of the list in version 2, or its first fault: of the whole, then script after script
unfoldable pub second_image : List File → Result (List ℕ) SiteError
second_image files = do
  _ ← refuse (nat_lt LONGEST_IMAGE (length (image Two files))) TooLong
  _ ← scripts files 0 files
  Ok (image Two files)
