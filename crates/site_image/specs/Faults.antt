-- The first fault of an image, and the files that an image without fault represents. Reading the image from its start
-- determines both: the whole, then entry after entry, then what follows the last one, then script after script.
use Rattle.std.specs.Prelude.{ℕ, zero, suc, ◌+◌, Bool, ⊤, List, [], ◌∷◌, ◌++◌, length, take, drop}
use Rattle.std.specs.Prelude.{nat_eq, nat_lt, if◌then◌else◌, Option, None, Some, Result, Ok, Err}
use Rattle.std.specs.Option.{option_or}
use Rattle.std.specs.List.{starts_with}
use Rattle.std.specs.Int.{w16, from_be_bytes}
use Rattle.site_image.specs.declared.TheConstants.{LONGEST_IMAGE, MOST_FILES}
use Rattle.site_image.specs.declared.site_error.SiteWhy.{SiteWhy}
use Rattle.site_image.specs.declared.site_error.SiteWhy.TheVariants.{TooLong, Magic, Cut, TooMany, Twice, Rest}
use Rattle.site_image.specs.declared.site_error.SiteError.{SiteError}
use Rattle.site_image.specs.declared.version.Version.{Version}
use Rattle.site_image.specs.declared.version.Version.TheVariants.{One, Two}
use Rattle.site_image.specs.Files.{File, has_name}
use Rattle.site_image.specs.Pages.{script_fault}
use Rattle.site_image.specs.Grammar.{magic}
use Rattle.site_image.specs.Parts.{text, after_text, kind_given, after_kind, content, after_content, name_fault, kind_fault, content_fault}

-- a fault of entry i, counted from 1; 0 is the whole image
abbrev pub fault : SiteWhy → ℕ → SiteError
fault why i = record { why = why; entry = i }

-- the given result, if there is no fault; else the fault of entry i
abbrev pub unless : {T : Type 0} → Option SiteWhy → ℕ → Result T SiteError → Result T SiteError
unless None i next = next
unless (Some why) i next = Err (fault why i)

infixl 10 ◌>>=◌
abbrev pub ◌>>=◌ : {A B : Type 0} → Result A SiteError → (A → Result B SiteError) → Result B SiteError
(Ok x) >>= f = f x
(Err e) >>= f = Err e

-- the fault of the whole, if the test holds
abbrev pub refuse : Bool → SiteWhy → Result ⊤ SiteError
refuse test why = if test then Err (fault why 0) else Ok tt

-- the version by the first eight bytes
abbrev pub version_of : List ℕ → Result Version SiteError
version_of bytes =
    if starts_with nat_eq bytes (magic One) then Ok One
    else if starts_with nat_eq bytes (magic Two) then Ok Two
    else Err (fault Magic 0)

-- the two bytes after them: the count of the entries
abbrev pub file_count : List ℕ → ℕ
file_count bytes = from_be_bytes w16 (take 2 (drop 8 bytes))

-- the version and the count
unfoldable pub image_head : List ℕ → Result (Version × ℕ) SiteError
image_head bytes = do
  _ ← refuse (nat_lt LONGEST_IMAGE (length bytes)) TooLong
  version ← version_of bytes
  _ ← refuse (nat_lt (length bytes) 10) Cut
  _ ← refuse (nat_lt MOST_FILES (file_count bytes)) TooMany
  Ok (version, file_count bytes)

-- What is wrong with the entry at the start: its name, else that an earlier file has it, else its content type, else its
-- content.
abbrev pub entry_fault : Version → List File → List ℕ → Option SiteWhy
entry_fault version earlier bytes =
    option_or (name_fault bytes) (option_or (if has_name earlier (text bytes) then Some Twice else None)
    (option_or (kind_fault version (after_text bytes)) (content_fault (after_kind version (after_text bytes)))))

-- the file that it represents
abbrev pub entry_file : Version → List ℕ → File
entry_file version bytes = record {
  name = text bytes;
  kind = kind_given version (after_text bytes);
  content = content (after_kind version (after_text bytes));
}

-- what follows it
abbrev pub after_entry : Version → List ℕ → List ℕ
after_entry version bytes = after_content (after_kind version (after_text bytes))

-- this number of entries in turn, after the earlier files: all files, and what follows the last entry
unfoldable pub entries : Version → ℕ → List File → List ℕ → Result (List File × List ℕ) SiteError
entries version zero earlier bytes = Ok (earlier, bytes)
entries version (suc left) earlier bytes =
    unless (entry_fault version earlier bytes) (length earlier + 1)
    (entries version left (earlier ++ entry_file version bytes ∷ []) (after_entry version bytes))

-- the scripts among the files from the i-th on
unfoldable pub scripts : List File → ℕ → List File → Result ⊤ SiteError
scripts all i [] = Ok tt
scripts all i (file ∷ files) = unless (script_fault all file) (i + 1) (scripts all (i + 1) files)

-- the files of the image, or its first fault
unfoldable pub read_image : List ℕ → Result (List File) SiteError
read_image bytes = do
  head ← image_head bytes
  read ← entries head.0 head.1 [] (drop 10 bytes)
  _ ← refuse (nat_lt 0 (length read.1)) Rest
  _ ← scripts read.0 0 read.0
  Ok read.0
