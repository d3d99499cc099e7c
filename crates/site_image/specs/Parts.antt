-- The parts of an entry, from the start of what is left of an image, and what is wrong with each.
use Rattle.std.specs.Prelude.{ℕ, ◌+◌, ◌==◌, Bool, ◌||◌, not, List, [], ◌∷◌, length, take}
use Rattle.std.specs.Prelude.{drop, nat_lt, slice_index, if◌then◌else◌, Option, None, Some}
use Rattle.std.specs.Int.{w32, from_be_bytes}
use Rattle.site_image.specs.declared.TheConstants.{LONGEST_NAME, LONGEST_KIND}
use Rattle.site_image.specs.declared.site_error.SiteWhy.{SiteWhy}
use Rattle.site_image.specs.declared.site_error.SiteWhy.TheVariants.{Cut, Name, Kind}
use Rattle.site_image.specs.declared.version.Version.{Version}
use Rattle.site_image.specs.declared.version.Version.TheVariants.{One, Two}
use Rattle.site_image.specs.Names.{is_name, is_kind}

-- the fault of the first row of a table whose test holds
abbrev pub first_of : List (Bool × SiteWhy) → Option SiteWhy
first_of [] = None
first_of (row ∷ rows) = if row.0 then Some row.1 else first_of rows

-- a length of one byte, the text of that length, and what follows it
abbrev pub byte_length : List ℕ → ℕ
byte_length bytes = slice_index bytes 0

abbrev pub text : List ℕ → List ℕ
text bytes = take (byte_length bytes) (drop 1 bytes)

abbrev pub after_text : List ℕ → List ℕ
after_text bytes = drop (byte_length bytes + 1) bytes

-- a length of four bytes, the content of that length, and what follows it
abbrev pub long_length : List ℕ → ℕ
long_length bytes = from_be_bytes w32 (take 4 bytes)

abbrev pub content : List ℕ → List ℕ
content bytes = take (long_length bytes) (drop 4 bytes)

abbrev pub after_content : List ℕ → List ℕ
after_content bytes = drop (long_length bytes + 4) bytes

-- what is wrong with a name
abbrev pub name_fault : List ℕ → Option SiteWhy
name_fault bytes = first_of (
    (length bytes == 0, Cut)
    ∷ (byte_length bytes == 0 || nat_lt LONGEST_NAME (byte_length bytes), Name)
    ∷ (nat_lt (length bytes) (byte_length bytes + 1), Cut)
    ∷ (not (is_name (text bytes)), Name)
    ∷ [])

-- what is wrong with a content type, which only version 2 has
abbrev pub kind_fault : Version → List ℕ → Option SiteWhy
kind_fault One bytes = None
kind_fault Two bytes = first_of (
    (length bytes == 0, Cut)
    ∷ (nat_lt LONGEST_KIND (byte_length bytes), Kind)
    ∷ (nat_lt (length bytes) (byte_length bytes + 1), Cut)
    ∷ (not (is_kind (text bytes)), Kind)
    ∷ [])

-- the content type, and what follows it
abbrev pub kind_given : Version → List ℕ → List ℕ
kind_given One bytes = []
kind_given Two bytes = text bytes

abbrev pub after_kind : Version → List ℕ → List ℕ
after_kind One bytes = bytes
after_kind Two bytes = after_text bytes

-- what is wrong with a content
abbrev pub content_fault : List ℕ → Option SiteWhy
content_fault bytes = first_of ((nat_lt (length bytes) 4, Cut) ∷ (nat_lt (length bytes) (long_length bytes + 4), Cut) ∷ [])
