-- What is to be written for a shelf's files, and the fault of the image, if there is one.
use Rattle.std.specs.Prelude.{◌≡◌, ⊤, ℕ, List, [], Option, None, Some, option_map, Result, Ok, Err}
use Rattle.uip_edge.specs.Prelude.{Files}
use Rattle.file_tree.specs.declared.load_fault.LoadFault.{LoadFault}
use Rattle.file_tree.specs.declared.load_fault.LoadFault.TheVariants as fault
use Rattle.file_tree.specs.Prelude.{site_read, listed, packed, KindContent, upgraded, second_image}
use Rattle.site_image.specs.Prelude.{◌>>=◌, File, read_image}
use Rattle.site_commands.specs.declared.halt.Halt.{Halt}
use Rattle.site_commands.specs.declared.halt.Halt.TheVariants as halt
use Rattle.site_commands.specs.Gathering.{NamedContent, list_of}
use Rattle.site_image.specs.declared.site_error.SiteError.{SiteError}
use Rattle.web_pages.specs.Prelude.{zero_page}
use Rattle.site_report.specs.Prelude.{image_report, bad_line}

-- the text, and the first fault of the image, if it has one
pub record Due : Type 0 where
  pub text : List ℕ
  pub fault : Option SiteError

-- the report on an image that was read, or the line of its first fault
abbrev pub checked : Result (List File) SiteError → Due
checked (Ok files) = record { text = image_report files; fault = None }
checked (Err error) = record { text = bad_line error; fault = Some error }

-- what is due for the image under the name; none if the file is missing
abbrev pub check_due : List ℕ → Files → Option Due
check_due name files = option_map (λ content. checked (read_image content)) (files name)

-- a text, or the first fault of the image, for which nothing is written
abbrev pub due_of : Result (List ℕ) SiteError → Due
due_of (Ok text) = record { text = text; fault = None }
due_of (Err error) = record { text = []; fault = Some error }

-- what is due for a list of named files: its image in version 1
abbrev pub pack_due : List NamedContent → Files → Option Due
pack_due named files = option_map (λ list. due_of (list >>= λ entries. packed (listed entries))) (list_of named files)

-- what is due for the site under the name and the words that give content types: its image in version 2
abbrev pub upgrade_due : List ℕ → List KindContent → Files → Option Due
upgrade_due name words files =
    option_map (λ content. due_of (read_image content >>= λ old. second_image (upgraded words old))) (files name)

-- the image is what was made, unless memory ran out
abbrev pub MakesImage : Result (List ℕ) SiteError → Result Due Halt → Type 0
MakesImage image (Ok made) = made ≡ due_of image
MakesImage image (Err halt.NoMemory) = ⊤
MakesImage image (Err halt.Shelf) = ⊥

-- what is made of a fault
abbrev pub MadeOfFault : LoadFault → Result Due Halt → Type 0
MadeOfFault fault.Shelf made = made ≡ Err halt.Shelf
MadeOfFault (fault.Bad error) made = made ≡ Ok (due_of (Err error))
MadeOfFault fault.NoMemory made = made ≡ Err halt.NoMemory

-- what is due for a target of the site under the name: its page, as a node sends it before anything has happened
abbrev pub page_due : List ℕ → List ℕ → Files → Option Due
page_due name target files = option_map (λ read. due_of (read >>= λ site. Ok (zero_page site target))) (site_read name files)
