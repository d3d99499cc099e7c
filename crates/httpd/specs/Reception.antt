-- How much of a request was received, and what the line buffer keeps of it.
use Rattle.std.specs.Prelude.{◌≡◌, bytes_eq, codes, false, List, Option, true, ℕ}
use Rattle.protosocket.specs.declared.stops.Stops.TheVariants.{Space, SpaceOrLine}
use Rattle.protosocket.specs.Prelude.{Line}
use Rattle.protosocket.specs.Line.{delivered as received_line}
use Rattle.web_pages.specs.Prelude.{Wanted, wanted, has_ended, method_of, after_method, name_in, target_of, Refused, Name}
use Rattle.site_image.specs.Prelude.{File, file_named}
use Rattle.file_tree.specs.declared.file_id.FileId.{FileId}
use Rattle.httpd.specs.declared.stage.Stage.{Stage}
use Rattle.httpd.specs.declared.stage.Stage.TheVariants as stage
use Rattle.httpd.specs.Reply.{found_file}
use Rattle.httpd.specs.Places.{IsFound}
use Rattle.httpd.specs.declared.request.Received.{Received}
use Rattle.httpd.specs.declared.request.Received.TheVariants as delivered

-- The first word has not ended, and the buffer keeps it.
pub record ReceivesMethod (line : Line) (request : List ℕ) : Type 0 where
  pub goes_on : has_ended Space request ≡ false
  pub holds : line ≡ received_line Space request

-- The first word was `GET`, the second has not ended, and the buffer keeps it.
pub record ReceivesTarget (line : Line) (request : List ℕ) : Type 0 where
  pub method_ended : has_ended Space request ≡ true
  pub method : bytes_eq (method_of request) (codes "GET") ≡ true
  pub goes_on : has_ended SpaceOrLine (after_method request) ≡ false
  pub holds : line ≡ received_line SpaceOrLine (after_method request)

-- A name is requested, and the buffer keeps its target.
pub record HasName (line : Line) (request : List ℕ) : Type 0 where
  pub wanted : wanted request ≡ Name (name_in (target_of request))
  pub holds : line ≡ received_line SpaceOrLine (after_method request)

-- If a name is requested, the file found is the one with that name.
pub record IsFileAsked (files : List File) (asked : Wanted) (found : Option FileId) : Type 0 where
  pub name : List ℕ
  pub wanted : asked ≡ Name name
  pub there : IsFound files found
  pub file : found_file files found ≡ file_named files name

-- what was received of a request
abbrev pub ReceivesTo : Received → Line → List ℕ → Type 0
ReceivesTo delivered.Method line request = ReceivesMethod line request
ReceivesTo delivered.Target line request = ReceivesTarget line request
ReceivesTo delivered.Named line request = HasName line request
ReceivesTo delivered.Refused line request = wanted request ≡ Refused

-- the stage of a request
abbrev pub IsDecided : List File → Line → List ℕ → Stage → Type 0
IsDecided files line request stage.Method = ReceivesMethod line request
IsDecided files line request stage.Target = ReceivesTarget line request
IsDecided files line request stage.Refused = wanted request ≡ Refused
IsDecided files line request (stage.Reply found) = IsFileAsked files (wanted request) found
