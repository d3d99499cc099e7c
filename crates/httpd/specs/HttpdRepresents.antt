-- The states that a connection of the web server represents.
use Rattle.std.specs.Prelude.{◌≡◌, ◌≤◌, ◌+◌, ℕ, List, [], ◌++◌, length, drop, Option}
use Rattle.app_events.specs.Prelude.{AppSpec, AppState, Snapshot}
use Rattle.app_events.specs.declared.now.Now.{Now}
use Rattle.file_tree.specs.declared.file_id.FileId.{FileId}
use Rattle.file_tree.specs.Prelude.{SiteContent, files_of}
use Rattle.site_image.specs.Prelude.{File, file_named}
use Rattle.web_pages.specs.Prelude.{wanted, Refused, Name, ScriptPiece, reply_pieces_by, reach_by, text_by, hits_by}
use Rattle.generators.specs.Prelude.{ScriptFunctions, uip, capture_text}
use Rattle.httpd.specs.declared.stage.Stage.{Stage}
use Rattle.httpd.specs.declared.stage.Stage.TheVariants as stage
use Rattle.httpd.specs.First.{Httpd}
use Rattle.httpd.specs.declared.httpd.Pages.{Pages}
use Rattle.httpd.specs.declared.thread.Thread.{Thread}
use Rattle.httpd.specs.Reply.{FileReply, calls_in, found_file, left_from, reply_by}
use Rattle.httpd.specs.Places.{IsFound, Fits}
use Rattle.httpd.specs.Kept.{KeepsDirective}
use Rattle.httpd.specs.Reception.{ReceivesMethod, ReceivesTarget}

-- the pieces of the page of a name
abbrev pub page_pieces : {F : Type 0} → FileReply F → List ℕ → List (ScriptPiece F)
page_pieces reply name = reply_pieces_by reply.functions.function_table.named reply.files name

-- For any further snapshots: what the thread still sends with them is the page of the name after the acknowledged offset. It reaches the
-- end if the page does. The reply has passed as many calls as there are snapshots.
pub record IsLeft {F : Type 0} (reply : FileReply F) (thread : Thread) (name : List ℕ) (part : AppState) : Type 0 where
  pub text : (later : List Snapshot) → text_by reply.functions reply.files (left_from reply thread) later
      ≡ drop part.acked (text_by reply.functions reply.files (page_pieces reply name) (part.snapshots ++ later))
  pub whole : (later : List Snapshot) → reach_by reply.functions (left_from reply thread) later
      ≡ reach_by reply.functions (page_pieces reply name) (part.snapshots ++ later)
  pub calls : length part.snapshots + calls_in reply.functions.function_table (left_from reply thread)
      ≡ calls_in reply.functions.function_table (page_pieces reply name)
  pub within : part.acked ≤ length (text_by reply.functions reply.files (page_pieces reply name) part.snapshots)

-- A reply to a request for the name is being sent.
pub record IsReplying {F R : Type 0} (g : ScriptFunctions F) (text : R → List ℕ) (a : Pages R) (site : SiteContent)
    (name : List ℕ) (found : Option FileId) (part : AppState) : Type 0 where
  pub wanted : wanted part.input ≡ Name name
  pub there : IsFound (files_of site) found
  pub file : found_file (files_of site) found ≡ file_named (files_of site) name
  pub fits : Fits (reply_by g text site found a.capture) a.thread
  pub kept : KeepsDirective (reply_by g text site found a.capture) part.snapshots a.thread
  pub left : IsLeft (reply_by g text site found a.capture) a.thread name part

-- Nothing was sent, captured or acknowledged.
pub record SendsNothing (part : AppState) : Type 0 where
  pub snapshots : part.snapshots ≡ []
  pub acked : part.acked ≡ 0

-- The state by the stage of the request.
abbrev pub IsRepresentedIn : {F R : Type 0} → ScriptFunctions F → (R → List ℕ) → Pages R → SiteContent → AppState → Stage → Type 0
IsRepresentedIn g text a site part stage.Method = ReceivesMethod a.line part.input × SendsNothing part
IsRepresentedIn g text a site part stage.Target = ReceivesTarget a.line part.input × SendsNothing part
IsRepresentedIn g text a site part (stage.Reply found) = (name : List ℕ) × IsReplying g text a site name found part
IsRepresentedIn g text a site part stage.Refused = (wanted part.input ≡ Refused) × SendsNothing part

pub record PagesRepresent {F R : Type 0} (g : ScriptFunctions F) (text : R → List ℕ) (a : Pages R)
    (site : SiteContent) (part : AppState) : Type 0 where
  pub polls : a.polls ≡ part.polls
  pub represented : IsRepresentedIn g text a site part a.stage

-- with the functions of uIP
abbrev pub HttpdRepresents : Httpd → SiteContent → AppState → Type 0
HttpdRepresents = PagesRepresent uip capture_text

-- ---- what the calls of an application do to the states represented

-- Pages that represent a state represent the changed one afterwards.
abbrev pub Becomes : {A : Type 0} → (A → SiteContent → AppState → Type 0) → SiteContent → (AppState → AppState) → A → A → Type 0
Becomes represented site change old new = (p : AppState) → represented old site p → represented new site (change p)

-- In the states represented, `prepare` takes no capture.
abbrev pub TakesNoCapture : AppSpec → (AppState → Type 0) → Type 0
TakesNoCapture m IsRepresented = (numbers : List ℕ) (p : AppState) (now : Now) → IsRepresented p → m.prepare numbers p now ≡ p

-- the state of a connection at this port that has received nothing
abbrev pub before_input : ℕ → AppState
before_input port = record { port = port; input = []; snapshots = []; acked = 0; polls = 0; own = 0 }

-- the hits of the files after a piece was delivered
abbrev pub hits_after : List File → AppState → List ℕ → List ℕ → List ℕ
hits_after files p piece hits = hits_by files hits (wanted p.input) (wanted (p.input ++ piece))
