-- The states that the compact pages of a connection represent: those of the pages that keep the same.
use Rattle.std.specs.Prelude.{ℕ, Bool, true, false, List, []}
use Rattle.app_events.specs.Prelude.{AppState}
use Rattle.file_tree.specs.Prelude.{SiteContent}
use Rattle.generators.specs.Prelude.{ScriptFunctions}
use Rattle.protosocket.specs.Prelude.{Line, delivered}
use Rattle.protosocket.specs.declared.stops.Stops.TheVariants.{Space}
use Rattle.httpd.specs.declared.compact.CompactPages.{CompactPages}
use Rattle.httpd.specs.declared.compact.CompactPages.TheVariants as compact
use Rattle.httpd.specs.declared.httpd.Pages.{Pages}
use Rattle.httpd.specs.declared.stage.Stage.{Stage}
use Rattle.httpd.specs.declared.stage.Stage.TheVariants as stage
use Rattle.httpd.specs.declared.thread.Thread.TheVariants.{Head}
use Rattle.httpd.specs.Reception.{ReceivesMethod, ReceivesTarget}
use Rattle.httpd.specs.HttpdRepresents.{PagesRepresent}

-- the stage while a word is received: the second, or the first
abbrev pub word_stage : Bool → Stage
word_stage true = stage.Target
word_stage false = stage.Method

abbrev pub is_target_stage : Stage → Bool
is_target_stage stage.Target = true
is_target_stage stage.Method = false
is_target_stage stage.Refused = false
is_target_stage (stage.Reply found) = false

-- what was received of the word, and of the one before it
abbrev pub ReceivesWord : Bool → Line → List ℕ → Type 0
ReceivesWord true = ReceivesTarget
ReceivesWord false = ReceivesMethod

abbrev pub polls_of : {R : Type 0} → CompactPages R → ℕ
polls_of (compact.Receiving polls target line) = polls
polls_of (compact.Replying polls found thread capture) = polls
polls_of (compact.Refused polls) = polls

abbrev pub with_polls : {R : Type 0} → CompactPages R → ℕ → CompactPages R
with_polls (compact.Receiving polls target line) n = compact.Receiving n target line
with_polls (compact.Replying polls found thread capture) n = compact.Replying n found thread capture
with_polls (compact.Refused polls) n = compact.Refused n

-- The pages that keep the same; a record is its text. What is not kept at a stage is empty: nothing is read of it there.
abbrev pub pages_kept : {R : Type 0} → (R → List ℕ) → CompactPages R → Pages (List ℕ)
pages_kept text (compact.Receiving polls target line) =
    record { stage = word_stage target; line = line; thread = Head 0; capture = []; polls = polls }
pages_kept text (compact.Replying polls found thread capture) =
    record { stage = stage.Reply found; line = delivered Space []; thread = thread; capture = text capture; polls = polls }
pages_kept text (compact.Refused polls) =
    record { stage = stage.Refused; line = delivered Space []; thread = Head 0; capture = []; polls = polls }

abbrev pub CompactRepresent : {F R : Type 0} → ScriptFunctions F → (R → List ℕ) → CompactPages R → SiteContent → AppState → Type 0
CompactRepresent g text a site part = PagesRepresent g (λ made. made) (pages_kept text a) site part
