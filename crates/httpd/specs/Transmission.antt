-- What the rest of a reply requests, and the call that is due.
use Rattle.std.specs.Prelude.{◌≡◌, ℕ, ◌==◌, ◌&&◌, Bool, true, List, [], length, min, nat_lt, if◌then◌else◌}
use Rattle.app_events.specs.declared.want.Want.{Want}
use Rattle.app_events.specs.declared.want.Want.TheVariants.{Nothing, Send, Close}
use Rattle.web_pages.specs.Prelude.{ScriptPiece, reach_by, text_by}
use Rattle.web_pages.specs.declared.TheConstants.{LARGEST_SEGMENT}
use Rattle.httpd.specs.declared.reply.Due.{Due}
use Rattle.httpd.specs.declared.thread.Thread.{Thread}
use Rattle.httpd.specs.Reply.{FileReply, left_from}
use Rattle.httpd.specs.Looking.{IsPast, SeesCall}

-- the rest of the text, as far as no further snapshot is needed
abbrev pub left_text : {F : Type 0} → FileReply F → Thread → List ℕ
left_text reply thread = text_by reply.functions reply.files (left_from reply thread) []

-- whether it reaches the end of the page
abbrev pub left_whole : {F : Type 0} → FileReply F → Thread → Bool
left_whole reply thread = reach_by reply.functions (left_from reply thread) []

-- the request that follows from both
abbrev pub want_left : List ℕ → Bool → Want
want_left text whole =
    if whole && (length text == 0) then Close
    else if nat_lt 0 (length text) then Send (min LARGEST_SEGMENT (length text))
    else Nothing

-- Text is left, or the end is reached.
abbrev pub IsNotDue : {F : Type 0} → FileReply F → Thread → Type 0
IsNotDue reply thread = length (left_text reply thread) ≡ 0 → left_whole reply thread ≡ true

-- The rest is a call and then the rest of the script.
pub record IsDueReply {F : Type 0} (reply : FileReply F) (thread : Thread) (due : Due F) : Type 0 where
  pub pieces : List (ScriptPiece F)
  pub history : IsPast reply.functions reply.files 0 (left_from reply thread) pieces
  pub call : SeesCall reply pieces due.function due.argument.now due.next
