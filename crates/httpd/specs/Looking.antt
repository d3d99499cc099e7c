-- The piece of a reply at which a thread is.
-- [add: piece] What the function of the piece finds, as `SeesCall`.
use Rattle.std.specs.Prelude.{◌≡◌, ◌≤◌, ◌<◌, ℕ, ◌+◌, ◌^◌, true, List, [], ◌∷◌, ◌++◌, length, drop, slice_range}
use Rattle.app_events.specs.Prelude.{Snapshot}
use Rattle.generators.specs.Prelude.{ScriptFunctions}
use Rattle.site_image.specs.Prelude.{File}
use Rattle.site_image.specs.declared.TheConstants.{LONGEST_IMAGE, LONGEST_KIND}
use Rattle.web_pages.specs.Prelude.{ScriptPiece, kind_line, Made, text_by, reach_by}
use Rattle.httpd.specs.declared.texts.TheConstants.{LONGEST_TEXT}
use Rattle.httpd.specs.declared.span.Span.{Span}
use Rattle.httpd.specs.declared.span.Span.TheVariants as span
use Rattle.httpd.specs.declared.span.Look.{Look}
use Rattle.httpd.specs.declared.thread.Thread.{Thread}
use Rattle.httpd.specs.declared.thread.Thread.TheVariants.{Head, Kind, Body, Inside, Making, End}
use Rattle.httpd.specs.Reply.{FileReply, body_from, calls_in, left_from}
use Rattle.httpd.specs.Places.{Fits, IsInner, moved, thread_place}
use Rattle.httpd.specs.Kept.{EndsCall, KeepsAll}

-- the rest of the piece; `text` gives the text of a record
abbrev pub span_text : {R F : Type 0} → (R → List ℕ) → Span R F → List ℕ
span_text text (span.Bytes world send) = slice_range world.now send.run.at send.run.end
span_text text (span.Line kind at) = drop at (kind_line kind.now)
span_text text (span.Made capture at end) = drop at (text capture.now)
span_text text (span.Call function argument) = []
span_text text span.End = []

-- The offsets are within the texts.
abbrev pub SpanFits : {R F : Type 0} → (R → List ℕ) → Span R F → Type 0
SpanFits text (span.Bytes world send) =
    (send.run.at ≤ send.run.end) × (send.run.end ≤ length world.now) × (length world.now ≤ LONGEST_IMAGE)
SpanFits text (span.Line kind at) = (length kind.now ≤ LONGEST_KIND) × (at ≤ length (kind_line kind.now))
SpanFits text (span.Made capture at end) = (at ≤ end) × (end ≡ length (text capture.now)) × (end ≤ LONGEST_TEXT)
SpanFits text (span.Call function argument) = Unit {0}
SpanFits text span.End = Unit {0}

-- The pieces are the text first, and then the others, for any snapshots.
pub record Leads {F : Type 0} (g : ScriptFunctions F) (files : List File) (pieces : List (ScriptPiece F)) (prefix : List ℕ)
    (others : List (ScriptPiece F)) : Type 0 where
  pub text : (later : List Snapshot) → text_by g files pieces later ≡ prefix ++ text_by g files others later
  pub whole : (later : List Snapshot) → reach_by g pieces later ≡ reach_by g others later
  pub calls : calls_in g.function_table pieces ≡ calls_in g.function_table others

-- The others are the pieces after their first n bytes.
pub record IsPast {F : Type 0} (g : ScriptFunctions F) (files : List File) (n : ℕ) (pieces others : List (ScriptPiece F)) : Type 0 where
  pub text : (later : List Snapshot) → text_by g files others later ≡ drop n (text_by g files pieces later)
  pub whole : (later : List Snapshot) → reach_by g others later ≡ reach_by g pieces later
  pub calls : calls_in g.function_table others ≡ calls_in g.function_table pieces

-- an offset n bytes further in the same piece
pub record IsInPiece {F : Type 0} (reply : FileReply F) (pieces : List (ScriptPiece F)) (here : Thread) (n : ℕ) : Type 0 where
  pub fits : Fits reply (moved here n)
  pub small : thread_place here + n < 2 ^ 31
  pub history : IsPast reply.functions reply.files n pieces (left_from reply (moved here n))

-- The first piece takes no snapshot. The span is its whole rest, or a prefix of a long one.
pub record SeesText {R F : Type 0} (text : R → List ℕ) (reply : FileReply F) (pieces : List (ScriptPiece F)) (look : Look R F) : Type 0 where
  pub leads : Leads reply.functions reply.files pieces (span_text text look.span) (left_from reply look.next)
  pub no_more : length (left_from reply look.next) ≤ length pieces
  pub fewer : length (span_text text look.span) ≡ 0 → length (left_from reply look.next) < length pieces
  pub next : Fits reply look.next
  pub begins : KeepsAll reply look.next
  pub within : (n : ℕ) → n < length (span_text text look.span) → IsInPiece reply pieces look.here n

-- The piece is a call that takes a snapshot. The script continues after the directive of the call.
pub record IsCallBefore {F : Type 0} (reply : FileReply F) (pieces : List (ScriptPiece F)) (function : F) (argument : List ℕ)
    (next : ℕ) : Type 0 where
  pub first : pieces ≡ Made function argument ∷ body_from reply next
  pub takes : reply.functions.function_table.takes_capture function ≡ true
  pub inner : IsInner reply next
  pub directive : EndsCall reply next function argument

-- The thread is at the start of the text of its record.
abbrev pub SeesCall : {F : Type 0} → FileReply F → List (ScriptPiece F) → F → List ℕ → Thread → Type 0
SeesCall reply pieces function argument (Making next at) = IsCallBefore reply pieces function argument next × (at ≡ 0)
SeesCall reply pieces function argument (Head at) = ⊥
SeesCall reply pieces function argument (Kind at) = ⊥
SeesCall reply pieces function argument (Body at) = ⊥
SeesCall reply pieces function argument (Inside next file at) = ⊥
SeesCall reply pieces function argument End = ⊥

abbrev pub SeesBy : {R F : Type 0} → (R → List ℕ) → FileReply F → List (ScriptPiece F) → Look R F → Span R F → Type 0
SeesBy text reply pieces look (span.Bytes world send) = SeesText text reply pieces look
SeesBy text reply pieces look (span.Line kind at) = SeesText text reply pieces look
SeesBy text reply pieces look (span.Made capture at end) = SeesText text reply pieces look
SeesBy text reply pieces look (span.Call function argument) = SeesCall reply pieces function argument.now look.next
SeesBy text reply pieces look span.End = pieces ≡ []

-- what the thread sees of the remaining pieces
pub record Sees {R F : Type 0} (text : R → List ℕ) (reply : FileReply F) (pieces : List (ScriptPiece F)) (look : Look R F) : Type 0 where
  pub sees : SeesBy text reply pieces look look.span
  pub fits : SpanFits text look.span

-- neither a call nor the end
abbrev pub IsText : {R F : Type 0} → Span R F → Type 0
IsText (span.Bytes world send) = Unit {0}
IsText (span.Line kind at) = Unit {0}
IsText (span.Made capture at end) = Unit {0}
IsText (span.Call function argument) = ⊥
IsText span.End = ⊥

-- The text is the rest of the piece.
pub record IsSpan {R F : Type 0} (text_of : R → List ℕ) (span : Span R F) (prefix : List ℕ) : Type 0 where
  pub plain : IsText span
  pub text : span_text text_of span ≡ prefix
  pub fits : SpanFits text_of span
