-- What a thread has still to send of a reply, as pieces.
-- [add: piece] An arm of `left_from`: what the thread has still to send.
use Rattle.std.specs.Prelude.{ℕ, ◌+◌, Bool, false, List, [], ◌∷◌, map, drop, codes, slice_get, if◌then◌else◌, Option, None, Some}
use Rattle.std.specs.Option.{option_and_then}
use Rattle.script_lang.specs.declared.function.Function.{Function}
use Rattle.script_lang.specs.Prelude.{Calling, pieces_by}
use Rattle.site_image.specs.Prelude.{is_script, File, file_named, kind_of}
use Rattle.file_tree.specs.declared.file_id.FileId.{FileId}
use Rattle.file_tree.specs.Prelude.{SiteContent, files_of}
use Rattle.generators.specs.declared.capture.Capture.{Capture}
use Rattle.generators.specs.Prelude.{ScriptFunctions, uip, capture_text}
use Rattle.web_pages.specs.Prelude.{ScriptPiece, bytes_or, found_head, kind_line, missing_head, piece_output, Plain, Made}
use Rattle.httpd.specs.declared.thread.Thread.{Thread}
use Rattle.httpd.specs.declared.thread.Thread.TheVariants.{Head, Kind, Body, Inside, Making, End}

-- The sources of a reply: the functions of its script, the files, the file found, and the text of the record of the current call.
pub record FileReply (F : Type 0) : Type 0 where
  pub functions : ScriptFunctions F
  pub files : List File
  pub file : Option File
  pub made : List ℕ

-- the file found
abbrev pub found_file : List File → Option FileId → Option File
found_file files found = option_and_then (λ id. slice_get files id.0) found

-- with the text of a record
abbrev pub reply_by : {F R : Type 0} → ScriptFunctions F → (R → List ℕ) → SiteContent → Option FileId → R → FileReply F
reply_by g text site found capture =
    record { functions = g; files = files_of site; file = found_file (files_of site) found; made = text capture }

-- with the functions of uIP
abbrev pub reply_in : SiteContent → Option FileId → Capture → FileReply Function
reply_in = reply_by uip capture_text

abbrev pub head_text : Option File → List ℕ
head_text None = missing_head
head_text (Some file) = found_head

abbrev pub kind_text : Option File → List ℕ
kind_text None = codes "text/html"
kind_text (Some file) = kind_of file

-- the bytes from which the body is sent
abbrev pub body_bytes : List File → Option File → List ℕ
body_bytes files None = bytes_or (codes "not found\n") (file_named files (codes "/404.html"))
body_bytes files (Some file) = file.content

abbrev pub is_scripted : Option File → Bool
is_scripted None = false
is_scripted (Some file) = is_script file.name

abbrev pub body : {F : Type 0} → FileReply F → List ℕ
body reply = body_bytes reply.files reply.file

-- the pieces of the body from an offset on
abbrev pub body_from : {F : Type 0} → FileReply F → ℕ → List (ScriptPiece F)
body_from reply at =
    if is_scripted reply.file
    then map (λ found. piece_output reply.files (body reply) found.piece) (pieces_by reply.functions.function_table.named (body reply) at)
    else Plain (drop at (body reply)) ∷ []

-- the bytes of an included file
abbrev pub included : {F : Type 0} → FileReply F → FileId → List ℕ
included reply file = bytes_or [] (slice_get reply.files file.0)

-- what is left to be sent
unfoldable pub left_from : {F : Type 0} → FileReply F → Thread → List (ScriptPiece F)
left_from reply (Head at) = Plain (drop at (head_text reply.file)) ∷ Plain (kind_line (kind_text reply.file)) ∷ body_from reply 0
left_from reply (Kind at) = Plain (drop at (kind_line (kind_text reply.file))) ∷ body_from reply 0
left_from reply (Body at) = body_from reply at
left_from reply (Inside next file at) = Plain (drop at (included reply file)) ∷ body_from reply next
left_from reply (Making next at) = Plain (drop at reply.made) ∷ body_from reply next
left_from reply End = []

-- the number of calls among pieces that take a snapshot
abbrev pub calls_in : {F : Type 0} → Calling F → List (ScriptPiece F) → ℕ
calls_in c [] = 0
calls_in c (Plain text ∷ more) = calls_in c more
calls_in c (Made function argument ∷ more) = if c.takes_capture function then 1 + calls_in c more else calls_in c more
