-- The offsets at which a thread can be: each `at` is at most the length of its text.
-- [add: piece] An arm of `Fits` and of `moved`.
use Rattle.std.specs.Prelude.{◌≡◌, ◌≤◌, ◌<◌, ℕ, ◌+◌, true, List, length, Option, None, Some}
use Rattle.script_lang.specs.Prelude.{is_inside_directive}
use Rattle.site_image.specs.Prelude.{File}
use Rattle.file_tree.specs.declared.file_id.FileId.{FileId}
use Rattle.web_pages.specs.Prelude.{kind_line}
use Rattle.httpd.specs.Reply.{FileReply, body, head_text, included, is_scripted, kind_text}
use Rattle.httpd.specs.declared.thread.Thread.{Thread}
use Rattle.httpd.specs.declared.thread.Thread.TheVariants.{Head, Kind, Body, Inside, Making, End}

-- The id is that of a file.
abbrev pub IsFound : List File → Option FileId → Type 0
IsFound files None = Unit {0}
IsFound files (Some id) = id.0 < length files

-- An offset of the body. In a script it is in or at a text run, at the start of a directive, or at the end.
pub record IsBodyPlace {F : Type 0} (reply : FileReply F) (at : ℕ) : Type 0 where
  pub within : at ≤ length (body reply)
  pub between : is_scripted reply.file ≡ true → is_inside_directive (body reply) at ≡ true → at ≡ length (body reply)

-- an offset inside a piece of a script, which continues at another
pub record IsInner {F : Type 0} (reply : FileReply F) (next : ℕ) : Type 0 where
  pub script : is_scripted reply.file ≡ true
  pub goes_on : IsBodyPlace reply next

unfoldable pub Fits : {F : Type 0} → FileReply F → Thread → Type 0
Fits reply (Head at) = at ≤ length (head_text reply.file)
Fits reply (Kind at) = at ≤ length (kind_line (kind_text reply.file))
Fits reply (Body at) = IsBodyPlace reply at
Fits reply (Inside next file at) = IsInner reply next × (file.0 < length reply.files) × (at ≤ length (included reply file))
Fits reply (Making next at) = IsInner reply next × (at ≤ length reply.made)
Fits reply End = Unit {0}

-- the thread, n bytes further in its piece
abbrev pub moved : Thread → ℕ → Thread
moved (Head at) n = Head (at + n)
moved (Kind at) n = Kind (at + n)
moved (Body at) n = Body (at + n)
moved (Inside next file at) n = Inside next file (at + n)
moved (Making next at) n = Making next (at + n)
moved End n = End

abbrev pub thread_place : Thread → ℕ
thread_place (Head at) = at
thread_place (Kind at) = at
thread_place (Body at) = at
thread_place (Inside next file at) = at
thread_place (Making next at) = at
thread_place End = 0
