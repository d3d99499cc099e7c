-- How long the page of a file can be, and what can be wrong with a script.
use Rattle.std.specs.Prelude.{ℕ, ◌+◌, Bool, false, true, List, length, nat_le, sum_by, slice_range, if◌then◌else◌, Option, None, Some}
use Rattle.std.specs.List.{list_any}
use Rattle.std.specs.Option.{option_map_or}
use Rattle.script_lang.specs.declared.piece.PieceOf.{PieceOf}
use Rattle.script_lang.specs.declared.piece.PieceOf.TheVariants.{Text, Include, Call}
use Rattle.script_lang.specs.declared.function.Function.{Function}
use Rattle.script_lang.specs.Prelude.{Calling, uip_calls, pieces_by}
use Rattle.site_image.specs.declared.TheConstants.{HEAD_LEN, KIND_LINE_LEN, PAGE_LIMIT}
use Rattle.site_image.specs.declared.site_error.SiteWhy.{SiteWhy}
use Rattle.site_image.specs.declared.site_error.SiteWhy.TheVariants as why
use Rattle.site_image.specs.Names.{is_script}
use Rattle.site_image.specs.Files.{File, has_name, file_named, kind_of}

-- The greatest length of the text of a script's piece. A text run has its bytes, an include the bytes of the file that it
-- names (none if there is no such file), a call the greatest length of its function.
abbrev pub piece_length_by : {F : Type 0} → Calling F → List File → List ℕ → PieceOf F → ℕ
piece_length_by c files script (Text at len) = len
piece_length_by c files script (Include at len) =
    option_map_or (λ file. length file.content) (file_named files (slice_range script at (at + len))) 0
piece_length_by c files script (Call function at len) = c.length_at_most function

-- a file's bytes, or for a script the greatest length of its text
abbrev pub body_length_by : {F : Type 0} → Calling F → List File → File → ℕ
body_length_by c files file =
    if is_script file.name then sum_by (λ found. piece_length_by c files file.content found.piece) (pieces_by c.named file.content 0)
    else length file.content

-- the greatest length of the file's page: the head, the line of the content type, and the body
abbrev pub page_length_by : {F : Type 0} → Calling F → List File → File → ℕ
page_length_by c files file = HEAD_LEN + KIND_LINE_LEN + length (kind_of file) + body_length_by c files file

-- the piece is an include that names no file
abbrev pub misses : {F : Type 0} → List File → List ℕ → PieceOf F → Bool
misses files script (Include at len) = if has_name files (slice_range script at (at + len)) then false else true
misses files script _ = false

-- what is wrong with a file, if it is a script: an include that names no file, else a page that can be too long
abbrev pub script_fault_by : {F : Type 0} → Calling F → List File → File → Option SiteWhy
script_fault_by c files file =
    if is_script file.name then
    (if list_any (λ found. misses files file.content found.piece) (pieces_by c.named file.content 0) then Some why.Include
    else if nat_le PAGE_LIMIT (page_length_by c files file) then Some why.PageTooLong
    else None)
    else None

-- For the functions of uIP.
abbrev pub piece_length : List File → List ℕ → PieceOf Function → ℕ
piece_length = piece_length_by uip_calls

abbrev pub body_length : List File → File → ℕ
body_length = body_length_by uip_calls

abbrev pub page_length : List File → File → ℕ
page_length = page_length_by uip_calls

abbrev pub script_fault : List File → File → Option SiteWhy
script_fault = script_fault_by uip_calls
