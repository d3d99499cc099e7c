-- The pieces of a reply: its head, the line of its content type, and its body.
-- [add: piece] The piece in the list of pieces of a reply.
use Rattle.std.specs.Prelude.{ℕ, ◌+◌, List, [], ◌∷◌, ◌++◌, map, codes, slice_range, if◌then◌else◌, Option}
use Rattle.std.specs.Option.{option_map_or}
use Rattle.script_lang.specs.declared.function.Function.{Function}
use Rattle.script_lang.specs.declared.piece.PieceOf.{PieceOf}
use Rattle.script_lang.specs.declared.piece.PieceOf.TheVariants.{Text, Include, Call}
use Rattle.script_lang.specs.Prelude.{function_named, pieces_by}
use Rattle.site_image.specs.Prelude.{is_script, File, file_named, kind_of}

-- Bytes of the site, or a call of a function that generates text.
pub data ScriptPiece (F : Type 0) : Type 0 where
  Plain : (text : List ℕ) → ScriptPiece F
  Made : (function : F) (argument : List ℕ) → ScriptPiece F

-- the head of a reply (RFC 1945, section 6.1)
abbrev pub found_head : List ℕ
found_head = codes "HTTP/1.0 200 OK\r\nServer: uIP/1.0\r\nConnection: close\r\n"

abbrev pub missing_head : List ℕ
missing_head = codes "HTTP/1.0 404 Not found\r\nServer: uIP/1.0\r\nConnection: close\r\n"

-- the line of a content type, and the empty line that ends the header
abbrev pub kind_line : List ℕ → List ℕ
kind_line kind = codes "Content-type: " ++ kind ++ codes "\r\n\r\n"

-- the bytes of a file, or these if there is no file
abbrev pub bytes_or : List ℕ → Option File → List ℕ
bytes_or bytes found = option_map_or (λ file. file.content) found bytes

-- A piece of a script: a text run is its bytes, an include is the bytes of the file that it names, unchanged.
abbrev pub piece_output : {F : Type 0} → List File → List ℕ → PieceOf F → ScriptPiece F
piece_output files script (Text at len) = Plain (slice_range script at (at + len))
piece_output files script (Include at len) = Plain (bytes_or [] (file_named files (slice_range script at (at + len))))
piece_output files script (Call function at len) = Made function (slice_range script at (at + len))

-- the pieces of the body of a file, with the functions of these names: those of a script, or its bytes
abbrev pub body_by : {F : Type 0} → (List ℕ → F) → List File → File → List (ScriptPiece F)
body_by named files file =
    if is_script file.name then map (λ found. piece_output files file.content found.piece) (pieces_by named file.content 0)
    else Plain file.content ∷ []

-- the reply with a file that is found
abbrev pub found_reply_by : {F : Type 0} → (List ℕ → F) → List File → File → List (ScriptPiece F)
found_reply_by named files file = Plain found_head ∷ Plain (kind_line (kind_of file)) ∷ body_by named files file

-- the reply if no file has the name: its body is the bytes of `/404.html`, unchanged, or a short text
abbrev pub missing_reply : {F : Type 0} → List File → List (ScriptPiece F)
missing_reply files =
    Plain missing_head ∷ Plain (kind_line (codes "text/html"))
    ∷ Plain (bytes_or (codes "not found\n") (file_named files (codes "/404.html"))) ∷ []

abbrev pub reply_to_by : {F : Type 0} → (List ℕ → F) → List File → Option File → List (ScriptPiece F)
reply_to_by named files found = option_map_or (found_reply_by named files) found (missing_reply files)

-- the reply to a request for a name
abbrev pub reply_pieces_by : {F : Type 0} → (List ℕ → F) → List File → List ℕ → List (ScriptPiece F)
reply_pieces_by named files name = reply_to_by named files (file_named files name)

-- With the functions of uIP.
abbrev pub body_of : List File → File → List (ScriptPiece Function)
body_of = body_by function_named

abbrev pub found_reply : List File → File → List (ScriptPiece Function)
found_reply = found_reply_by function_named

abbrev pub reply_to : List File → Option File → List (ScriptPiece Function)
reply_to = reply_to_by function_named

abbrev pub reply_pieces : List File → List ℕ → List (ScriptPiece Function)
reply_pieces = reply_pieces_by function_named
