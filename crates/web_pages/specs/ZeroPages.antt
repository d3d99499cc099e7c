-- The page of a target in which each call has the zero record of its kind: hits 0, ticks 0, twenty zeros, no rows.
-- [add: counter] The number of zeros.
use Rattle.std.specs.Prelude.{◌++◌, [], codes, flat_map, length, List, Option, replicate, ℕ}
use Rattle.app_events.specs.Prelude.{Snapshot}
use Rattle.generators.specs.Prelude.{capture_of, capture_text}
use Rattle.site_image.specs.Prelude.{File}
use Rattle.web_pages.specs.Requests.{Wanted, wanted}
use Rattle.web_pages.specs.Requests.Wanted.{Name}
use Rattle.script_lang.specs.declared.function.Function.{Function}
use Rattle.web_pages.specs.Pieces.{ScriptPiece, reply_to, reply_pieces}
use Rattle.web_pages.specs.Pieces.ScriptPiece.{Plain, Made}
use Rattle.web_pages.specs.Pages.{page}

abbrev pub zero_snapshot : Snapshot
zero_snapshot = record { numbers = []; now = record { ticks = 0; net = replicate 20 0; rows = [] } }

-- the shortest request for a target
abbrev pub request_for : List ℕ → List ℕ
request_for target = codes "GET " ++ target ++ codes "\n"

-- no page takes more snapshots than it has pieces
abbrev pub most_captures : List File → Wanted → ℕ
most_captures files (Name name) = length (reply_pieces files name)
most_captures files _ = 0

abbrev pub zero_page : List File → List ℕ → List ℕ
zero_page files target = page files (request_for target) (replicate (most_captures files (wanted (request_for target))) zero_snapshot)

-- the text of a piece with the zero record of its kind
abbrev pub zero_piece_text : ScriptPiece Function → List ℕ
zero_piece_text (Plain text) = text
zero_piece_text (Made function argument) = capture_text (capture_of function 0 zero_snapshot.now)

-- the text of a reply
abbrev pub zero_reply : List File → Option File → List ℕ
zero_reply files found = flat_map zero_piece_text (reply_to files found)
