-- The page of a request: its concatenated pieces, where each call that takes a snapshot is made from the next one. The page stops before
-- the first such call without a snapshot. It is complete if nothing stopped it.
use Rattle.std.specs.Prelude.{◌∷◌, ◌++◌, if◌then◌else◌, [], Bool, drop, false, length, List, Option, position, slice_index_or, true, ℕ}
use Rattle.std.specs.Option.{option_map_or}
use Rattle.std.specs.Str.{bytes_eq}
use Rattle.script_lang.specs.declared.function.Function.{Function}
use Rattle.site_image.specs.Prelude.{File}
use Rattle.generators.specs.Prelude.{ScriptFunctions, uip}
use Rattle.app_events.specs.Prelude.{Snapshot, Pages}
use Rattle.web_pages.specs.Requests.{Wanted, wanted}
use Rattle.web_pages.specs.Requests.Wanted.{NotYet, Refused, Name}
use Rattle.web_pages.specs.Pieces.{ScriptPiece, reply_pieces_by}
use Rattle.web_pages.specs.Pieces.ScriptPiece.{Plain, Made}

-- the index of the file with a name
abbrev pub place_of : List File → List ℕ → Option ℕ
place_of files name = position (λ file. bytes_eq file.name name) files

-- the hit count of the file that the argument names, 0 if there is no such file
abbrev pub hits_of : List File → List ℕ → List ℕ → ℕ
hits_of files hits argument = option_map_or (λ place. slice_index_or hits place 0) (place_of files argument) 0

-- The text of a call with a snapshot. The counters after the hits are the application's own.
abbrev pub made_by : {F : Type 0} → ScriptFunctions F → List File → F → List ℕ → Snapshot → List ℕ
made_by g files function argument snapshot =
    g.output function argument (hits_of files snapshot.numbers argument) (drop (length files) snapshot.numbers) snapshot.now

-- the text of pieces, as far as the snapshots reach
abbrev pub text_by : {F : Type 0} → ScriptFunctions F → List File → List (ScriptPiece F) → List Snapshot → List ℕ
text_by g files [] captures = []
text_by g files (Plain text ∷ more) captures = text ++ text_by g files more captures
text_by g files (Made function argument ∷ more) [] = if g.function_table.takes_capture function then [] else text_by g files more []
text_by g files (Made function argument ∷ more) (capture ∷ later) =
    if g.function_table.takes_capture function then made_by g files function argument capture ++ text_by g files more later
    else text_by g files more (capture ∷ later)

-- Nothing stops the pieces.
abbrev pub reach_by : {F : Type 0} → ScriptFunctions F → List (ScriptPiece F) → List Snapshot → Bool
reach_by g [] captures = true
reach_by g (Plain text ∷ more) captures = reach_by g more captures
reach_by g (Made function argument ∷ more) [] = if g.function_table.takes_capture function then false else reach_by g more []
reach_by g (Made function argument ∷ more) (capture ∷ later) =
    if g.function_table.takes_capture function then reach_by g more later else reach_by g more (capture ∷ later)

abbrev pub page_for_by : {F : Type 0} → ScriptFunctions F → List File → Wanted → List Snapshot → List ℕ
page_for_by g files (Name name) captures = text_by g files (reply_pieces_by g.function_table.named files name) captures
page_for_by g files _ captures = []

abbrev pub whole_for_by : {F : Type 0} → ScriptFunctions F → List File → Wanted → List Snapshot → Bool
whole_for_by g files NotYet captures = false
whole_for_by g files Refused captures = true
whole_for_by g files (Name name) captures = reach_by g (reply_pieces_by g.function_table.named files name) captures

-- the page of a request and snapshots
abbrev pub page_by : {F : Type 0} → ScriptFunctions F → List File → List ℕ → List Snapshot → List ℕ
page_by g files request captures = page_for_by g files (wanted request) captures

-- whether it is complete
abbrev pub is_whole_by : {F : Type 0} → ScriptFunctions F → List File → List ℕ → List Snapshot → Bool
is_whole_by g files request captures = whole_for_by g files (wanted request) captures

-- the pages of a site
abbrev pub pages_by : {F : Type 0} → ScriptFunctions F → List File → Pages
pages_by g files = record { page = page_by g files; complete = is_whole_by g files }

-- With the functions of uIP.
abbrev pub made_text : List File → Function → List ℕ → Snapshot → List ℕ
made_text = made_by uip

abbrev pub page_text : List File → List (ScriptPiece Function) → List Snapshot → List ℕ
page_text = text_by uip

abbrev pub reach_end : List (ScriptPiece Function) → List Snapshot → Bool
reach_end = reach_by uip

abbrev pub page_for : List File → Wanted → List Snapshot → List ℕ
page_for = page_for_by uip

abbrev pub whole_for : List File → Wanted → List Snapshot → Bool
whole_for = whole_for_by uip

abbrev pub page : List File → List ℕ → List Snapshot → List ℕ
page = page_by uip

abbrev pub is_page_whole : List File → List ℕ → List Snapshot → Bool
is_page_whole = is_whole_by uip

abbrev pub pages_of : List File → Pages
pages_of = pages_by uip
