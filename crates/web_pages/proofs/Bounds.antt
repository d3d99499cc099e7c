-- How long a page can be.
-- [add: function] The greatest length of its text.
use Rattle.web_pages.proofs.Prelude.{All, ◌≡◌, ℕ, ◌+◌, ◌-◌, ◌≤◌, inl, inr, Bool, true, false, List, [], ◌∷◌, ◌++◌, length, map, drop}
use Rattle.web_pages.proofs.Prelude.{Option, Some, None, refl, sym, ap, subst, arith, length-append, length-take, if◌then◌else◌, lit<, lit≤}
use Rattle.web_pages.proofs.Prelude.{sum_by, slice_range, codes, get_or_past, sum_by-cons, All-head, All-tail, All-get_or, cases_lt}
use Rattle.web_pages.proofs.Prelude.{option_map_or, slice_index_or, Function, FileStats, TcpConnections, NetStats, Ticks, Unknown, PieceOf}
use Rattle.web_pages.proofs.Prelude.{Text, Include, Call, FoundOf, Calling, length_at_most, takes_capture, pieces_by, is_script, File}
use Rattle.web_pages.proofs.Prelude.{file_named, kind_of, piece_length_by, body_length_by, page_length_by, ScriptFunctions, AreShort}
use Rattle.web_pages.proofs.Prelude.{Snapshot, IsSnapshot, IsU32, ScriptPiece, piece_output, bytes_or, body_by, found_reply_by, kind_line}
use Rattle.web_pages.proofs.Prelude.{Plain, Made, made_by, hits_of, place_of, text_by, silent_text, stopped_text, made_first}

-- the greatest length of the text
abbrev pub most_sent : {F : Type 0} → Calling F → ScriptPiece F → ℕ
most_sent c (Plain text) = length text
most_sent c (Made function argument) = c.length_at_most function

abbrev pub all_written : {F : Type 0} → Calling F → List (ScriptPiece F) → ℕ
all_written c piece_output = sum_by (most_sent c) piece_output

-- ---- a call

word_at : (numbers : List ℕ) (place : Option ℕ) → All IsU32 numbers → IsU32 (option_map_or (λ at. slice_index_or numbers at 0) place 0)
word_at numbers None all = lit< tt
word_at numbers (Some place) all =
    elim (cases_lt place (length numbers)) [
      | inl h ↦ All-get_or IsU32 numbers place 0 h all
      | inr h ↦ subst IsU32 (sym (get_or_past numbers place 0 h)) (lit< tt)
    ]

made_short : {F : Type 0} (g : ScriptFunctions F) → AreShort g → (files : List File) (function : F) (argument : List ℕ)
    (snapshot : Snapshot) → IsSnapshot snapshot
    → length (made_by g files function argument snapshot) ≤ g.function_table.length_at_most function
made_short g short files function argument snapshot is =
    short function argument (hits_of files snapshot.numbers argument) (drop (length files) snapshot.numbers) snapshot.now
    (word_at snapshot.numbers (place_of files argument) is.numbers) is.now

-- ---- the pieces

-- for uIP, a call that takes no capture has no text
pub silent_none : (function : Function) → takes_capture function ≡ false → length_at_most function ≡ 0
silent_none FileStats e = absurd cc
silent_none TcpConnections e = absurd cc
silent_none NetStats e = absurd cc
silent_none Ticks e = absurd cc
silent_none Unknown e = refl

pub text_bound : {F : Type 0} (g : ScriptFunctions F) → AreShort g → (files : List File) (piece_output : List (ScriptPiece F))
    (captures : List Snapshot) → All IsSnapshot captures → length (text_by g files piece_output captures) ≤ all_written g.function_table piece_output
text_bound g short files [] captures all = lit≤ tt
text_bound g short files (Plain text ∷ more) captures all =
    let rest = text_bound g short files more captures all in
    omega (arith, length-append text (text_by g files more captures), sum_by-cons (most_sent g.function_table) (Plain text) more)
text_bound g short files (Made function argument ∷ more) [] all =
    let here = sum_by-cons (most_sent g.function_table) (Made function argument) more in
    elim (g.function_table.takes_capture function) as (λ b. g.function_table.takes_capture function ≡ b
    → length (text_by g files (Made function argument ∷ more) []) ≤ all_written g.function_table (Made function argument ∷ more)) [
      | true ↦ λ e. omega (arith, ap length (stopped_text g files function argument more e))
      | false ↦ λ e.
          let rest = text_bound g short files more [] all in
          omega (arith, ap length (silent_text g files function argument more [] e), here)
    ] refl
text_bound g short files (Made function argument ∷ more) (capture ∷ later) all =
    let here = sum_by-cons (most_sent g.function_table) (Made function argument) more in
    elim (g.function_table.takes_capture function) as (λ b. g.function_table.takes_capture function ≡ b
    → length (text_by g files (Made function argument ∷ more) (capture ∷ later)) ≤ all_written g.function_table (Made function argument ∷ more)) [
      | true ↦ λ e.
          let rest = text_bound g short files more later (All-tail IsSnapshot capture later all) in
          let one = made_short g short files function argument capture (All-head IsSnapshot capture later all) in
          omega (
            arith,
            ap length (made_first g files function argument more capture later e),
            length-append (made_by g files function argument capture) (text_by g files more later),
            here,
          )
      | false ↦ λ e.
          let rest = text_bound g short files more (capture ∷ later) all in
          omega (arith, ap length (silent_text g files function argument more (capture ∷ later) e), here)
    ] refl

-- ---- a body

pub range_short : {X : Type 0} (xs : List X) (a b n : ℕ) → b ≤ a + n → length (slice_range xs a b) ≤ n
range_short xs a b n h = omega (arith, length-take (b - a) (drop a xs))

bytes_size : (file : Option File) → length (bytes_or [] file) ≡ option_map_or (λ found. length found.content) file 0
bytes_size None = refl
bytes_size (Some file) = refl

pub piece_bound : {F : Type 0} (c : Calling F) (files : List File) (script : List ℕ) (piece : PieceOf F)
    → most_sent c (piece_output files script piece) ≤ piece_length_by c files script piece
piece_bound c files script (Text at len) = range_short script at (at + len) len (omega arith)
piece_bound c files script (Include at len) = omega (arith, bytes_size (file_named files (slice_range script at (at + len))))
piece_bound c files script (Call function at len) = omega arith

pieces_bound : {F : Type 0} (c : Calling F) (files : List File) (script : List ℕ) (found : List (FoundOf F))
    → all_written c (map (λ f. piece_output files script f.piece) found) ≤ sum_by (λ f. piece_length_by c files script f.piece) found
pieces_bound c files script [] = lit≤ tt
pieces_bound {F = F} c files script (f ∷ found) =
    let rest = pieces_bound c files script found in
    let one = piece_bound c files script f.piece in
    omega (
      arith,
      sum_by-cons (most_sent c) (piece_output files script f.piece) (map (λ (g : FoundOf F). piece_output files script g.piece) found),
      sum_by-cons (λ (g : FoundOf F). piece_length_by c files script g.piece) f found,
    )

pub body_bound : {F : Type 0} (c : Calling F) (files : List File) (file : File) → all_written c (body_by c.named files file) ≤ body_length_by c files file
body_bound c files file = by_script (is_script file.name)
  where
    by_script : (b : Bool)
        → all_written c (if b then map (λ found. piece_output files file.content found.piece) (pieces_by c.named file.content 0) else Plain file.content ∷ [])
        ≤ (if b then sum_by (λ found. piece_length_by c files file.content found.piece) (pieces_by c.named file.content 0) else length file.content)
    by_script true = pieces_bound c files file.content (pieces_by c.named file.content 0)
    by_script false = omega (arith, sum_by-cons (most_sent c) (Plain file.content) [])

line_length : (kind : List ℕ) → length (kind_line kind) ≡ 18 + length kind
line_length kind =
    let ends : length (codes "\r\n\r\n") ≡ 4 = refl in
    let prefix : length (codes "Content-type: ") ≡ 14 = refl in
    omega (arith, length-append (codes "Content-type: " ++ kind) (codes "\r\n\r\n"), length-append (codes "Content-type: ") kind)

-- the text of a file that is found is at most as long as its greatest length
pub found_bound : {F : Type 0} (c : Calling F) (files : List File) (file : File) → all_written c (found_reply_by c.named files file) ≤
    page_length_by c files file
found_bound c files file =
    let body = body_bound c files file in
    omega (
      arith,
      sum_by-cons (most_sent c) (Plain (codes "HTTP/1.0 200 OK\r\nServer: uIP/1.0\r\nConnection: close\r\n"))
          (Plain (kind_line (kind_of file)) ∷ body_by c.named files file),
      sum_by-cons (most_sent c) (Plain (kind_line (kind_of file))) (body_by c.named files file),
      line_length (kind_of file),
    )
