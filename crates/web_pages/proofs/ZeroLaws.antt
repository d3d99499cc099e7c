-- The page of a target in which each call has the zero record of its kind.
-- [add: function] Its text if nothing has happened yet.
use Rattle.web_pages.proofs.Prelude.{◌≡◌, ℕ, zero, suc, ◌≤◌, true, false, List, [], ◌∷◌, ◌++◌, length, replicate, Option, Some, None, refl}
use Rattle.web_pages.proofs.Prelude.{sym, ap, ◌∙◌, arith, append-nil, flat_map, list_any, or_right, list_any-append, option_map_or}
use Rattle.web_pages.proofs.Prelude.{slice_index_or, Function, FileStats, TcpConnections, NetStats, Ticks, Unknown, capture_of}
use Rattle.web_pages.proofs.Prelude.{capture_text, SpaceOrLine, is_stop, word_of, one_before, none_before, none_at_all, File, file_named}
use Rattle.web_pages.proofs.Prelude.{Wanted, wanted, wanted_by, has_ended, NotYet, Refused, Name, ScriptPiece, reply_pieces, Plain, Made}
use Rattle.web_pages.proofs.Prelude.{takes_capture, place_of, made_text, page_text, page_for, zero_snapshot, zero_piece_text, zero_reply}
use Rattle.web_pages.proofs.Prelude.{request_for, zero_page, most_captures, uip, silent_text, made_first, decided_by_target}

-- ---- the text

no_number : (place : Option ℕ) → option_map_or (λ at. slice_index_or zero_snapshot.numbers at 0) place 0 ≡ 0
no_number None = refl
no_number (Some place) = refl

silent_zero : (function : Function) (argument : List ℕ) → takes_capture function ≡ false → zero_piece_text (Made function argument) ≡ []
silent_zero FileStats argument e = absurd cc
silent_zero TcpConnections argument e = absurd cc
silent_zero NetStats argument e = absurd cc
silent_zero Ticks argument e = absurd cc
silent_zero Unknown argument e = refl

made_zero : (files : List File) (function : Function) (argument : List ℕ) → made_text files function argument zero_snapshot
    ≡ zero_piece_text (Made function argument)
made_zero files function argument = ap (λ hits. capture_text (capture_of function hits zero_snapshot.now)) (no_number (place_of files argument))

pub zero_text : (files : List File) (piece_output : List (ScriptPiece Function)) (n : ℕ) → length piece_output ≤ n
    → page_text files piece_output (replicate n zero_snapshot) ≡ flat_map zero_piece_text piece_output
zero_text files [] n h = refl
zero_text files (Plain text ∷ more) n h = ap (λ rest. text ++ rest) (zero_text files more n (omega arith))
zero_text files (Made function argument ∷ more) zero h = absurd (omega arith)
zero_text files (Made function argument ∷ more) (suc n) h =
    elim (takes_capture function) as (λ b. takes_capture function ≡ b
    → page_text files (Made function argument ∷ more) (replicate (suc n) zero_snapshot) ≡ zero_piece_text (Made function argument)
    ++ flat_map zero_piece_text more) [
      | true ↦ λ e.
          made_first uip files function argument more zero_snapshot (replicate n zero_snapshot) e
          ∙ (λ i. made_zero files function argument i ++ zero_text files more n (omega arith) i)
      | false ↦ λ e.
          silent_text uip files function argument more (replicate (suc n) zero_snapshot) e
          ∙ zero_text files more (suc n) (omega arith)
          ∙ ap (λ prefix. prefix ++ flat_map zero_piece_text more) (sym (silent_zero function argument e))
    ] refl

-- ---- the target

-- ---- the page

-- what is written for what is asked for
abbrev pub zero_for : List File → Wanted → List ℕ
zero_for files NotYet = []
zero_for files Refused = []
zero_for files (Name name) = zero_reply files (file_named files name)

page_for_zero : (files : List File) (asked : Wanted) → page_for files asked (replicate (most_captures files asked) zero_snapshot) ≡ zero_for files asked
page_for_zero files NotYet = refl
page_for_zero files Refused = refl
page_for_zero files (Name name) = zero_text files (reply_pieces files name) (length (reply_pieces files name)) (omega arith)

pub zero_asked : (files : List File) (target : List ℕ) (asked : Wanted) → wanted (request_for target) ≡ asked → zero_page files target ≡ zero_for files asked
zero_asked files target asked e = page_for_zero files (wanted (request_for target)) ∙ ap (zero_for files) e
