-- The query that a device keeps for C: the text after the '?' of the target of a request (RFC 1945, section 5.1.2).
use Rattle.std.specs.Prelude.{◌≡◌, ◌==◌, ℕ, ◌+◌, Bool, false, ◌&&◌, ◌||◌, List, [], ◌∷◌, ◌++◌, codes, drop, length, nat_le}
use Rattle.std.specs.Prelude.{if◌then◌else◌, Option, None, Some}
use Rattle.std.specs.Char.{is_ascii_alphanumeric}
use Rattle.std.specs.List.{before_first, list_all, list_any, slice_index_or}
use Rattle.protosocket.specs.Prelude.{is_query_mark}
use Rattle.site_image.specs.Prelude.{File}
use Rattle.web_pages.specs.Prelude.{Wanted, Name, NotYet, Refused, place_of, target_of, wanted}

-- The index of the file that was requested, the count of its hits after that request, and the text. Initially there is no file.
pub record QueryContent : Type 0 where
  pub file : Option ℕ
  pub hit : ℕ
  pub text : List ℕ

abbrev pub no_query : QueryContent
no_query = record { file = None; hit = 0; text = [] }

-- a byte that is kept: a letter, a digit, or one of -_.~%&=+
abbrev pub is_query_byte : ℕ → Bool
is_query_byte byte = is_ascii_alphanumeric byte || list_any (λ other. other == byte) (codes "-_.~%&=+")

-- A text that is kept has at most 64 bytes, each of them such a byte.
abbrev pub is_kept_text : List ℕ → Bool
is_kept_text text = nat_le (length text) 64 && list_all is_query_byte text

-- the text after the first '?' of a target, if it has a '?'
abbrev pub text_after_mark : List ℕ → Option (List ℕ)
text_after_mark target =
    if list_any is_query_mark target then Some (drop (length (before_first is_query_mark target) + 1) target) else None

abbrev pub kept_text : Option (List ℕ) → Option (List ℕ)
kept_text None = None
kept_text (Some text) = if is_kept_text text then Some text else None

abbrev pub query_by : Wanted → List ℕ → Option (List ℕ)
query_by (Name name) target = kept_text (text_after_mark target)
query_by NotYet target = None
query_by Refused target = None

-- the text that a request brings, once it names a file
abbrev pub query_in : List ℕ → Option (List ℕ)
query_in request = query_by (wanted request) (target_of request)

abbrev pub query_at : List ℕ → ℕ → List ℕ → QueryContent
query_at hits place text = record { file = Some place; hit = slice_index_or hits place 0; text = text }

-- what is kept after a request for the file with an index brought this text, if both are there
abbrev pub kept_query : List ℕ → QueryContent → Option ℕ → Option (List ℕ) → QueryContent
kept_query hits old (Some place) (Some text) = query_at hits place text
kept_query hits old _ _ = old

abbrev pub place_wanted : List File → Wanted → Option ℕ
place_wanted files (Name name) = place_of files name
place_wanted files NotYet = None
place_wanted files Refused = None

-- What is kept after a piece, with the hits after it. Only the first piece of a connection can bring a query.
abbrev pub query_after : List File → List ℕ → QueryContent → List ℕ → List ℕ → QueryContent
query_after files hits old [] piece = kept_query hits old (place_wanted files (wanted piece)) (query_in piece)
query_after files hits old (first ∷ more) piece = old

abbrev pub is_file : Option ℕ → Option ℕ → Bool
is_file (Some place) (Some other) = place == other
is_file _ _ = false

-- the query that is kept for the file with an index, or with a name
abbrev pub query_for : QueryContent → Option ℕ → QueryContent
query_for kept place = if is_file kept.file place then kept else no_query

abbrev pub query_of : List File → QueryContent → List ℕ → QueryContent
query_of files kept name = query_for kept (place_of files name)

-- A query was read: the count of hits, and the size of its text, which was copied to the start of the area.
pub record ReadsQuery (kept : QueryContent) (count size : ℕ) (old new : List ℕ) : Type 0 where
  pub hit : count ≡ kept.hit
  pub len : size ≡ length kept.text
  pub text : new ≡ kept.text ++ drop (length kept.text) old
