-- A word of a request line, as it is received (RFC 1945, section 5.1): it ends at its first stop, and its name at its first
-- '?'.
use Rattle.std.specs.Prelude.{◌≡◌, ℕ, ◌+◌, ◌==◌, ◌||◌, Bool, false, List, [], ◌++◌, length, take, nat_lt, if◌then◌else◌}
use Rattle.std.specs.List.{before_first, concat, fold, list_any}
use Rattle.protosocket.specs.declared.stops.Stops.{Stops}
use Rattle.protosocket.specs.declared.stops.Stops.TheVariants.{Space, SpaceOrLine}

-- what is stored of the bytes received
pub record Line : Type 0 where
  pub name : List ℕ
  pub over : Bool
  pub query : Bool
  pub done : Bool
  pub stops : Stops

-- a space ends a word; if the line may end too, CR and LF do
abbrev pub is_stop : Stops → ℕ → Bool
is_stop Space byte = byte == 32
is_stop SpaceOrLine byte = (byte == 32) || ((byte == 13) || (byte == 10))

-- '?' ends a name
abbrev pub is_query_mark : ℕ → Bool
is_query_mark byte = byte == 63

-- the part of a piece that belongs to the word
abbrev pub word_of : Stops → List ℕ → List ℕ
word_of stops piece = before_first (is_stop stops) piece

-- the part of further bytes of a word that belongs to its name: nothing, if a '?' was received before
abbrev pub name_part : Bool → List ℕ → List ℕ
name_part query word = if query then [] else before_first is_query_mark word

-- the greatest number of bytes of a name that are stored
abbrev pub longest_name : ℕ
longest_name = 64

-- further bytes of the word are received
abbrev pub with_word : Line → List ℕ → Line
with_word line word = record line {
  name = take longest_name (line.name ++ name_part line.query word);
  over = line.over || nat_lt longest_name (length (line.name ++ name_part line.query word));
  query = line.query || list_any is_query_mark word;
}

-- a piece is received
abbrev pub after : Line → List ℕ → Line
after line piece =
    if line.done then line
    else record (with_word line (word_of line.stops piece)) { done = list_any (is_stop line.stops) piece }

-- how many bytes of it are consumed: those of the word, and its stop
abbrev pub part_taken : Line → List ℕ → ℕ
part_taken line piece =
    if line.done then 0
    else length (word_of line.stops piece) + (if list_any (is_stop line.stops) piece then 1 else 0)

-- nothing is received yet
abbrev pub fresh : Stops → Line
fresh stops = record { name = []; over = false; query = false; done = false; stops = stops }

-- a line that received these bytes in all: the name is what is before the word's first '?'
abbrev pub delivered : Stops → List ℕ → Line
delivered stops bytes = record {
  name = take longest_name (before_first is_query_mark (word_of stops bytes));
  over = nat_lt longest_name (length (before_first is_query_mark (word_of stops bytes)));
  query = list_any is_query_mark (word_of stops bytes);
  done = list_any (is_stop stops) bytes;
  stops = stops;
}

-- in whatever pieces they are received
abbrev pub ReceivesInPieces : Type 0
ReceivesInPieces = (stops : Stops) (pieces : List (List ℕ)) → fold after (fresh stops) pieces ≡ delivered stops (concat pieces)
