-- What a request names (RFC 1945, sections 5 and 5.1). A request is the list of all bytes received on one connection.
use Rattle.std.specs.Prelude.{◌+◌, if◌then◌else◌, Bool, bytes_eq, codes, drop, length, List, nat_eq, not, ℕ}
use Rattle.std.specs.List.{before_first, list_any, starts_with}
use Rattle.protosocket.specs.declared.stops.Stops.{Stops}
use Rattle.protosocket.specs.declared.stops.Stops.TheVariants.{Space, SpaceOrLine}
use Rattle.protosocket.specs.Prelude.{is_stop, is_query_mark, word_of}

-- Nothing is decided yet, the request is refused, or the file with a name is requested.
pub data Wanted : Type 0 where
  NotYet : Wanted
  Refused : Wanted
  Name : (name : List ℕ) → Wanted

-- the bytes end the word, if one of them is a stop
abbrev pub has_ended : Stops → List ℕ → Bool
has_ended stops bytes = list_any (is_stop stops) bytes

-- the first word: the method
abbrev pub method_of : List ℕ → List ℕ
method_of request = word_of Space request

-- the bytes after the first word and its space
abbrev pub after_method : List ℕ → List ℕ
after_method request = drop (length (method_of request) + 1) request

-- the second word: the target
abbrev pub target_of : List ℕ → List ℕ
target_of request = word_of SpaceOrLine (after_method request)

-- the name in a target: the bytes before its first '?'; `/` is short for `/index.html`
abbrev pub name_in : List ℕ → List ℕ
name_in target =
    if bytes_eq (before_first is_query_mark target) (codes "/") then codes "/index.html" else before_first is_query_mark target

-- a target that has ended; it must begin with `/`
abbrev pub wanted_by : List ℕ → Wanted
wanted_by target = if starts_with nat_eq target (codes "/") then Name (name_in target) else Refused

-- what a request names; more bytes do not change a decision
abbrev pub wanted : List ℕ → Wanted
wanted request =
    if not (has_ended Space request) then NotYet
    else if not (bytes_eq (method_of request) (codes "GET")) then Refused
    else if not (has_ended SpaceOrLine (after_method request)) then NotYet
    else wanted_by (target_of request)
