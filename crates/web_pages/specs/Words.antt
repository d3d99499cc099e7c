-- What a request names, determined by what is kept of its first two words: the first 64 bytes of each before a '?'.
use Rattle.std.specs.Prelude.{◌≡◌, ◌<◌, ◌&&◌, if◌then◌else◌, Bool, bytes_eq, codes, false, length, List, not, true, ℕ}
use Rattle.std.specs.List.{concat, fold}
use Rattle.protosocket.specs.declared.stops.Stops.TheVariants.{Space, SpaceOrLine}
use Rattle.protosocket.specs.Prelude.{Line, after, fresh, longest_name}
use Rattle.web_pages.specs.Requests.{Wanted, wanted, wanted_by, after_method}
use Rattle.web_pages.specs.Requests.Wanted.{NotYet, Refused, Name}

-- the word is `GET`
abbrev pub is_get : Line → Bool
is_get method = bytes_eq method.name (codes "GET") && not method.query

abbrev pub reported_so_far : Line → Line → Wanted
reported_so_far method target =
    if not method.done then NotYet
    else if not (is_get method) then Refused
    else if not target.done then NotYet
    else wanted_by target.name

-- The two words determine what a request names, however it is split and whatever follows its method. Exception: the name in its target is
-- longer than what is kept.
abbrev pub ReportedInPieces : Type 0
ReportedInPieces =
    (pieces later : List (List ℕ)) → after_method (concat pieces) ≡ concat later
    → (fold after (fresh SpaceOrLine) later).over ≡ false
    → wanted (concat pieces) ≡ reported_so_far (fold after (fresh Space) pieces) (fold after (fresh SpaceOrLine) later)

-- If the name is longer, it is longer than the name of any file.
abbrev pub LongNames : Type 0
LongNames =
    (pieces later : List (List ℕ)) → after_method (concat pieces) ≡ concat later → (name : List ℕ) →
    (fold after (fresh SpaceOrLine) later).over ≡ true → wanted (concat pieces) ≡ Name name → longest_name < length name
