-- If no word of an upgrade names a file, every page stays the same.
use Rattle.web_pages.proofs.Prelude.{◌≡◌, ℕ, zero, suc, ◌-◌, ◌+◌, ◌==◌, not, Bool, true, false, List, [], ◌∷◌, ◌++◌, length, get_or, map}
use Rattle.web_pages.proofs.Prelude.{Option, Some, None, refl, sym, ap, ◌∙◌, arith, true≢false, if◌then◌else◌, find, slice_get, option_map}
use Rattle.web_pages.proofs.Prelude.{unwrap_or, nat_lt, reverse, slice_range, codes, position_or_len, slice_index_or, bytes_eq, or_left}
use Rattle.web_pages.proofs.Prelude.{or_right, length-map, get_or-reverse, length-reverse, same_Some, slice_get_within, slice_get_read}
use Rattle.web_pages.proofs.Prelude.{get_or_from_slice_get, bytes_eq-Decides, option_map_or, Function, PieceOf, Text, Include, Call}
use Rattle.web_pages.proofs.Prelude.{FoundOf, pieces, is_script, kind_by_name, File, has_name, file_named, kind_of, KindContent, chosen}
use Rattle.web_pages.proofs.Prelude.{retyped, upgraded, capture_of, capture_text, Snapshot, Wanted, wanted, NotYet, Refused, Name}
use Rattle.web_pages.proofs.Prelude.{ScriptPiece, piece_output, bytes_or, body_of, missing_head, found_head, kind_line, reply_to}
use Rattle.web_pages.proofs.Prelude.{reply_pieces, Plain, Made, takes_capture, place_of, made_text, page_text, reach_end, page_for}
use Rattle.web_pages.proofs.Prelude.{whole_for, UpgradeKeepsPages}
use Rattle.web_pages.proofs.Found.{found_there}

-- ---- the files that are found

moved : {A B : Type 0} (f : A → B) (b : Bool) (x : A) (rest : Option A) → (if b then Some (f x) else option_map f rest) ≡ option_map f
    (if b then Some x else rest)
moved f true x rest = refl
moved f false x rest = refl

named_upgraded : (words : List KindContent) (files : List File) (name : List ℕ) → file_named (upgraded words files) name ≡ option_map
    (retyped words) (file_named files name)
named_upgraded words [] name = refl
named_upgraded words (one ∷ files) name =
    ap (λ rest. if bytes_eq one.name name then Some (retyped words one) else rest) (named_upgraded words files name)
    ∙ moved (retyped words) (bytes_eq one.name name) one (file_named files name)

first_upgraded : (words : List KindContent) (files : List File) (name : List ℕ)
    → position_or_len (λ (file : File). bytes_eq file.name name) (upgraded words files) ≡ position_or_len (λ (file : File). bytes_eq file.name name) files
first_upgraded words [] name = refl
first_upgraded words (one ∷ files) name = ap (λ n. if not (bytes_eq one.name name) then 1 + n else 0) (first_upgraded words files name)

place_upgraded : (words : List KindContent) (files : List File) (name : List ℕ) → place_of (upgraded words files) name ≡ place_of files name
place_upgraded words files name =
    let first = first_upgraded words files name in
    let counted : length (upgraded words files) ≡ length files = length-map files (retyped words) in
    λ i. if nat_lt (first i) (counted i) then Some (first i) else None

bytes_upgraded : (words : List KindContent) (file : Option File) → bytes_or [] (option_map (retyped words) file) ≡ bytes_or [] file
bytes_upgraded words None = refl
bytes_upgraded words (Some file) = refl

missing_upgraded : (words : List KindContent) (file : Option File) → bytes_or (codes "not found\n") (option_map (retyped words) file)
    ≡ bytes_or (codes "not found\n") file
missing_upgraded words None = refl
missing_upgraded words (Some file) = refl

-- ---- the text

sends_upgraded : (words : List KindContent) (files : List File) (script : List ℕ) (piece : PieceOf Function)
    → piece_output (upgraded words files) script piece ≡ piece_output files script piece
sends_upgraded words files script (Text at len) = refl
sends_upgraded words files script (Include at len) =
    let name = slice_range script at (at + len) in
    ap (λ bytes. Plain bytes) (ap (bytes_or []) (named_upgraded words files name) ∙ bytes_upgraded words (file_named files name))
sends_upgraded words files script (Call function at len) = refl

all_upgraded : (words : List KindContent) (files : List File) (script : List ℕ) (found : List (FoundOf Function))
    → map (λ (f : FoundOf Function). piece_output (upgraded words files) script f.piece) found
    ≡ map (λ (f : FoundOf Function). piece_output files script f.piece) found
all_upgraded words files script [] = refl
all_upgraded words files script (f ∷ found) = λ i. sends_upgraded words files script f.piece i ∷ all_upgraded words files script found i

body_upgraded : (words : List KindContent) (files : List File) (file : File) → body_of (upgraded words files) (retyped words file) ≡ body_of files file
body_upgraded words files file =
    ap (λ script. if is_script file.name then script else Plain file.content ∷ []) (all_upgraded words files file.content (pieces file.content))

-- the type that a file's page has is its own type from then on
same_either : {A : Type 0} (b : Bool) (x : A) → (if b then x else x) ≡ x
same_either true x = refl
same_either false x = refl

kind_again : (b : Bool) (kind name : List ℕ) → (length kind == 0) ≡ b
    → (if length (if b then kind_by_name name else kind) == 0 then kind_by_name name else (if b then kind_by_name name else kind))
    ≡ (if b then kind_by_name name else kind)
kind_again true kind name e = same_either (length (kind_by_name name) == 0) (kind_by_name name)
kind_again false kind name e = ap (λ b. if b then kind_by_name name else kind) e

kind_kept : (words : List KindContent) (file : File) → chosen words file ≡ kind_of file → kind_of (retyped words file) ≡ kind_of file
kind_kept words file e =
    ap (λ kind. if length kind == 0 then kind_by_name file.name else kind) e ∙ kind_again (length file.kind == 0) file.kind file.name refl

-- ---- the words that name a file

abbrev NameNone : List File → List KindContent → Type 0
NameNone files words = (word : KindContent) (k : ℕ) → slice_get words k ≡ Some word → has_name files word.name ≡ false

any_at : (files : List File) (k : ℕ) (file : File) (name : List ℕ) → slice_get files k ≡ Some file → bytes_eq file.name name ≡ true → has_name files name ≡ true
any_at [] k file name s e = absurd cc
any_at (one ∷ files) zero file name s e =
    or_left (bytes_eq one.name name) (has_name files name) (ap (λ (f : File). bytes_eq f.name name) (same_Some one file s) ∙ e)
any_at (one ∷ files) (suc k) file name s e = or_right (bytes_eq one.name name) (has_name files name) (any_at files k file name s e)

found_in : (test : KindContent → Bool) (words : List KindContent) (word : KindContent) → find test words ≡ Some word
    → (test word ≡ true) × ((k : ℕ) × (slice_get words k ≡ Some word))
found_in test [] word e = absurd cc
found_in test (one ∷ words) word e =
    elim (test one) as (λ b. test one ≡ b → (if b then Some one else find test words) ≡ Some word
    → (test word ≡ true) × ((k : ℕ) × (slice_get (one ∷ words) k ≡ Some word))) [
      | true ↦ λ t h. (ap test (sym (same_Some one word h)) ∙ t, (0, h))
      | false ↦ λ t h. (let rest = found_in test words word h in (rest.0, (suc rest.1.0, rest.1.1)))
    ] refl e

from_reverse : (words : List KindContent) (k : ℕ) (word : KindContent) → slice_get (reverse words) k ≡ Some word → (j : ℕ) × (slice_get words j ≡ Some word)
from_reverse words k word s =
    let counted = length-reverse words in
    let lt = slice_get_within (reverse words) k word s in
    let same : get_or words (length words - 1 - k) word ≡ word =
    sym (get_or-reverse words k word (omega arith)) ∙ get_or_from_slice_get (reverse words) k word word s in
    (length words - 1 - k, slice_get_read words (length words) (length words - 1 - k) word refl (omega arith) (sym same))

unnamed : (words : List KindContent) (files : List File) (k : ℕ) (file : File) → NameNone files words → slice_get files k ≡ Some file
    → chosen words file ≡ kind_of file
unnamed words files k file none s =
    by_word (find (λ (word : KindContent). bytes_eq word.name file.name) (reverse words)) refl
  where
    by_word : (found : Option KindContent) → find (λ (word : KindContent). bytes_eq word.name file.name) (reverse words) ≡ found
        → unwrap_or (option_map (λ (word : KindContent). word.kind) found) (kind_of file) ≡ kind_of file
    by_word None e = refl
    by_word (Some word) e =
        let known = found_in (λ (w : KindContent). bytes_eq w.name file.name) (reverse words) word e in
        let same : word.name ≡ file.name = (bytes_eq-Decides word.name file.name).0 known.0 in
        let there = from_reverse words known.1.0 word known.1.1 in
        absurd (true≢false (sym (any_at files k file word.name s ((bytes_eq-Decides file.name word.name).1 (sym same))) ∙ none word there.0 there.1))

-- ---- the reply

found_upgraded : (words : List KindContent) (files : List File) (name : List ℕ) (found : Option File) → NameNone files words → file_named files name ≡ found
    → reply_to (upgraded words files) (option_map (retyped words) found) ≡ reply_to files found
found_upgraded words files name None none e =
    let file = named_upgraded words files (codes "/404.html") in
    let body = ap (bytes_or (codes "not found\n")) file ∙ missing_upgraded words (file_named files (codes "/404.html")) in
    ap (λ text. Plain missing_head ∷ Plain (kind_line (codes "text/html")) ∷ Plain text ∷ []) body
found_upgraded words files name (Some file) none e =
    let there = found_there files name file e in
    let kind = kind_kept words file (unnamed words files there.place file none there.at) in
    λ i. Plain found_head ∷ Plain (kind_line (kind i)) ∷ body_upgraded words files file i

reply_upgraded : (words : List KindContent) (files : List File) (name : List ℕ) → NameNone files words → reply_pieces (upgraded words files)
    name ≡ reply_pieces files name
reply_upgraded words files name none =
    ap (reply_to (upgraded words files)) (named_upgraded words files name) ∙ found_upgraded words files name (file_named files name) none refl

-- ---- the text

made_upgraded : (words : List KindContent) (files : List File) (function : Function) (argument : List ℕ) (snapshot : Snapshot)
    → made_text (upgraded words files) function argument snapshot ≡ made_text files function argument snapshot
made_upgraded words files function argument snapshot =
    ap (λ place. capture_text (capture_of function (option_map_or (λ at. slice_index_or snapshot.numbers at 0) place 0) snapshot.now))
    (place_upgraded words files argument)

text_upgraded : (words : List KindContent) (files : List File) (output : List (ScriptPiece Function)) (captures : List Snapshot)
    → page_text (upgraded words files) output captures ≡ page_text files output captures
text_upgraded words files [] captures = refl
text_upgraded words files (Plain text ∷ more) captures = ap (λ rest. text ++ rest) (text_upgraded words files more captures)
text_upgraded words files (Made function argument ∷ more) [] =
    ap (λ rest. if takes_capture function then [] else rest) (text_upgraded words files more [])
text_upgraded words files (Made function argument ∷ more) (capture ∷ later) =
    λ i. if takes_capture function then made_upgraded words files function argument capture i ++ text_upgraded words files more later i
    else text_upgraded words files more (capture ∷ later) i

kept_by : (words : List KindContent) (files : List File) (asked : Wanted) (captures : List Snapshot) → NameNone files words
    → (page_for (upgraded words files) asked captures ≡ page_for files asked captures)
    × (whole_for (upgraded words files) asked captures ≡ whole_for files asked captures)
kept_by words files NotYet captures none = (refl, refl)
kept_by words files Refused captures none = (refl, refl)
kept_by words files (Name name) captures none =
    let reply = reply_upgraded words files name none in (
      text_upgraded words files (reply_pieces (upgraded words files) name) captures ∙ ap (λ output. page_text files output captures) reply,
      ap (λ output. reach_end output captures) reply,
    )

pub upgrade_keeps_pages : UpgradeKeepsPages
upgrade_keeps_pages files words none request captures = kept_by words files (wanted request) captures none
