-- The pages of a site of bytes are bytes.
-- [add: content-type] The type is bytes.
use Rattle.web_pages.proofs.Prelude.{All, ◌≡◌, ℕ, ◌+◌, ◌-◌, ◌==◌, Bool, true, false, List, [], ◌∷◌, ◌++◌, length, map, drop, Option, Some}
use Rattle.web_pages.proofs.Prelude.{None, refl, sym, subst, ◌∙◌, if◌then◌else◌, codes, option_map, slice_get, slice_range, nat_eq}
use Rattle.web_pages.proofs.Prelude.{ends_with, All-nil, All-append, All-take, All-drop, slice_get-map, same_Some, FoundOf, PieceOf, Text}
use Rattle.web_pages.proofs.Prelude.{Include, Call, pieces_by, Place, is_script, kind_by_name, File, file_named, kind_of, file_in}
use Rattle.web_pages.proofs.Prelude.{SiteContent, files_of, ScriptFunctions, AreBytes, uip, literal_bytes, either_bytes, texts_bytes}
use Rattle.web_pages.proofs.Prelude.{Snapshot, IsByte, Wanted, wanted, NotYet, Refused, Name, ScriptPiece, piece_output, bytes_or, body_by}
use Rattle.web_pages.proofs.Prelude.{missing_head, found_head, kind_line, reply_to_by, reply_pieces_by, Plain, Made, hits_of, made_by}
use Rattle.web_pages.proofs.Prelude.{text_by, page_for_by, IsMadeOfBytes, IsMadeOfBytesBy}
use Rattle.web_pages.proofs.Found.{found_there}

-- ---- pieces

abbrev WasSentIn : {F : Type 0} → ScriptPiece F → Type 0
WasSentIn (Plain text) = All IsByte text
WasSentIn (Made function argument) = Unit {0}

abbrev AreSent : {F : Type 0} → List (ScriptPiece F) → Type 0
AreSent [] = Unit {0}
AreSent (write_out ∷ more) = WasSentIn write_out × AreSent more

made_bytes : {F : Type 0} (g : ScriptFunctions F) → AreBytes g.output → (files : List File) (function : F) (argument : List ℕ) (snapshot : Snapshot)
    → All IsByte (made_by g files function argument snapshot)
made_bytes g bytes files function argument snapshot =
    bytes function argument (hits_of files snapshot.numbers argument) (drop (length files) snapshot.numbers) snapshot.now

text_bytes : {F : Type 0} (g : ScriptFunctions F) → AreBytes g.output → (files : List File) (output : List (ScriptPiece F))
    (captures : List Snapshot) → AreSent output → All IsByte (text_by g files output captures)
text_bytes g bytes files [] captures all = All-nil IsByte
text_bytes g bytes files (Plain text ∷ more) captures all =
    All-append IsByte text (text_by g files more captures) all.0 (text_bytes g bytes files more captures all.1)
text_bytes g bytes files (Made function argument ∷ more) [] all =
    either_bytes (g.function_table.takes_capture function) [] (text_by g files more []) (All-nil IsByte) (text_bytes g bytes files more [] all.1)
text_bytes g bytes files (Made function argument ∷ more) (capture ∷ later) all =
    either_bytes (g.function_table.takes_capture function) (made_by g files function argument capture ++ text_by g files more later)
    (text_by g files more (capture ∷ later))
    (All-append IsByte (made_by g files function argument capture) (text_by g files more later)
    (made_bytes g bytes files function argument capture) (text_bytes g bytes files more later all.1))
    (text_bytes g bytes files more (capture ∷ later) all.1)

-- ---- files of bytes

pub record OfBytes (file : File) : Type 0 where
  kind : All IsByte file.kind
  content : All IsByte file.content

abbrev AreOfBytes : List File → Type 0
AreOfBytes files = (k : ℕ) (file : File) → slice_get files k ≡ Some file → OfBytes file

range_bytes : (xs : List ℕ) (a b : ℕ) → All IsByte xs → All IsByte (slice_range xs a b)
range_bytes xs a b all = All-take IsByte (b - a) (drop a xs) (All-drop IsByte a xs all)

place_bytes : (image : List ℕ) (place : Option Place) (file : File) → All IsByte image → option_map (file_in image) place ≡ Some file → OfBytes file
place_bytes image None file all e = absurd cc
place_bytes image (Some place) file all e =
    subst OfBytes (same_Some (file_in image place) file e) (record {
      kind = range_bytes image place.kind_at (place.kind_at + place.kind_len) all;
      content = range_bytes image place.at (place.at + place.len) all;
    })

files_bytes : (site : SiteContent) → All IsByte site.image → AreOfBytes (files_of site)
files_bytes site all k file s =
    place_bytes site.image (slice_get site.files k) file all (sym (slice_get-map (file_in site.image) site.files k) ∙ s)

named_bytes : (files : List File) (name : List ℕ) (found : Option File) → AreOfBytes files → file_named files name ≡ found → All IsByte (bytes_or [] found)
named_bytes files name None all e = All-nil IsByte
named_bytes files name (Some file) all e = (let there = found_there files name file e in (all there.place file there.at).content)

missing_bytes : (files : List File) (name : List ℕ) (found : Option File) → AreOfBytes files → file_named files name ≡ found
    → All IsByte (bytes_or (codes "not found\n") found)
missing_bytes files name None all e = literal_bytes (codes "not found\n") refl
missing_bytes files name (Some file) all e = (let there = found_there files name file e in (all there.place file there.at).content)

by_name_bytes : (name : List ℕ) → All IsByte (kind_by_name name)
by_name_bytes name =
    either_bytes (ends_with nat_eq name (codes ".html")) (codes "text/html") _ (literal_bytes (codes "text/html") refl)
    (either_bytes (ends_with nat_eq name (codes ".shtml")) (codes "text/html") _ (literal_bytes (codes "text/html") refl)
    (either_bytes (ends_with nat_eq name (codes ".txt")) (codes "text/plain") _ (literal_bytes (codes "text/plain") refl)
    (either_bytes (ends_with nat_eq name (codes ".css")) (codes "text/css") _ (literal_bytes (codes "text/css") refl)
    (either_bytes (ends_with nat_eq name (codes ".png")) (codes "image/png") _ (literal_bytes (codes "image/png") refl)
    (either_bytes (ends_with nat_eq name (codes ".gif")) (codes "image/gif") _ (literal_bytes (codes "image/gif") refl)
    (either_bytes (ends_with nat_eq name (codes ".jpg")) (codes "image/jpeg") (codes "application/octet-stream")
    (literal_bytes (codes "image/jpeg") refl) (literal_bytes (codes "application/octet-stream") refl)))))))

kind_bytes : (file : File) → OfBytes file → All IsByte (kind_of file)
kind_bytes file of = either_bytes (length file.kind == 0) (kind_by_name file.name) file.kind (by_name_bytes file.name) of.kind

line_bytes : (kind : List ℕ) → All IsByte kind → All IsByte (kind_line kind)
line_bytes kind all =
    All-append IsByte (codes "Content-type: " ++ kind) (codes "\r\n\r\n")
    (All-append IsByte (codes "Content-type: ") kind (literal_bytes (codes "Content-type: ") refl) all) (literal_bytes (codes "\r\n\r\n") refl)

outputs_bytes : {F : Type 0} (files : List File) (script : List ℕ) (piece : PieceOf F) → AreOfBytes files → All IsByte script
    → WasSentIn (piece_output files script piece)
outputs_bytes files script (Text at len) all own = range_bytes script at (at + len) own
outputs_bytes files script (Include at len) all own =
    named_bytes files (slice_range script at (at + len)) (file_named files (slice_range script at (at + len))) all refl
outputs_bytes files script (Call function at len) all own = tt

pieces_bytes : {F : Type 0} (files : List File) (script : List ℕ) (found : List (FoundOf F)) → AreOfBytes files → All IsByte script
    → AreSent (map (λ (f : FoundOf F). piece_output files script f.piece) found)
pieces_bytes files script [] all own = tt
pieces_bytes files script (f ∷ found) all own = (outputs_bytes files script f.piece all own, pieces_bytes files script found all own)

body_bytes : {F : Type 0} (named : List ℕ → F) (files : List File) (file : File) → AreOfBytes files → OfBytes file → AreSent (body_by named files file)
body_bytes {F = F} named files file all of = by_script (is_script file.name)
  where
    by_script : (b : Bool) → AreSent (if b then map (λ (f : FoundOf F). piece_output files file.content f.piece)
        (pieces_by named file.content 0) else Plain file.content ∷ [])
    by_script true = pieces_bytes files file.content (pieces_by named file.content 0) all of.content
    by_script false = (of.content, tt)

reply_bytes : {F : Type 0} (named : List ℕ → F) (files : List File) (name : List ℕ) (found : Option File) → AreOfBytes files
    → file_named files name ≡ found → AreSent (reply_to_by named files found)
reply_bytes named files name None all e = (
  literal_bytes missing_head refl,
  (
    line_bytes (codes "text/html") (literal_bytes (codes "text/html") refl),
    (missing_bytes files (codes "/404.html") (file_named files (codes "/404.html")) all refl, tt),
  ),
)
reply_bytes named files name (Some file) all e =
    let there = found_there files name file e in
    let of = all there.place file there.at in
    (literal_bytes found_head refl, (line_bytes (kind_of file) (kind_bytes file of), body_bytes named files file all of))

bytes_by : {F : Type 0} (g : ScriptFunctions F) → AreBytes g.output → (files : List File) (asked : Wanted) (captures : List Snapshot) → AreOfBytes files
    → All IsByte (page_for_by g files asked captures)
bytes_by g bytes files NotYet captures all = All-nil IsByte
bytes_by g bytes files Refused captures all = All-nil IsByte
bytes_by g bytes files (Name name) captures all =
    text_bytes g bytes files (reply_pieces_by g.function_table.named files name) captures (reply_bytes g.function_table.named files name
    (file_named files name) all refl)

pub made_of_bytes_by : {F : Type 0} (g : ScriptFunctions F) → AreBytes g.output → IsMadeOfBytesBy g
made_of_bytes_by g bytes site all request captures snapshots = bytes_by g bytes (files_of site) (wanted request) captures (files_bytes site all)

pub made_of_bytes : IsMadeOfBytes
made_of_bytes = made_of_bytes_by uip texts_bytes
