-- Every page of a site is shorter than 2^30 bytes.
use Rattle.web_pages.proofs.Prelude.{All, ◌≡◌, ℕ, ◌+◌, ◌-◌, ◌<◌, ◌≤◌, ◌==◌, Bool, true, false, List, [], ◌∷◌, length, drop, Option, Some}
use Rattle.web_pages.proofs.Prelude.{None, Result, Ok, refl, sym, ap, subst, ◌∙◌, arith, length-take, length-drop, if◌then◌else◌, lit<}
use Rattle.web_pages.proofs.Prelude.{lit≤, slice_get, option_map, nat_le, nat_lt, codes, sum_by, list_any, list_all, leb-true, leb-false}
use Rattle.web_pages.proofs.Prelude.{and_parts, sum_by-cons, slice_get-map, same_Some, Calling, uip_calls, pieces_by, PAGE_LIMIT, Place}
use Rattle.web_pages.proofs.Prelude.{Version, SiteError, Rest, PageTooLong, is_script, is_kind, is_kind_byte, kind_by_name, File}
use Rattle.web_pages.proofs.Prelude.{file_named, kind_of, misses, script_fault_by, piece_length_by, page_length_by, body_length_by, file_in}
use Rattle.web_pages.proofs.Prelude.{◌>>=◌, refuse, image_head, entries, scripts, read_image, AreSound, bind_ok, scripts-sound, SiteContent}
use Rattle.web_pages.proofs.Prelude.{IsLoaded, HasSoundScripts, files_of, image_files, kind-short, Snapshot, IsSnapshot, Wanted, wanted}
use Rattle.web_pages.proofs.Prelude.{NotYet, Refused, Name, ScriptFunctions, AreShort, uip, texts_short, ScriptPiece, bytes_or}
use Rattle.web_pages.proofs.Prelude.{missing_reply, missing_head, reply_to_by, reply_pieces_by, found_reply_by, kind_line, Plain, text_by}
use Rattle.web_pages.proofs.Prelude.{page_for_by, page_by, IsAtMostGreatest, IsAtMostGreatestBy}
use Rattle.site_image.specs.declared.site_error.SiteWhy.TheVariants.{Include}
use Rattle.web_pages.proofs.Found.{found_there, found_itself}
use Rattle.web_pages.proofs.Bounds.{all_written, most_sent, text_bound, found_bound}

-- ---- the greatest lengths of a loaded site's files

ok_is : {T : Type 0} (x y : T) → ◌≡◌ {A = Result T SiteError} (Ok x) (Ok y) → x ≡ y
ok_is x y e = cc

abbrev scripts_read : List File × List ℕ → Result (List File) SiteError
scripts_read read = scripts read.0 0 read.0 >>= λ _. Ok read.0

abbrev rest_read : List File × List ℕ → Result (List File) SiteError
rest_read read = refuse (nat_lt 0 (length read.1)) Rest >>= λ _. scripts_read read

read_sound : (bytes : List ℕ) (files : List File) → read_image bytes ≡ Ok files → AreSound files files
unfolding read_image
read_sound bytes files e =
    let a = bind_ok (image_head bytes) (λ (head : Version × ℕ). entries head.0 head.1 [] (drop 10 bytes) >>= rest_read) files e in
    let b = bind_ok (entries a.0.0 a.0.1 [] (drop 10 bytes)) rest_read files a.2 in
    let d = bind_ok (refuse (nat_lt 0 (length b.0.1)) Rest) (λ _. scripts_read b.0) files b.2 in
    let s = bind_ok (scripts b.0.0 0 b.0.0) (λ _. Ok b.0.0) files d.2 in
    subst (λ fs. AreSound fs fs) (ok_is b.0.0 files s.2) (scripts-sound b.0.0 0 b.0.0 s.0 s.1)

none_sound : (files : List File) → [] ≡ files → AreSound files files
none_sound files e = subst (λ fs. AreSound fs fs) e (λ k file s. absurd cc)

image_sound : (image : List ℕ) (files : List File) → image_files image ≡ Ok files → AreSound files files
image_sound [] files e = none_sound files (ok_is [] files e)
image_sound (byte ∷ bytes) files e = read_sound (byte ∷ bytes) files e

content_by : (image : List ℕ) (place : Option Place) (file : File) → option_map (file_in image) place ≡ Some file → length file.content ≤ length image
content_by image None file e = absurd cc
content_by image (Some place) file e =
    let here : length (file_in image place).content ≤ length image =
    omega (arith, length-take ((place.at + place.len) - place.at) (drop place.at image), length-drop place.at image) in
    subst (λ (f : File). length f.content ≤ length image) (same_Some (file_in image place) file e) here

pub content_small : (site : SiteContent) → IsLoaded site → (k : ℕ) (file : File) → slice_get (files_of site) k ≡ Some file → length file.content ≤ 16777216
content_small site is k file s =
    let here = content_by site.image (slice_get site.files k) file (sym (slice_get-map (file_in site.image) site.files k) ∙ s) in
    let size = is.size in
    omega arith

kind_good : (kind : List ℕ) → is_kind kind ≡ true → length kind ≤ 64
kind_good kind is = leb-true (length kind) 64 (and_parts (nat_le (length kind) 64) (list_all is_kind_byte kind) is).0

pub kind_small : (file : File) → is_kind file.kind ≡ true → length (kind_of file) ≤ 64
kind_small file is = by_own (length file.kind == 0)
  where
    by_own : (b : Bool) → length (if b then kind_by_name file.name else file.kind) ≤ 64
    by_own true = (let short = kind-short file.name in omega arith)
    by_own false = kind_good file.kind is

script_short : {F : Type 0} (c : Calling F) (files : List File) (file : File) → script_fault_by c files file ≡ None
    → is_script file.name ≡ true → page_length_by c files file < 1073741824
script_short c files file sound script =
    by_misses (list_any (λ found. misses files file.content found.piece) (pieces_by c.named file.content 0))
    (nat_le PAGE_LIMIT (page_length_by c files file)) refl
    (ap (λ b. if b then
    (if list_any (λ found. misses files file.content found.piece) (pieces_by c.named file.content 0) then Some Include
    else (if nat_le PAGE_LIMIT (page_length_by c files file) then Some PageTooLong else None))
    else None) (sym script) ∙ sound)
  where
    by_misses : (m long : Bool) → nat_le PAGE_LIMIT (page_length_by c files file) ≡ long
        → (if m then Some Include else (if long then Some PageTooLong else None)) ≡ None → page_length_by c files file < 1073741824
    by_misses true long e h = absurd cc
    by_misses false true e h = absurd cc
    by_misses false false e h = leb-false 1073741824 (page_length_by c files file) e

plain_body : {F : Type 0} (c : Calling F) (files : List File) (file : File) → is_script file.name ≡ false → body_length_by c files file ≡ length file.content
plain_body c files file plain =
    ap (λ b. if b then sum_by (λ found. piece_length_by c files file.content found.piece) (pieces_by c.named file.content 0) else length file.content) plain

-- the greatest length of a file's page is below the limit
pub greatest_short : {F : Type 0} (c : Calling F) (site : SiteContent) → IsLoaded site → HasSoundScripts c (files_of site)
    → (k : ℕ) (file : File) → slice_get (files_of site) k ≡ Some file
    → page_length_by c (files_of site) file < 1073741824
greatest_short c site is sound k file s = by_script (is_script file.name) refl
  where
    by_script : (b : Bool) → is_script file.name ≡ b → page_length_by c (files_of site) file < 1073741824
    by_script true e = script_short c (files_of site) file (sound k file s) e
    by_script false e =
        let body = plain_body c (files_of site) file e in
        let content = content_small site is k file s in
        let kind = kind_small file (is.good k file s).1 in
        omega arith

-- ---- pages

missing_small : (site : SiteContent) → IsLoaded site → (file : Option File) → file_named (files_of site) (codes "/404.html") ≡ file
    → length (bytes_or (codes "not found\n") file) ≤ 16777216
missing_small site is None e = lit≤ tt
missing_small site is (Some file) e =
    let there = found_there (files_of site) (codes "/404.html") file e in
    content_small site is there.place file there.at

missing_bound : {F : Type 0} (c : Calling F) (site : SiteContent) → IsLoaded site → all_written c (missing_reply (files_of site)) < 1073741824
missing_bound {F = F} c site is =
    let body = missing_small site is (file_named (files_of site) (codes "/404.html")) refl in
    let last : ScriptPiece F = Plain (bytes_or (codes "not found\n") (file_named (files_of site) (codes "/404.html"))) in
    let line : ScriptPiece F = Plain (kind_line (codes "text/html")) in
    let head_length : length missing_head ≡ 60 = refl in
    let line_length : length (kind_line (codes "text/html")) ≡ 27 = refl in
    omega (
      arith,
      sum_by-cons (most_sent c) (Plain missing_head) (line ∷ last ∷ []),
      sum_by-cons (most_sent c) line (last ∷ []),
      sum_by-cons (most_sent c) last [],
    )

reply_bound : {F : Type 0} (c : Calling F) (site : SiteContent) → IsLoaded site → HasSoundScripts c (files_of site)
    → (name : List ℕ) (found : Option File) → file_named (files_of site) name ≡ found
    → all_written c (reply_to_by c.named (files_of site) found) < 1073741824
reply_bound c site is sound name None e = missing_bound c site is
reply_bound c site is sound name (Some file) e =
    let there = found_there (files_of site) name file e in
    let short = greatest_short c site is sound there.place file there.at in
    let output = found_bound c (files_of site) file in
    omega arith

short_by : {F : Type 0} (g : ScriptFunctions F) → AreShort g → (site : SiteContent) → IsLoaded site → HasSoundScripts g.function_table (files_of site)
    → (asked : Wanted) (captures : List Snapshot) → All IsSnapshot captures → length (page_for_by g (files_of site) asked captures) < 1073741824
short_by g short site is sound NotYet captures all = lit< tt
short_by g short site is sound Refused captures all = lit< tt
short_by g short site is sound (Name name) captures all =
    let text = text_bound g short (files_of site) (reply_pieces_by g.function_table.named (files_of site) name) captures all in
    let output = reply_bound g.function_table site is sound name (file_named (files_of site) name) refl in
    omega arith

pub page_short : {F : Type 0} (g : ScriptFunctions F) → AreShort g → (site : SiteContent) → IsLoaded site → HasSoundScripts g.function_table (files_of site)
    → (request : List ℕ) (captures : List Snapshot) → All IsSnapshot captures → length (page_by g (files_of site) request captures) < 1073741824
page_short g short site is sound request captures all = short_by g short site is sound (wanted request) captures all

-- the page of a file is at most as long as its greatest length
pub at_most_greatest_by : {F : Type 0} (g : ScriptFunctions F) → AreShort g → IsAtMostGreatestBy g
at_most_greatest_by g short site is id file s request captures asked all =
    let files = files_of site in
    let itself : file_named files file.name ≡ Some file = found_itself files is.apart id file s in
    let same : page_by g files request captures ≡ text_by g files (found_reply_by g.function_table.named files file) captures =
    ap (λ w. page_for_by g files w captures) asked ∙ ap (λ found. text_by g files (reply_to_by g.function_table.named files found) captures) itself in
    let text = text_bound g short files (found_reply_by g.function_table.named files file) captures all in
    let output = found_bound g.function_table files file in
    omega (arith, ap length same)

-- ---- the functions of uIP

pub uip_short : AreShort uip
uip_short function argument hits own now word is_now = texts_short function hits now word is_now

pub uip_sound : (site : SiteContent) → IsLoaded site → HasSoundScripts uip_calls (files_of site)
uip_sound site is = image_sound site.image (files_of site) is.read

pub at_most_greatest : IsAtMostGreatest
at_most_greatest = at_most_greatest_by uip uip_short
