-- The two laws of the grammar: what is read of an image without fault is what its bytes spell, and what is spelled is read.
use Rattle.site_image.proofs.Prelude.{◌≡◌, ℕ, zero, suc, ◌+◌, ◌^◌, ◌<◌, ◌≤◌, Bool, true, false, cond, ltb, List, [], ◌∷◌, ◌++◌, length}
use Rattle.site_image.proofs.Prelude.{take, drop, Option, Some, None, Result, Ok, Err, refl, sym, ap, subst, ◌∙◌, append_assoc, arith, inl}
use Rattle.site_image.proofs.Prelude.{inr, ⊤, nat_eq, flat_map, slice_get, starts_with, bytes_eq, w16, w32, from_be_bytes, to_be_bytes}
use Rattle.site_image.proofs.Prelude.{ltb-false, le-ltb, true≢false, false_from_ne_true, or_cases, or_left, or_right, append-nil}
use Rattle.site_image.proofs.Prelude.{length-append, length-drop, length-take-le, take-append-drop, take_at, drop_at, drop-drop}
use Rattle.site_image.proofs.Prelude.{nil_from_length, be_bytes_2, from_be_bytes-to_be_bytes_2, bytes_eq-Decides, LONGEST_IMAGE, MOST_FILES}
use Rattle.site_image.proofs.Prelude.{SiteWhy, TooLong, Magic, Cut, TooMany, Rest, SiteError, Version, One, Two, File, has_name}
use Rattle.site_image.proofs.Prelude.{script_fault, magic, entry, image, short_text, long_text, IsFile, IsImage, unless, fault, ◌>>=◌}
use Rattle.site_image.proofs.Prelude.{refuse, version_of, file_count, image_head, entries, scripts, read_image}
use Rattle.site_image.proofs.PartLaws.{IsBytes, IsBytes-drop, IsBytes-take}
use Rattle.site_image.proofs.EntryLaws.{AreFresh, AreShort, entries-read, entries-again, unless-none}

-- the value of a step that did not fail
pub bind_ok : {A B : Type 0} (r : Result A SiteError) (f : A → Result B SiteError) (y : B) → (r >>= f) ≡ Ok y → (x : A) × (r ≡ Ok x) × (f x ≡ Ok y)
bind_ok (Ok x) f y e = (x, refl, e)
bind_ok (Err d) f y e = absurd cc

refuse-ok : (t : Bool) (why : SiteWhy) (x : ⊤) → refuse t why ≡ Ok x → t ≡ false
refuse-ok true why x e = absurd cc
refuse-ok false why x e = refl

ok_is : {T : Type 0} (x y : T) → ◌≡◌ {A = Result T SiteError} (Ok x) (Ok y) → x ≡ y
ok_is x y e = cc

-- ---- the head, before the entries

version-by : (bytes : List ℕ) (one two : Bool) (v : Version) → starts_with nat_eq bytes (magic One) ≡ one → starts_with nat_eq bytes (magic Two) ≡ two
    → ◌≡◌ {A = Result Version SiteError} (cond one (Ok One) (cond two (Ok Two) (Err (fault Magic 0)))) (Ok v) → starts_with nat_eq bytes (magic v) ≡ true
version-by bytes true two v p q e = subst (λ w. starts_with nat_eq bytes (magic w) ≡ true) (ok_is One v e) p
version-by bytes false true v p q e = subst (λ w. starts_with nat_eq bytes (magic w) ≡ true) (ok_is Two v e) q
version-by bytes false false v p q e = absurd cc

magic-prefix : (bytes : List ℕ) (v : Version) → starts_with nat_eq bytes (magic v) ≡ true → magic v ≡ take 8 bytes
magic-prefix bytes One t = (bytes_eq-Decides (magic One) (take 8 bytes)).0 t
magic-prefix bytes Two t = (bytes_eq-Decides (magic Two) (take 8 bytes)).0 t

-- what is read of the head
pub record ReadsHead (bytes : List ℕ) (v : Version) (n : ℕ) : Type 0 where
  pub size : length bytes ≤ LONGEST_IMAGE
  pub count : n ≤ MOST_FILES
  pub parts : bytes ≡ magic v ++ (to_be_bytes w16 n ++ drop 10 bytes)

head-parts : (bytes : List ℕ) (v : Version) (n : ℕ) → IsBytes bytes → 10 ≤ length bytes → starts_with nat_eq bytes (magic v) ≡ true → n ≡ file_count bytes
    → bytes ≡ magic v ++ (to_be_bytes w16 n ++ drop 10 bytes)
head-parts bytes v n fits long starts is =
    let rest = drop 8 bytes in
    let two : length (take 2 rest) ≡ 2 = length-take-le 2 rest (omega (arith, length-drop 8 bytes)) in
    let number : to_be_bytes w16 n ≡ take 2 rest = be_bytes_2 (take 2 rest) n two (IsBytes-take 2 rest (IsBytes-drop 8 bytes fits)) is in
    sym (take-append-drop 8 bytes)
    ∙ ap (λ x. x ++ rest) (sym (magic-prefix bytes v starts))
    ∙ ap (λ x. magic v ++ x) (sym (take-append-drop 2 rest) ∙ ap (λ x. x ++ drop 2 rest) (sym number) ∙ ap (λ x. to_be_bytes w16 n ++ x) (drop-drop 2 8 bytes))

pub head-reads : (bytes : List ℕ) (v : Version) (n : ℕ) → IsBytes bytes → image_head bytes ≡ Ok (v, n) → ReadsHead bytes v n
unfolding image_head
head-reads bytes v n fits e =
    let made : Version → Result (Version × ℕ) SiteError = λ w. Ok (w, file_count bytes) in
    let last : Version → Result (Version × ℕ) SiteError = λ w. refuse (ltb MOST_FILES (file_count bytes)) TooMany >>= λ _. made w in
    let third : Version → Result (Version × ℕ) SiteError = λ w. refuse (ltb (length bytes) 10) Cut >>= λ _. last w in
    let a = bind_ok (refuse (ltb LONGEST_IMAGE (length bytes)) TooLong) (λ _. version_of bytes >>= third) (v, n) e in
    let b = bind_ok (version_of bytes) third (v, n) a.2 in
    let c = bind_ok (refuse (ltb (length bytes) 10) Cut) (λ _. last b.0) (v, n) b.2 in
    let d = bind_ok (refuse (ltb MOST_FILES (file_count bytes)) TooMany) (λ _. made b.0) (v, n) c.2 in
    let same = ok_is (b.0, file_count bytes) (v, n) d.2 in
    let version_is : b.0 ≡ v = ap (λ (p : Version × ℕ). p.0) same in
    let count_is : file_count bytes ≡ n = ap (λ (p : Version × ℕ). p.1) same in
    let starts = version-by bytes (starts_with nat_eq bytes (magic One)) (starts_with nat_eq bytes (magic Two)) b.0 refl refl b.1 in
    let most = ltb-false MOST_FILES (file_count bytes) (refuse-ok (ltb MOST_FILES (file_count bytes)) TooMany d.0 d.1) in
    record {
      size = ltb-false LONGEST_IMAGE (length bytes) (refuse-ok (ltb LONGEST_IMAGE (length bytes)) TooLong a.0 a.1);
      count = omega (arith, most, count_is);
      parts = head-parts bytes v n fits (ltb-false (length bytes) 10 (refuse-ok (ltb (length bytes) 10) Cut c.0 c.1))
          (subst (λ w. starts_with nat_eq bytes (magic w) ≡ true) version_is starts) (sym count_is);
    }

version-again : (v : Version) (rest : List ℕ) → version_of (magic v ++ rest) ≡ Ok v
version-again One rest = refl
version-again Two rest = refl

magic-length : (v : Version) → length (magic v) ≡ 8
magic-length One = refl
magic-length Two = refl

pub head-again : (v : Version) (n : ℕ) (rest : List ℕ) → n ≤ MOST_FILES → length (magic v ++ (to_be_bytes w16 n ++ rest)) ≤ LONGEST_IMAGE
    → image_head (magic v ++ (to_be_bytes w16 n ++ rest)) ≡ Ok (v, n)
unfolding image_head
head-again v n rest few size =
    let tail = to_be_bytes w16 n ++ rest in
    let bytes = magic v ++ tail in
    let len : length bytes ≡ 10 + length rest = omega (arith, length-append (magic v) tail, length-append (to_be_bytes w16 n) rest, magic-length v) in
    let counted : file_count bytes ≡ n =
    ap (λ x. from_be_bytes w16 (take 2 x)) (drop_at (magic v) tail 8 (magic-length v))
    ∙ ap (from_be_bytes w16) (take_at (to_be_bytes w16 n) rest 2 refl)
    ∙ from_be_bytes-to_be_bytes_2 n (omega arith) in
    let made : Version → Result (Version × ℕ) SiteError = λ w. Ok (w, file_count bytes) in
    let last : Version → Result (Version × ℕ) SiteError = λ w. refuse (ltb MOST_FILES (file_count bytes)) TooMany >>= λ _. made w in
    let third : Version → Result (Version × ℕ) SiteError = λ w. refuse (ltb (length bytes) 10) Cut >>= λ _. last w in
    ap (λ t. refuse t TooLong >>= λ _. version_of bytes >>= third) (le-ltb LONGEST_IMAGE (length bytes) size)
    ∙ ap (λ r. r >>= third) (version-again v tail)
    ∙ ap (λ t. refuse t Cut >>= λ _. last v) (le-ltb (length bytes) 10 (omega arith))
    ∙ ap (λ t. refuse t TooMany >>= λ _. made v) (le-ltb MOST_FILES (file_count bytes) (omega arith))
    ∙ ap (λ k. Ok (v, k)) counted

-- ---- the scripts

no-unless : {T : Type 0} (o : Option SiteWhy) (i : ℕ) (next : Result T SiteError) (x : T) → unless o i next ≡ Ok x → (o ≡ None) × (next ≡ Ok x)
no-unless None i next x e = (refl, e)
no-unless (Some why) i next x e = absurd cc

abbrev pub AreSound : List File → List File → Type 0
AreSound all files = (k : ℕ) (file : File) → slice_get files k ≡ Some file → script_fault all file ≡ None

some_is : {T : Type 0} (x y : T) → Some x ≡ Some y → x ≡ y
some_is x y e = cc

pub scripts-sound : (all : List File) (i : ℕ) (files : List File) (x : ⊤) → scripts all i files ≡ Ok x → AreSound all files
unfolding scripts
scripts-sound all i [] x e = λ k file s. absurd cc
scripts-sound all i (f ∷ files) x e =
    let parts = no-unless (script_fault all f) (i + 1) (scripts all (i + 1) files) x e in
    λ k file s. sound-at all f files parts.0 (scripts-sound all (i + 1) files x parts.1) k file s
  where
    sound-at : (all : List File) (f : File) (files : List File) → script_fault all f ≡ None → AreSound all files → AreSound all (f ∷ files)
    sound-at all f files here others zero file s = ap (script_fault all) (sym (some_is f file s)) ∙ here
    sound-at all f files here others (suc k) file s = others k file s

pub scripts-again : (all : List File) (i : ℕ) (files : List File) → AreSound all files → scripts all i files ≡ Ok tt
unfolding scripts
scripts-again all i [] sound = refl
scripts-again all i (f ∷ files) sound =
    unless-none (script_fault all f) (i + 1) (scripts all (i + 1) files) (sound 0 f refl)
    ∙ scripts-again all (i + 1) files (λ k file s. sound (suc k) file s)

-- ---- fresh names, by indices

name-of-has : (files : List File) (name : List ℕ) → has_name files name ≡ true → (k : ℕ) × (file : File) × (slice_get files k ≡ Some file) × (file.name ≡ name)
name-of-has [] name t = absurd (true≢false (sym t))
name-of-has (f ∷ files) name t =
    elim (or_cases (bytes_eq f.name name) (has_name files name) t) [
      | inl here ↦ (0, f, refl, (bytes_eq-Decides f.name name).0 here)
      | inr later ↦ let found = name-of-has files name later in (suc found.0, found.1, found.2, found.3)
    ]

has-name-of : (files : List File) (name : List ℕ) (k : ℕ) (file : File) → slice_get files k ≡ Some file → file.name ≡ name → has_name files name ≡ true
has-name-of [] name k file s e = absurd cc
has-name-of (f ∷ files) name zero file s e =
    or_left (bytes_eq f.name name) (has_name files name) ((bytes_eq-Decides f.name name).1 (ap (λ (g : File). g.name) (some_is f file s) ∙ e))
has-name-of (f ∷ files) name (suc k) file s e =
    or_right (bytes_eq f.name name) (has_name files name) (has-name-of files name k file s e)

get-append-left : (xs ys : List File) (k : ℕ) (f : File) → slice_get xs k ≡ Some f → slice_get (xs ++ ys) k ≡ Some f
get-append-left [] ys k f s = absurd cc
get-append-left (x ∷ xs) ys zero f s = s
get-append-left (x ∷ xs) ys (suc k) f s = get-append-left xs ys k f s

get-middle : (xs ys : List File) (f : File) → slice_get (xs ++ f ∷ ys) (length xs) ≡ Some f
get-middle [] ys f = refl
get-middle (x ∷ xs) ys f = get-middle xs ys f

get-within : (xs : List File) (k : ℕ) (f : File) → slice_get xs k ≡ Some f → k < length xs
get-within [] k f s = absurd cc
get-within (x ∷ xs) zero f s = omega arith
get-within (x ∷ xs) (suc k) f s = let below = get-within xs k f s in omega arith

-- no two files have one name
abbrev pub HasDistinctNames : List File → Type 0
HasDistinctNames files = (j k : ℕ) (one other : File) → slice_get files j ≡ Some one → slice_get files k ≡ Some other → one.name ≡ other.name → j ≡ k

abbrev pub AreFiles : Version → List File → Type 0
AreFiles version files = (k : ℕ) (file : File) → slice_get files k ≡ Some file → IsFile version file

-- of the files, none has a name of an earlier one
fresh-apart : (version : Version) (files earlier : List File) → AreFresh version earlier files → (j k : ℕ) (one other : File)
    → slice_get earlier j ≡ Some one → slice_get files k ≡ Some other → one.name ≡ other.name → ⊥
fresh-apart version [] earlier fresh j k one other p q e = absurd cc
fresh-apart version (f ∷ files) earlier fresh j zero one other p q e =
    true≢false (sym (has-name-of earlier f.name j one p (e ∙ sym (ap (λ (g : File). g.name) (some_is f other q)))) ∙ fresh.1)
fresh-apart version (f ∷ files) earlier fresh j (suc k) one other p q e =
    fresh-apart version files (earlier ++ f ∷ []) fresh.2 j k one other (get-append-left earlier (f ∷ []) j one p) q e

fresh-files : (version : Version) (files earlier : List File) → AreFresh version earlier files → AreFiles version files
fresh-files version [] earlier fresh k file s = absurd cc
fresh-files version (f ∷ files) earlier fresh zero file s = subst (IsFile version) (some_is f file s) fresh.0
fresh-files version (f ∷ files) earlier fresh (suc k) file s = fresh-files version files (earlier ++ f ∷ []) fresh.2 k file s

fresh-distinct : (version : Version) (files earlier : List File) → AreFresh version earlier files → HasDistinctNames files
fresh-distinct version [] earlier fresh j k one other p q e = absurd cc
fresh-distinct version (f ∷ files) earlier fresh zero zero one other p q e = refl
fresh-distinct version (f ∷ files) earlier fresh zero (suc k) one other p q e =
    absurd (fresh-apart version files (earlier ++ f ∷ []) fresh.2 (length earlier) k f other (get-middle earlier [] f) q
    (ap (λ (g : File). g.name) (some_is f one p) ∙ e))
fresh-distinct version (f ∷ files) earlier fresh (suc j) zero one other p q e =
    absurd (fresh-apart version files (earlier ++ f ∷ []) fresh.2 (length earlier) j f one (get-middle earlier [] f) p
    (ap (λ (g : File). g.name) (some_is f other q) ∙ sym e))
fresh-distinct version (f ∷ files) earlier fresh (suc j) (suc k) one other p q e =
    ap suc (fresh-distinct version files (earlier ++ f ∷ []) fresh.2 j k one other p q e)

fresh-from : (version : Version) (files earlier : List File) → AreFiles version files → HasDistinctNames (earlier ++ files) → AreFresh version earlier files
fresh-from version [] earlier each distinct = tt
fresh-from version (f ∷ files) earlier each distinct = (
  each 0 f refl,
  false_from_ne_true (has_name earlier f.name) (λ t.
      let found = name-of-has earlier f.name t in
      let same = distinct found.0 (length earlier) found.1 f (get-append-left earlier (f ∷ files) found.0 found.1 found.2)
      (get-middle earlier files f) found.3 in
      let below = get-within earlier found.0 found.1 found.2 in
      omega arith),
  fresh-from version files (earlier ++ f ∷ []) (λ k file s. each (suc k) file s) (subst HasDistinctNames (sym (append_assoc earlier (f ∷ []) files)) distinct),
)

-- ---- the whole image

le-le : (a b c : ℕ) → a ≤ b → b ≤ c → a ≤ c
le-le a b c p q = omega arith

right-in : (xs ys : List ℕ) → length ys ≤ length (xs ++ ys)
right-in xs ys = omega (arith, length-append xs ys)

content-in : (version : Version) (file : File) → length file.content ≤ length (entry version file)
content-in One file =
    le-le (length file.content) (length (long_text file.content)) (length (entry One file))
    (right-in (to_be_bytes w32 (length file.content)) file.content)
    (right-in (short_text file.name) (long_text file.content))
content-in Two file =
    let tail = short_text file.kind ++ long_text file.content in
    le-le (length file.content) (length tail) (length (entry Two file))
    (le-le (length file.content) (length (long_text file.content)) (length tail)
    (right-in (to_be_bytes w32 (length file.content)) file.content)
    (right-in (short_text file.kind) (long_text file.content)))
    (right-in (short_text file.name) tail)

parts-below : (limit a b c d : ℕ) → a ≤ b → d ≡ b + c → d < limit → (a < limit) × (c < limit)
parts-below limit a b c d p e lt = (omega arith, omega arith)

short-from : (version : Version) (files : List File) → length (flat_map (entry version) files) < 2 ^ 32 → AreShort files
short-from version [] lt = tt
short-from version (file ∷ files) lt =
    let both = parts-below (2 ^ 32) (length file.content) (length (entry version file)) (length (flat_map (entry version) files))
    (length (flat_map (entry version) (file ∷ files)))
    (content-in version file) (length-append (entry version file) (flat_map (entry version) files)) lt in
    (both.0, short-from version files both.1)

entries-in : (version : Version) (files : List File) → length (flat_map (entry version) files) ≤ length (image version files)
entries-in version files =
    let all = flat_map (entry version) files in
    let tail = to_be_bytes w16 (length files) ++ all in
    le-le (length all) (length tail) (length (magic version ++ tail)) (right-in (to_be_bytes w16 (length files)) all) (right-in (magic version) tail)

-- what is read after the head
after_rest : List File × List ℕ → Result (List File) SiteError
after_rest read = scripts read.0 0 read.0 >>= λ _. Ok read.0

after_entries : List File × List ℕ → Result (List File) SiteError
unfolding after_rest
after_entries read = refuse (ltb 0 (length read.1)) Rest >>= λ _. after_rest read

after_head : List ℕ → Version × ℕ → Result (List File) SiteError
unfolding after_entries
after_head bytes head = entries head.0 head.1 [] (drop 10 bytes) >>= after_entries

read-is : (bytes : List ℕ) → read_image bytes ≡ (image_head bytes >>= after_head bytes)
unfolding read_image after_head after_entries after_rest
read-is bytes = refl

-- what is read of the whole
record ReadsWhole (bytes : List ℕ) (files : List File) : Type 0 where
  version : Version
  count : ℕ
  head : image_head bytes ≡ Ok (version, count)
  rest : List ℕ
  entries_are : entries version count [] (drop 10 bytes) ≡ Ok (files, rest)
  nothing : rest ≡ []
  sound : AreSound files files

reads-whole : (bytes : List ℕ) (files : List File) → read_image bytes ≡ Ok files → ReadsWhole bytes files
unfolding after_head after_entries after_rest
reads-whole bytes files e =
    let a = bind_ok (image_head bytes) (after_head bytes) files (sym (read-is bytes) ∙ e) in
    let b = bind_ok (entries a.0.0 a.0.1 [] (drop 10 bytes)) after_entries files a.2 in
    let c = bind_ok (refuse (ltb 0 (length b.0.1)) Rest) (λ _. after_rest b.0) files b.2 in
    let d = bind_ok (scripts b.0.0 0 b.0.0) (λ _. Ok b.0.0) files c.2 in
    let same = ok_is b.0.0 files d.2 in
    let none = ltb-false 0 (length b.0.1) (refuse-ok (ltb 0 (length b.0.1)) Rest c.0 c.1) in
    record {
      version = a.0.0;
      count = a.0.1;
      head = a.1;
      rest = b.0.1;
      entries_are = b.1 ∙ ap (λ fs. Ok (fs, b.0.1)) same;
      nothing = nil_from_length b.0.1 (omega arith);
      sound = subst (λ fs. AreSound fs fs) same (scripts-sound b.0.0 0 b.0.0 d.0 d.1);
    }

-- what is read without fault is the grammar's image of what was read
pub image-reads : (bytes : List ℕ) (files : List File) → IsBytes bytes → read_image bytes ≡ Ok files → IsImage bytes files
image-reads bytes files fits e =
    let whole = reads-whole bytes files e in
    let v = whole.version in
    let n = whole.count in
    let head = head-reads bytes v n fits whole.head in
    let all = entries-read v n [] (drop 10 bytes) (files, whole.rest) (IsBytes-drop 10 bytes fits) whole.entries_are in
    let more = all.more in
    let flat = flat_map (entry v) more in
    let entries_are : drop 10 bytes ≡ flat = all.parts ∙ ap (λ x. flat ++ x) whole.nothing ∙ append-nil flat in
    let spelled : bytes ≡ image v more =
    head.parts ∙ ap (λ x. magic v ++ (to_be_bytes w16 n ++ x)) entries_are ∙ ap (λ k. magic v ++ (to_be_bytes w16 k ++ flat)) (sym all.count) in
    let files_are : files ≡ more = all.files in
    let few = head.count in
    let count_is = all.count in
    subst (IsImage bytes) (sym files_are) (
      v,
      record {
        count = omega (arith, few, count_is);
        each = fresh-files v more [] all.fresh;
        distinct = fresh-distinct v more [] all.fresh;
        size = subst (λ x. length x ≤ LONGEST_IMAGE) spelled head.size;
        scripts = subst (λ fs. AreSound fs fs) files_are whole.sound;
      },
      spelled,
    )

drop-head : (v : Version) (n : ℕ) (rest : List ℕ) → drop 10 (magic v ++ (to_be_bytes w16 n ++ rest)) ≡ rest
drop-head v n rest =
    ap (drop 10) (sym (append_assoc (magic v) (to_be_bytes w16 n) rest))
    ∙ drop_at (magic v ++ to_be_bytes w16 n) rest 10 (length-append (magic v) (to_be_bytes w16 n) ∙ ap (λ k. k + 2) (magic-length v))

-- the image of files with fresh names and sound scripts is read as these files
pub fresh-again : (v : Version) (files : List File) → AreFresh v [] files → length files ≤ MOST_FILES
    → length (image v files) ≤ LONGEST_IMAGE → AreSound files files
    → read_image (image v files) ≡ Ok files
unfolding after_head after_entries after_rest
fresh-again v files fresh few size sound =
    let flat = flat_map (entry v) files in
    let spelled = image v files in
    let whole = entries-in v files in
    let short = short-from v files (omega (arith, whole, size)) in
    read-is spelled
    ∙ ap (λ r. r >>= after_head spelled) (head-again v (length files) flat few size)
    ∙ ap (λ x. entries v (length files) [] x >>= after_entries) (drop-head v (length files) flat ∙ sym (append-nil flat))
    ∙ ap (λ r. r >>= after_entries) (entries-again v files [] [] fresh short)
    ∙ ap (λ r. r >>= λ _. Ok files) (scripts-again files 0 files sound)

-- the grammar's image of good files is read as these files
pub image-again : (bytes : List ℕ) (files : List File) → IsImage bytes files → read_image bytes ≡ Ok files
image-again bytes files is =
    let site = is.1 in
    ap read_image is.2 ∙ fresh-again is.0 files (fresh-from is.0 files [] site.each site.distinct) site.count site.size site.scripts
