-- An entry without fault is the entry that was written, and what was written is read back; and so for entries in turn.
use Rattle.site_image.proofs.Prelude.{◌≡◌, ℕ, zero, suc, ◌+◌, ◌^◌, ◌<◌, Bool, true, false, cond, List, [], ◌∷◌, ◌++◌, length, Option, Some}
use Rattle.site_image.proofs.Prelude.{None, Result, Ok, refl, sym, ap, subst, ◌∙◌, append_assoc, flat_map, option_or, append-nil, SiteWhy}
use Rattle.site_image.proofs.Prelude.{Twice, SiteError, Version, One, Two, File, has_name, short_text, long_text, entry, IsFile, text}
use Rattle.site_image.proofs.Prelude.{after_text, content, after_content, long_length, byte_length, name_fault, kind_fault, content_fault}
use Rattle.site_image.proofs.Prelude.{unless, entry_fault, entry_file, after_entry, entries}
use Rattle.site_image.proofs.Rows.{no-else, else-none, twice}
use Rattle.site_image.proofs.PartLaws.{IsBytes, IsBytes-drop, name-parts, kind-parts, content-parts, name-again, kind-again, content-again}
use Rattle.site_image.proofs.PartLaws.{short-text, short-after, long-content, long-after}

-- what is read of an entry without fault
pub record Reads (version : Version) (earlier : List File) (bytes : List ℕ) (file : File) (rest : List ℕ) : Type 0 where
  pub parts : bytes ≡ entry version file ++ rest
  pub file_is : IsFile version file
  pub fresh : has_name earlier file.name ≡ false
  pub rest_fits : IsBytes rest

not-twice : (t : Bool) → cond t (Some Twice) None ≡ None → t ≡ false
not-twice true e = absurd cc
not-twice false e = refl

fresh-twice : (t : Bool) → t ≡ false → cond t (Some Twice) None ≡ None
fresh-twice true e = absurd cc
fresh-twice false e = refl

pub entry-reads : (version : Version) (earlier : List File) (bytes : List ℕ) → IsBytes bytes → entry_fault version earlier bytes ≡ None
    → Reads version earlier bytes (entry_file version bytes) (after_entry version bytes)
entry-reads One earlier bytes fits none =
    let one = no-else (name_fault bytes) (option_or (twice earlier bytes) (content_fault (after_text bytes))) none in
    let two = no-else (twice earlier bytes) (content_fault (after_text bytes)) one.1 in
    let name = name-parts bytes one.0 in
    let fits_after : IsBytes (after_text bytes) = IsBytes-drop (byte_length bytes + 1) bytes fits in
    let body = content-parts (after_text bytes) fits_after two.1 in
    let rest = after_content (after_text bytes) in
    record {
      parts = name.0 ∙ ap (λ x. short_text (text bytes) ++ x) body ∙ sym (append_assoc (short_text (text bytes)) (long_text (content (after_text bytes))) rest);
      file_is = record { name = name.1; kind = refl };
      fresh = not-twice (has_name earlier (text bytes)) two.0;
      rest_fits = IsBytes-drop (long_length (after_text bytes) + 4) (after_text bytes) fits_after;
    }
entry-reads Two earlier bytes fits none =
    let tail = after_text bytes in
    let last = after_text tail in
    let one = no-else (name_fault bytes) (option_or (twice earlier bytes) (option_or (kind_fault Two tail) (content_fault last))) none in
    let two = no-else (twice earlier bytes) (option_or (kind_fault Two tail) (content_fault last)) one.1 in
    let three = no-else (kind_fault Two tail) (content_fault last) two.1 in
    let name = name-parts bytes one.0 in
    let fits_after : IsBytes tail = IsBytes-drop (byte_length bytes + 1) bytes fits in
    let kind = kind-parts tail three.0 in
    let fits_last : IsBytes last = IsBytes-drop (byte_length tail + 1) tail fits_after in
    let body = content-parts last fits_last three.1 in
    let rest = after_content last in
    record {
      parts = name.0
          ∙ ap (λ x. short_text (text bytes) ++ x) (kind.0 ∙ ap (λ x. short_text (text tail) ++ x) body
          ∙ sym (append_assoc (short_text (text tail)) (long_text (content last)) rest))
          ∙ sym (append_assoc (short_text (text bytes)) (short_text (text tail) ++ long_text (content last)) rest);
      file_is = record { name = name.1; kind = kind.1 };
      fresh = not-twice (has_name earlier (text bytes)) two.0;
      rest_fits = IsBytes-drop (long_length last + 4) last fits_last;
    }

-- a file is its three parts
same-file : (file : File) (n k c : List ℕ) → n ≡ file.name → k ≡ file.kind → c ≡ file.content → record { name = n; kind = k; content = c } ≡ file
same-file file n k c p q r = λ i. record { name = p i; kind = q i; content = r i }

-- what is read of an entry that was written
pub record ReadsAgain (version : Version) (earlier : List File) (file : File) (rest : List ℕ) : Type 0 where
  pub none : entry_fault version earlier (entry version file ++ rest) ≡ None
  pub file_is : entry_file version (entry version file ++ rest) ≡ file
  pub rest_is : after_entry version (entry version file ++ rest) ≡ rest

pub entry-again : (version : Version) (earlier : List File) (file : File) (rest : List ℕ) → IsFile version file → has_name earlier file.name
    ≡ false → length file.content < 2 ^ 32
    → ReadsAgain version earlier file rest
entry-again One earlier file rest is fresh lt =
    let name = file.name in
    let body = long_text file.content ++ rest in
    let joined : entry One file ++ rest ≡ short_text name ++ body = append_assoc (short_text name) (long_text file.content) rest in
    let bytes = short_text name ++ body in
    let text_is = short-text name body in
    let after_is = short-after name body in
    record {
      none = ap (entry_fault One earlier) joined
          ∙ else-none (name_fault bytes) (option_or (twice earlier bytes) (content_fault (after_text bytes))) (name-again name body is.name)
          (else-none (twice earlier bytes) (content_fault (after_text bytes))
          (fresh-twice (has_name earlier (text bytes)) (ap (has_name earlier) text_is ∙ fresh))
          (ap content_fault after_is ∙ content-again file.content rest lt));
      file_is = ap (entry_file One) joined ∙ same-file file (text bytes) [] (content (after_text bytes)) text_is (sym is.kind)
          (ap content after_is ∙ long-content file.content rest lt);
      rest_is = ap (after_entry One) joined ∙ ap after_content after_is ∙ long-after file.content rest lt;
    }
entry-again Two earlier file rest is fresh lt =
    let name = file.name in
    let kind = file.kind in
    let body = long_text file.content ++ rest in
    let tail = short_text kind ++ body in
    let bytes = short_text name ++ tail in
    let joined : entry Two file ++ rest ≡ bytes =
    append_assoc (short_text name) (short_text kind ++ long_text file.content) rest
    ∙ ap (λ x. short_text name ++ x) (append_assoc (short_text kind) (long_text file.content) rest) in
    let text_is = short-text name tail in
    let tail_is : after_text bytes ≡ tail = short-after name tail in
    let kind_is : text (after_text bytes) ≡ kind = ap text tail_is ∙ short-text kind body in
    let body_is : after_text (after_text bytes) ≡ body = ap after_text tail_is ∙ short-after kind body in
    record {
      none = ap (entry_fault Two earlier) joined
          ∙ else-none (name_fault bytes) (option_or (twice earlier bytes) (option_or (kind_fault Two (after_text bytes))
          (content_fault (after_text (after_text bytes))))) (name-again name tail is.name)
          (else-none (twice earlier bytes) (option_or (kind_fault Two (after_text bytes)) (content_fault (after_text (after_text bytes))))
          (fresh-twice (has_name earlier (text bytes)) (ap (has_name earlier) text_is ∙ fresh))
          (else-none (kind_fault Two (after_text bytes)) (content_fault (after_text (after_text bytes)))
          (ap (kind_fault Two) tail_is ∙ kind-again kind body is.kind)
          (ap content_fault body_is ∙ content-again file.content rest lt)));
      file_is = ap (entry_file Two) joined
          ∙ same-file file (text bytes) (text (after_text bytes)) (content (after_text (after_text bytes))) text_is kind_is
          (ap content body_is ∙ long-content file.content rest lt);
      rest_is = ap (after_entry Two) joined ∙ ap after_content body_is ∙ long-after file.content rest lt;
    }

-- ---- entries in turn

-- the files are good, and no two of them and the earlier ones have one name
abbrev pub AreFresh : Version → List File → List File → Type 0
AreFresh version earlier [] = Unit {0}
AreFresh version earlier (file ∷ files) = IsFile version file × (has_name earlier file.name ≡ false) × AreFresh version (earlier ++ file ∷ []) files

-- contents are short enough for their length
abbrev pub AreShort : List File → Type 0
AreShort [] = Unit {0}
AreShort (file ∷ files) = (length file.content < 2 ^ 32) × AreShort files

-- what was read of entries in turn
pub record ReadsAll (version : Version) (n : ℕ) (earlier : List File) (bytes : List ℕ) (read : List File × List ℕ) : Type 0 where
  pub more : List File
  pub files : read.0 ≡ earlier ++ more
  pub count : length more ≡ n
  pub parts : bytes ≡ flat_map (entry version) more ++ read.1
  pub fresh : AreFresh version earlier more

no-unless : {T : Type 0} (o : Option SiteWhy) (i : ℕ) (next : Result T SiteError) (x : T) → unless o i next ≡ Ok x → (o ≡ None) × (next ≡ Ok x)
no-unless None i next x e = (refl, e)
no-unless (Some why) i next x e = absurd cc

pub unless-none : {T : Type 0} (o : Option SiteWhy) (i : ℕ) (next : Result T SiteError) → o ≡ None → unless o i next ≡ next
unless-none None i next e = refl
unless-none (Some why) i next e = absurd cc

ok_is : {T : Type 0} (x y : T) → ◌≡◌ {A = Result T SiteError} (Ok x) (Ok y) → x ≡ y
ok_is x y e = cc

pub entries-read : (version : Version) (n : ℕ) (earlier : List File) (bytes : List ℕ) (read : List File × List ℕ) → IsBytes bytes
    → entries version n earlier bytes ≡ Ok read
    → ReadsAll version n earlier bytes read
unfolding entries
entries-read version zero earlier bytes read fits e =
    let same = ok_is (earlier, bytes) read e in
    subst (ReadsAll version 0 earlier bytes) same
    (record { more = []; files = sym (append-nil earlier); count = refl; parts = refl; fresh = tt })
entries-read version (suc n) earlier bytes read fits e =
    let file = entry_file version bytes in
    let rest = after_entry version bytes in
    let parts = no-unless (entry_fault version earlier bytes) (length earlier + 1) (entries version n (earlier ++ file ∷ []) rest) read e in
    let first = entry-reads version earlier bytes fits parts.0 in
    let others = entries-read version n (earlier ++ file ∷ []) rest read first.rest_fits parts.1 in
    record {
      more = file ∷ others.more;
      files = others.files ∙ append_assoc earlier (file ∷ []) others.more;
      count = ap suc others.count;
      parts = first.parts ∙ ap (λ x. entry version file ++ x) others.parts
          ∙ sym (append_assoc (entry version file) (flat_map (entry version) others.more) read.1);
      fresh = (first.file_is, first.fresh, others.fresh);
    }

pub entries-again : (version : Version) (files earlier : List File) (rest : List ℕ) → AreFresh version earlier files → AreShort files
    → entries version (length files) earlier (flat_map (entry version) files ++ rest) ≡ Ok (earlier ++ files, rest)
unfolding entries
entries-again version [] earlier rest fresh short = ap (λ x. Ok (x, rest)) (sym (append-nil earlier))
entries-again version (file ∷ files) earlier rest fresh short =
    let tail = flat_map (entry version) files ++ rest in
    let joined : flat_map (entry version) (file ∷ files) ++ rest ≡ entry version file ++ tail = append_assoc (entry version file)
    (flat_map (entry version) files) rest in
    let again = entry-again version earlier file tail fresh.0 fresh.1 short.0 in
    let bytes = entry version file ++ tail in
    ap (entries version (suc (length files)) earlier) joined
    ∙ unless-none (entry_fault version earlier bytes) (length earlier + 1)
    (entries version (length files) (earlier ++ entry_file version bytes ∷ []) (after_entry version bytes)) again.none
    ∙ ap (λ f. entries version (length files) (earlier ++ f ∷ []) (after_entry version bytes)) again.file_is
    ∙ ap (entries version (length files) (earlier ++ file ∷ [])) again.rest_is
    ∙ entries-again version files (earlier ++ file ∷ []) rest fresh.2 short.1
    ∙ ap (λ x. Ok (x, rest)) (append_assoc earlier (file ∷ []) files)
