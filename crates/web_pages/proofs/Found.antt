-- The file of a name among the files of a site.
use Rattle.web_pages.proofs.Prelude.{◌≡◌, ◌≢◌, ℕ, zero, suc, ◌<◌, ◌==◌, ◌&&◌, Bool, true, false, List, [], ◌∷◌, length, slice_index, Option}
use Rattle.web_pages.proofs.Prelude.{Some, None, refl, sym, ap, ◌∙◌, arith, true≢false, if◌then◌else◌, slice_get, nat_le, list_all}
use Rattle.web_pages.proofs.Prelude.{and_parts, leb-true, is_name_byte, bytes_eq, same_Some, bytes_eq-Decides, File, file_named, AreApart}
use Rattle.web_pages.proofs.Prelude.{AreGood}

-- a file of the name is among the files
pub record IsThere (files : List File) (name : List ℕ) (file : File) : Type 0 where
  pub place : ℕ
  pub at : slice_get files place ≡ Some file
  pub named : file.name ≡ name

behind : (one : File) (files : List File) (name : List ℕ) (file : File) → IsThere files name file → IsThere (one ∷ files) name file
behind one files name file is = record { place = suc is.place; at = is.at; named = is.named }

pub found_there : (files : List File) (name : List ℕ) (file : File) → file_named files name ≡ Some file → IsThere files name file
found_there [] name file e = absurd cc
found_there (one ∷ files) name file e = by_test (bytes_eq one.name name) refl e (λ h. behind one files name file (found_there files name file h))
  where
    by_test : (b : Bool) → bytes_eq one.name name ≡ b → (if b then Some one else file_named files name) ≡ Some file
        → (file_named files name ≡ Some file → IsThere (one ∷ files) name file) → IsThere (one ∷ files) name file
    by_test true same h later =
        record { place = 0; at = h; named = ap (λ (f : File). f.name) (sym (same_Some one file h)) ∙ (bytes_eq-Decides one.name name).0 same }
    by_test false same h later = later h

-- a file whose name no other file has is found by its name
some_by_test : (one file : File) (b : Bool) (rest : Option File) → bytes_eq one.name file.name ≡ b → (bytes_eq one.name file.name ≡ false → rest ≢ None)
    → (if b then Some one else rest) ≢ None
some_by_test one file true rest same later h = absurd cc
some_by_test one file false rest same later h = later same h

found_some : (files : List File) (place : ℕ) (file : File) → slice_get files place ≡ Some file → file_named files file.name ≢ None
found_some [] place file s = absurd cc
found_some (one ∷ files) zero file s =
    some_by_test one file (bytes_eq one.name file.name) (file_named files file.name) refl
    (λ other. absurd (true≢false (sym ((bytes_eq-Decides one.name file.name).1 (ap (λ (f : File). f.name) (same_Some one file s))) ∙ other)))
found_some (one ∷ files) (suc place) file s =
    some_by_test one file (bytes_eq one.name file.name) (file_named files file.name) refl (λ other. found_some files place file s)

pub found_itself : (files : List File) → AreApart files → (place : ℕ) (file : File) → slice_get files place ≡ Some file → file_named files file.name ≡ Some file
found_itself files apart place file s = by_found (file_named files file.name) refl
  where
    by_found : (found : Option File) → file_named files file.name ≡ found → found ≡ Some file
    by_found None e = absurd (found_some files place file s e)
    by_found (Some other) e =
        let there = found_there files file.name other e in
        let same : there.place ≡ place = apart there.place place other file there.at s there.named in
        sym there.at ∙ ap (slice_get files) same ∙ s

-- no file has a name of more than 64 bytes
pub long_missing : (files : List File) → AreGood files → (name : List ℕ) → 64 < length name → file_named files name ≡ None
long_missing files good name long = by_found (file_named files name) refl
  where
    by_found : (found : Option File) → file_named files name ≡ found → found ≡ None
    by_found None e = refl
    by_found (Some file) e =
        let there = found_there files name file e in
        let is = (good there.place file there.at).0 in
        let prefix = and_parts (nat_le 1 (length file.name) && nat_le (length file.name) 64 && (slice_index file.name 0 == 0x2F))
        (list_all is_name_byte file.name) is in
        let sizes = and_parts (nat_le 1 (length file.name) && nat_le (length file.name) 64) (slice_index file.name 0 == 0x2F) prefix.0 in
        let short = leb-true (length file.name) 64 (and_parts (nat_le 1 (length file.name)) (nat_le (length file.name) 64) sizes.0).1 in
        absurd (omega (arith, ap length there.named))
