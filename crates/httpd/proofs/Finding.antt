-- The index of the file of a name.
use Rattle.httpd.proofs.Prelude.{◌≡◌, ℕ, ◌<◌, Bool, true, false, List, [], ◌∷◌, Option, None, Some, length, ◌++◌, take, drop, refl}
use Rattle.httpd.proofs.Prelude.{sym, ap, subst, ◌∙◌, arith, true≢false, option_map, get_or, cond, is_some}
use Rattle.httpd.proofs.Prelude.{slice_get, IfSome, position_or_len, bytes_eq, lt-ltb, list_any_at, position_or_len_is, position-Some}
use Rattle.httpd.proofs.Prelude.{get_or_from_slice_get, slice_get-get_or, slice_get_within, bytes_eq-Decides, File, has_name}
use Rattle.httpd.proofs.Prelude.{take-append_seam, AreApart, SiteContent, files_of, Wanted, hits_by, FileId, place_of}

-- the test for a name
abbrev named : List ℕ → File → Bool
named name file = bytes_eq file.name name

other_before : (files : List File) → AreApart files → (id : ℕ) (file : File) → slice_get files id ≡ Some file → (k : ℕ) → k < id
    → named file.name (get_or files k file) ≡ false
other_before files apart id file s k h = by (named file.name (get_or files k file)) refl
  where
    by : (b : Bool) → named file.name (get_or files k file) ≡ b → b ≡ false
    by false e = refl
    by true e =
        let there = slice_get_within files id file s in
        let same : k ≡ id = apart k id (get_or files k file) file (slice_get-get_or files k file (omega (arith, there, h))) s
        ((bytes_eq-Decides (get_or files k file).name file.name).0 e) in
        absurd (omega (arith, same, h))

-- a file is at its own index
pub place_is : (files : List File) → AreApart files → (id : ℕ) (file : File) → slice_get files id ≡ Some file → place_of files file.name ≡ Some id
place_is files apart id file s =
    let there = slice_get_within files id file s in
    let here : named file.name (get_or files id file) ≡ true = ap (named file.name) (get_or_from_slice_get files id file file s)
    ∙ (bytes_eq-Decides file.name file.name).1 refl in
    let at : position_or_len (named file.name) files ≡ id = position_or_len_is (named file.name) files id file (omega (arith, there))
    (other_before files apart id file s) (λ h. here) in
    ap (λ n. cond (Rattle.std.proofs.Common.nat_lt n (length files)) (Some n) None) at
    ∙ ap (λ b. cond b (Some id) None) (lt-ltb id (length files) there)

place_by : (files : List File) (name : List ℕ) (o : Option ℕ) → place_of files name ≡ o → has_name files name ≡ false → o ≡ None
place_by files name None e h = refl
place_by files name (Some k) e h = some files k e h
  where
    some : (files : List File) (k : ℕ) → place_of files name ≡ Some k → has_name files name ≡ false → Some k ≡ None
    some [] k e h = absurd cc
    some (file ∷ more) k e h =
        let at = position-Some (named name) (file ∷ more) k file e in
        absurd (true≢false (sym (list_any_at (named name) (file ∷ more) k file at.0 at.1) ∙ h))

-- no file of the name, no place
pub no_place : (files : List File) (name : List ℕ) → has_name files name ≡ false → place_of files name ≡ None
no_place files name h = place_by files name (place_of files name) refl h

named_by : (files : List File) → AreApart files → (name : List ℕ) (id : ℕ) (o : Option File) → slice_get files id ≡ o
    → option_map (λ (file : File). file.name) o ≡ Some name → Some id ≡ place_of files name
named_by files apart name id None s e = absurd cc
named_by files apart name id (Some file) s e =
    let same : file.name ≡ name = cc in
    sym (subst (λ n. place_of files n ≡ Some id) same (place_is files apart id file s))

-- what a search finds is the place
pub found_place : (files : List File) → AreApart files → (name : List ℕ) (o : Option FileId)
    → IfSome o (λ id. option_map (λ (file : File). file.name) (slice_get files id.0) ≡ Some name) → is_some o ≡ has_name files name
    → option_map (λ (id : FileId). id.0) o ≡ place_of files name
found_place files apart name None named there = sym (no_place files name (sym there))
found_place files apart name (Some id) named there = named_by files apart name id.0 (slice_get files id.0) refl named

-- the hits after a request are a prefix of what is kept of them, and are those of the site that both name
pub hits_left : (new all : List ℕ) (n : ℕ) (site other : SiteContent) (hits others : List ℕ) (before after : Wanted) → n ≡ length new
    → new ≡ hits_by (files_of site) hits before after → site ≡ other → hits ≡ others
    → take n (new ++ drop (length new) all) ≡ hits_by (files_of other) others before after
hits_left new all n site other hits others before after size reported is same =
    ap (λ k. take k (new ++ drop (length new) all)) size ∙ take-append_seam new _ ∙ reported
    ∙ ap (λ (s : SiteContent). hits_by (files_of s) hits before after) is ∙ ap (λ (l : List ℕ). hits_by (files_of other) l before after) same
