-- The lengths of the parts of a site's files.
use Rattle.httpd.proofs.Prelude.{◌≡◌, ℕ, ◌<◌, ◌≤◌, List, length, Option, None, Some, option_map, refl, ap, subst, inl, inr, cases_lt}
use Rattle.httpd.proofs.Prelude.{slice_get_past, slice_get, nat_le, ◌&&◌, ◌==◌, true, and_parts, leb-true, File, kind_of, SiteContent}
use Rattle.httpd.proofs.Prelude.{IsLoaded, files_of, content_small, kind_small}

same_some : (x y : List ℕ) → Some x ≡ Some y → x ≡ y
same_some x y e = cc

content_by : (site : SiteContent) → IsLoaded site → (id : ℕ) (o : Option File) (xs : List ℕ) → slice_get (files_of site) id ≡ o
    → option_map (λ (file : File). file.content) o ≡ Some xs → length xs ≤ 16777216
content_by site is id None xs e m = absurd cc
content_by site is id (Some file) xs e m = subst (λ ys. length ys ≤ 16777216) (same_some file.content xs m) (content_small site is id file e)

pub content_short : (site : SiteContent) → IsLoaded site → (id : ℕ) (xs : List ℕ) → option_map (λ (file : File). file.content)
    (slice_get (files_of site) id) ≡ Some xs → length xs ≤ 16777216
content_short site is id xs m = content_by site is id (slice_get (files_of site) id) xs refl m

kind_by : (site : SiteContent) → IsLoaded site → (id : ℕ) (o : Option File) (xs : List ℕ) → slice_get (files_of site) id ≡ o
    → option_map kind_of o ≡ Some xs → length xs ≤ 64
kind_by site is id None xs e m = absurd cc
kind_by site is id (Some file) xs e m = subst (λ ys. length ys ≤ 64) (same_some (kind_of file) xs m) (kind_small file ((is.good id file e).1))

pub kind_short : (site : SiteContent) → IsLoaded site → (id : ℕ) (xs : List ℕ) → option_map kind_of (slice_get (files_of site) id) ≡ Some xs → length xs ≤ 64
kind_short site is id xs m = kind_by site is id (slice_get (files_of site) id) xs refl m

pub named_within : (files : List File) (id : ℕ) (name : List ℕ) → option_map (λ (file : File). file.name) (slice_get files id) ≡ Some name → id < length files
named_within files id name e = elim (cases_lt id (length files)) [
  | inl h ↦ h
  | inr h ↦ (let none : option_map (λ (file : File). file.name) (slice_get files id)
      ≡ None = ap (λ o. option_map (λ (file : File). file.name) o) (slice_get_past files id h) in absurd cc)
]

pub name_short : (site : SiteContent) → IsLoaded site → (k : ℕ) (file : File) → slice_get (files_of site) k ≡ Some file → length file.name ≤ 64
name_short site is k file s = named_good file.name (is.good k file s).0
  where
    named_good : (name : List ℕ) → Rattle.site_image.specs.Names.is_name name ≡ true → length name ≤ 64
    named_good name good =
        leb-true (length name) 64 (and_parts (nat_le 1 (length name)) (nat_le (length name) 64)
        (and_parts (nat_le 1 (length name) && nat_le (length name) 64) (Rattle.std.specs.Prelude.slice_index name 0 == 47)
        (and_parts (nat_le 1 (length name) && nat_le (length name) 64 && (Rattle.std.specs.Prelude.slice_index name 0 == 47))
        (Rattle.std.specs.List.list_all Rattle.site_image.specs.Names.is_name_byte name) good).0).0).1
