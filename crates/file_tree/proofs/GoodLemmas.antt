-- The names and content types of a site are well-formed, and so is every content type by a name.
-- [add: content-type] The type has allowed bytes.
use Rattle.file_tree.proofs.Prelude.{◌≡◌, ℕ, Bool, true, false, cond, ◌-◌, List, length, get_or, Option, Some, None, refl, arith, sym, ap}
use Rattle.file_tree.proofs.Prelude.{◌∙◌, IsTrue, slice_get, codes, nat_eq, unwrap_or, option_map, reverse, find, All, bytes_eq}
use Rattle.file_tree.proofs.Prelude.{position_or_len, get_or-reverse, length-reverse, find_at, slice_get_within, get_or_from_slice_get}
use Rattle.file_tree.proofs.Prelude.{slice_get-map, same_Some, ends_with, Version, One, Two, is_name, is_kind, kind_by_name, File, kind_of}
use Rattle.file_tree.proofs.Prelude.{IsKindIn, IsImage, AreGood, AreApart, KindContent, chosen, retyped, upgraded}

kind-good : (version : Version) (kind : List ℕ) → IsKindIn version kind → IsTrue (is_kind kind)
kind-good One kind none = ap is_kind none
kind-good Two kind is = is

pub image-good : (image : List ℕ) (files : List File) → IsImage image files → AreGood files
image-good image files is k file s =
    let each = is.1.each k file s in
    (each.name, kind-good is.0 file.kind each.kind)

pub image-apart : (image : List ℕ) (files : List File) → IsImage image files → AreApart files
image-apart image files is = is.1.distinct

good-either : (b : Bool) (x y : List ℕ) → IsTrue (is_kind x) → IsTrue (is_kind y) → IsTrue (is_kind (cond b x y))
good-either true x y p q = p
good-either false x y p q = q

pub by-name-good : (name : List ℕ) → IsTrue (is_kind (kind_by_name name))
by-name-good name =
    good-either (ends_with nat_eq name (codes ".html")) (codes "text/html") _ refl
    (good-either (ends_with nat_eq name (codes ".shtml")) (codes "text/html") _ refl
    (good-either (ends_with nat_eq name (codes ".txt")) (codes "text/plain") _ refl
    (good-either (ends_with nat_eq name (codes ".css")) (codes "text/css") _ refl
    (good-either (ends_with nat_eq name (codes ".png")) (codes "image/png") _ refl
    (good-either (ends_with nat_eq name (codes ".gif")) (codes "image/gif") _ refl
    (good-either (ends_with nat_eq name (codes ".jpg")) (codes "image/jpeg") (codes "application/octet-stream") refl refl))))))

pub kind-of-good : (file : File) → IsTrue (is_kind file.kind) → IsTrue (is_kind (kind_of file))
kind-of-good file is = good-either _ (kind_by_name file.name) file.kind (by-name-good file.name) is

-- what holds of each word holds of the one that is found from the end
found-good : (words : List KindContent) (test : KindContent → Bool) (word : KindContent) → All (λ w. IsTrue (is_kind w.kind)) words
    → find test (reverse words) ≡ Some word → IsTrue (is_kind word.kind)
found-good words test word all e =
    let k = position_or_len test (reverse words) in
    let s : slice_get (reverse words) k ≡ Some word = sym (find_at test (reverse words)) ∙ e in
    let counted = length-reverse words in
    let lt = slice_get_within (reverse words) k word s in
    let same : get_or words (length words - 1 - k) word ≡ word =
    sym (get_or-reverse words k word (omega arith)) ∙ get_or_from_slice_get (reverse words) k word word s in
    ap (λ (w : KindContent). is_kind w.kind) (sym same) ∙ all (length words - 1 - k) word (omega arith)

pub chosen-good : (words : List KindContent) (file : File) → All (λ w. IsTrue (is_kind w.kind)) words → IsTrue (is_kind file.kind)
    → IsTrue (is_kind (chosen words file))
chosen-good words file all good =
    choose (find (λ (w : KindContent). bytes_eq w.name file.name) (reverse words))
    (λ w e. found-good words (λ (v : KindContent). bytes_eq v.name file.name) w all e)
  where
    choose : (o : Option KindContent) → ((w : KindContent) → o ≡ Some w → IsTrue (is_kind w.kind))
        → IsTrue (is_kind (unwrap_or (option_map (λ (w : KindContent). w.kind) o) (kind_of file)))
    choose None found = kind-of-good file good
    choose (Some w) found = found w refl

abbrev word_for : List KindContent → List ℕ → Option (List ℕ)
word_for words name = option_map (λ (w : KindContent). w.kind) (find (λ (w : KindContent). bytes_eq w.name name) (reverse words))

-- the chosen type, by a word or without one
pub chosen-by-word : (words : List KindContent) (o : Option File) (name kind : List ℕ) → option_map (λ (f : File). f.name) o ≡ Some name
    → option_map (λ (w : KindContent). w.kind) (find (λ (w : KindContent). bytes_eq w.name name) (reverse words)) ≡ Some kind
    → option_map (chosen words) o ≡ Some kind
chosen-by-word words None name kind p q = absurd cc
chosen-by-word words (Some f) name kind p q =
    ap Some (ap (λ n. unwrap_or (word_for words n) (kind_of f)) (same_Some f.name name p) ∙ ap (λ o. unwrap_or o (kind_of f)) q)

pub chosen-by-own : (words : List KindContent) (o : Option File) (name own : List ℕ) → option_map (λ (f : File). f.name) o ≡ Some name
    → option_map (λ (w : KindContent). w.kind) (find (λ (w : KindContent). bytes_eq w.name name) (reverse words)) ≡ None → option_map kind_of o ≡ Some own
    → option_map (chosen words) o ≡ Some own
chosen-by-own words None name own p q r = absurd cc
chosen-by-own words (Some f) name own p q r =
    ap Some (ap (λ n. unwrap_or (word_for words n) (kind_of f)) (same_Some f.name name p) ∙ ap (λ o. unwrap_or o (kind_of f)) q ∙ same_Some (kind_of f) own r)

-- the new file by its three parts
pub retyped-by-parts : (words : List KindContent) (files : List File) (id : ℕ) (name kind content : List ℕ)
    → option_map (λ (f : File). f.name) (slice_get files id) ≡ Some name
    → option_map (chosen words) (slice_get files id) ≡ Some kind → option_map (λ (f : File). f.content) (slice_get files id) ≡ Some content
    → slice_get (upgraded words files) id ≡ Some (record { name = name; kind = kind; content = content })
retyped-by-parts words files id name kind content p q r = slice_get-map (retyped words) files id ∙ by-parts (slice_get files id) p q r
  where
    by-parts : (o : Option File) → option_map (λ (f : File). f.name) o ≡ Some name → option_map (chosen words) o ≡ Some kind
        → option_map (λ (f : File). f.content) o ≡ Some content
        → option_map (retyped words) o ≡ Some (record { name = name; kind = kind; content = content })
    by-parts None p q r = absurd cc
    by-parts (Some f) p q r = λ i. Some (record {
      name = same_Some f.name name p i;
      kind = same_Some (chosen words f) kind q i;
      content = same_Some f.content content r i;
    })

-- a new file is good
pub upgraded-good : (words : List KindContent) (files : List File) → All (λ w. IsTrue (is_kind w.kind)) words → AreGood files → AreGood (upgraded words files)
upgraded-good words files all good k file s = by-file (slice_get files k) refl (sym (slice_get-map (retyped words) files k) ∙ s)
  where
    by-file : (o : Option File) → slice_get files k ≡ o → option_map (retyped words) o ≡ Some file → IsTrue (is_name file.name) × IsTrue (is_kind file.kind)
    by-file None e h = absurd cc
    by-file (Some f) e h =
        let known = good k f e in
        let same = same_Some (retyped words f) file h in
        (ap (λ (g : File). is_name g.name) (sym same) ∙ known.0, ap (λ (g : File). is_kind g.kind) (sym same) ∙ chosen-good words f all known.1)
