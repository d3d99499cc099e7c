-- The files of a list that were appended so far.
use Rattle.file_tree.proofs.Prelude.{◌≡◌, ℕ, ◌+◌, ◌<◌, ◌≤◌, List, [], ◌∷◌, ◌++◌, length, get_or, take, drop, Option, Some, None, Result, Ok}
use Rattle.file_tree.proofs.Prelude.{Err, refl, sym, ap, subst, ◌∙◌, append_assoc, arith, ⊤, flat_map, w16, to_be_bytes, length-append}
use Rattle.file_tree.proofs.Prelude.{length-map, take_more, drop_more, drop_all, take_all, append-nil, LONGEST_IMAGE, Place, SiteWhy}
use Rattle.file_tree.proofs.Prelude.{SiteError, One, File, magic, entry, image, unless, files_in, FileId, IsIndex, HeldFile, file_of}
use Rattle.file_tree.proofs.Prelude.{listed, listed_fault, named}
use Rattle.file_tree.proofs.SizeLemmas.{entries-more, entries-le, image-size, listed-at}
use Rattle.file_tree.proofs.TableLemmas.{table-empty}

-- of the files, the first i were appended
pub record Packs (files : List File) (i : ℕ) (made : List ℕ) (places : List Place) (order : List FileId) : Type 0 where
  pub made_is : made ≡ (magic One ++ to_be_bytes w16 (length files)) ++ flat_map (entry One) (take i files)
  pub files_are : files_in made places ≡ take i files
  pub table : IsIndex made places order
  pub names : named [] files ≡ named (take i files) (drop i files)
  pub count : length places ≡ i

-- what is left of the room
pub packs-room : (files : List File) (i : ℕ) (made : List ℕ) (places : List Place) (order : List FileId) (d : File)
    → Packs files i made places order → i < length files
    → length (image One files) ≤ LONGEST_IMAGE → length made + length (entry One (get_or files i d)) ≤ LONGEST_IMAGE
packs-room files i made places order d p lt room =
    let head = magic One ++ to_be_bytes w16 (length files) in
    let so_far = ap length p.made_is ∙ length-append head (flat_map (entry One) (take i files)) in
    let ten = length-append (magic One) (to_be_bytes w16 (length files)) in
    let more = ap length (entries-more One files i d lt) ∙ length-append (flat_map (entry One) (take i files)) (entry One (get_or files i d)) in
    let all = entries-le One files (i + 1) in
    let whole = image-size One files in
    omega arith

one-name : (earlier : List File) (file : File) (files : List File) → named earlier (file ∷ files) ≡ unless (listed_fault earlier file.name)
    (length earlier + 1) (named (earlier ++ file ∷ []) files)
unfolding named
one-name earlier file files = refl

no-name : (earlier : List File) → named earlier [] ≡ Ok tt
unfolding named
no-name earlier = refl

abbrev pub fine : Result ⊤ SiteError
fine = Ok tt

passed : (o : Option SiteWhy) (i : ℕ) (next : Result ⊤ SiteError) → unless o i fine ≡ fine → unless o i next ≡ next
passed None i next e = refl
passed (Some why) i next e = absurd cc

stopped : (o : Option SiteWhy) (i : ℕ) (e : SiteError) (next : Result ⊤ SiteError) → unless o i fine ≡ Err e → unless o i next ≡ Err e
stopped None i e next h = absurd cc
stopped (Some why) i e next h = h

-- the name at an index, and those after it
names-at : (files : List File) (i : ℕ) (made : List ℕ) (places : List Place) (order : List FileId) (d : File)
    → Packs files i made places order → i < length files
    → named [] files ≡ unless (listed_fault (files_in made places) (get_or files i d).name) (length places + 1)
    (named (take (i + 1) files) (drop (i + 1) files))
names-at files i made places order d p lt =
    let file = get_or files i d in
    let counted : length (take i files) ≡ length places = ap length (sym p.files_are) ∙ length-map places _ in
    p.names
    ∙ ap (named (take i files)) (drop_more files i d lt)
    ∙ one-name (take i files) file (drop (i + 1) files)
    ∙ ap (λ fs. unless (listed_fault (take i files) file.name) (length (take i files) + 1) (named fs (drop (i + 1) files))) (sym (take_more files i d lt))
    ∙ ap (λ n. unless (listed_fault (take i files) file.name) (n + 1) (named (take (i + 1) files) (drop (i + 1) files))) counted
    ∙ ap (λ fs. unless (listed_fault fs file.name) (length places + 1) (named (take (i + 1) files) (drop (i + 1) files))) (sym p.files_are)

pub packs-more : (files : List File) (i : ℕ) (made grown : List ℕ) (places more : List Place) (order next : List FileId) (d : File)
    → Packs files i made places order → i < length files
    → unless (listed_fault (files_in made places) (get_or files i d).name) (length places + 1) fine ≡ fine
    → grown ≡ made ++ entry One (get_or files i d) → files_in grown more ≡ files_in made places ++ get_or files i d ∷ []
    → length more ≡ length places + 1 → IsIndex grown more next
    → Packs files (i + 1) grown more next
packs-more files i made grown places more order next d p lt sound made_is files_is count table =
    let file = get_or files i d in
    let head = magic One ++ to_be_bytes w16 (length files) in
    record {
      made_is = made_is ∙ ap (λ x. x ++ entry One file) p.made_is ∙ append_assoc head (flat_map (entry One) (take i files)) (entry One file)
          ∙ ap (λ x. head ++ x) (sym (entries-more One files i d lt));
      files_are = files_is ∙ ap (λ fs. fs ++ file ∷ []) p.files_are ∙ sym (take_more files i d lt);
      table = table;
      names = names-at files i made places order d p lt
          ∙ passed (listed_fault (files_in made places) file.name) (length places + 1) (named (take (i + 1) files) (drop (i + 1) files)) sound;
      count = count ∙ ap (λ n. n + 1) p.count;
    }

pub packs-fail : (files : List File) (i : ℕ) (made : List ℕ) (places : List Place) (order : List FileId) (d : File) (e : SiteError)
    → Packs files i made places order → i < length files
    → unless (listed_fault (files_in made places) (get_or files i d).name) (length places + 1) fine ≡ Err e → named [] files ≡ Err e
packs-fail files i made places order d e p lt h =
    names-at files i made places order d p lt
    ∙ stopped (listed_fault (files_in made places) (get_or files i d).name) (length places + 1) e (named (take (i + 1) files) (drop (i + 1) files)) h

pub record Packed (files : List File) (made : List ℕ) (places : List Place) (order : List FileId) : Type 0 where
  pub made_is : made ≡ image One files
  pub files_are : files_in made places ≡ files
  pub names : named [] files ≡ Ok tt

pub packs-end : (files : List File) (i : ℕ) (made : List ℕ) (places : List Place) (order : List FileId) → Packs files i made places order
    → length files ≤ i → Packed files made places order
packs-end files i made places order p done =
    let all : take i files ≡ files = take_all i files done in
    record {
      made_is = p.made_is ∙ append_assoc (magic One) (to_be_bytes w16 (length files)) (flat_map (entry One) (take i files))
          ∙ ap (λ fs. magic One ++ (to_be_bytes w16 (length files) ++ flat_map (entry One) fs)) all;
      files_are = p.files_are ∙ all;
      names = p.names ∙ ap (λ fs. named fs (drop i files)) all ∙ ap (named files) (drop_all i files done) ∙ no-name files;
    }

-- ---- the same by an entry of the list

module _ (list : List HeldFile) (i : ℕ) (made : List ℕ) (places : List Place) (order : List FileId) (e : HeldFile)
    (p : Packs (listed list) i made places order) (lt : i < length list) (is : e ≡ get_or list i e) where
  the_file : get_or (listed list) i (file_of e.name e.content) ≡ file_of e.name e.content
  the_file = listed-at list i e (file_of e.name e.content) lt is

  in_files : i < length (listed list)
  in_files = let counted = length-map list (λ (x : HeldFile). file_of x.name x.content) in omega arith

  pub room-at : length (image One (listed list)) ≤ LONGEST_IMAGE → length made + length (entry One (file_of e.name e.content)) ≤ LONGEST_IMAGE
  room-at room = subst (λ f. length made + length (entry One f) ≤ LONGEST_IMAGE) the_file (packs-room (listed list) i made places order
      (file_of e.name e.content) p in_files room)

  pub more-at : (grown : List ℕ) (more : List Place) (next : List FileId)
      → unless (listed_fault (files_in made places) e.name) (length places + 1) fine ≡ fine
      → grown ≡ made ++ entry One (file_of e.name e.content) → files_in grown more ≡ files_in made places ++ file_of e.name e.content ∷ []
      → length more ≡ length places + 1 → IsIndex grown more next
      → Packs (listed list) (i + 1) grown more next
  more-at grown more next sound made_is files_is count table =
      packs-more (listed list) i made grown places more order next (file_of e.name e.content) p in_files
      (subst (λ (f : File). unless (listed_fault (files_in made places) f.name) (length places + 1) fine ≡ fine) (sym the_file) sound)
      (subst (λ (f : File). grown ≡ made ++ entry One f) (sym the_file) made_is)
      (subst (λ (f : File). files_in grown more ≡ files_in made places ++ f ∷ []) (sym the_file) files_is)
      count table

  pub fail-at : (error : SiteError) → unless (listed_fault (files_in made places) e.name) (length places + 1) fine ≡ Err error
      → named [] (listed list) ≡ Err error
  fail-at error h =
      packs-fail (listed list) i made places order (file_of e.name e.content) error p in_files
      (subst (λ (f : File). unless (listed_fault (files_in made places) f.name) (length places + 1) fine ≡ Err error) (sym the_file) h)
