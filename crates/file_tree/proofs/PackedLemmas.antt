-- What packing a list gives, by its parts in turn.
use Rattle.file_tree.proofs.Prelude.{◌≡◌, ℕ, ◌+◌, ◌<◌, ◌≤◌, true, false, not, ltb, List, [], ◌∷◌, ◌++◌, length, Option, Some, None, Result}
use Rattle.file_tree.proofs.Prelude.{Ok, Err, refl, sym, ap, ◌∙◌, ⊤, lt-ltb, le-ltb, not-false, LONGEST_IMAGE, MOST_FILES, SiteError}
use Rattle.file_tree.proofs.Prelude.{TooLong, TooMany, One, File, image, ◌>>=◌, refuse, fault, scripts, SiteWhy, Name, Twice, is_name}
use Rattle.file_tree.proofs.Prelude.{has_name, unless, read_image, two-rows, AreFresh, fresh-again, scripts-sound, HeldFile, listed}
use Rattle.file_tree.proofs.Prelude.{listed_fault, named, packed}
use Rattle.file_tree.proofs.PackLemmas.{fine}

-- the files have no content type of their own
abbrev pub AreListed : List File → Type 0
AreListed [] = Unit {0}
AreListed (file ∷ files) = (file.kind ≡ []) × AreListed files

abbrev last : List File → Result (List ℕ) SiteError
last files = scripts files 0 files >>= λ _. Ok (image One files)

abbrev names : List File → Result (List ℕ) SiteError
names files = named [] files >>= λ _. last files

abbrev many : List File → Result (List ℕ) SiteError
many files = refuse (ltb MOST_FILES (length files)) TooMany >>= λ _. names files

pub packed-long : (files : List File) → LONGEST_IMAGE < length (image One files) → packed files ≡ Err (fault TooLong 0)
unfolding packed
packed-long files lt = ap (λ t. refuse t TooLong >>= λ _. many files) (lt-ltb LONGEST_IMAGE (length (image One files)) lt)

history-long : (files : List File) → length (image One files) ≤ LONGEST_IMAGE → packed files ≡ many files
unfolding packed
history-long files le = ap (λ t. refuse t TooLong >>= λ _. many files) (le-ltb LONGEST_IMAGE (length (image One files)) le)

pub packed-many : (files : List File) → length (image One files) ≤ LONGEST_IMAGE → MOST_FILES < length files → packed files ≡ Err (fault TooMany 0)
packed-many files le lt = history-long files le ∙ ap (λ t. refuse t TooMany >>= λ _. names files) (lt-ltb MOST_FILES (length files) lt)

history-many : (files : List File) → length (image One files) ≤ LONGEST_IMAGE → length files ≤ MOST_FILES → packed files ≡ names files
history-many files le few = history-long files le ∙ ap (λ t. refuse t TooMany >>= λ _. names files) (le-ltb MOST_FILES (length files) few)

pub packed-names : (files : List File) (e : SiteError) → length (image One files) ≤ LONGEST_IMAGE → length files ≤ MOST_FILES
    → named [] files ≡ Err e → packed files ≡ Err e
packed-names files e le few h = history-many files le few ∙ ap (λ r. r >>= λ _. last files) h

pub packed-scripts : (files : List File) (r : Result ⊤ SiteError) → length (image One files) ≤ LONGEST_IMAGE → length files ≤ MOST_FILES
    → named [] files ≡ Ok tt → r ≡ scripts files 0 files
    → packed files ≡ (r >>= λ _. Ok (image One files))
packed-scripts files r le few h s = history-many files le few ∙ ap (λ x. x >>= λ _. last files) h ∙ ap (λ x. x >>= λ _. Ok (image One files)) (sym s)

-- ---- a list without fault is read again from its image

sound-name : (earlier : List File) (name : List ℕ) → listed_fault earlier name ≡ None → (is_name name ≡ true) × (has_name earlier name ≡ false)
sound-name earlier name e =
    let rows = two-rows (not (is_name name)) (has_name earlier name) Name Twice e in
    (not-false (is_name name) rows.0, rows.1)

no-unless : {T : Type 0} (o : Option SiteWhy) (i : ℕ) (next : Result T SiteError) (x : T) → unless o i next ≡ Ok x → (o ≡ None) × (next ≡ Ok x)
no-unless None i next x e = (refl, e)
no-unless (Some why) i next x e = absurd cc

names-fresh : (files earlier : List File) → AreListed files → named earlier files ≡ fine → AreFresh One earlier files
unfolding named
names-fresh [] earlier listed e = tt
names-fresh (f ∷ files) earlier listed e =
    let parts = no-unless (listed_fault earlier f.name) (length earlier + 1) (named (earlier ++ f ∷ []) files) tt e in
    let sound = sound-name earlier f.name parts.0 in
    (record { name = sound.0; kind = listed.0 }, sound.1, names-fresh files (earlier ++ f ∷ []) listed.1 parts.1)

pub packed-reads : (files : List File) → AreListed files → length (image One files) ≤ LONGEST_IMAGE → length files ≤ MOST_FILES
    → named [] files ≡ fine → scripts files 0 files ≡ fine
    → read_image (image One files) ≡ Ok files
packed-reads files listed le few names sound = fresh-again One files (names-fresh files [] listed names) few le (scripts-sound files 0 files tt sound)

pub are-listed : (list : List HeldFile) → AreListed (listed list)
are-listed [] = tt
are-listed (e ∷ list) = (refl, are-listed list)
