-- What reading an image gives, by its parts in turn.
use Rattle.file_tree.proofs.Prelude.{◌≡◌, ℕ, ◌<◌, ◌≤◌, List, [], ◌∷◌, length, drop, ltb, Result, Ok, Err, sym, ap, subst, ◌∙◌, arith, ⊤}
use Rattle.file_tree.proofs.Prelude.{IfOk, lt-ltb, le-ltb, SiteError, Rest, Version, File, ◌>>=◌, refuse, fault, image_head, entries}
use Rattle.file_tree.proofs.Prelude.{scripts, read_image, LoadFault, Shelf, Bad, NoMemory, Fails, Gives, image_files}

abbrev after_rest : List File × List ℕ → Result (List File) SiteError
after_rest read = scripts read.0 0 read.0 >>= λ _. Ok read.0

abbrev after_entries : List File × List ℕ → Result (List File) SiteError
after_entries read = refuse (ltb 0 (length read.1)) Rest >>= λ _. after_rest read

abbrev after_head : List ℕ → Version × ℕ → Result (List File) SiteError
after_head bytes head = entries head.0 head.1 [] (drop 10 bytes) >>= after_entries

pub read-at-head : (bytes : List ℕ) (e : SiteError) → image_head bytes ≡ Err e → read_image bytes ≡ Err e
unfolding read_image
read-at-head bytes e h = ap (λ r. r >>= after_head bytes) h

history-head : (bytes : List ℕ) (head : Version × ℕ) → image_head bytes ≡ Ok head → read_image bytes ≡ after_head bytes head
unfolding read_image
history-head bytes head h = ap (λ r. r >>= after_head bytes) h

pub read-at-entries : (bytes : List ℕ) (head : Version × ℕ) (e : SiteError) → image_head bytes ≡ Ok head
    → entries head.0 head.1 [] (drop 10 bytes) ≡ Err e → read_image bytes ≡ Err e
read-at-entries bytes head e h r = history-head bytes head h ∙ ap (λ x. x >>= after_entries) r

history-entries : (bytes : List ℕ) (head : Version × ℕ) (files : List File) (rest : List ℕ) → image_head bytes ≡ Ok head
    → entries head.0 head.1 [] (drop 10 bytes) ≡ Ok (files, rest)
    → read_image bytes ≡ after_entries (files, rest)
history-entries bytes head files rest h r = history-head bytes head h ∙ ap (λ x. x >>= after_entries) r

pub read-at-rest : (bytes : List ℕ) (head : Version × ℕ) (files : List File) (rest : List ℕ) → image_head bytes ≡ Ok head
    → entries head.0 head.1 [] (drop 10 bytes) ≡ Ok (files, rest)
    → 0 < length rest → read_image bytes ≡ Err (fault Rest 0)
read-at-rest bytes head files rest h r some =
    history-entries bytes head files rest h r ∙ ap (λ t. refuse t Rest >>= λ _. after_rest (files, rest)) (lt-ltb 0 (length rest) some)

-- with nothing left, the scripts decide
pub read-at-end : (bytes : List ℕ) (head : Version × ℕ) (files : List File) (rest : List ℕ) (r : Result ⊤ SiteError)
    → image_head bytes ≡ Ok head → entries head.0 head.1 [] (drop 10 bytes) ≡ Ok (files, rest)
    → length rest ≤ 0 → r ≡ scripts files 0 files → read_image bytes ≡ (r >>= λ _. Ok files)
read-at-end bytes head files rest r h e none s =
    history-entries bytes head files rest h e
    ∙ ap (λ t. refuse t Rest >>= λ _. after_rest (files, rest)) (le-ltb 0 (length rest) none)
    ∙ ap (λ x. x >>= λ _. Ok files) (sym s)

-- an image that is read has bytes
pub image-files-are : (bytes : List ℕ) (files : List File) → 0 < length bytes → read_image bytes ≡ Ok files → image_files bytes ≡ Ok files
image-files-are [] files some e = absurd (omega arith)
image-files-are (b ∷ bytes) files some e = e

-- what the answer of a fault is, where reading gives the fault
pub gives-fault : {X Y : Type 0} (view : X → Y) (r : Result X LoadFault) (f : LoadFault) (e : SiteError) (read : Result Y SiteError)
    → r ≡ Err f → f ≡ Bad e → read ≡ Err e → Gives view r read
gives-fault {X = X} view r f e read p q h =
    subst (λ (x : Result X LoadFault). Gives view x read) (sym p) (subst (λ g. Fails g read) (sym q) h)

-- the same of a fault that a callee gave
pub gives-same : {X Y Z : Type 0} (view : X → Y) (r : Result X LoadFault) (f : LoadFault) (part : Result Z SiteError) (read : Result Y SiteError)
    → r ≡ Err f → Fails f part → ((e : SiteError) → part ≡ Err e → read ≡ Err e) → Gives view r read
gives-same {X = X} view r f part read p h along =
    subst (λ (x : Result X LoadFault). Gives view x read) (sym p) (passed f h)
  where
    passed : (f : LoadFault) → Fails f part → Fails f read
    passed Shelf h = h
    passed (Bad e) h = along e h
    passed NoMemory h = h

-- what holds of whatever reading gives holds of a good answer
pub gives-ok : {X Y : Type 0} (view : X → Y) (r : Result X LoadFault) (read : Result Y SiteError) (P : Y → Type 0) → Gives view r read
    → ((y : Y) → read ≡ Ok y → P y) → IfOk r (λ x. P (view x))
gives-ok view (Ok x) read P g along = along (view x) g
gives-ok view (Err f) read P g along = tt
