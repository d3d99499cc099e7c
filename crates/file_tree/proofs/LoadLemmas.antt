-- What was read of a file so far is a prefix of it.
use Rattle.file_tree.proofs.Prelude.{◌≡◌, ℕ, ◌+◌, ◌<◌, ◌≤◌, List, [], ◌++◌, length, take, drop, ltb, Option, Some, None, Result, Ok, Err}
use Rattle.file_tree.proofs.Prelude.{refl, sym, ap, subst, inl, inr, ◌∙◌, arith, ⊤, IsSomeAnd, cases_lt, lt-ltb, take-append-drop}
use Rattle.file_tree.proofs.Prelude.{take-take, drop-take, take_all, length-take, length-take-le, take-append-le, length-append, Files}
use Rattle.file_tree.proofs.Prelude.{ReadsFile, Reads, LONGEST_IMAGE, LoadFault, Shelf, Bad, NoMemory, HoldsFile, Loads, Gives, MOST_FILES}
use Rattle.file_tree.proofs.Prelude.{SiteError, TooLong, Cut, TooMany, File, ◌>>=◌, refuse, fault, version_of, file_count, image_head}
use Rattle.file_tree.proofs.Prelude.{read_image}
use Rattle.file_tree.proofs.ReadLemmas.{read-at-head}

abbrev pub IsPrefixIn : Option (List ℕ) → List ℕ → Type 0
IsPrefixIn None bytes = bytes ≡ []
IsPrefixIn (Some content) bytes = bytes ≡ take (length bytes) content

abbrev pub IsProperPrefixOf : Option Files → List ℕ → List ℕ → Type 0
IsProperPrefixOf None name bytes = ⊤
IsProperPrefixOf (Some files) name bytes = IsPrefixIn (files name) bytes

pub record Loading (limit : ℕ) (start now : Option Files) (before faults : ℕ) (name bytes : List ℕ) : Type 0 where
  pub held : now ≡ start
  pub same : faults ≡ before
  pub prefix : IsProperPrefixOf start name bytes
  pub short : length bytes ≤ limit + 1

take-add : (k n : ℕ) (xs : List ℕ) → take k xs ++ take n (drop k xs) ≡ take (k + n) xs
take-add k n xs =
    ap (λ x. x ++ take n (drop k xs)) (sym (take-take k (k + n) xs (omega arith)))
    ∙ ap (λ x. take k (take (k + n) xs) ++ x) (sym (drop-take k n xs))
    ∙ take-append-drop k (take (k + n) xs)

prefix-in-more : (o : Option (List ℕ)) (bytes buf : List ℕ) (n : ℕ) → IsPrefixIn o bytes → ReadsFile o (length bytes) (Ok n) buf
    → n ≤ length buf → IsPrefixIn o (bytes ++ take n buf)
prefix-in-more None bytes buf n prefix reads within = absurd reads
prefix-in-more (Some content) bytes buf n prefix reads within =
    let more : length (take n buf) ≡ n = omega (arith, length-take n buf) in
    let len : length (bytes ++ take n buf) ≡ length bytes + n = length-append bytes (take n buf) ∙ ap (λ k. length bytes + k) more in
    ap (λ x. x ++ take n buf) prefix ∙ ap (λ x. take (length bytes) content ++ x) reads.0 ∙ take-add (length bytes) n content
    ∙ ap (λ k. take k content) (sym len)

pub prefix-more : (held : Option Files) (name bytes buf : List ℕ) (n : ℕ) → IsProperPrefixOf held name bytes
    → Reads held name (length bytes) (Ok n) buf → n ≤ length buf → IsProperPrefixOf held name (bytes ++ take n buf)
prefix-more None name bytes buf n prefix reads within = tt
prefix-more (Some files) name bytes buf n prefix reads within = prefix-in-more (files name) bytes buf n prefix reads within

-- as much of a file as the limit allows, and one byte more
abbrev pub IsWellFormed : ℕ → List ℕ → List ℕ → Type 0
IsWellFormed limit bytes content = bytes ≡ take (limit + 1) content

-- at the file's end, and where enough was read
ended-in : (limit : ℕ) (o : Option (List ℕ)) (bytes buf : List ℕ) → IsPrefixIn o bytes → ReadsFile o (length bytes) (Ok 0) buf
    → length bytes ≤ limit + 1 → IsSomeAnd o (IsWellFormed limit bytes)
ended-in limit None bytes buf prefix reads short = absurd reads
ended-in limit (Some content) bytes buf prefix reads short =
    let ended = reads.1.0 refl in
    prefix ∙ take_all (length bytes) content ended ∙ sym (take_all (limit + 1) content (omega arith))

full-in : (limit : ℕ) (o : Option (List ℕ)) (bytes : List ℕ) → IsPrefixIn o bytes → length bytes ≡ limit + 1 → IsSomeAnd o (IsWellFormed limit bytes)
full-in limit None bytes prefix full = let none = ap length prefix in absurd (omega arith)
full-in limit (Some content) bytes prefix full = prefix ∙ ap (λ n. take n content) full

pub loading-ended : (limit : ℕ) (held : Option Files) (name bytes buf : List ℕ) → IsProperPrefixOf held name bytes
    → Reads held name (length bytes) (Ok 0) buf → length bytes ≤ limit + 1 → HoldsFile held name (IsWellFormed limit bytes)
loading-ended limit None name bytes buf prefix reads short = tt
loading-ended limit (Some files) name bytes buf prefix reads short = ended-in limit (files name) bytes buf prefix reads short

pub loading-full : (limit : ℕ) (held : Option Files) (name bytes : List ℕ) → IsProperPrefixOf held name bytes → length bytes ≡ limit + 1
    → HoldsFile held name (IsWellFormed limit bytes)
loading-full limit None name bytes prefix full = tt
loading-full limit (Some files) name bytes prefix full = full-in limit (files name) bytes prefix full

pub loading-stops : (limit : ℕ) (start now : Option Files) (before faults : ℕ) (name bytes buf : List ℕ) (at n : ℕ)
    → Loading limit start now before faults name bytes
    → Reads now name at (Ok n) buf → at ≡ length bytes → n ≡ 0 → HoldsFile start name (IsWellFormed limit bytes)
loading-stops limit start now before faults name bytes buf at n l reads at_is none =
    loading-ended limit start name bytes buf l.prefix
    (subst (λ k. Reads start name (length bytes) (Ok k) buf) none
    (subst (λ k. Reads start name k (Ok n) buf) at_is (subst (λ h. Reads h name at (Ok n) buf) l.held reads)))
    l.short

pub loading-more : (limit : ℕ) (start now next : Option Files) (before faults raised : ℕ) (name bytes buf rest more : List ℕ) (at n : ℕ)
    → Loading limit start now before faults name bytes
    → Reads now name at (Ok n) buf → at ≡ length bytes → n ≤ length buf → length bytes + n ≤ limit + 1 → next ≡ now → raised ≡ faults
    → more ≡ bytes ++ take n (buf ++ rest)
    → Loading limit start next before raised name more
loading-more limit start now next before faults raised name bytes buf rest more at n l reads at_is within room kept same is =
    let taken : take n (buf ++ rest) ≡ take n buf = take-append-le n buf rest within in
    let items : more ≡ bytes ++ take n buf = is ∙ ap (λ x. bytes ++ x) taken in
    let size : length more ≡ length bytes + n = ap length items ∙ length-append bytes (take n buf) ∙ ap (λ k. length bytes + k) (length-take-le n buf within) in
    record {
      held = kept ∙ l.held;
      same = same ∙ l.same;
      prefix = subst (IsProperPrefixOf start name) (sym items)
          (prefix-more start name bytes buf n l.prefix (subst (λ k. Reads start name k (Ok n) buf) at_is
          (subst (λ h. Reads h name at (Ok n) buf) l.held reads)) within);
      short = omega arith;
    }

-- an image that is too long, however much of it is read
long-head : (bytes : List ℕ) → LONGEST_IMAGE < length bytes → image_head bytes ≡ Err (fault TooLong 0)
unfolding image_head
long-head bytes lt = ap (λ t. refuse t TooLong >>= λ _.
    (version_of bytes >>= λ version. (refuse (ltb (length bytes) 10) Cut >>= λ _. (refuse (ltb MOST_FILES (file_count bytes)) TooMany >>=
    λ _. Ok (version, file_count bytes))))) (lt-ltb LONGEST_IMAGE (length bytes) lt)

pub read-prefix : (content : List ℕ) → read_image (take (LONGEST_IMAGE + 1) content) ≡ read_image content
read-prefix content =
    elim (cases_lt LONGEST_IMAGE (length content)) [
      | inl long ↦
          let prefix : length (take (LONGEST_IMAGE + 1) content) ≡ LONGEST_IMAGE + 1 = length-take-le (LONGEST_IMAGE + 1) content (omega arith) in
          read-at-head (take (LONGEST_IMAGE + 1) content) (fault TooLong 0) (long-head (take (LONGEST_IMAGE + 1) content) (omega arith))
          ∙ sym (read-at-head content (fault TooLong 0) (long-head content long))
      | inr short ↦ ap read_image (take_all (LONGEST_IMAGE + 1) content (omega arith))
    ]

whole-reads : (bytes content : List ℕ) (read : Result (List File) SiteError) → IsWellFormed LONGEST_IMAGE bytes content
    → read_image bytes ≡ read → read_image content ≡ read
whole-reads bytes content read whole e = sym (read-prefix content) ∙ ap read_image (sym whole) ∙ e

content-map : (o : Option (List ℕ)) (P Q : List ℕ → Type 0) → ((content : List ℕ) → P content → Q content) → IsSomeAnd o P → IsSomeAnd o Q
content-map None P Q along h = h
content-map (Some content) P Q along h = along content h

file-map : (held : Option Files) (name : List ℕ) (P Q : List ℕ → Type 0) → ((content : List ℕ) → P content → Q content)
    → HoldsFile held name P → HoldsFile held name Q
file-map None name P Q along h = tt
file-map (Some files) name P Q along h = content-map (files name) P Q along h

pub loads-by : {X : Type 0} (view : X → List File) (held : Option Files) (name bytes : List ℕ) (r : Result X LoadFault)
    → HoldsFile held name (IsWellFormed LONGEST_IMAGE bytes) → Gives view r (read_image bytes)
    → Loads view held name r
loads-by view held name bytes (Ok x) whole g =
    file-map held name (IsWellFormed LONGEST_IMAGE bytes) (λ content. read_image content ≡ Ok (view x))
    (λ content w. whole-reads bytes content (Ok (view x)) w g) whole
loads-by view held name bytes (Err Shelf) whole g = tt
loads-by view held name bytes (Err NoMemory) whole g = tt
loads-by view held name bytes (Err (Bad e)) whole g =
    file-map held name (IsWellFormed LONGEST_IMAGE bytes) (λ content. read_image content ≡ Err e) (λ content w. whole-reads bytes content (Err e) w g) whole
