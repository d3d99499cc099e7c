-- What a line holds of the words delivered.
use Rattle.httpd.proofs.Prelude.{◌≡◌, ℕ, suc, ◌+◌, ◌<◌, ◌≤◌, ◌||◌, ◌&&◌, Bool, true, false, not, cond, List, [], ◌∷◌, ◌++◌, length}
use Rattle.httpd.proofs.Prelude.{take, drop, nat_lt, codes, refl, sym, ap, subst, ◌∙◌, inl, inr, arith, if◌then◌else◌, true≢false}
use Rattle.httpd.proofs.Prelude.{length-append, length-take, append_assoc, nat_eq, before_first, list_any, starts_with, bytes_eq, cases_lt}
use Rattle.httpd.proofs.Prelude.{ltb-true, ltb-false, drop_all, take_all, take-append-drop}
use Rattle.httpd.proofs.Prelude.{list_any-append, bytes_eq-Decides, File, has_name, IsLoaded, SiteContent, files_of, Stops, Space}
use Rattle.httpd.proofs.Prelude.{SpaceOrLine, Line, after, fresh, delivered, is_query_mark, is_stop, word_of, receives_joined, none_at_all}
use Rattle.httpd.proofs.Prelude.{none_before, one_before, after_method, has_ended, method_of, name_in}
use Rattle.httpd.proofs.Sizes.{name_short}

-- a line that was fed some bytes is fed more
pub received_more : (stops : Stops) (bytes piece : List ℕ) → after (delivered stops bytes) piece ≡ delivered stops (bytes ++ piece)
received_more stops bytes piece = sym ((receives_joined (fresh stops) bytes piece).0)

-- ---- the method

same_test : (xs ys zs : List ℕ) → xs ≡ ys → bytes_eq xs zs ≡ bytes_eq ys zs
same_test xs ys zs e = ap (λ l. bytes_eq l zs) e

not_same : (xs ys : List ℕ) → (xs ≡ ys → ⊥) → bytes_eq xs ys ≡ false
not_same xs ys ne = by (bytes_eq xs ys) refl
  where
    by : (b : Bool) → bytes_eq xs ys ≡ b → b ≡ false
    by false e = refl
    by true e = absurd (ne ((bytes_eq-Decides xs ys).0 e))

long_other : (xs ys : List ℕ) (n : ℕ) → length ys < n → n ≤ length xs → bytes_eq (take n xs) ys ≡ bytes_eq xs ys
long_other xs ys n short long =
    not_same (take n xs) ys (λ e. omega (arith, ap length e, length-take n xs, short, long))
    ∙ sym (not_same xs ys (λ e. omega (arith, ap length e, short, long)))

-- the prefix of a word differs from a short word as the word does
cut_test : (xs ys : List ℕ) (n : ℕ) → length ys < n → bytes_eq (take n xs) ys ≡ bytes_eq xs ys
cut_test xs ys n short = elim (cases_lt n (length xs)) [
  | inl h ↦ long_other xs ys n short (omega (arith, h))
  | inr h ↦ same_test (take n xs) xs ys (take_all n xs h)
]

-- a word with a `?` in it is not `GET`
pub get_received : (word : List ℕ) → (not (list_any is_query_mark word) && bytes_eq (take 64 (before_first is_query_mark word))
    (codes "GET")) ≡ bytes_eq word (codes "GET")
get_received word = by (list_any is_query_mark word) refl
  where
    by : (m : Bool) → list_any is_query_mark word ≡ m → (not m && bytes_eq (take 64 (before_first is_query_mark word)) (codes "GET"))
        ≡ bytes_eq word (codes "GET")
    by true e = sym (not_same word (codes "GET") (λ same. true≢false (sym e ∙ ap (λ w. list_any is_query_mark w) same)))
    by false e =
        ap (λ w. bytes_eq (take 64 w) (codes "GET")) (none_at_all is_query_mark word e)
        ∙ cut_test word (codes "GET") 64 (omega arith)

-- ---- the prefix of a piece up to its first stop

pub cut_stops : (p : ℕ → Bool) (xs : List ℕ) → list_any p xs ≡ true
    → (list_any p (take (length (before_first p xs) + 1) xs) ≡ true) × (before_first p (take (length (before_first p xs) + 1) xs)
    ≡ before_first p xs) × (length (before_first p xs) + 1 ≤ length xs)
cut_stops p xs e =
    let fits : length (before_first p xs) + 1 ≤ length xs =
    subst (λ b. length (before_first p xs) + (if b then 1 else 0) ≤ length xs) e (Rattle.protosocket.specs.Lemmas.Reception.stop_fits p xs) in
    by (length (before_first p xs) + 1) refl (take-append-drop (length (before_first p xs) + 1) xs) fits
    (list_any p (take (length (before_first p xs) + 1) xs)) refl
  where
    by : (n : ℕ) → n ≡ length (before_first p xs) + 1 → take n xs ++ drop n xs ≡ xs → n ≤ length xs → (b : Bool) → list_any p (take n xs) ≡ b
        → (list_any p (take n xs) ≡ true) × (before_first p (take n xs) ≡ before_first p xs) × (n ≤ length xs)
    by n size whole fits true stop = (stop, sym (one_before p (take n xs) (drop n xs) stop) ∙ ap (before_first p) whole, fits)
    by n size whole fits false stop =
        let prefix : before_first p xs ≡ take n xs ++ before_first p (drop n xs) = ap (before_first p) (sym whole)
        ∙ none_before p (take n xs) (drop n xs) stop in
        absurd (omega (arith, size, ap length prefix, length-append (take n xs) (before_first p (drop n xs)), length-take n xs, fits))

-- ---- where the first word ends in a piece

-- the bytes that are taken of the piece
abbrev pub prefix_of : List ℕ → List ℕ
prefix_of piece = take (length (word_of Space piece) + 1) piece

abbrev pub rest_of : List ℕ → List ℕ
rest_of piece = drop (length (word_of Space piece) + 1) piece

pub record EndsHere (bytes piece : List ℕ) : Type 0 where
  pub ended : has_ended Space (bytes ++ prefix_of piece) ≡ true
  pub method : method_of (bytes ++ prefix_of piece) ≡ method_of (bytes ++ piece)
  pub nothing : after_method (bytes ++ prefix_of piece) ≡ []
  pub joined : (bytes ++ prefix_of piece) ++ rest_of piece ≡ bytes ++ piece

pub or_second : (a b : Bool) → (a || b) ≡ true → a ≡ false → b ≡ true
or_second a b e h = sym (ap (λ c. c || b) h) ∙ e

pub ends_here : (bytes piece : List ℕ) → has_ended Space bytes ≡ false → has_ended Space (bytes ++ piece) ≡ true → EndsHere bytes piece
ends_here bytes piece none some =
    let stop : list_any (is_stop Space) piece ≡ true = or_second (list_any (is_stop Space) bytes) (list_any (is_stop Space) piece)
    (sym (list_any-append (is_stop Space) bytes piece) ∙ some) none in
    let cut = cut_stops (is_stop Space) piece stop in
    let word : method_of (bytes ++ prefix_of piece) ≡ bytes ++ word_of Space piece =
    none_before (is_stop Space) bytes (prefix_of piece) none ∙ ap (λ w. bytes ++ w) cut.1 in
    record {
      ended = list_any-append (is_stop Space) bytes (prefix_of piece) ∙ ap (λ b. b || list_any (is_stop Space) (prefix_of piece)) none ∙ cut.0;
      method = word ∙ sym (none_before (is_stop Space) bytes piece none);
      nothing = drop_all (length (method_of (bytes ++ prefix_of piece)) + 1) (bytes ++ prefix_of piece)
          (omega (
            arith,
            ap length word,
            length-append bytes (word_of Space piece),
            length-append bytes (prefix_of piece),
            length-take (length (word_of Space piece) + 1) piece,
            cut.2,
          ));
      joined = append_assoc bytes (prefix_of piece) (rest_of piece) ∙ ap (λ r. bytes ++ r) (take-append-drop (length (word_of Space piece) + 1) piece);
    }

-- ---- the target

first_here : (p : ℕ → Bool) (x : ℕ) (xs : List ℕ) → p x ≡ true → before_first p (x ∷ xs) ≡ []
first_here p x xs e = Rattle.std.proofs.lemmas.List.Sums.take_while-cons (λ b. not (p b)) x xs ∙ ap (λ b. cond (not b) (x ∷ before_first p xs) []) e

first_later : (p : ℕ → Bool) (x : ℕ) (xs : List ℕ) → p x ≡ false → before_first p (x ∷ xs) ≡ x ∷ before_first p xs
first_later p x xs e = Rattle.std.proofs.lemmas.List.Sums.take_while-cons (λ b. not (p b)) x xs ∙ ap (λ b. cond (not b) (x ∷ before_first p xs) []) e

-- the prefix of its name determines whether a word begins with `/`
pub path_received : (word : List ℕ) → starts_with nat_eq (take 64 (before_first is_query_mark word)) (codes "/") ≡ starts_with nat_eq word (codes "/")
path_received [] = refl
path_received (x ∷ xs) = by (is_query_mark x) refl
  where
    by : (m : Bool) → is_query_mark x ≡ m → starts_with nat_eq (take 64 (before_first is_query_mark (x ∷ xs))) (codes "/") ≡ starts_with
        nat_eq (x ∷ xs) (codes "/")
    by true e =
        let mark : x ≡ 63 = Rattle.std.proofs.lemmas.Bool.eqb-true x 63 e in
        ap (λ w. starts_with nat_eq (take 64 w) (codes "/")) (first_here is_query_mark x xs e)
        ∙ subst (λ y. false ≡ starts_with nat_eq (y ∷ xs) (codes "/")) (sym mark) refl
    by false e = ap (λ w. starts_with nat_eq (take 64 w) (codes "/")) (first_later is_query_mark x xs e)

-- the name of a target, from what the line holds of it
pub name_received : (word : List ℕ) → nat_lt 64 (length (before_first is_query_mark word)) ≡ false
    → (if bytes_eq (take 64 (before_first is_query_mark word)) (codes "/") then codes "/index.html" else take 64
    (before_first is_query_mark word)) ≡ name_in word
name_received word short =
    let whole : take 64 (before_first is_query_mark word) ≡ before_first is_query_mark word = take_all 64 (before_first is_query_mark word)
    (ltb-false 64 (length (before_first is_query_mark word)) short) in
    ap (λ n. if bytes_eq n (codes "/") then codes "/index.html" else n) whole

long_name : (word : List ℕ) → nat_lt 64 (length (before_first is_query_mark word)) ≡ true → name_in word ≡ before_first is_query_mark word
long_name word long =
    let more : 64 < length (before_first is_query_mark word) = ltb-true 64 (length (before_first is_query_mark word)) long in
    ap (λ b. if b then codes "/index.html" else before_first is_query_mark word) (not_same (before_first is_query_mark word) (codes "/")
    (λ e. omega (arith, ap length e, more)))

-- no file has so long a name
nobody : (files : List File) → ((k : ℕ) (file : File) → Rattle.std.specs.Prelude.slice_get files k ≡ Rattle.std.proofs.Common.Some file
    → length file.name ≤ 64) → (name : List ℕ) → 64 < length name → has_name files name ≡ false
nobody [] good name long = refl
nobody (file ∷ files) good name long =
    ap (λ b. b || has_name files name) (not_same file.name name (λ e. omega (arith, ap length e, long, good 0 file refl)))
    ∙ nobody files (λ k f s. good (suc k) f s) name long

pub nobody_named : (files : List File) → ((k : ℕ) (file : File) → Rattle.std.specs.Prelude.slice_get files k ≡ Rattle.std.proofs.Common.Some
    file → length file.name ≤ 64) → (word : List ℕ) → nat_lt 64 (length (before_first is_query_mark word)) ≡ true
    → has_name files (name_in word) ≡ false
nobody_named files good word long =
    ap (has_name files) (long_name word long) ∙ nobody files good (before_first is_query_mark word)
    (ltb-true 64 (length (before_first is_query_mark word)) long)

-- the name that a line holds
abbrev asked : Line → List ℕ
asked line = if bytes_eq line.name (codes "/") then codes "/index.html" else line.name

-- a line that was fed all of a name holds it
pub asked_name : (inside line : Line) (bytes : List ℕ) → inside ≡ line → line ≡ delivered SpaceOrLine bytes → inside.over ≡ false
    → asked line ≡ name_in (word_of SpaceOrLine bytes)
asked_name inside line bytes e holds short =
    ap asked holds ∙ name_received (word_of SpaceOrLine bytes) (sym (ap (λ (l : Line). l.over) (e ∙ holds)) ∙ short)

-- and of one that is too long for it no file has the name
pub asked_nobody : (site : SiteContent) (inside line : Line) (bytes : List ℕ) → IsLoaded site → inside ≡ line
    → line ≡ delivered SpaceOrLine bytes → inside.over ≡ true
    → has_name (files_of site) (name_in (word_of SpaceOrLine bytes)) ≡ false
asked_nobody site inside line bytes is e holds over =
    nobody_named (files_of site) (name_short site is) (word_of SpaceOrLine bytes) (sym (ap (λ (l : Line). l.over) (e ∙ holds)) ∙ over)
