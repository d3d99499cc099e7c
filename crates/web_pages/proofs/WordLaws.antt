-- The two words of a request, as they are stored while they are received.
use Rattle.web_pages.proofs.Prelude.{◌≡◌, ℕ, ◌<◌, ◌≤◌, ◌&&◌, ◌==◌, Bool, true, false, not, List, [], ◌∷◌, length, take, refl, sym, ap}
use Rattle.web_pages.proofs.Prelude.{subst, ◌∙◌, arith, length-take, if◌then◌else◌, codes, nat_lt, nat_eq, before_first, list_any}
use Rattle.web_pages.proofs.Prelude.{starts_with, concat, fold, bytes_eq, and_parts, not-true, ltb-true, ltb-false, eqb-true}
use Rattle.web_pages.proofs.Prelude.{same_from_decides, take_all, take_while-cons, bytes_eq-Decides, Space, SpaceOrLine, Line}
use Rattle.web_pages.proofs.Prelude.{is_query_mark, after, fresh, delivered, none_at_all, receives_in_pieces, Wanted, wanted, wanted_by}
use Rattle.web_pages.proofs.Prelude.{has_ended, method_of, after_method, target_of, name_in, NotYet, Refused, Name, reported_so_far}
use Rattle.web_pages.proofs.Prelude.{ReportedInPieces, LongNames, by_tests}

-- ---- the method

is_get_word : (word : List ℕ) → bytes_eq word (codes "GET") ≡ (bytes_eq (take 64 (before_first is_query_mark word)) (codes "GET")
    && not (list_any is_query_mark word))
is_get_word word =
    same_from_decides {P = word ≡ codes "GET"} _ _ (bytes_eq-Decides word (codes "GET")) (from, to)
  where
    from : (bytes_eq (take 64 (before_first is_query_mark word)) (codes "GET") && not (list_any is_query_mark word)) ≡ true → word ≡ codes "GET"
    from e =
        let both = and_parts (bytes_eq (take 64 (before_first is_query_mark word)) (codes "GET")) (not (list_any is_query_mark word)) e in
        let whole : before_first is_query_mark word ≡ word = none_at_all is_query_mark word (not-true (list_any is_query_mark word) both.1) in
        let same : take 64 word ≡ codes "GET" = ap (take 64) (sym whole)
        ∙ (bytes_eq-Decides (take 64 (before_first is_query_mark word)) (codes "GET")).0 both.0 in
        let three : length (codes "GET") ≡ 3 = refl in
        let short : length word ≤ 64 = omega (arith, length-take 64 word, ap length same) in
        sym (take_all 64 word short) ∙ same

    to : word ≡ codes "GET" → (bytes_eq (take 64 (before_first is_query_mark word)) (codes "GET") && not (list_any is_query_mark word)) ≡ true
    to e = ap (λ w. bytes_eq (take 64 (before_first is_query_mark w)) (codes "GET") && not (list_any is_query_mark w)) e

-- ---- the target

abbrev pub prefix : List ℕ → List ℕ
prefix target = before_first is_query_mark target

prefix_here : (x : ℕ) (xs : List ℕ) → is_query_mark x ≡ true → prefix (x ∷ xs) ≡ []
prefix_here x xs e = take_while-cons (λ b. not (is_query_mark b)) x xs ∙ ap (λ b. if not b then x ∷ prefix xs else []) e

prefix_later : (x : ℕ) (xs : List ℕ) → is_query_mark x ≡ false → prefix (x ∷ xs) ≡ x ∷ prefix xs
prefix_later x xs e = take_while-cons (λ b. not (is_query_mark b)) x xs ∙ ap (λ b. if not b then x ∷ prefix xs else []) e

prefix_again : (target : List ℕ) → prefix (prefix target) ≡ prefix target
prefix_again [] = refl
prefix_again (x ∷ xs) =
    elim (is_query_mark x) as (λ b. is_query_mark x ≡ b → prefix (prefix (x ∷ xs)) ≡ prefix (x ∷ xs)) [
      | true ↦ λ e. ap prefix (prefix_here x xs e) ∙ sym (prefix_here x xs e)
      | false ↦ λ e. ap prefix (prefix_later x xs e) ∙ prefix_later x (prefix xs) e ∙ ap (λ ys. x ∷ ys) (prefix_again xs) ∙ sym (prefix_later x xs e)
    ] refl

mark_no_slash : (x : ℕ) → is_query_mark x ≡ true → (47 == x) ≡ false
mark_no_slash x e = ap (λ y. 47 == y) (eqb-true x 63 e)

pub slash_prefix : (target : List ℕ) → starts_with nat_eq (prefix target) (codes "/") ≡ starts_with nat_eq target (codes "/")
slash_prefix [] = refl
slash_prefix (x ∷ xs) =
    elim (is_query_mark x) as (λ b. is_query_mark x ≡ b → starts_with nat_eq (prefix (x ∷ xs)) (codes "/") ≡ starts_with nat_eq (x ∷ xs) (codes "/")) [
      | true ↦ λ e. ap (λ ys. starts_with nat_eq ys (codes "/")) (prefix_here x xs e) ∙ sym (ap (λ b. b && true) (mark_no_slash x e))
      | false ↦ λ e. ap (λ ys. starts_with nat_eq ys (codes "/")) (prefix_later x xs e)
    ] refl

wanted_prefix : (target : List ℕ) → wanted_by (prefix target) ≡ wanted_by target
wanted_prefix target = λ i. if slash_prefix target i then Name (if bytes_eq (prefix_again target i) (codes "/") then codes
    "/index.html" else prefix_again target i) else Refused

kept_prefix : (target : List ℕ) → nat_lt 64 (length (prefix target)) ≡ false → wanted_by (take 64 (prefix target)) ≡ wanted_by target
kept_prefix target e = ap wanted_by (take_all 64 (prefix target) (ltb-false 64 (length (prefix target)) e)) ∙ wanted_prefix target

-- ---- both

pub reported_by_received : (request : List ℕ) → (delivered SpaceOrLine (after_method request)).over ≡ false
    → wanted request ≡ reported_so_far (delivered Space request) (delivered SpaceOrLine (after_method request))
reported_by_received request e =
    λ i. if not (has_ended Space request) then NotYet
    else (if not (is_get_word (method_of request) i) then Refused
    else (if not (has_ended SpaceOrLine (after_method request)) then NotYet else sym (kept_prefix (target_of request) e) i))

pub reported_in_pieces : ReportedInPieces
reported_in_pieces pieces later rest e =
    let method : fold after (fresh Space) pieces ≡ delivered Space (concat pieces) = receives_in_pieces Space pieces in
    let target : fold after (fresh SpaceOrLine) later ≡ delivered SpaceOrLine (after_method (concat pieces)) =
    receives_in_pieces SpaceOrLine later ∙ ap (delivered SpaceOrLine) (sym rest) in
    reported_by_received (concat pieces) (sym (ap (λ (line : Line). line.over) target) ∙ e) ∙ sym (λ i. reported_so_far (method i) (target i))

-- a long name is the name that is asked for
pub named_by : (target name : List ℕ) → 64 < length (prefix target) → wanted_by target ≡ Name name → 64 < length name
named_by target name long e = by_slash (starts_with nat_eq target (codes "/")) e
  where
    name_of : Wanted → List ℕ
    name_of NotYet = []
    name_of Refused = []
    name_of (Name n) = n

    by_short : (b : Bool) → bytes_eq (prefix target) (codes "/") ≡ b → 64 < length (if b then codes "/index.html" else prefix target)
    by_short true s = absurd (omega (arith, ap length ((bytes_eq-Decides (prefix target) (codes "/")).0 s), (let one : length (codes "/") ≡ 1 = refl in one)))
    by_short false s = long

    by_slash : (b : Bool) → (if b then Name (name_in target) else Refused) ≡ Name name → 64 < length name
    by_slash true h = subst (λ n. 64 < length n) (ap name_of h) (by_short (bytes_eq (prefix target) (codes "/")) refl)
    by_slash false h = absurd cc

long_by : (a b c : Bool) (target name : List ℕ) → 64 < length (prefix target) → by_tests a b c target ≡ Name name → 64 < length name
long_by false b c target name long e = absurd cc
long_by true false c target name long e = absurd cc
long_by true true false target name long e = absurd cc
long_by true true true target name long e = named_by target name long e

pub long_names : LongNames
long_names pieces later rest name over e =
    let request = concat pieces in
    let target : fold after (fresh SpaceOrLine) later ≡ delivered SpaceOrLine (after_method request) = receives_in_pieces SpaceOrLine later
    ∙ ap (delivered SpaceOrLine) (sym rest) in
    let long = ltb-true 64 (length (prefix (target_of request))) (sym (ap (λ (line : Line). line.over) target) ∙ over) in
    long_by (has_ended Space request) (bytes_eq (method_of request) (codes "GET")) (has_ended SpaceOrLine (after_method request))
    (target_of request) name long e
