-- The laws of receiving a word: receiving joined pieces is receiving the pieces in turn.
use Rattle.std.proofs.Common.{◌≡◌, ℕ, ◌+◌, ◌≤◌, ◌||◌, Bool, true, false, not, cond, List, [], ◌∷◌, ◌++◌}
use Rattle.std.proofs.Common.{length, take, nat_lt, refl, sym, ap, ◌∙◌, inl, inr, arith, if◌then◌else◌}
use Rattle.std.proofs.Common.{append_assoc, append-nil, length-append, length-take, true≢false, add-zero}
use Rattle.std.specs.List.{before_first, list_any}
use Rattle.std.proofs.lemmas.Bool.{or_parts, cases_lt, lt-ltb, le-ltb}
use Rattle.std.proofs.lemmas.List.{take-take, take_all, take-append-le}
use Rattle.std.proofs.lemmas.List.Folds.{list_any-append}
use Rattle.std.proofs.lemmas.List.Sums.{take_while-cons}
use Rattle.std.proofs.Math.Bool.{or_assoc}
use Rattle.protosocket.specs.Line.{Line, is_stop, is_query_mark, word_of, name_part, with_word, after, part_taken}

-- what is before the first element that passes
first_here : (p : ℕ → Bool) (x : ℕ) (xs : List ℕ) → p x ≡ true → before_first p (x ∷ xs) ≡ []
first_here p x xs e = take_while-cons (λ b. not (p b)) x xs ∙ ap (λ b. cond (not b) (x ∷ before_first p xs) []) e

first_later : (p : ℕ → Bool) (x : ℕ) (xs : List ℕ) → p x ≡ false → before_first p (x ∷ xs) ≡ x ∷ before_first p xs
first_later p x xs e = take_while-cons (λ b. not (p b)) x xs ∙ ap (λ b. cond (not b) (x ∷ before_first p xs) []) e

or_last : (a b : Bool) → (a || b) ≡ true → a ≡ false → b ≡ true
or_last a b e h = sym (ap (λ c. c || b) h) ∙ e

pub none_before : (p : ℕ → Bool) (xs ys : List ℕ) → list_any p xs ≡ false → before_first p (xs ++ ys) ≡ xs ++ before_first p ys
none_before p [] ys e = refl
none_before p (x ∷ xs) ys e =
    first_later p x (xs ++ ys) (or_parts (p x) (list_any p xs) e).0
    ∙ ap (λ r. x ∷ r) (none_before p xs ys (or_parts (p x) (list_any p xs) e).1)

pub none_at_all : (p : ℕ → Bool) (xs : List ℕ) → list_any p xs ≡ false → before_first p xs ≡ xs
none_at_all p [] e = refl
none_at_all p (x ∷ xs) e =
    first_later p x xs (or_parts (p x) (list_any p xs) e).0
    ∙ ap (λ r. x ∷ r) (none_at_all p xs (or_parts (p x) (list_any p xs) e).1)

pub one_before : (p : ℕ → Bool) (xs ys : List ℕ) → list_any p xs ≡ true → before_first p (xs ++ ys) ≡ before_first p xs
one_before p [] ys e = elim (true≢false (sym e)) [ ]
one_before p (x ∷ xs) ys e =
    elim (p x) as (λ b. p x ≡ b → before_first p (x ∷ xs ++ ys) ≡ before_first p (x ∷ xs)) [
      | true ↦ λ h. first_here p x (xs ++ ys) h ∙ sym (first_here p x xs h)
      | false ↦ λ h.
          first_later p x (xs ++ ys) h
          ∙ ap (λ r. x ∷ r) (one_before p xs ys (or_last (p x) (list_any p xs) e h))
          ∙ sym (first_later p x xs h)
    ] refl

pub stop_fits : (p : ℕ → Bool) (xs : List ℕ) → length (before_first p xs) + (if list_any p xs then 1 else 0) ≤ length xs
stop_fits p [] = omega arith
stop_fits p (x ∷ xs) =
    elim (p x) as (λ b. p x ≡ b → length (before_first p (x ∷ xs)) + (if b || list_any p xs then 1 else 0) ≤ length (x ∷ xs)) [
      | true ↦ λ h. omega (arith, ap length (first_here p x xs h))
      | false ↦ λ h. omega (arith, ap length (first_later p x xs h), stop_fits p xs)
    ] refl

-- the name grows by the word's part, whichever way the word is cut
name_parts : (query : Bool) (a b : List ℕ) → name_part query (a ++ b) ≡ name_part query a ++ name_part (query || list_any is_query_mark a) b
name_parts true a b = refl
name_parts false a b =
    elim (list_any is_query_mark a) as
    (λ m. list_any is_query_mark a ≡ m → before_first is_query_mark (a ++ b) ≡ before_first is_query_mark a ++ name_part m b) [
      | true ↦ λ h. one_before is_query_mark a b h ∙ sym (append-nil (before_first is_query_mark a))
      | false ↦ λ h. none_before is_query_mark a b h ∙ ap (λ prefix. prefix ++ before_first is_query_mark b)
          (sym (none_at_all is_query_mark a h))
    ] refl

kept_in_turn : (n : ℕ) (a b : List ℕ) → take n (take n a ++ b) ≡ take n (a ++ b)
kept_in_turn n a b =
    elim (cases_lt n (length a)) [
      | inl h ↦
          take-append-le n (take n a) b (omega (arith, length-take n a))
          ∙ take-take n n a (omega arith)
          ∙ sym (take-append-le n a b (omega arith))
      | inr h ↦ ap (λ prefix. take n (prefix ++ b)) (take_all n a h)
    ]

over_in_turn : (n : ℕ) (a b : List ℕ) → nat_lt n (length (a ++ b)) ≡ (nat_lt n (length a) || nat_lt n (length (take n a ++ b)))
over_in_turn n a b =
    elim (cases_lt n (length a)) [
      | inl h ↦
          lt-ltb n (length (a ++ b)) (omega (arith, length-append a b))
          ∙ sym (ap (λ more. more || nat_lt n (length (take n a ++ b))) (lt-ltb n (length a) h))
      | inr h ↦
          ap (λ prefix. nat_lt n (length (prefix ++ b))) (sym (take_all n a h))
          ∙ sym (ap (λ more. more || nat_lt n (length (take n a ++ b))) (le-ltb n (length a) h))
    ]

with_words : (line : Line) (a b : List ℕ) → with_word line (a ++ b) ≡ with_word (with_word line a) b
with_words line a b =
    let part : List ℕ = name_part line.query a in
    let rest : List ℕ = name_part (line.query || list_any is_query_mark a) b in
    let whole : line.name ++ name_part line.query (a ++ b) ≡ (line.name ++ part) ++ rest =
    ap (λ r. line.name ++ r) (name_parts line.query a b) ∙ sym (append_assoc line.name part rest) in
    let name : take 64 (line.name ++ name_part line.query (a ++ b)) ≡ take 64 (take 64 (line.name ++ part) ++ rest) =
    ap (λ r. take 64 r) whole ∙ sym (kept_in_turn 64 (line.name ++ part) rest) in
    let over : (line.over || nat_lt 64 (length (line.name ++ name_part line.query (a ++ b))))
    ≡ (line.over || nat_lt 64 (length (line.name ++ part)) || nat_lt 64 (length (take 64 (line.name ++ part) ++ rest))) =
    ap (λ r. line.over || nat_lt 64 (length r)) whole
    ∙ ap (λ more. line.over || more) (over_in_turn 64 (line.name ++ part) rest)
    ∙ sym (or_assoc line.over (nat_lt 64 (length (line.name ++ part))) (nat_lt 64 (length (take 64 (line.name ++ part) ++ rest)))) in
    let query : (line.query || list_any is_query_mark (a ++ b)) ≡ (line.query || list_any is_query_mark a || list_any is_query_mark b) =
    ap (λ more. line.query || more) (list_any-append is_query_mark a b)
    ∙ sym (or_assoc line.query (list_any is_query_mark a) (list_any is_query_mark b)) in
    λ i. record line { name = name i; over = over i; query = query i }

-- pieces to a line that is not done
abbrev open_after : Line → List ℕ → Line
open_after line piece = record (with_word line (word_of line.stops piece)) { done = list_any (is_stop line.stops) piece }

pub takes_prefix : (line : Line) (piece : List ℕ) → part_taken line piece ≤ length piece
takes_prefix line piece =
    elim line.done as (λ d.
    (if d then 0 else length (word_of line.stops piece) + (if list_any (is_stop line.stops) piece then 1 else 0)) ≤ length piece) [
      | true ↦ omega arith
      | false ↦ stop_fits (is_stop line.stops) piece
    ]

pub takes_nothing : (line : Line) (piece : List ℕ) → line.done ≡ true → (part_taken line piece ≡ 0) × (after line piece ≡ line)
takes_nothing line piece e = (
  ap (λ d. if d then 0 else length (word_of line.stops piece) + (if list_any (is_stop line.stops) piece then 1 else 0)) e,
  ap (λ d. if d then line else record (with_word line (word_of line.stops piece)) { done = list_any (is_stop line.stops) piece }) e,
)

opened : (line : Line) (piece : List ℕ) → line.done ≡ false → after line piece ≡ open_after line piece
opened line piece e = ap (λ d. if d then line else open_after line piece) e

abbrev open_taken : Line → List ℕ → ℕ
open_taken line piece = length (word_of line.stops piece) + (if list_any (is_stop line.stops) piece then 1 else 0)

took : (line : Line) (piece : List ℕ) → line.done ≡ false → part_taken line piece ≡ open_taken line piece
took line piece e = ap (λ d. if d then 0 else open_taken line piece) e

pub takes_all : (line : Line) (piece : List ℕ) → (after line piece).done ≡ false → part_taken line piece ≡ length piece
takes_all line piece e =
    elim line.done as (λ d. line.done ≡ d → part_taken line piece ≡ length piece) [
      | true ↦ λ h. elim (true≢false (sym h ∙ sym (ap (λ l. l.done) (takes_nothing line piece h).1) ∙ e)) [ ]
      | false ↦ λ h.
          let none : list_any (is_stop line.stops) piece ≡ false = sym (ap (λ l. l.done) (opened line piece h)) ∙ e in
          took line piece h
          ∙ ap (λ d. length (word_of line.stops piece) + (if d then 1 else 0)) none
          ∙ add-zero (length (word_of line.stops piece))
          ∙ ap length (none_at_all (is_stop line.stops) piece none)
    ] refl

-- the two equations of receiving joined pieces
abbrev Joins : Line → List ℕ → List ℕ → Type 0
Joins line xs ys = (after line (xs ++ ys) ≡ after (after line xs) ys)
    × (part_taken line (xs ++ ys) ≡ part_taken line xs + part_taken (after line xs) ys)

stopped : (line : Line) (xs ys : List ℕ) → line.done ≡ false → list_any (is_stop line.stops) xs ≡ true → Joins line xs ys
stopped line xs ys h m =
    let word : word_of line.stops (xs ++ ys) ≡ word_of line.stops xs = one_before (is_stop line.stops) xs ys m in
    let stop : list_any (is_stop line.stops) (xs ++ ys) ≡ list_any (is_stop line.stops) xs =
    list_any-append (is_stop line.stops) xs ys ∙ ap (λ d. d || list_any (is_stop line.stops) ys) m ∙ sym m in
    let first : after line xs ≡ open_after line xs = opened line xs h in
    let none : (part_taken (open_after line xs) ys ≡ 0) × (after (open_after line xs) ys ≡ open_after line xs) =
    takes_nothing (open_after line xs) ys m in
    let same : open_after line (xs ++ ys) ≡ open_after line xs = λ i. record (with_word line (word i)) { done = stop i } in
    let all : open_taken line (xs ++ ys) ≡ open_taken line xs = λ i. length (word i) + (if stop i then 1 else 0) in (
      opened line (xs ++ ys) h ∙ same ∙ sym (none.1) ∙ ap (λ l. after l ys) (sym first),
      omega (arith, took line (xs ++ ys) h, all, took line xs h, none.0, ap (λ l. part_taken l ys) first),
    )

goes_on : (line : Line) (xs ys : List ℕ) → line.done ≡ false → list_any (is_stop line.stops) xs ≡ false → Joins line xs ys
goes_on line xs ys h m =
    let word : word_of line.stops (xs ++ ys) ≡ word_of line.stops xs ++ word_of line.stops ys =
    none_before (is_stop line.stops) xs ys m
    ∙ ap (λ prefix. prefix ++ word_of line.stops ys) (sym (none_at_all (is_stop line.stops) xs m)) in
    let stop : list_any (is_stop line.stops) (xs ++ ys) ≡ list_any (is_stop line.stops) ys =
    list_any-append (is_stop line.stops) xs ys ∙ ap (λ d. d || list_any (is_stop line.stops) ys) m in
    let first : after line xs ≡ open_after line xs = opened line xs h in
    let words : with_word line (word_of line.stops (xs ++ ys))
    ≡ with_word (with_word line (word_of line.stops xs)) (word_of line.stops ys) =
    ap (λ w. with_word line w) word ∙ with_words line (word_of line.stops xs) (word_of line.stops ys) in
    let both : open_after line (xs ++ ys) ≡ open_after (open_after line xs) ys = λ i. record (words i) { done = stop i } in
    let all : open_taken line (xs ++ ys) ≡ length (word_of line.stops xs ++ word_of line.stops ys)
    + (if list_any (is_stop line.stops) ys then 1 else 0) =
    λ i. length (word i) + (if stop i then 1 else 0) in
    let prefix : open_taken line xs ≡ length (word_of line.stops xs) + 0 =
    ap (λ d. length (word_of line.stops xs) + (if d then 1 else 0)) m in (
      opened line (xs ++ ys) h ∙ both ∙ sym (opened (open_after line xs) ys m) ∙ ap (λ l. after l ys) (sym first),
      omega (
        arith,
        took line (xs ++ ys) h,
        all,
        took line xs h,
        prefix,
        length-append (word_of line.stops xs) (word_of line.stops ys),
        took (open_after line xs) ys m,
        ap (λ l. part_taken l ys) first,
      ),
    )

pub receives_joined : (line : Line) (xs ys : List ℕ) → Joins line xs ys
receives_joined line xs ys =
    elim line.done as (λ d. line.done ≡ d → Joins line xs ys) [
      | true ↦ λ h.
          let first : after line xs ≡ line = (takes_nothing line xs h).1 in (
            (takes_nothing line (xs ++ ys) h).1 ∙ sym ((takes_nothing line ys h).1) ∙ ap (λ l. after l ys) (sym first),
            omega (
              arith,
              (takes_nothing line (xs ++ ys) h).0,
              (takes_nothing line xs h).0,
              (takes_nothing line ys h).0,
              ap (λ l. part_taken l ys) first,
            ),
          )
      | false ↦ λ h.
          elim (list_any (is_stop line.stops) xs) as (λ m. list_any (is_stop line.stops) xs ≡ m → Joins line xs ys) [
            | true ↦ λ m. stopped line xs ys h m
            | false ↦ λ m. goes_on line xs ys h m
          ] refl
    ] refl
