-- The lines of a text in turn.
use Rattle.link_schedule.proofs.Prelude.{◌≡◌, ℕ, ◌+◌, ◌<◌, ◌≤◌, Bool, true, false, cond, List, [], ◌∷◌, length, drop, get_or, map, Ok, Err}
use Rattle.link_schedule.proofs.Prelude.{ap, ◌∙◌, arith, onto_first, slice_split, drop_more, Why, SchedulePlan, reads_on, read_line}
use Rattle.link_schedule.proofs.Prelude.{read_lines}

pub bad_line : {A : Type 0} (f : A → List ℕ) (lines : List A) (i : ℕ) (d : A) (above : SchedulePlan) (why : Why) → i < length lines
    → read_line (i + 1) above (f (get_or lines i d)) ≡ Err why
    → read_lines (i + 1) above (map f (drop i lines)) ≡ Err (record { line = i + 1; why = why })
bad_line f lines i d above why within e =
    ap (λ ls. read_lines (i + 1) above (map f ls)) (drop_more lines i d within)
    ∙ ap (reads_on (i + 1) (λ content. read_lines (i + 1 + 1) content (map f (drop (i + 1) lines)))) e

length_onto : {X : Type 0} (x : X) (parts : List (List X)) (n : ℕ) → length parts ≤ n → 0 < n → length (onto_first x parts) ≤ n
length_onto x [] n h more = omega arith
length_onto x (part ∷ parts) n h more = omega (arith, h)

pub few_parts : {X : Type 0} (p : X → Bool) (xs : List X) → length (slice_split p xs) ≤ length xs + 1
few_parts p [] = omega arith
few_parts p (x ∷ xs) =
    let more = few_parts p xs in
    elim (p x) as (λ b. length (cond b ([] ∷ slice_split p xs) (onto_first x (slice_split p xs))) ≤ length (x ∷ xs) + 1)
    [ true ↦ omega (arith, more) | false ↦ length_onto x (slice_split p xs) _ (omega (arith, more)) (omega arith) ]
