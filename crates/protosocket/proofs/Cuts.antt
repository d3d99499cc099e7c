-- What is before the first element that passes, by its index.
use Rattle.std.proofs.Common.{◌≡◌, ℕ, ◌+◌, ◌<◌, ◌≤◌, if◌then◌else◌, length-take, subst, refl, Bool, true, false, Some, None, List, ◌++◌}
use Rattle.std.proofs.Common.{length, take, min, get_or, position, sym, ap, ◌∙◌, inl, inr, arith, cond, is_some, true≢false, Result, Ok}
use Rattle.std.proofs.Common.{Err, IsOk, OnOk}
use Rattle.std.specs.List.{before_first, list_any, position_or_len}
use Rattle.std.proofs.lemmas.Bool.{cases_lt, lt-ltb}
use Rattle.std.proofs.lemmas.List.{take_all}
use Rattle.std.proofs.lemmas.List.Folds.{list_any_at}
use Rattle.std.proofs.lemmas.List.Sums.{position_or_len_is}
use Rattle.std.proofs.lemmas.List.Quantifiers.{position-Some}
use Rattle.std.proofs.Math.Seq.{take-append-add}
use Rattle.protosocket.specs.Prelude.{none_at_all, stop_fits}

pub cut_at : (p : ℕ → Bool) (xs : List ℕ) (k : ℕ) → position p xs ≡ Some k → take k xs ≡ before_first p xs
cut_at p xs k e =
    let at : (k < length xs) × (p (get_or xs k 0) ≡ true) × ((i : ℕ) → i < k → p (get_or xs i 0) ≡ false) = position-Some p xs k 0 e in
    ap (λ n. take n xs) (sym (position_or_len_is p xs k 0 (omega (arith, at.0)) at.2 (λ _. at.1)))

pub found : (p : ℕ → Bool) (xs : List ℕ) (k : ℕ) → position p xs ≡ Some k → true ≡ list_any p xs
found p xs k e =
    let at : (k < length xs) × (p (get_or xs k 0) ≡ true) × ((i : ℕ) → i < k → p (get_or xs i 0) ≡ false) = position-Some p xs k 0 e in
    sym (list_any_at p xs k 0 at.0 at.1)

-- an element that passes has a place
pub missing : (p : ℕ → Bool) (xs : List ℕ) → position p xs ≡ None → false ≡ list_any p xs
missing p xs e =
    let size : length (before_first p xs) ≡ min (position_or_len p xs) (length xs) = length-take (position_or_len p xs) xs in
    elim (list_any p xs) as (λ m. list_any p xs ≡ m → false ≡ m) [
      | true ↦ λ m.
          let fits : length (before_first p xs) + 1 ≤ length xs =
          subst (λ b. length (before_first p xs) + (if b then 1 else 0) ≤ length xs) m (stop_fits p xs) in
          let short : position_or_len p xs < length xs = omega (arith, size, fits) in
          sym (ap is_some (sym (ap (λ b. cond b (Some (position_or_len p xs)) None) (lt-ltb (position_or_len p xs) (length xs) short)) ∙ e))
      | false ↦ λ m. refl
    ] refl

pub whole : (p : ℕ → Bool) (xs : List ℕ) → position p xs ≡ None → xs ≡ before_first p xs
whole p xs e = sym (none_at_all p xs (sym (missing p xs e)))

least_of : (part : List ℕ) (room : ℕ) → take (min (length part) room) part ≡ take room part
least_of part room =
    elim (cases_lt room (length part)) [
      | inl h ↦ (let e : min (length part) room ≡ room = omega arith in ap (λ n. take n part) e)
      | inr h ↦ take_all (min (length part) room) part (omega arith) ∙ sym (take_all room part h)
    ]

-- the prefix of a name of 64 bytes, to which what there is room for is appended
pub kept : (name part all : List ℕ) (room count : ℕ) → room + length name ≡ 64 → count ≡ min (length part) room
    → all ≡ name ++ take count part → all ≡ take 64 (name ++ part)
kept name part all room count full least e =
    let size : 64 ≡ length name + room = omega (arith, full) in
    e ∙ ap (λ n. name ++ take n part) least ∙ ap (λ r. name ++ r) (least_of part room)
    ∙ sym (ap (λ n. take n (name ++ part)) size ∙ take-append-add name part room)

pub on_ok : {X E : Type 0} {P : Type 0} (r : Result X E) → IsOk r → OnOk r P → P
on_ok (Ok x) h p = p
on_ok (Err e) h p = elim (true≢false (sym h)) [ ]
