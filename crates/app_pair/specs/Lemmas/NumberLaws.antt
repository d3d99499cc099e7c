-- The numbers of two applications in one list are read back, and those of one change alone.
use Rattle.std.specs.List.{All}
use Rattle.std.proofs.Common.{◌≡◌, ℕ, suc, zero, Bool, true, false, not, List, [], ◌∷◌, refl, sym, ap, arith}
use Rattle.std.proofs.lemmas.List.Elements.{All-cons, All-head, All-nil, All-tail}
use Rattle.app_events.specs.Prelude.{IsU32}
use Rattle.app_pair.specs.PairNumbers.{numbers_of_first, own_numbers, pair_numbers, numbers_of_second, with_own}

pub first_back : (xs ys : List ℕ) → numbers_of_first (pair_numbers xs ys) ≡ xs
first_back [] ys = refl
first_back (x ∷ xs) ys = ap (λ l. x ∷ l) (first_back xs ys)

pub second_back : (xs ys : List ℕ) → numbers_of_second (pair_numbers xs ys) ≡ ys
second_back [] ys = refl
second_back (x ∷ xs) ys = second_back xs ys

pub own_back : (second : Bool) (own numbers : List ℕ) → own_numbers second (with_own second own numbers) ≡ own
own_back true own numbers = second_back (numbers_of_first numbers) own
own_back false own numbers = first_back own (numbers_of_second numbers)

pub others_stay : (second : Bool) (own numbers : List ℕ)
    → own_numbers (not second) (with_own second own numbers) ≡ own_numbers (not second) numbers
others_stay true own numbers = first_back (numbers_of_first numbers) own
others_stay false own numbers = second_back own (numbers_of_second numbers)

pub first_kept : (own xs ys : List ℕ) → pair_numbers own ys ≡ with_own false own (pair_numbers xs ys)
first_kept own xs ys = ap (λ l. pair_numbers own l) (sym (second_back xs ys))

pub second_kept : (own xs ys : List ℕ) → pair_numbers xs own ≡ with_own true own (pair_numbers xs ys)
second_kept own xs ys = ap (λ l. pair_numbers l own) (sym (first_back xs ys))

-- ---- of 32 bits

pub pair_u32 : (xs ys : List ℕ) → All IsU32 xs → All IsU32 ys → All IsU32 (pair_numbers xs ys)
pair_u32 [] ys h k = All-cons IsU32 0 ys (omega arith) k
pair_u32 (x ∷ xs) ys h k =
    All-cons IsU32 1 (x ∷ pair_numbers xs ys) (omega arith)
    (All-cons IsU32 x (pair_numbers xs ys) (All-head IsU32 x xs h) (pair_u32 xs ys (All-tail IsU32 x xs h) k))

first_u32 : (numbers : List ℕ) → All IsU32 numbers → All IsU32 (numbers_of_first numbers)
first_u32 (suc mark ∷ x ∷ numbers) h =
    let rest = All-tail IsU32 (suc mark) (x ∷ numbers) h in
    All-cons IsU32 x (numbers_of_first numbers) (All-head IsU32 x numbers rest) (first_u32 numbers (All-tail IsU32 x numbers rest))
first_u32 (suc mark ∷ []) h = All-nil IsU32
first_u32 (zero ∷ numbers) h = All-nil IsU32
first_u32 [] h = All-nil IsU32

second_u32 : (numbers : List ℕ) → All IsU32 numbers → All IsU32 (numbers_of_second numbers)
second_u32 (zero ∷ numbers) h = All-tail IsU32 zero numbers h
second_u32 (suc mark ∷ x ∷ numbers) h =
    second_u32 numbers (All-tail IsU32 x numbers (All-tail IsU32 (suc mark) (x ∷ numbers) h))
second_u32 (suc mark ∷ []) h = All-nil IsU32
second_u32 [] h = All-nil IsU32

pub own_u32 : (second : Bool) (numbers : List ℕ) → All IsU32 numbers → All IsU32 (own_numbers second numbers)
own_u32 true numbers h = second_u32 numbers h
own_u32 false numbers h = first_u32 numbers h

pub with_own_u32 : (second : Bool) (own numbers : List ℕ) → All IsU32 own → All IsU32 numbers → All IsU32 (with_own second own numbers)
with_own_u32 true own numbers h k = pair_u32 (numbers_of_first numbers) own (first_u32 numbers k) h
with_own_u32 false own numbers h k = pair_u32 own (numbers_of_second numbers) h (second_u32 numbers k)
