-- The numbers of two applications in one list. A 1 precedes each number of the first, a 0 follows the last of these, and the numbers of the
-- second are the rest. So no length limits them.
use Rattle.std.specs.Prelude.{ℕ, suc, zero, Bool, true, false, List, [], ◌∷◌}

abbrev pub pair_numbers : List ℕ → List ℕ → List ℕ
pair_numbers [] ys = 0 ∷ ys
pair_numbers (x ∷ xs) ys = 1 ∷ x ∷ pair_numbers xs ys

abbrev pub numbers_of_first : List ℕ → List ℕ
numbers_of_first (suc mark ∷ x ∷ numbers) = x ∷ numbers_of_first numbers
numbers_of_first _ = []

abbrev pub numbers_of_second : List ℕ → List ℕ
numbers_of_second (zero ∷ numbers) = numbers
numbers_of_second (suc mark ∷ x ∷ numbers) = numbers_of_second numbers
numbers_of_second _ = []

-- the numbers of one of the two: the second, if `second` is true
abbrev pub own_numbers : Bool → List ℕ → List ℕ
own_numbers true numbers = numbers_of_second numbers
own_numbers false numbers = numbers_of_first numbers

-- the same numbers, but these are its own
abbrev pub with_own : Bool → List ℕ → List ℕ → List ℕ
with_own true own numbers = pair_numbers (numbers_of_first numbers) own
with_own false own numbers = pair_numbers own (numbers_of_second numbers)

-- a change of the numbers of one of the two
abbrev pub change_own : Bool → (List ℕ → List ℕ) → List ℕ → List ℕ
change_own second change numbers = with_own second (change (own_numbers second numbers)) numbers
