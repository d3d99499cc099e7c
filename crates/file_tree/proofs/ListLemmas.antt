-- The names of a list in turn.
use Rattle.file_tree.proofs.Prelude.{◌≡◌, ℕ, Bool, true, false, not, List, [], ◌∷◌, Some, None, refl, not_from_true, Name, Twice, is_name}
use Rattle.file_tree.proofs.Prelude.{File, has_name, first_of, listed_fault}

second-row : (a b : Bool) → a ≡ false → b ≡ true → first_of ((a, Name) ∷ (b, Twice) ∷ []) ≡ Some Twice
second-row true b p q = absurd cc
second-row false true p q = refl
second-row false false p q = absurd cc

no-rows : (a b : Bool) → a ≡ false → b ≡ false → first_of ((a, Name) ∷ (b, Twice) ∷ []) ≡ None
no-rows true b p q = absurd cc
no-rows false true p q = absurd cc
no-rows false false p q = refl

pub name-twice : (earlier : List File) (name : List ℕ) → is_name name ≡ true → has_name earlier name ≡ true → listed_fault earlier name ≡ Some Twice
name-twice earlier name is there = second-row (not (is_name name)) (has_name earlier name) (not_from_true (is_name name) is) there

pub name-sound : (earlier : List File) (name : List ℕ) → is_name name ≡ true → has_name earlier name ≡ false → listed_fault earlier name ≡ None
name-sound earlier name is fresh = no-rows (not (is_name name)) (has_name earlier name) (not_from_true (is_name name) is) fresh
