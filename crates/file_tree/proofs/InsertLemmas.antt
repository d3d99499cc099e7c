-- An item that is appended to a list and moved towards its start, place by place.
use Rattle.file_tree.proofs.Prelude.{◌≡◌, ℕ, zero, suc, ◌-◌, ◌<◌, ◌≤◌, List, [], ◌∷◌, length, get_or, set, insert, refl, ap, sym, ◌∙◌}
use Rattle.file_tree.proofs.Prelude.{arith, length-insert}
use Rattle.std.proofs.lemmas.List.Edits.{swap_is}
use Rattle.std.specs.List.{swap}

sets-down : {X : Type 0} (xs : List X) (k : ℕ) (y d : X) → k < length xs
    → set (set (insert xs (suc k) y) k (get_or (insert xs (suc k) y) (suc k) d)) (suc k) (get_or (insert xs (suc k) y) k d) ≡ insert xs k y
sets-down [] k y d lt = absurd (omega arith)
sets-down (x ∷ xs) zero y d lt = refl
sets-down (x ∷ xs) (suc k) y d lt = ap (λ ys. x ∷ ys) (sets-down xs k y d (omega arith))

-- one place towards the start
pub swap-down : {X : Type 0} (xs : List X) (k : ℕ) (y : X) → k < length xs → swap (insert xs (suc k) y) k (suc k) ≡ insert xs k y
swap-down xs k y lt =
    let long = length-insert xs (suc k) y (omega arith) in
    sym (swap_is (insert xs (suc k) y) k (suc k) y (omega (arith, long)) (omega (arith, long))) ∙ sets-down xs k y y lt

-- the same for a list that is known by its items
pub moved-down : {X : Type 0} (xs ys : List X) (at : ℕ) (y : X) → 0 < at → at ≤ length xs → ys ≡ insert xs at y → swap ys (at - 1) at ≡ insert xs (at - 1) y
moved-down xs ys at y low high same =
    let next : at ≡ suc (at - 1) = omega arith in
    ap (λ zs. swap zs (at - 1) at) same ∙ ap (λ n. swap (insert xs n y) (at - 1) n) next ∙ swap-down xs (at - 1) y (omega arith)
