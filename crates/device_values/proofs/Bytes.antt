-- A byte is its own remainder by 256.
use Rattle.device_values.proofs.Prelude.{All, ◌≡◌, ℕ, ◌%◌, List, [], ◌∷◌, map, refl, arith, All-head, All-tail, IsByte}

pub low_same : (xs : List ℕ) → All IsByte xs → map (λ b. b % 256) xs ≡ xs
low_same [] all = refl
low_same (x ∷ xs) all =
    let here : x % 256 ≡ x = (let is = All-head IsByte x xs all in omega (arith, is)) in
    λ i. here i ∷ low_same xs (All-tail IsByte x xs all) i
