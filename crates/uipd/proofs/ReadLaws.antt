-- What a read that returned bytes consumed.
use Rattle.uipd.proofs.Prelude.{◌≡◌, ◌≤◌, ◌<◌, ℕ, List, Option, Some, Result, Ok, Err, length, take, subst, IfOk, result_ok, IsPrefixLen}
use Rattle.uipd.proofs.Prelude.{Consumes, IsAtEnd, ReadConsumes}

value_of : (m n : ℕ) → Some n ≡ Some m → m ≡ n
value_of m n e = cc e

-- the bytes, and none only at the end
pub read_took : {E : Type 0} (a b : Option (List ℕ)) (r : Result ℕ E) (n : ℕ) (buf : List ℕ) → Some n ≡ result_ok r → ReadConsumes a b r buf
    → Consumes a b (take n buf) × (n ≡ 0 → 0 < length buf → IsAtEnd b)
read_took a b (Ok m) n buf e read =
    subst (λ k. Consumes a b (take k buf) × (k ≡ 0 → 0 < length buf → IsAtEnd b)) (value_of m n e) read
read_took a b (Err x) n buf e read = absurd (cc e)

-- no more than fit
pub read_fits : {E : Type 0} (r : Result ℕ E) (n : ℕ) (buf : List ℕ) → Some n ≡ result_ok r → IfOk r (λ m. IsPrefixLen m buf) → n ≤ length buf
read_fits (Ok m) n buf e bound = subst (λ k. k ≤ length buf) (value_of m n e) bound.0
read_fits (Err x) n buf e bound = absurd (cc e)
