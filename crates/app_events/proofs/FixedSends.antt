-- The text that a value of `Fixed` can send.
use Rattle.app_events.proofs.Prelude.{ℕ, ◌≡◌, ◌≤◌, ◌+◌, List, [], ◌∷◌, length, take, drop, refl, arith, sym, length-drop, subst, ∥∥₁_elim}
use Rattle.app_events.proofs.Prelude.{le_prop, AppState, AppSpec, text_left, CanSupply, fixed_spec, fixed_text, hello, FixedRepresents}
use Rattle.app_events.proofs.Prelude.{fixed_same_left, Fixed}
use Rattle.app_events.proofs.Says.{can_supply_each}

abbrev pub means : Unit {0} → AppSpec
means k = fixed_spec

abbrev pub Represents : Fixed → Unit {0} → AppState → Type 0
Represents a k p = FixedRepresents a p

text_short : (xs : List ℕ) → length (fixed_text xs) ≤ 6
text_short [] = omega arith
text_short (x ∷ xs) = omega arith

pub room : (a : Fixed) (n : ℕ) → CanSupply means Represents a tt n → a.at + n ≤ 6
room a n can =
    ∥∥₁_elim can le_prop (λ c. omega (arith, text_short c.0.input, c.1.at, c.1.within, c.2, length-drop c.0.acked (fixed_text c.0.input)))

output : (xs : List ℕ) (at n : ℕ) → at ≤ length (fixed_text xs) → n ≤ length (drop at (fixed_text xs)) → take n (drop at hello)
    ≡ take n (drop at (fixed_text xs))
output (x ∷ xs) at n h k = refl
output [] at n h k =
    let z : n ≡ 0 = omega (arith, length-drop at (fixed_text []), h, k) in
    subst (λ (m : ℕ). take m (drop at hello) ≡ take m (drop at (fixed_text []))) (sym z) refl

-- what is written is the text of any part
pub written : (a : Fixed) (n : ℕ) → CanSupply means Represents a tt n → (p : AppState) → FixedRepresents a p → take n (drop a.at hello)
    ≡ take n (text_left fixed_spec p)
written a n can p s =
    let k : n ≤ length (text_left fixed_spec p) = can_supply_each means Represents (λ x y q r. fixed_same_left x q r) a tt n can p s in
    rw s.at (output p.input p.acked n s.within k)

-- how far the offset may move
pub moves : (a : Fixed) (n : ℕ) → CanSupply means Represents a tt n → (p : AppState) → FixedRepresents a p → p.acked + n ≤ length (fixed_text p.input)
moves a n can p s =
    let k : n ≤ length (text_left fixed_spec p) = can_supply_each means Represents (λ x y q r. fixed_same_left x q r) a tt n can p s in
    omega (arith, k, s.within, length-drop p.acked (fixed_text p.input))
