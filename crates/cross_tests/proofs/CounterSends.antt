-- What a value of `Counter` can send, and what it receives.
use Rattle.std.specs.Prelude.{ℕ, ◌≡◌, ◌≤◌, ◌+◌, List, [], ◌∷◌, length, take, drop}
use Rattle.std.proofs.Common.{refl, arith, sym, length-drop, subst}
use Rattle.std.proofs.Math.Logic.{∥∥₁_elim}
use Rattle.std.specs.Coded.{le_prop}
use Rattle.app_events.specs.Prelude.{AppState, AppSpec, text_left, CanSupply}
use Rattle.app_events.proofs.Says.{can_supply_each}
use Rattle.cross_tests.specs.declared.counting.Counter.{Counter}
use Rattle.cross_tests.specs.Prelude.{CounterRepresents, counter_spec, counter_text, counter_same_left}

abbrev pub means : Unit {0} → AppSpec
means k = counter_spec

abbrev pub Represents : Counter → Unit {0} → AppState → Type 0
Represents a k p = CounterRepresents a p

text_short : (n : ℕ) (xs : List ℕ) → length (counter_text n xs) ≤ 2
text_short n [] = omega arith
text_short n (x ∷ xs) = omega arith

pub room : (a : Counter) (n : ℕ) → CanSupply means Represents a tt n → a.at + n ≤ 2
room a n can =
    ∥∥₁_elim can le_prop (λ c. omega (arith, text_short c.0.own c.0.input, c.1.at, c.1.within, c.2, length-drop c.0.acked (counter_text c.0.own c.0.input)))

output : (own : ℕ) (xs : List ℕ) (at n : ℕ) → at ≤ length (counter_text own xs) → n ≤ length (drop at (counter_text own xs))
    → take n (drop at (own ∷ 10 ∷ [])) ≡ take n (drop at (counter_text own xs))
output own (x ∷ xs) at n h k = refl
output own [] at n h k =
    let z : n ≡ 0 = omega (arith, length-drop at (counter_text own []), h, k) in
    subst (λ (m : ℕ). take m (drop at (own ∷ 10 ∷ [])) ≡ take m (drop at (counter_text own []))) (sym z) refl

can : (a : Counter) (n : ℕ) → CanSupply means Represents a tt n → (p : AppState) → CounterRepresents a p → n ≤ length (text_left counter_spec p)
can a n says p s = can_supply_each means Represents (λ x y q r. counter_same_left x q r) a tt n says p s

-- what is written is the text of any part
pub written : (a : Counter) (n : ℕ) → CanSupply means Represents a tt n → (p : AppState) → CounterRepresents a p
    → take n (drop a.at (a.number ∷ 10 ∷ [])) ≡ take n (text_left counter_spec p)
written a n says p s = rw (s.at, s.number) (output p.own p.input p.acked n s.within (can a n says p s))

-- how far the offset may move
pub moves : (a : Counter) (n : ℕ) → CanSupply means Represents a tt n → (p : AppState) → CounterRepresents a p
    → p.acked + n ≤ length (counter_text p.own p.input)
moves a n says p s =
    let k : n ≤ length (text_left counter_spec p) = can a n says p s in
    omega (arith, k, s.within, length-drop p.acked (counter_text p.own p.input))
