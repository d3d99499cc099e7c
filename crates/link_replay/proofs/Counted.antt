-- Sums over what a function makes of a list, and tallies.
use Rattle.link_replay.proofs.Prelude.{◌≡◌, ℕ, ◌+◌, Bool, List, [], ◌∷◌, cond, map, refl, count_by, fold, sum_by, Tally}

summed_on : {X Y : Type 0} (n : Y → ℕ) (f : X → Y) (total : ℕ) (xs : List X) → fold (λ t x. t + n (f x)) total xs ≡ fold (λ t y. t + n y) total (map f xs)
summed_on n f total [] = refl
summed_on n f total (x ∷ xs) = summed_on n f (total + n (f x)) xs

pub sum_image : {X Y : Type 0} (n : Y → ℕ) (f : X → Y) (xs : List X) → sum_by (λ x. n (f x)) xs ≡ sum_by n (map f xs)
sum_image n f xs = summed_on n f 0 xs

pub count_image : {X Y : Type 0} (p : Y → Bool) (f : X → Y) (xs : List X) → count_by (λ x. p (f x)) xs ≡ count_by p (map f xs)
count_image p f xs = sum_image (λ y. cond (p y) 1 0) f xs

pub same_tally : (a b c d e f g h a' b' c' d' e' f' g' h' : ℕ) → a ≡ a' → b ≡ b' → c ≡ c' → d ≡ d' → e ≡ e' → f ≡ f' → g ≡ g' → h ≡ h'
    → ◌≡◌ {A = Tally} (record { closed = a; opened = b; reset = c; other = d; stale = e; bytes = f; datagrams = g; again = h })
    (record { closed = a'; opened = b'; reset = c'; other = d'; stale = e'; bytes = f'; datagrams = g'; again = h' })
same_tally a b c d e f g h a' b' c' d' e' f' g' h' p q r s t u v w = cc
