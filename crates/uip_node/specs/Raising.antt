-- Counters raised by one, each modulo 2^32.
-- [add: counter] `counter_places`: the numbers of all counters.
use Rattle.std.specs.Prelude.{ℕ, ◌+◌, ◌==◌, ◌||◌, Bool, List, [], ◌∷◌, map, if◌then◌else◌}
use Rattle.uip_wire.specs.Prelude.{wrap}

-- The marked counters rise by one.
abbrev pub raise : List Bool → List ℕ → List ℕ
raise [] ns = ns
raise (b ∷ bs) [] = []
raise (b ∷ bs) (n ∷ ns) = (if b then wrap (n + 1) else n) ∷ raise bs ns

-- the indices of the counters
abbrev pub counter_places : List ℕ
counter_places = 0 ∷ 1 ∷ 2 ∷ 3 ∷ 4 ∷ 5 ∷ 6 ∷ 7 ∷ 8 ∷ 9 ∷ 10 ∷ 11 ∷ 12 ∷ 13 ∷ 14 ∷ 15 ∷ 16 ∷ 17 ∷ 18 ∷ 19 ∷ []

-- marks at three indices; an index beyond the end marks none
abbrev pub marks : ℕ → ℕ → ℕ → List Bool
marks a b c = map (λ k. (k == a) || (k == b) || (k == c)) counter_places
