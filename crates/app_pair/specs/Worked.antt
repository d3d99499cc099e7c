-- Numbers and calls of pairs, worked by hand.
use Rattle.std.specs.Prelude.{◌≡◌, ◌+◌, ◌==◌, ◌++◌, ◌∷◌, [], flat_map, map, true, ℕ}
use Rattle.app_events.specs.Prelude.{AppSpec, AppState}
use Rattle.app_events.specs.declared.now.Now.{Now}
use Rattle.app_events.specs.declared.want.Want.TheVariants.{Nothing}
use Rattle.app_pair.specs.PairNumbers.{numbers_of_first, pair_numbers, numbers_of_second, with_own}
use Rattle.app_pair.specs.PairSpec.{pair_spec}

-- An application whose numbers count its connections. It sends the numbers of its captures.
abbrev pub counting : AppSpec
counting = record {
  output = λ p. flat_map (λ k. k.numbers) p.snapshots;
  connected = λ numbers port. record {
    part = record { port = port; input = []; snapshots = []; acked = 0; polls = 0; own = 0 };
    numbers = map (λ n. n + 1) numbers;
  };
  newdata = λ numbers p piece. record { part = record p { input = p.input ++ piece }; numbers = numbers };
  prepare = λ numbers p now. record p { snapshots = p.snapshots ++ record { numbers = numbers; now = now } ∷ [] };
  want = λ numbers p. Nothing;
  acked = λ numbers p count. record { part = record p { acked = p.acked + count }; numbers = numbers };
  polled = λ numbers p. record { part = p; numbers = numbers };
  ended = λ numbers p how. map (λ n. n + 10) numbers;
}

-- two of them, the second at port 7
abbrev pub two_counting : AppSpec
two_counting = pair_spec (λ port. port == 7) counting counting

abbrev pub at_port : ℕ → AppState
at_port port = record { port = port; input = []; snapshots = []; acked = 0; polls = 0; own = 0 }

pub record AreWorkedPairs : Type 0 where
  pub numbers : pair_numbers (5 ∷ 6 ∷ []) (9 ∷ 0 ∷ []) ≡ 1 ∷ 5 ∷ 1 ∷ 6 ∷ 0 ∷ 9 ∷ 0 ∷ []
  pub none : pair_numbers [] [] ≡ 0 ∷ []
  pub first : numbers_of_first (1 ∷ 5 ∷ 1 ∷ 6 ∷ 0 ∷ 9 ∷ 0 ∷ []) ≡ 5 ∷ 6 ∷ []
  pub second : numbers_of_second (1 ∷ 5 ∷ 1 ∷ 6 ∷ 0 ∷ 9 ∷ 0 ∷ []) ≡ 9 ∷ 0 ∷ []
  pub changed : with_own true (8 ∷ []) (1 ∷ 5 ∷ 0 ∷ 9 ∷ []) ≡ 1 ∷ 5 ∷ 0 ∷ 8 ∷ []
  -- connections at port 80 and at port 7
  pub at_first : (two_counting.connected (pair_numbers (5 ∷ []) (9 ∷ [])) 80).numbers ≡ pair_numbers (6 ∷ []) (9 ∷ [])
  pub at_second : (two_counting.connected (pair_numbers (5 ∷ []) (9 ∷ [])) 7).numbers ≡ pair_numbers (5 ∷ []) (10 ∷ [])
  -- each sends its own numbers of a capture
  pub first_sends : (now : Now)
      → two_counting.output (two_counting.prepare (pair_numbers (5 ∷ []) (9 ∷ [])) (at_port 80) now) ≡ 5 ∷ []
  pub second_sends : (now : Now)
      → two_counting.output (two_counting.prepare (pair_numbers (5 ∷ []) (9 ∷ [])) (at_port 7) now) ≡ 9 ∷ []
