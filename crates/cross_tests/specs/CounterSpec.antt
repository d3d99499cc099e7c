-- An application that counts connections by their first bytes: each sends its own number, as one byte and a line feed.
use Rattle.std.specs.Prelude.{ℕ, ◌≡◌, ◌≤◌, ◌+◌, ◌%◌, List, [], ◌∷◌, ◌++◌, length}
use Rattle.app_events.specs.Prelude.{AppState, AppSpec, fixed_want, some_received}
use Rattle.cross_tests.specs.declared.counting.Counter.{Counter}

-- the output of the connection of this number that received this input
abbrev pub counter_text : ℕ → List ℕ → List ℕ
counter_text number [] = []
counter_text number (x ∷ xs) = number ∷ 10 ∷ []

-- the one number that is the count
abbrev pub counted : List ℕ → ℕ
counted [] = 0
counted (n ∷ ns) = n

-- the number of a connection, and the count, after a piece: the first byte received takes a number
abbrev pub number_after : List ℕ → List ℕ → List ℕ → ℕ → ℕ
number_after numbers [] [] number = number
number_after numbers [] (x ∷ piece) number = counted numbers
number_after numbers (y ∷ delivered) piece number = number

abbrev pub count_after : List ℕ → List ℕ → List ℕ → List ℕ
count_after numbers [] [] = numbers
count_after numbers [] (x ∷ piece) = ((counted numbers + 1) % 256) ∷ []
count_after numbers (y ∷ delivered) piece = numbers

abbrev pub counter_spec : AppSpec
counter_spec = record {
  output = λ p. counter_text p.own p.input;
  connected = λ numbers port. record {
    part = record { port = port; input = []; snapshots = []; acked = 0; polls = 0; own = 0 };
    numbers = numbers;
  };
  newdata = λ numbers p piece. record {
    part = record p { input = p.input ++ piece; polls = 0; own = number_after numbers p.input piece p.own };
    numbers = count_after numbers p.input piece;
  };
  prepare = λ numbers p now. p;
  want = λ numbers p. fixed_want (length (counter_text p.own p.input)) p.acked;
  acked = λ numbers p n. record { part = record p { acked = p.acked + n; polls = 0 }; numbers = numbers };
  polled = λ numbers p. record { part = record p { polls = p.polls + 1 }; numbers = numbers };
  ended = λ numbers p how. numbers;
}

-- the states that a value represents
pub record CounterRepresents (a : Counter) (p : AppState) : Type 0 where
  pub input : a.heard ≡ some_received p.input
  pub number : a.number ≡ p.own
  pub at : a.at ≡ p.acked
  pub within : p.acked ≤ length (counter_text p.own p.input)
