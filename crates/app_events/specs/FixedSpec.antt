-- The application that replies to the first byte with `hello` and a line feed.
use Rattle.std.specs.Prelude.{ℕ, ◌≡◌, ◌≤◌, ◌+◌, ◌-◌, List, [], ◌∷◌, ◌++◌, length, Bool, true, false, if◌then◌else◌, ◌==◌, nat_lt}
use Rattle.app_events.specs.AppSpec.{AppState, AppSpec}
use Rattle.app_events.specs.declared.fixed.Fixed.{Fixed}
use Rattle.app_events.specs.declared.want.Want.{Want}
use Rattle.app_events.specs.declared.want.Want.TheVariants.{Nothing, Send, Close}

abbrev pub hello : List ℕ
hello = 104 ∷ 101 ∷ 108 ∷ 108 ∷ 111 ∷ 10 ∷ []

-- the output once this input was delivered
abbrev pub fixed_text : List ℕ → List ℕ
fixed_text [] = []
fixed_text (x ∷ xs) = hello

abbrev pub fixed_want : ℕ → ℕ → Want
fixed_want output acked = if output == 0 then Nothing else (if nat_lt acked output then Send (output - acked) else Close)

abbrev pub fixed_spec : AppSpec
fixed_spec = record {
  output = λ p. fixed_text p.input;
  connected = λ numbers port. record {
    part = record { port = port; input = []; snapshots = []; acked = 0; polls = 0; own = 0 };
    numbers = numbers;
  };
  newdata = λ numbers p piece. record { part = record p { input = p.input ++ piece; polls = 0 }; numbers = numbers };
  prepare = λ numbers p now. p;
  want = λ numbers p. fixed_want (length (fixed_text p.input)) p.acked;
  acked = λ numbers p n. record { part = record p { acked = p.acked + n; polls = 0 }; numbers = numbers };
  polled = λ numbers p. record { part = record p { polls = p.polls + 1 }; numbers = numbers };
  ended = λ numbers p how. numbers;
}

abbrev pub some_received : List ℕ → Bool
some_received [] = false
some_received (x ∷ xs) = true

-- the states that a value of `Fixed` represents
pub record FixedRepresents (a : Fixed) (p : AppState) : Type 0 where
  pub input : a.heard ≡ some_received p.input
  pub at : a.at ≡ p.acked
  pub within : p.acked ≤ length (fixed_text p.input)
