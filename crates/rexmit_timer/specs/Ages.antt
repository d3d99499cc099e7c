-- The timer by ages: the age of what is outstanding is the number of ticks since it was first sent. RFC 793, section 3.7 leaves the times
-- to the implementation; these are uIP's, from a first value of three ticks.
use Rattle.std.specs.Prelude.{◌≡◌, ℕ, ◌+◌, ◌-◌, List, [], ◌∷◌, ◌==◌, nat_le, if◌then◌else◌, take, count_by, slice_index}
use Rattle.std.specs.List.{list_any}
use Rattle.rexmit_timer.specs.declared.timer.Beat.{Beat}
use Rattle.rexmit_timer.specs.declared.timer.Beat.TheVariants.{Wait, Again, GiveUp}
use Rattle.rexmit_timer.specs.declared.timer.Timer.{Timer}

-- The ages at which what is outstanding is retransmitted, while retransmissions are left. At the last it never is.
abbrev pub ages : List ℕ
ages = 4 ∷ 8 ∷ 15 ∷ 28 ∷ 53 ∷ 102 ∷ 151 ∷ 200 ∷ 249 ∷ []

-- The age at which the connection is reset, after at most `limit` retransmissions.
abbrev pub give_up_age : ℕ → ℕ
give_up_age limit = slice_index ages limit

-- The result of the tick at which what is outstanding reaches this age.
abbrev pub beat_at : ℕ → ℕ → Beat
beat_at limit age =
    if age == give_up_age limit then GiveUp
    else if list_any (λ a. a == age) (take limit ages) then Again
    else Wait

-- The number of these ages that were reached.
abbrev pub tries_at : ℕ → ℕ
tries_at age = count_by (λ a. nat_le a age) ages

-- The number of ticks before the next of these ages, less one.
abbrev pub count_at : ℕ → ℕ
count_at age = slice_index ages (tries_at age) - age - 1

-- The timer while what is outstanding has this age.
pub record IsAtAge (timer : Timer) (age : ℕ) : Type 0 where
  pub count : timer.count ≡ count_at age
  pub tries : timer.tries ≡ tries_at age

-- The timer continues at the next age, unless the connection is reset.
abbrev pub GoesOn : Beat → Timer → ℕ → Type 0
GoesOn Wait new age = IsAtAge new age
GoesOn Again new age = IsAtAge new age
GoesOn GiveUp new age = Unit {0}

-- A tick while what is outstanding has this age: its result, and the timer after it.
pub record IsBeatOfAge (limit age : ℕ) (asked : Beat) (new : Timer) : Type 0 where
  pub beat : asked ≡ beat_at limit (age + 1)
  pub goes_on : GoesOn asked new (age + 1)
