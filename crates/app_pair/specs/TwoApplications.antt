-- Each application of a pair acts as it would alone, and neither changes a number of the other.
use Rattle.std.specs.Prelude.{◌≡◌, ℕ, Bool, true, false, not, List}
use Rattle.app_events.specs.Prelude.{After, AppSpec, AppState}
use Rattle.app_events.specs.declared.ending.Ending.{Ending}
use Rattle.app_events.specs.declared.now.Now.{Now}
use Rattle.app_pair.specs.PairNumbers.{own_numbers}
use Rattle.app_pair.specs.PairSpec.{CanBePaired, own_part, pair_spec}

-- One of the two sees in these numbers those of its own call. The numbers of the other are as before.
pub record NumbersAfter (second : Bool) (before after own : List ℕ) : Type 0 where
  pub its_own : own_numbers second after ≡ own
  pub others : own_numbers (not second) after ≡ own_numbers (not second) before

-- One of the two sees the outcome of its own call in that of the pair.
pub record SeesAfter (second : Bool) (before : List ℕ) (after own : After) : Type 0 where
  pub part : own_part second after.part ≡ own.part
  pub numbers : NumbersAfter second before after.numbers own.numbers

-- In this state each call of the pair is that of m, as m sees the state and its numbers.
pub record ActsAs (second : Bool) (pair m : AppSpec) (p : AppState) : Type 0 where
  pub output : pair.output p ≡ m.output (own_part second p)
  pub connected : (numbers : List ℕ)
      → SeesAfter second numbers (pair.connected numbers p.port) (m.connected (own_numbers second numbers) p.port)
  pub newdata : (numbers piece : List ℕ)
      → SeesAfter second numbers (pair.newdata numbers p piece) (m.newdata (own_numbers second numbers) (own_part second p) piece)
  pub prepare : (numbers : List ℕ) (now : Now)
      → own_part second (pair.prepare numbers p now) ≡ m.prepare (own_numbers second numbers) (own_part second p) now
  pub want : (numbers : List ℕ) → pair.want numbers p ≡ m.want (own_numbers second numbers) (own_part second p)
  pub acked : (numbers : List ℕ) (count : ℕ)
      → SeesAfter second numbers (pair.acked numbers p count) (m.acked (own_numbers second numbers) (own_part second p) count)
  pub polled : (numbers : List ℕ)
      → SeesAfter second numbers (pair.polled numbers p) (m.polled (own_numbers second numbers) (own_part second p))
  pub ended : (numbers : List ℕ) (how : Ending)
      → NumbersAfter second numbers (pair.ended numbers p how) (m.ended (own_numbers second numbers) (own_part second p) how)

pub record PairIsTwoApplications : Type 0 where
  pub first : (second : ℕ → Bool) (m n : AppSpec) → CanBePaired m → CanBePaired n → (p : AppState) → second p.port ≡ false
      → ActsAs false (pair_spec second m n) m p
  pub second : (second : ℕ → Bool) (m n : AppSpec) → CanBePaired m → CanBePaired n → (p : AppState) → second p.port ≡ true
      → ActsAs true (pair_spec second m n) n p
  -- a pair can be one of a pair, for three applications or more
  pub again : (second : ℕ → Bool) (m n : AppSpec) → CanBePaired m → CanBePaired n → CanBePaired (pair_spec second m n)
