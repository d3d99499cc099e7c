-- The states that a pair represents.
use Rattle.std.specs.Prelude.{◌≡◌, ℕ, Bool, true, false}
use Rattle.app_events.specs.Prelude.{AppState}
use Rattle.app_pair.specs.PairSpec.{own_part}
use Rattle.app_pair.specs.declared.pair.AppPair.{AppPair}
use Rattle.app_pair.specs.declared.pair.AppPair.TheVariants as pair

-- The value of one application represents what that application sees of the state, which is of a connection at a port of it.
pub record RepresentsOwn {A K : Type 0} (second : ℕ → Bool) (is_second : Bool) (represents : A → K → AppState → Type 0)
    (a : A) (k : K) (p : AppState) : Type 0 where
  pub port : second p.port ≡ is_second
  pub own : represents a k (own_part is_second p)

-- It is a value of the application at the port of the connection.
abbrev pub PairRepresents : {A B K L : Type 0} (second : ℕ → Bool) (firsts : A → K → AppState → Type 0)
    (seconds : B → L → AppState → Type 0) → AppPair A B → K × L → AppState → Type 0
PairRepresents second firsts seconds (pair.First a) k p = RepresentsOwn second false firsts a k.0 p
PairRepresents second firsts seconds (pair.Second b) k p = RepresentsOwn second true seconds b k.1 p
