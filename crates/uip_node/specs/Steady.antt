-- The hypothesis of the laws about an application without a known page.
use Rattle.std.specs.Prelude.{◌≡◌, ◌⊎◌, ◌∷◌, ◌++◌, [], All, List, ℕ}
use Rattle.app_events.specs.Prelude.{AppState, AppSpec, IsLawful, IsU32}
use Rattle.app_events.specs.declared.ending.Ending.{Ending}
use Rattle.app_events.specs.declared.now.Now.{Now}

-- The application never retracts output. Its calls change snapshots and shared numbers only in these ways.
pub record IsSteady (m : AppSpec) : Type 0 where
  pub lawful : IsLawful m (λ p. Unit {0})
  pub connected_acked : (numbers : List ℕ) (port : ℕ) → (m.connected numbers port).part.acked ≡ 0
  -- Only `prepare` captures a snapshot. It is called before the application is asked for its next request.
  pub connected_snapshots : (numbers : List ℕ) (port : ℕ) → (m.connected numbers port).part.snapshots ≡ []
  pub newdata_snapshots : (numbers : List ℕ) (p : AppState) (piece : List ℕ) → (m.newdata numbers p piece).part.snapshots ≡ p.snapshots
  pub prepare_snapshots : (numbers : List ℕ) (p : AppState) (now : Now)
      → ((m.prepare numbers p now).snapshots ≡ p.snapshots)
      ⊎ ((m.prepare numbers p now).snapshots ≡ p.snapshots ++ record { numbers = numbers; now = now } ∷ [])
  pub acked_snapshots : (numbers : List ℕ) (p : AppState) (n : ℕ) → (m.acked numbers p n).part.snapshots ≡ p.snapshots
  pub polled_snapshots : (numbers : List ℕ) (p : AppState) → (m.polled numbers p).part.snapshots ≡ p.snapshots
  -- The shared numbers stay below 2^32.
  pub connected_numbers : (numbers : List ℕ) (port : ℕ) → All IsU32 numbers → All IsU32 (m.connected numbers port).numbers
  pub newdata_numbers : (numbers : List ℕ) (p : AppState) (piece : List ℕ) → All IsU32 numbers
      → All IsU32 (m.newdata numbers p piece).numbers
  pub acked_numbers : (numbers : List ℕ) (p : AppState) (n : ℕ) → All IsU32 numbers → All IsU32 (m.acked numbers p n).numbers
  pub polled_numbers : (numbers : List ℕ) (p : AppState) → All IsU32 numbers → All IsU32 (m.polled numbers p).numbers
  pub ended_numbers : (numbers : List ℕ) (p : AppState) (how : Ending) → All IsU32 numbers → All IsU32 (m.ended numbers p how)
