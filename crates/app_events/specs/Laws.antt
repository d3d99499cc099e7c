-- What every application must satisfy: it never retracts output.
use Rattle.std.specs.Prelude.{ℕ, ◌≡◌, ◌≤◌, ◌+◌, List, [], ◌++◌, length}
use Rattle.app_events.specs.AppSpec.{AppState, AppSpec, text_left}
use Rattle.app_events.specs.declared.now.Now.{Now}
use Rattle.app_events.specs.declared.want.Want.{Want}
use Rattle.app_events.specs.declared.want.Want.TheVariants.{Nothing, Send, Close, Abort}

-- xs is a prefix of ys
pub record IsPrefixOf (xs ys : List ℕ) : Type 0 where
  pub rest : List ℕ
  pub joined : xs ++ rest ≡ ys

-- The output of q extends that of p, at the same acknowledged offset.
pub record Grows (m : AppSpec) (p q : AppState) : Type 0 where
  pub text : IsPrefixOf (m.output p) (m.output q)
  pub offset : q.acked ≡ p.acked

-- A request of the application that is possible with this much unacknowledged output: it sends at least one byte, and no more than it has.
abbrev pub CanSend : Want → ℕ → Type 0
CanSend (Send n) most = (1 ≤ n) × (n ≤ most)
CanSend Nothing most = Unit {0}
CanSend Close most = Unit {0}
CanSend Abort most = Unit {0}

-- For each state with this property: `newdata` and `prepare` only extend the output. `acked` only advances the acknowledged offset.
-- `polled` changes neither. The application requests to send no more than it has.
pub record IsLawful (m : AppSpec) (represented : AppState → Type 0) : Type 0 where
  pub newdata_grows : (numbers : List ℕ) (p : AppState) (piece : List ℕ) → represented p → Grows m p (m.newdata numbers p piece).part
  pub prepare_grows : (numbers : List ℕ) (p : AppState) (now : Now) → represented p → Grows m p (m.prepare numbers p now)
  pub acked_moves : (numbers : List ℕ) (p : AppState) (n : ℕ) → represented p → n ≤ length (text_left m p)
      → (m.output (m.acked numbers p n).part ≡ m.output p) × ((m.acked numbers p n).part.acked ≡ p.acked + n)
  pub polled_keeps : (numbers : List ℕ) (p : AppState) → represented p
      → (m.output (m.polled numbers p).part ≡ m.output p) × ((m.polled numbers p).part.acked ≡ p.acked)
  pub sends : (numbers : List ℕ) (p : AppState) → represented p → CanSend (m.want numbers p) (length (text_left m p))

-- After connection there is no output, and the offset is 0.
abbrev pub StartsAnew : AppSpec → Type 0
StartsAnew m = (numbers : List ℕ) (port : ℕ)
    → (m.output (m.connected numbers port).part ≡ []) × ((m.connected numbers port).part.acked ≡ 0)
