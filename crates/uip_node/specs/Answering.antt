-- An application that replies to a request with a bounded number of segments.
use Rattle.std.specs.Prelude.{◌≡◌, ◌<◌, ◌≤◌, ◌++◌, All, Bool, length, List, min, suc, true, ℕ}
use Rattle.app_events.specs.Prelude.{AppState, AppSpec, IsU32, IsNow}
use Rattle.app_events.specs.declared.now.Now.{Now}
use Rattle.app_events.specs.declared.want.Want.{Want}
use Rattle.app_events.specs.declared.want.Want.TheVariants.{Nothing, Send, Close, Abort}

-- What the application may request if at most `most` segments are left. It sends, and after the acknowledgement fewer are left. It closes.
-- Or it requests nothing while it has not received the whole request.
abbrev pub GoesOnBy : AppSpec → List ℕ → ℕ → (AppState → Bool) → (AppState → ℕ) → AppState → ℕ → Want → Type 0
GoesOnBy m request mss fine left q most (Send n) = (numbers : List ℕ) → (fine (m.acked numbers q (min n mss)).part ≡ true)
    × (left (m.acked numbers q (min n mss)).part < most)
GoesOnBy m request mss fine left q most Close = Unit {0}
GoesOnBy m request mss fine left q most Nothing = (fine q ≡ true) × (left q ≤ most) × (q.input ≡ request → ⊥)
GoesOnBy m request mss fine left q most Abort = ⊥

-- The application replies to a request with at most `texts` segments of at most mss bytes, however the request is split. `fine` marks its
-- states, and `left` bounds the number of segments still to send. It is asked with a snapshot that a node can have, in which its own
-- connection is live.
pub record AnswersIn (m : AppSpec) (request : List ℕ) (mss : ℕ) (fine : AppState → Bool) (left : AppState → ℕ) (texts : ℕ) : Type 0 where
  pub starts : (numbers : List ℕ) (port : ℕ) → (fine (m.connected numbers port).part ≡ true)
      × (left (m.connected numbers port).part ≤ texts)
  pub delivers_text : (numbers : List ℕ) (p : AppState) (piece rest : List ℕ) → fine p ≡ true → (p.input ++ piece) ++ rest ≡ request →
      (fine (m.newdata numbers p piece).part ≡ true) × (left (m.newdata numbers p piece).part ≤ left p)
  pub goes_on : (numbers : List ℕ) (p : AppState) (now : Now) (rest : List ℕ) → fine p ≡ true → p.input ++ rest ≡ request →
      All IsU32 numbers → IsNow now → 0 < length now.rows →
      GoesOnBy m request mss fine left (m.prepare numbers p now) (left p) (m.want numbers (m.prepare numbers p now))

-- The same if the application is polled up to `patience` times while it has nothing to send.
pub record AnswersPolled (m : AppSpec) (request : List ℕ) (mss : ℕ) (fine : ℕ → AppState → Bool)
    (left : AppState → ℕ) (texts patience : ℕ) : Type 0 where
  pub answers : (polls : ℕ) → polls ≤ patience → AnswersIn m request mss (fine polls) left texts
  pub waits : (polls : ℕ) (numbers : List ℕ) (p : AppState) → polls < patience → fine polls p ≡ true →
      (fine (suc polls) (m.polled numbers p).part ≡ true) × (left (m.polled numbers p).part ≤ left p)
