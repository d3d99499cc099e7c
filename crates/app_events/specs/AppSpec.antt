-- The specification of an application: its state on one connection, and the transition of each call.
use Rattle.std.specs.Prelude.{ℕ, ◌≤◌, List, length, drop}
use Rattle.app_events.specs.declared.ending.Ending.{Ending}
use Rattle.app_events.specs.declared.now.Now.{Now}
use Rattle.app_events.specs.declared.want.Want.{Want}

-- What generated text may show. `numbers` are the shared numbers of the application, such as the hits of files. `now` is the status of the
-- node: its ticks, statistics and connections.
pub record Snapshot : Type 0 where
  pub numbers : List ℕ
  pub now : Now

-- The state of an application on one connection.
pub record AppState : Type 0 where
  pub port : ℕ  -- the port at which the connection opened
  pub input : List ℕ  -- all bytes that the node delivered to it
  pub snapshots : List Snapshot  -- the snapshots that it captured, the oldest first
  pub acked : ℕ  -- how many bytes of its output are acknowledged
  pub polls : ℕ  -- calls of its slot with nothing outstanding, since it last received or sent something
  pub own : ℕ  -- one number for its own use: no clause constrains it

-- The state and the shared numbers after a call.
pub record After : Type 0 where
  pub part : AppState
  pub numbers : List ℕ

-- The transitions of an application. If it reads something that no call changes, such as a site, there is one such record for each value
-- of that.
pub record AppSpec : Type 0 where
  pub output : AppState → List ℕ  -- the whole output so far, of which `acked` bytes are acknowledged
  pub connected : (numbers : List ℕ) (port : ℕ) → After  -- a connection opened
  pub newdata : (numbers : List ℕ) (part : AppState) (piece : List ℕ) → After  -- input arrived
  pub prepare : (numbers : List ℕ) (part : AppState) (now : Now) → AppState  -- called before `want`; it may capture a snapshot
  pub want : (numbers : List ℕ) (part : AppState) → Want  -- the next request
  pub acked : (numbers : List ℕ) (part : AppState) (count : ℕ) → After  -- the peer acknowledged `count` bytes
  pub polled : (numbers : List ℕ) (part : AppState) → After  -- a call of its slot with nothing outstanding
  pub ended : (numbers : List ℕ) (part : AppState) (how : Ending) → List ℕ  -- a RST or a timeout ended the connection

-- the output after the acknowledged bytes
abbrev pub text_left : AppSpec → AppState → List ℕ
text_left m p = drop p.acked (m.output p)

-- The value represents some state.
abbrev pub IsRepresented : {A K : Type 0} → (A → K → AppState → Type 0) → A → K → Type 0
IsRepresented represents a k = ∥ ((p : AppState) × represents a k p) ∥₁

-- The value represents some state with at least n bytes of output after the acknowledged ones.
abbrev pub CanSupply : {A K : Type 0} → (K → AppSpec) → (A → K → AppState → Type 0) → A → K → ℕ → Type 0
CanSupply app_spec represents a k n = ∥ ((p : AppState) × represents a k p × (n ≤ length (text_left (app_spec k) p))) ∥₁
