-- The hypotheses about an application: its output is bytes, and an output model determines it at each port.
use Rattle.std.specs.Prelude.{◌≡◌, ◌<◌, ◌≤◌, ◌⊎◌, ◌++◌, [], All, Bool, false, length, List, true, ℕ, ⊤}
use Rattle.app_events.specs.Prelude.{IsPrefixOf, Pages, IsSnapshot, MayWant, AppState, AppSpec, Snapshot}
use Rattle.app_events.specs.declared.now.Now.{Now}
use Rattle.app_events.specs.declared.want.Want.TheVariants.{Close}
use Rattle.node_laws.specs.Promise.{OutputModel}
use Rattle.node_laws.specs.Promise.OutputModel.{Paged, Interactive, Free}

-- q is a state of this kind, and its input is this text.
abbrev pub HasDelivered : (AppState → Bool) → AppState → List ℕ → Type 0
HasDelivered here q text = (here q ≡ true) × (q.input ≡ text)

-- q is a state of this kind with the input of p, and it ignores further input if p does.
abbrev pub LeavesDelivered : (AppState → Bool) → (AppState → Bool) → AppState → AppState → Type 0
LeavesDelivered here lost p q = HasDelivered here q p.input × (lost q ≡ lost p)

-- The application accepts the piece, or a prefix of it. After a proper prefix it ignores all further input (`lost`).
pub record AcceptsPrefix (here lost : AppState → Bool) (p q : AppState) (piece : List ℕ) : Type 0 where
  pub prefix : List ℕ
  pub rest : List ℕ
  pub joined : prefix ++ rest ≡ piece
  pub input : HasDelivered here q (p.input ++ prefix)
  pub all : (rest ≡ []) ⊎ (lost q ≡ true)
  pub no_more : lost p ≡ true → (q.input ≡ p.input) × (lost q ≡ true)

-- The output at this port is that of `pages`. More input and more snapshots only extend it, and leave a complete output unchanged. `here`
-- marks the states of connections opened at this port, and each call leads from such a state to such a state. `lost` marks those that
-- ignore all further input.
pub record FollowsPagesAt (m : AppSpec) (port : ℕ) (pages : Pages) : Type 0 where
  pub grows : (input more : List ℕ) (snapshots later : List Snapshot)
      → IsPrefixOf (pages.page input snapshots) (pages.page (input ++ more) (snapshots ++ later))
  pub stays : (input more : List ℕ) (snapshots later : List Snapshot) → pages.complete input snapshots ≡ true
      → pages.page (input ++ more) (snapshots ++ later) ≡ pages.page input snapshots
  pub stays_complete : (input more : List ℕ) (snapshots later : List Snapshot) → pages.complete input snapshots ≡ true
      → pages.complete (input ++ more) (snapshots ++ later) ≡ true
  pub here : AppState → Bool
  pub lost : AppState → Bool
  pub output : (p : AppState) → here p ≡ true → m.output p ≡ pages.page p.input p.snapshots
  pub connected : (numbers : List ℕ) → HasDelivered here (m.connected numbers port).part []
  pub newdata : (numbers : List ℕ) (p : AppState) (piece : List ℕ) → here p ≡ true
      → AcceptsPrefix here lost p (m.newdata numbers p piece).part piece
  pub prepare : (numbers : List ℕ) (p : AppState) (now : Now) → here p ≡ true → LeavesDelivered here lost p (m.prepare numbers p now)
  pub acked : (numbers : List ℕ) (p : AppState) (n : ℕ) → here p ≡ true → LeavesDelivered here lost p (m.acked numbers p n).part
  pub polled : (numbers : List ℕ) (p : AppState) → here p ≡ true → LeavesDelivered here lost p (m.polled numbers p).part
  -- The application closes only at the end of a complete output.
  pub closes : (numbers : List ℕ) (p : AppState) → here p ≡ true → p.acked ≤ length (m.output p) → m.want numbers p ≡ Close
      → MayWant pages p Close

-- The output at this port is that of `pages`. In addition the application accepts every piece, since no state is `lost`, and the output is
-- shorter than 2^30 bytes.
pub record IsPagedAt (m : AppSpec) (port : ℕ) (pages : Pages) : Type 0 where
  pub follows : FollowsPagesAt m port pages
  pub accepts_all : (p : AppState) → follows.lost p ≡ false
  pub short : (input : List ℕ) (snapshots : List Snapshot) → All IsSnapshot snapshots → length (pages.page input snapshots) < 1073741824

-- The output at one port follows its model.
abbrev pub FollowsModelAt : AppSpec → ℕ → OutputModel → Type 0
FollowsModelAt m port (Paged pages) = IsPagedAt m port pages
FollowsModelAt m port (Interactive sessions) = FollowsPagesAt m port sessions
FollowsModelAt m port Free = ⊤

-- The output at each port follows its model.
abbrev pub HasOutputModel : AppSpec → (ℕ → OutputModel) → Type 0
HasOutputModel m model = (port : ℕ) → FollowsModelAt m port (model port)

-- the same pages at every port
abbrev pub at_every_port : Pages → ℕ → OutputModel
at_every_port pages port = Paged pages
