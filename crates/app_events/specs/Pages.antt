-- An application whose output is a page, determined by the input and the captured snapshots. The laws of pages and sessions rest
-- on this.
-- [add: counter] `IsNow`: how many counters a snapshot has.
use Rattle.std.specs.Prelude.{◌≡◌, ◌<◌, ◌≤◌, ◌+◌, ◌⊎◌, ◌∷◌, ◌++◌, [], All, Bool, length, List, true, ℕ}
use Rattle.uip_wire.specs.declared.addr.Addr.{Addr}
use Rattle.app_events.specs.AppSpec.{AppState, AppSpec, Snapshot}
use Rattle.app_events.specs.Laws.{IsPrefixOf}
use Rattle.app_events.specs.declared.ending.Ending.{Ending}
use Rattle.app_events.specs.declared.now.Now.{Now}
use Rattle.app_events.specs.declared.row.Row.{Row}
use Rattle.app_events.specs.declared.want.Want.{Want}
use Rattle.app_events.specs.declared.want.Want.TheVariants.{Nothing, Send, Close, Abort}

-- The page that an input and snapshots determine, and whether it is complete.
pub record Pages : Type 0 where
  pub page : (input : List ℕ) (snapshots : List Snapshot) → List ℕ
  pub complete : (input : List ℕ) (snapshots : List Snapshot) → Bool

abbrev pub IsByte : ℕ → Type 0
IsByte n = n < 256

abbrev pub IsU32 : ℕ → Type 0
IsU32 n = n < 4294967296

-- An IPv4 address: four bytes.
pub record IsAddr (addr : Addr) : Type 0 where
  pub four : length addr.0 ≡ 4
  pub all_bytes : All IsByte addr.0

-- A row of the table of connections, in range: slot and tries have one digit, the other numbers fit their types.
pub record IsRow (row : Row) : Type 0 where
  pub slot : row.slot < 10
  pub tries : row.tries < 10
  pub count : row.count < 256
  pub port : row.port.0 < 65536
  pub peer : IsAddr row.peer

-- The status of a node, in range: ticks, statistics and table of connections.
pub record IsNow (now : Now) : Type 0 where
  pub ticks : IsU32 now.ticks
  pub twenty : length now.net ≡ 20
  pub counters : All IsU32 now.net
  pub slots : length now.rows ≤ 10
  pub rows : All IsRow now.rows

-- A snapshot in range.
pub record IsSnapshot (snapshot : Snapshot) : Type 0 where
  pub numbers : All IsU32 snapshot.numbers
  pub now : IsNow snapshot.now

-- q has the input, the snapshots and the acknowledged offset of p.
pub record SameProgress (p q : AppState) : Type 0 where
  pub input : q.input ≡ p.input
  pub snapshots : q.snapshots ≡ p.snapshots
  pub acked : q.acked ≡ p.acked

-- What the application may request. It sends at least one byte, and no more than is left of its page. It closes only at the end of a
-- complete page.
abbrev pub MayWant : Pages → AppState → Want → Type 0
MayWant pages p (Send n) = (1 ≤ n) × (p.acked + n ≤ length (pages.page p.input p.snapshots))
MayWant pages p Close = (pages.complete p.input p.snapshots ≡ true) × (p.acked ≡ length (pages.page p.input p.snapshots))
MayWant pages p Nothing = Unit {0}
MayWant pages p Abort = Unit {0}

-- The output of the application is its page: a function of input and snapshots. Each call changes the state as stated.
pub record IsPaged (m : AppSpec) (pages : Pages) : Type 0 where
  -- More input and more snapshots only extend a page, and leave a complete one unchanged. If its
  -- snapshots are in range, a page is shorter than 2^30 bytes.
  pub grows : (input more : List ℕ) (snapshots later : List Snapshot)
      → IsPrefixOf (pages.page input snapshots) (pages.page (input ++ more) (snapshots ++ later))
  pub stays : (input more : List ℕ) (snapshots later : List Snapshot) → pages.complete input snapshots ≡ true
      → pages.page (input ++ more) (snapshots ++ later) ≡ pages.page input snapshots
  pub stays_complete : (input more : List ℕ) (snapshots later : List Snapshot) → pages.complete input snapshots ≡ true
      → pages.complete (input ++ more) (snapshots ++ later) ≡ true
  pub short : (input : List ℕ) (snapshots : List Snapshot) → All IsSnapshot snapshots → length (pages.page input snapshots) < 1073741824
  -- The output is the page.
  pub output : (p : AppState) → m.output p ≡ pages.page p.input p.snapshots
  -- How each call changes the input, the snapshots and the acknowledged offset.
  pub connected_input : (numbers : List ℕ) (port : ℕ) → (m.connected numbers port).part.input ≡ []
  pub connected_snapshots : (numbers : List ℕ) (port : ℕ) → (m.connected numbers port).part.snapshots ≡ []
  pub connected_acked : (numbers : List ℕ) (port : ℕ) → (m.connected numbers port).part.acked ≡ 0
  pub newdata_input : (numbers : List ℕ) (p : AppState) (piece : List ℕ)
      → (m.newdata numbers p piece).part.input ≡ p.input ++ piece
  pub newdata_snapshots : (numbers : List ℕ) (p : AppState) (piece : List ℕ) → (m.newdata numbers p piece).part.snapshots ≡ p.snapshots
  pub newdata_acked : (numbers : List ℕ) (p : AppState) (piece : List ℕ) → (m.newdata numbers p piece).part.acked ≡ p.acked
  pub prepare_input : (numbers : List ℕ) (p : AppState) (now : Now) → (m.prepare numbers p now).input ≡ p.input
  pub prepare_snapshots : (numbers : List ℕ) (p : AppState) (now : Now)
      → ((m.prepare numbers p now).snapshots ≡ p.snapshots)
      ⊎ ((m.prepare numbers p now).snapshots ≡ p.snapshots ++ record { numbers = numbers; now = now } ∷ [])
  pub prepare_acked : (numbers : List ℕ) (p : AppState) (now : Now) → (m.prepare numbers p now).acked ≡ p.acked
  pub acked_input : (numbers : List ℕ) (p : AppState) (n : ℕ) → (m.acked numbers p n).part.input ≡ p.input
  pub acked_snapshots : (numbers : List ℕ) (p : AppState) (n : ℕ) → (m.acked numbers p n).part.snapshots ≡ p.snapshots
  pub acked_moves : (numbers : List ℕ) (p : AppState) (n : ℕ) → (m.acked numbers p n).part.acked ≡ p.acked + n
  pub polled_same : (numbers : List ℕ) (p : AppState) → SameProgress p (m.polled numbers p).part
  pub wants : (numbers : List ℕ) (p : AppState) → MayWant pages p (m.want numbers p)
  -- The shared numbers stay below 2^32.
  pub connected_numbers : (numbers : List ℕ) (port : ℕ) → All IsU32 numbers → All IsU32 (m.connected numbers port).numbers
  pub newdata_numbers : (numbers : List ℕ) (p : AppState) (piece : List ℕ) → All IsU32 numbers
      → All IsU32 (m.newdata numbers p piece).numbers
  pub acked_numbers : (numbers : List ℕ) (p : AppState) (n : ℕ) → All IsU32 numbers → All IsU32 (m.acked numbers p n).numbers
  pub polled_numbers : (numbers : List ℕ) (p : AppState) → All IsU32 numbers → All IsU32 (m.polled numbers p).numbers
  pub ended_numbers : (numbers : List ℕ) (p : AppState) (how : Ending) → All IsU32 numbers → All IsU32 (m.ended numbers p how)
