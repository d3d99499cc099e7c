-- The specification of two applications on one node. The port of a connection determines its application. The two share nothing.
use Rattle.std.specs.Prelude.{◌≡◌, ◌⊎◌, ℕ, nat_lt, Bool, true, false, if◌then◌else◌, List, [], ◌∷◌, ◌++◌, length, map}
use Rattle.app_events.specs.Prelude.{After, AppSpec, AppState, Snapshot}
use Rattle.app_events.specs.declared.now.Now.{Now}
use Rattle.app_pair.specs.PairNumbers.{own_numbers, with_own}

-- ---- one of the two: the second, if `second` is true

-- what it sees of a snapshot, and of the state of a connection: its own numbers only
abbrev pub own_snapshot : Bool → Snapshot → Snapshot
own_snapshot second k = record { numbers = own_numbers second k.numbers; now = k.now }

abbrev pub own_part : Bool → AppState → AppState
own_part second p = record p { snapshots = map (own_snapshot second) p.snapshots }

-- the state and the numbers after a call that captures nothing
abbrev pub after_call : Bool → List ℕ → List Snapshot → After → After
after_call second numbers captures r = record {
  part = record (r.part) { snapshots = captures };
  numbers = with_own second r.numbers numbers;
}

-- the state after `prepare`: if it captured a snapshot, that has the numbers of both
abbrev pub after_prepare : List ℕ → AppState → Now → AppState → AppState
after_prepare numbers p now q = record q {
  snapshots =
      if nat_lt (length p.snapshots) (length q.snapshots) then p.snapshots ++ record { numbers = numbers; now = now } ∷ []
      else p.snapshots;
}

-- Each call sees its own numbers only, and leaves those of the other application unchanged.
abbrev pub one_of_two : Bool → AppSpec → AppSpec
one_of_two second m = record {
  output = λ p. m.output (own_part second p);
  connected = λ numbers port. after_call second numbers [] (m.connected (own_numbers second numbers) port);
  newdata = λ numbers p piece. after_call second numbers p.snapshots (m.newdata (own_numbers second numbers) (own_part second p) piece);
  prepare = λ numbers p now. after_prepare numbers p now (m.prepare (own_numbers second numbers) (own_part second p) now);
  want = λ numbers p. m.want (own_numbers second numbers) (own_part second p);
  acked = λ numbers p count. after_call second numbers p.snapshots (m.acked (own_numbers second numbers) (own_part second p) count);
  polled = λ numbers p. after_call second numbers p.snapshots (m.polled (own_numbers second numbers) (own_part second p));
  ended = λ numbers p how. with_own second (m.ended (own_numbers second numbers) (own_part second p) how) numbers;
}

-- ---- both

-- Each call is that of the application at the port of the connection.
abbrev pub by_port : (ℕ → AppSpec) → AppSpec
by_port at = record {
  output = λ p. (at p.port).output p;
  connected = λ numbers port. (at port).connected numbers port;
  newdata = λ numbers p piece. (at p.port).newdata numbers p piece;
  prepare = λ numbers p now. (at p.port).prepare numbers p now;
  want = λ numbers p. (at p.port).want numbers p;
  acked = λ numbers p count. (at p.port).acked numbers p count;
  polled = λ numbers p. (at p.port).polled numbers p;
  ended = λ numbers p how. (at p.port).ended numbers p how;
}

-- the application of a port: n at those of the second, else m
abbrev pub spec_at : (ℕ → Bool) → AppSpec → AppSpec → ℕ → AppSpec
spec_at second m n port = if second port then one_of_two true n else one_of_two false m

abbrev pub pair_spec : (ℕ → Bool) → AppSpec → AppSpec → AppSpec
pair_spec second m n = by_port (spec_at second m n)

-- ---- what is required of each

-- No call changes the port of a connection.
pub record StaysAtPort (m : AppSpec) : Type 0 where
  pub connected : (numbers : List ℕ) (port : ℕ) → (m.connected numbers port).part.port ≡ port
  pub newdata : (numbers : List ℕ) (p : AppState) (piece : List ℕ) → (m.newdata numbers p piece).part.port ≡ p.port
  pub prepare : (numbers : List ℕ) (p : AppState) (now : Now) → (m.prepare numbers p now).port ≡ p.port
  pub acked : (numbers : List ℕ) (p : AppState) (count : ℕ) → (m.acked numbers p count).part.port ≡ p.port
  pub polled : (numbers : List ℕ) (p : AppState) → (m.polled numbers p).part.port ≡ p.port

-- Only `prepare` captures, at most one snapshot, with the numbers and the `now` of the call.
pub record KeepsCaptures (m : AppSpec) : Type 0 where
  pub connected : (numbers : List ℕ) (port : ℕ) → (m.connected numbers port).part.snapshots ≡ []
  pub newdata : (numbers : List ℕ) (p : AppState) (piece : List ℕ) → (m.newdata numbers p piece).part.snapshots ≡ p.snapshots
  pub prepare : (numbers : List ℕ) (p : AppState) (now : Now)
      → ((m.prepare numbers p now).snapshots ≡ p.snapshots)
      ⊎ ((m.prepare numbers p now).snapshots ≡ p.snapshots ++ record { numbers = numbers; now = now } ∷ [])
  pub acked : (numbers : List ℕ) (p : AppState) (count : ℕ) → (m.acked numbers p count).part.snapshots ≡ p.snapshots
  pub polled : (numbers : List ℕ) (p : AppState) → (m.polled numbers p).part.snapshots ≡ p.snapshots

-- An application that can be one of a pair.
pub record CanBePaired (m : AppSpec) : Type 0 where
  pub port : StaysAtPort m
  pub snapshots : KeepsCaptures m
