-- An application of which `OwnApp` is all, or one part: what `OwnApp` sees of the connections and numbers of a node.
use Rattle.own_node.proofs.Prelude.{◌≡◌, ◌∙◌, ℕ, zero, suc, Bool, true, false, List, [], ◌∷◌, drop, if◌then◌else◌, map, refl, sym, ap}
use Rattle.own_node.proofs.Prelude.{slice_index_or, slice_set, After, AppSpec, AppState, Ending, Now, State, SynRcvd, Connection, closed}
use Rattle.own_node.proofs.Prelude.{is_open, AbstractNode, connection_in, next_ticket, own_spec, is_accepted}

module _ (mine : ℕ → Bool) (seen : AppState → AppState) (own : List ℕ → List ℕ) where
  -- A call leaves the port; at a port of `OwnApp` also its ticket and its captures; and the numbers of `OwnApp`.
  pub record Keeps (p : AppState) (numbers : List ℕ) (r : After) : Type 0 where
    pub port : r.part.port ≡ p.port
    pub ticket : mine p.port ≡ true → (seen r.part).own ≡ (seen p).own
    pub snapshots : mine p.port ≡ true → (seen r.part).snapshots ≡ (seen p).snapshots
    pub own_numbers : own r.numbers ≡ own numbers

  pub still : (p : AppState) (numbers : List ℕ) → Keeps p numbers (record { part = p; numbers = numbers })
  still p numbers = record { port = refl; ticket = λ e. refl; snapshots = λ e. refl; own_numbers = refl }

  -- one call, and then another
  pub then_keeps : (p : AppState) (numbers : List ℕ) (r t : After) → Keeps p numbers r → Keeps r.part r.numbers t → Keeps p numbers t
  then_keeps p numbers r t k l = record {
    port = l.port ∙ k.port;
    ticket = λ e. l.ticket (ap mine k.port ∙ e) ∙ k.ticket e;
    snapshots = λ e. l.snapshots (ap mine k.port ∙ e) ∙ k.snapshots e;
    own_numbers = l.own_numbers ∙ k.own_numbers;
  }

  -- The application m does at the ports of `OwnApp` (`mine`) what that does alone, as `OwnApp` sees the state and the numbers (`seen`, `own`).
  -- At other ports it leaves the numbers of `OwnApp` unchanged.
  pub record Contains (m : AppSpec) : Type 0 where
    pub port : (numbers : List ℕ) (at : ℕ) → (m.connected numbers at).part.port ≡ at
    pub ticket : (numbers : List ℕ) (at : ℕ) → mine at ≡ true → (seen (m.connected numbers at).part).own ≡ next_ticket (own numbers)
    pub snapshots : (numbers : List ℕ) (at : ℕ) → mine at ≡ true → (seen (m.connected numbers at).part).snapshots ≡ []
    pub opened : (numbers : List ℕ) (at : ℕ) → mine at ≡ true → own (m.connected numbers at).numbers ≡ next_ticket (own numbers) ∷ drop 1 (own numbers)
    pub others : (numbers : List ℕ) (at : ℕ) → mine at ≡ false → own (m.connected numbers at).numbers ≡ own numbers
    pub newdata : (numbers : List ℕ) (p : AppState) (piece : List ℕ) → Keeps p numbers (m.newdata numbers p piece)
    pub acked : (numbers : List ℕ) (p : AppState) (count : ℕ) → Keeps p numbers (m.acked numbers p count)
    pub polled : (numbers : List ℕ) (p : AppState) → Keeps p numbers (m.polled numbers p)
    pub ended : (numbers : List ℕ) (p : AppState) (how : Ending) → own (m.ended numbers p how) ≡ own numbers
    pub prepare_port : (numbers : List ℕ) (p : AppState) (now : Now) → (m.prepare numbers p now).port ≡ p.port
    pub prepare : (numbers : List ℕ) (p : AppState) (now : Now) → mine p.port ≡ true → seen (m.prepare numbers p now) ≡ own_spec.prepare
        (own numbers) (seen p) now
    -- a connection that was only accepted
    pub fresh_ticket : (at : ℕ) → (seen (record closed.part { port = at })).own ≡ 0
    pub fresh_captures : (at : ℕ) → (seen (record closed.part { port = at })).snapshots ≡ []
    pub fresh : seen closed.part ≡ closed.part

  -- ---- what `OwnApp` sees of a connection

  -- of another application: whether it was accepted and has not opened
  abbrev pub elsewhere : State → Connection
  elsewhere SynRcvd = record closed { state = SynRcvd }
  elsewhere _ = closed

  abbrev pub own_view : Connection → Connection
  own_view c = record c { part = seen c.part }

  abbrev pub view : Connection → Connection
  view c = if mine c.part.port then own_view c else elsewhere c.state

  abbrev pub view_node : AbstractNode → AbstractNode
  view_node n = record n { connections = map view n.connections; numbers = own n.numbers }

  pub view_own : (c : Connection) → mine c.part.port ≡ true → view c ≡ own_view c
  view_own c e = ap (λ (b : Bool). if b then own_view c else elsewhere c.state) e

  pub view_other : (c : Connection) → mine c.part.port ≡ false → view c ≡ elsewhere c.state
  view_other c e = ap (λ (b : Bool). if b then own_view c else elsewhere c.state) e

  pub elsewhere_part : (st : State) → (elsewhere st).part ≡ closed.part
  elsewhere_part SynRcvd = refl
  elsewhere_part _ = refl

  pub elsewhere_shut : (st : State) → is_open (elsewhere st).state ≡ false
  elsewhere_shut SynRcvd = refl
  elsewhere_shut _ = refl

  pub elsewhere_syn : (st : State) → (elsewhere st).state ≡ SynRcvd → st ≡ SynRcvd
  elsewhere_syn SynRcvd e = refl
  elsewhere_syn _ e = absurd (cc)

  elsewhere_accepted : (st : State) → is_accepted (elsewhere st).state ≡ is_accepted st
  elsewhere_accepted SynRcvd = refl
  elsewhere_accepted _ = refl

  pub view_accepted : (c : Connection) → is_accepted (view c).state ≡ is_accepted c.state
  view_accepted c = by_mine (mine c.part.port)
    where
      by_mine : (b : Bool) → is_accepted (if b then own_view c else elsewhere c.state).state ≡ is_accepted c.state
      by_mine true = refl
      by_mine false = elsewhere_accepted c.state

  -- ---- in the slots

  module _ (fresh : seen closed.part ≡ closed.part) where
    pub view_closed : view closed ≡ closed
    view_closed = by_mine (mine 0)
      where
        by_mine : (b : Bool) → (if b then own_view closed else closed) ≡ closed
        by_mine true = ap (λ (p : AppState). record closed { part = p }) fresh
        by_mine false = refl

    view_index : (cs : List Connection) (slot : ℕ) → slice_index_or (map view cs) slot closed ≡ view (slice_index_or cs slot closed)
    view_index [] slot = sym view_closed
    view_index (c ∷ cs) zero = refl
    view_index (c ∷ cs) (suc slot) = view_index cs slot

    pub view_in : (n : AbstractNode) (slot : ℕ) → connection_in slot (view_node n) ≡ view (connection_in slot n)
    view_in n slot = view_index n.connections slot

  pub view_set : (cs : List Connection) (slot : ℕ) (d : Connection) → map view (slice_set cs slot d) ≡ slice_set (map view cs) slot (view d)
  view_set [] slot d = refl
  view_set (c ∷ cs) zero d = refl
  view_set (c ∷ cs) (suc slot) d = ap (λ (l : List Connection). view c ∷ l) (view_set cs slot d)
