-- What holds of every connection of a node, whatever happens to it.
use Rattle.link_world.proofs.Prelude.{All, ◌≡◌, ℕ, zero, suc, ◌<◌, Bool, ◌&&◌, List, [], ◌∷◌, length, position, set, refl, sym, subst}
use Rattle.link_world.proofs.Prelude.{arith, Option, Some, None, slice_get, slice_index_or, Addr, PlainSegment, has_rst, AppSpec, Pages}
use Rattle.link_world.proofs.Prelude.{IsPaged, Now, Connection, Sockets, closed, serves, is_plain_syn, Outcome, asked, accept, accepted}
use Rattle.link_world.proofs.Prelude.{on_segment, on_tick, initial_number, Event, IpRefused, IcmpRefused, TcpRefused, EchoAsked, Arrived}
use Rattle.link_world.proofs.Prelude.{Overlong, Periodic, AbstractNode, NodeStep, arrives_at, connection_in, for_no_connection, happened}
use Rattle.link_world.proofs.Prelude.{snapshot, initial_node, opens, opens_in, periodic, run, slot_for_syn, step, CapturesFit, IsOfNode}
use Rattle.link_world.proofs.Prelude.{TextNumbers, TextsAreShort, IsEvent, steady_of, choose, get_set, set_past, all_closed, here, there}
use Rattle.link_world.proofs.Prelude.{FitConn, FitNode, closed_fits, event_fits, position_in}
use Rattle.link_world.proofs.TextNumbers.{Num, accepted_num, closed_num, segment_num, text_numbers, tick_num}

-- ---- a fact that each step of a connection keeps at the moments of a node

module _ (m : AppSpec) (P : Connection → Type 0) (IsAt : (Connection → Now) → Type 0)
    (snapshots : (n : AbstractNode) (event : Event) (slot : ℕ) (old : Connection) → slice_get n.connections slot ≡ Some old → IsAt (snapshot n event slot))
    (shut : P closed) (born : (iss : ℕ) (sockets : Sockets) (s : PlainSegment) → P (accepted iss sockets s))
    (delivers_text : (at : Connection → Now) → IsAt at → (c : Connection) (numbers : List ℕ) (s : PlainSegment) → P c
    → P (asked m at (on_segment m c numbers s)).connection)
    (ticks : (at : Connection → Now) → IsAt at → (c : Connection) (numbers : List ℕ) → P c → P (asked m at (on_tick m c numbers)).connection) where
  abbrev Each : List Connection → Type 0
  Each cs = (i : ℕ) (c : Connection) → slice_get cs i ≡ Some c → P c

  set_each : (cs : List Connection) (slot : ℕ) (new : Connection) → P new → Each cs → Each (set cs slot new)
  set_each cs slot new p h i c x = elim (get_set cs slot new i c x) [ here e q ↦ subst P q p | there n g ↦ h i c g ]

  index_each : (cs : List Connection) (i : ℕ) → Each cs → P (slice_index_or cs i closed)
  index_each [] i h = shut
  index_each (c ∷ cs) zero h = h zero c refl
  index_each (c ∷ cs) (suc i) h = index_each cs i (λ j x g. h (suc j) x g)

  happened_each : (n : AbstractNode) (event : Event) (slot : ℕ) (old : Connection) (o : Outcome) → P o.connection → Each n.connections
      → Each (happened m n event slot old o).node.connections
  unfolding happened
  happened_each n event slot old o p h = set_each n.connections slot o.connection p h

  opens_each : (n : AbstractNode) (sockets : Sockets) (s : PlainSegment) (slot : Option ℕ) → Each n.connections
      → Each (opens m n sockets s slot).node.connections
  unfolding opens_in
  opens_each n sockets s None h = h
  opens_each n sockets s (Some slot) h =
      happened_each n (Arrived sockets s) slot (connection_in slot n) (accept (initial_number n.history) sockets s n.numbers)
      (born (initial_number n.history) sockets s) h

  stranger_each : (served : ℕ → Bool) (n : AbstractNode) (sockets : Sockets) (s : PlainSegment) → Each n.connections
      → Each (for_no_connection m served n sockets s).node.connections
  unfolding for_no_connection
  stranger_each served n sockets s h =
      choose (λ (x : NodeStep). Each x.node.connections) (is_plain_syn s && served sockets.own_port.0) _ _
      (λ e. opens_each n sockets s (slot_for_syn n.connections) h)
      (λ e. choose (λ (x : NodeStep). Each x.node.connections) (has_rst s.flags) _ _ (λ g. h) (λ g. h))

  arrives_each : (served : ℕ → Bool) (n : AbstractNode) (sockets : Sockets) (s : PlainSegment) (found : Option ℕ)
      → position (serves sockets) n.connections ≡ found → Each n.connections → Each (arrives_at m served n sockets s found).node.connections
  arrives_each served n sockets s None e h = stranger_each served n sockets s h
  arrives_each served n sockets s (Some slot) e h =
      let at = position_in (serves sockets) n.connections slot e in
      let event : Event = Arrived sockets s in
      happened_each n event slot (connection_in slot n) _ (delivers_text (snapshot n event slot) (snapshots n event slot at.item at.get)
      (connection_in slot n) n.numbers s (index_each n.connections slot h)) h

  -- a slot that is none keeps nothing
  periodic_each : (n : AbstractNode) (slot : ℕ) (old : Option Connection) → slice_get n.connections slot ≡ old → Each n.connections
      → Each (periodic m n slot).node.connections
  unfolding happened
  periodic_each n slot None e h =
      let new : Connection = (asked m (snapshot n (Periodic slot) slot) (on_tick m (connection_in slot n) n.numbers)).connection in
      subst (λ (cs : List Connection). Each cs) (sym (set_past n.connections slot new e)) h
  periodic_each n slot (Some old) e h =
      let event : Event = Periodic slot in
      set_each n.connections slot _ (ticks (snapshot n event slot) (snapshots n event slot old e) (connection_in slot n) n.numbers
      (index_each n.connections slot h)) h

  step_each : (served : ℕ → Bool) (n : AbstractNode) (event : Event) → Each n.connections → Each (step m served n event).node.connections
  step_each served n (IpRefused fate) h = h
  step_each served n (IcmpRefused fate) h = h
  step_each served n (TcpRefused fate) h = h
  step_each served n (EchoAsked datagram) h = h
  step_each served n (Arrived sockets s) h = arrives_each served n sockets s (position (serves sockets) n.connections) refl h
  step_each served n Overlong h = h
  step_each served n (Periodic slot) h = periodic_each n slot (slice_get n.connections slot) refl h

  run_each : (served : ℕ → Bool) (events : List Event) (n : AbstractNode) → Each n.connections → Each (run m served events n).node.connections
  run_each served [] n h = h
  run_each served (e ∷ es) n h = run_each served es (step m served n e).node (step_each served n e h)

  pub every : (served : ℕ → Bool) (events : List Event) (addr : Addr) (numbers : List ℕ)
      → Each (run m served events (initial_node addr numbers)).node.connections
  every served events addr numbers = run_each served events (initial_node addr numbers) (λ i c x. subst P (all_closed 10 i c x) shut)

pub text_numbers_hold : TextNumbers
text_numbers_hold m pages lawful c r =
    text_numbers c (every m Num (λ at. Unit {0}) (λ n event slot old e. tt) closed_num accepted_num (λ at x. segment_num m pages lawful at)
    (λ at x. tick_num m pages lawful at) r.served r.events r.addr r.numbers r.slot c r.there)

-- ---- captures

module _ (m : AppSpec) (pages : Pages) (lawful : IsPaged m pages) where
  run_fits : (served : ℕ → Bool) (events : List Event) (n : AbstractNode) → All IsEvent events → FitNode n → FitNode (run m served events n).node
  run_fits served [] n a f = f
  run_fits served (e ∷ es) n a f = run_fits served es (step m served n e).node (λ k d l. a (suc k) d (omega (arith, l)))
      (event_fits m (steady_of m pages lawful) served n e (a 0 e (omega arith)) f)

  fits_of : (c : Connection) → IsOfNode m c → FitConn c
  fits_of c r =
      (run_fits r.served r.events (initial_node r.addr r.numbers) r.are_events
      record { size = omega arith; conns = λ i x y. subst FitConn (all_closed 10 i x y) closed_fits; numbers = r.in_range }).conns r.slot c r.there

pub captures_fit : CapturesFit
captures_fit m pages lawful c r = (fits_of m pages lawful c r).snapshots

pub texts_are_short : TextsAreShort
texts_are_short m pages lawful c r =
    subst (λ (xs : List ℕ). length xs < 1073741824) (sym (lawful.output c.part))
    (lawful.short c.part.input c.part.snapshots (fits_of m pages lawful c r).snapshots)
