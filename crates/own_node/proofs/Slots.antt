-- What an event does to the slots of a node, as `OwnApp` sees them.
use Rattle.own_node.proofs.Prelude.{◌≡◌, ◌∙◌, ℕ, zero, suc, ◌&&◌, Bool, true, false, if◌then◌else◌, List, [], ◌∷◌, Option, Some, None, refl}
use Rattle.own_node.proofs.Prelude.{sym, ap, subst, arith, position, replicate, slice_index_or, slice_set, PlainSegment, has_rst, AppSpec}
use Rattle.own_node.proofs.Prelude.{AppState, SynRcvd, Connection, Outcome, Sockets, accepted, asked, closed, is_plain_syn, on_segment}
use Rattle.own_node.proofs.Prelude.{on_tick, serves, Addr, AbstractNode, Event, NodeStep, connection_in, initial_node, step, arrives_at}
use Rattle.own_node.proofs.Prelude.{for_no_connection, happened, opens, opens_in, periodic, slot_for_syn, snapshot, choose, initial_number}
use Rattle.own_node.proofs.Prelude.{Arrived, EchoAsked, IcmpRefused, IpRefused, Overlong, Periodic, TcpRefused}
use Rattle.own_node.proofs.Containing.{Contains, elsewhere, own_view, view, view_in, view_node, view_set}
use Rattle.own_node.proofs.Parts.{AskedPart, IsAtPort, OutParts, Stepped, segment_step, tick_step}

-- ---- a slot that is written

pub data IndexSet (cs : List Connection) (i : ℕ) (new : Connection) (slot : ℕ) : Type 0 where
  new_at : slot ≡ i → slice_index_or (slice_set cs i new) slot closed ≡ new → IndexSet cs i new slot
  old_at : (slot ≡ i → slice_index_or cs slot closed ≡ closed) → slice_index_or (slice_set cs i new) slot closed ≡ slice_index_or cs slot
      closed → IndexSet cs i new slot

pub index_set : (cs : List Connection) (i : ℕ) (new : Connection) (slot : ℕ) → IndexSet cs i new slot
index_set [] i new slot = old_at (λ e. refl) refl
index_set (c ∷ cs) zero new zero = new_at refl refl
index_set (c ∷ cs) zero new (suc slot) = old_at (λ e. absurd (omega (arith, e))) refl
index_set (c ∷ cs) (suc i) new zero = old_at (λ e. absurd (omega (arith, e))) refl
index_set (c ∷ cs) (suc i) new (suc slot) =
    elim (index_set cs i new slot) [
      | new_at e v ↦ new_at (ap suc e) v
      | old_at h v ↦ old_at (λ e. h (omega (arith, e))) v
    ]

-- P holds of the connection in each slot.
abbrev pub InEach : (Connection → Type 0) → List Connection → Type 0
InEach P cs = (slot : ℕ) → P (slice_index_or cs slot closed)

pub each_set : (P : Connection → Type 0) (cs : List Connection) (i : ℕ) (new : Connection) → P new → InEach P cs → InEach P (slice_set cs i new)
each_set P cs i new h each slot = elim (index_set cs i new slot) [ new_at e v ↦ subst P (sym v) h | old_at g v ↦ subst P (sym v) (each slot) ]

pub each_closed : (k slot : ℕ) → slice_index_or (replicate k closed) slot closed ≡ closed
each_closed zero slot = refl
each_closed (suc k) zero = refl
each_closed (suc k) (suc slot) = each_closed k slot

-- ---- an event

-- the connection in a slot takes a step
pub record MovesSlot (n m : AbstractNode) (slot : ℕ) : Type 0 where
  pub o : Outcome
  pub result : Outcome
  pub parts : OutParts (connection_in slot n) n.numbers o
  pub asked : AskedPart o result
  pub connections : m.connections ≡ slice_set n.connections slot result.connection
  pub numbers : m.numbers ≡ result.numbers

-- a connection was accepted and has not opened
pub record IsAccepted (d : Connection) : Type 0 where
  pub state : d.state ≡ SynRcvd
  pub ticket : d.part.own ≡ 0
  pub snapshots : d.part.snapshots ≡ []

-- No slot changes; or a connection is accepted in one; or the connection in one takes a step.
pub data SlotsStep (n m : AbstractNode) : Type 0 where
  still : m.connections ≡ n.connections → m.numbers ≡ n.numbers → SlotsStep n m
  accepts_slot : (slot : ℕ) (d : Connection) → IsAccepted d → m.connections ≡ slice_set n.connections slot d → m.numbers ≡ n.numbers → SlotsStep n m
  moves_slot : (slot : ℕ) → MovesSlot n m slot → SlotsStep n m

module _ (mine : ℕ → Bool) (seen : AppState → AppState) (own : List ℕ → List ℕ) (m : AppSpec) (contains : Contains mine seen own m) where
  abbrev View : AbstractNode → AbstractNode
  View n = view_node mine seen own n

  accepted_view : (iss : ℕ) (sockets : Sockets) (s : PlainSegment) → IsAccepted (view mine seen own (accepted iss sockets s))
  accepted_view iss sockets s = by_mine (mine sockets.own_port.0)
    where
      by_mine : (b : Bool) → IsAccepted (if b then own_view mine seen own (accepted iss sockets s) else elsewhere mine seen own SynRcvd)
      by_mine true = record { state = refl; ticket = contains.fresh_ticket sockets.own_port.0; snapshots = contains.fresh_captures sockets.own_port.0 }
      by_mine false = record { state = refl; ticket = refl; snapshots = refl }

  module _ (n : AbstractNode) (at : InEach IsAtPort n.connections) where
    abbrev Does : NodeStep → Type 0
    Does r = SlotsStep (View n) (View r.node) × InEach IsAtPort r.node.connections

    took : (event : Event) (slot : ℕ) (old : Connection) (result : Outcome) → Stepped mine seen own m contains (connection_in slot n) n.numbers result
        → MovesSlot (View n) (View (happened m n event slot old result).node) slot × InEach IsAtPort (happened m n event slot old result).node.connections
    unfolding happened
    took event slot old result step =
        let it = step.0 in (
          record {
            o = it.o;
            result = it.result;
            parts = subst (λ (c : Connection). OutParts c (own n.numbers) it.o) (sym (view_in mine seen own contains.fresh n slot)) it.parts;
            asked = it.asked;
            connections = view_set mine seen own n.connections slot result.connection
                ∙ ap (λ (d : Connection). slice_set (View n).connections slot d) it.connection;
            numbers = it.numbers_are;
          },
          each_set IsAtPort n.connections slot result.connection step.1 at,
        )

    moved : (event : Event) (slot : ℕ) (old : Connection) (result : Outcome) → Stepped mine seen own m contains (connection_in slot n)
        n.numbers result → Does (happened m n event slot old result)
    moved event slot old result step = let it = took event slot old result step in (moves_slot slot it.0, it.1)

    opens_step : (sockets : Sockets) (s : PlainSegment) (slot : Option ℕ) → Does (opens m n sockets s slot)
    unfolding opens_in happened
    opens_step sockets s None = (still refl refl, at)
    opens_step sockets s (Some slot) =
        let c : Connection = accepted (initial_number n.history) sockets s in (
          accepts_slot slot (view mine seen own c) (accepted_view (initial_number n.history) sockets s) (view_set mine seen own n.connections slot c) refl,
          each_set IsAtPort n.connections slot c refl at,
        )

    stranger_step : (served : ℕ → Bool) (sockets : Sockets) (s : PlainSegment) → Does (for_no_connection m served n sockets s)
    unfolding for_no_connection
    stranger_step served sockets s =
        choose (λ (r : NodeStep). Does r) (is_plain_syn s && served sockets.own_port.0) _ _ (λ e. opens_step sockets s (slot_for_syn n.connections))
        (λ e. choose (λ (r : NodeStep). Does r) (has_rst s.flags) _ _ (λ f. (still refl refl, at)) (λ f. (still refl refl, at)))

    arrives_step : (served : ℕ → Bool) (sockets : Sockets) (s : PlainSegment) (found : Option ℕ) → Does (arrives_at m served n sockets s found)
    arrives_step served sockets s None = stranger_step served sockets s
    arrives_step served sockets s (Some slot) =
        let c : Connection = connection_in slot n in
        moved (Arrived sockets s) slot c (asked m (snapshot n (Arrived sockets s) slot) (on_segment m c n.numbers s))
        (segment_step mine seen own m contains (snapshot n (Arrived sockets s) slot) c n.numbers s (at slot))

    pub periodic_step : (slot : ℕ) → MovesSlot (View n) (View (periodic m n slot).node) slot × InEach IsAtPort (periodic m n slot).node.connections
    periodic_step slot =
        let c : Connection = connection_in slot n in
        took (Periodic slot) slot c (asked m (snapshot n (Periodic slot) slot) (on_tick m c n.numbers))
        (tick_step mine seen own m contains (snapshot n (Periodic slot) slot) c n.numbers (at slot))

    pub slots_step : (served : ℕ → Bool) (event : Event) → Does (step m served n event)
    slots_step served (IpRefused fate) = (still refl refl, at)
    slots_step served (IcmpRefused fate) = (still refl refl, at)
    slots_step served (TcpRefused fate) = (still refl refl, at)
    slots_step served (EchoAsked datagram) = (still refl refl, at)
    slots_step served (Arrived sockets s) = arrives_step served sockets s (position (serves sockets) n.connections)
    slots_step served (Periodic slot) = let it = periodic_step slot in (moves_slot slot it.0, it.1)
    slots_step served Overlong = (still refl refl, at)

pub first_at_port : (own : Addr) (numbers : List ℕ) → InEach IsAtPort (initial_node own numbers).connections
first_at_port own numbers slot = subst IsAtPort (sym (each_closed 10 slot)) refl
