-- The cases of a node's step.
-- [add: state] A step in it.
use Rattle.uip_node.proofs.Prelude.{ℕ, zero, suc, ◌≡◌, ◌+◌, ◌-◌, ◌%◌, ◌&&◌, ◌<◌, ◌≤◌, Bool, true, false, List, [], ◌∷◌, ◌++◌, length, take}
use Rattle.uip_node.proofs.Prelude.{drop, Option, Some, None, refl, sym, ap, ◌∙◌, subst, arith, nat_lt, slice_range, length-take}
use Rattle.uip_node.proofs.Prelude.{length-drop, length-append, is_some, slice_get, slice_set, mod-add-mod, take-append_seam, ltb-false}
use Rattle.uip_node.proofs.Prelude.{take-take, AppSpec, Ghosts, is_live, State, answered, echo_fate, echo_message, echo_reply, Buffer}
use Rattle.uip_node.proofs.Prelude.{datagram_in, payload_of, IpHead, PlainSegment, has_rst, Outcome, asked, leaves, Connection, Sockets}
use Rattle.uip_node.proofs.Prelude.{accept, on_tick, tick_by, is_plain_syn, Step, CountsRepresent, seen, called_by, initial_number, times}
use Rattle.uip_node.proofs.Prelude.{HistoryEntry, Arrived, Periodic, Silent, AbstractNode, connection_in, for_no_connection, happened}
use Rattle.uip_node.proofs.Prelude.{snapshot, opens, opens_in, passes, periodic, refuses, slot_for_syn, SlotsRepresent, Represents, Steps}
use Rattle.uip_node.proofs.Prelude.{Counts, Node}
use Rattle.tcp_machine.proofs.States.{by_state}

-- a node represents the abstract one after a later history, with another packet and other counts; what the abstract one remembers is not
-- used
pub represents_later : {A S : Type 0} (g : Ghosts A S) (node : Node A S) (packet : Buffer) (counts : Counts) (n : AbstractNode)
    (history later remembered : List HistoryEntry) →
    Represents g node n history → node.table.iss ≡ initial_number later → CountsRepresent counts later
    → Represents g (record node { packet = packet; counts = counts }) (record n { history = remembered }) later
represents_later g node packet counts n history later remembered h iss stand = record {
  addr = h.addr;
  slots = h.slots;
  iss = iss;
  numbers_represented = h.numbers_represented;
  counts = stand;
}

-- only what is left and what is sent is looked at
pub opened : {A S : Type 0} (g : Ghosts A S) (node : Node A S) (result : Option ℕ) (m : AppSpec) (n : AbstractNode) (s : Sockets)
    (seg : PlainSegment) (slot : ℕ) →
    Steps g node result (happened m n (Arrived s seg) slot (connection_in slot n) (accept (initial_number n.history) s seg n.numbers)) →
    Steps g node result (opens_in m n s seg slot)
unfolding opens_in
opened g node result m n s seg slot h = record { represented = h.represented; sent = h.sent }

pub stranger_opens : (m : AppSpec) (served : ℕ → Bool) (n : AbstractNode) (s : Sockets) (seg : PlainSegment)
    → (is_plain_syn seg && served s.own_port.0) ≡ true →
    opens m n s seg (slot_for_syn n.connections) ≡ for_no_connection m served n s seg
unfolding for_no_connection
stranger_opens m served n s seg h = cc

pub stranger_passes : (m : AppSpec) (served : ℕ → Bool) (n : AbstractNode) (s : Sockets) (seg : PlainSegment)
    → (is_plain_syn seg && served s.own_port.0) ≡ false → has_rst seg.flags ≡ true →
    passes n (Arrived s seg) Silent ≡ for_no_connection m served n s seg
unfolding for_no_connection
stranger_passes m served n s seg h r = cc

pub stranger_refused : (m : AppSpec) (served : ℕ → Bool) (n : AbstractNode) (s : Sockets) (seg : PlainSegment)
    → (is_plain_syn seg && served s.own_port.0) ≡ false → has_rst seg.flags ≡ false →
    refuses n s seg ≡ for_no_connection m served n s seg
unfolding for_no_connection
stranger_refused m served n s seg h r = cc

-- the initial number rises by one at each periodic call
pub next_first : (history : List HistoryEntry) (slot : ℕ) → (initial_number history + 1) % 4294967296 ≡ initial_number (seen (Periodic slot) history)
next_first history slot = mod-add-mod (times (λ p. is_some (called_by p.event)) history) 4294967296 1

-- a CLOSED connection does nothing at a tick
closed_by : (m : AppSpec) (a : Connection) (ns : List ℕ) (state : State) → is_live state ≡ false → tick_by m state a ns ≡ leaves a ns Step.Drop
closed_by m a ns state =
    by_state (λ s. is_live s ≡ false → tick_by m s a ns ≡ leaves a ns Step.Drop) (λ h. refl) (λ h. cc) (λ h. cc) (λ h. cc) (λ h. cc)
    (λ h. cc) (λ h. cc) (λ h. cc) (λ h. cc) state

pub closed_tick : (m : AppSpec) (a : Connection) (ns : List ℕ) → is_live a.state ≡ false → on_tick m a ns ≡ leaves a ns Step.Drop
closed_tick m a ns h = closed_by m a ns a.state h

pub set_same : {X : Type 0} (xs : List X) (i : ℕ) (x : X) → slice_get xs i ≡ Some x → slice_set xs i x ≡ xs
set_same [] i x h = refl
set_same (y ∷ ys) zero x h = cc
set_same (y ∷ ys) (suc i) x h = ap (λ (zs : List _). y ∷ zs) (set_same ys i x h)

-- the element at an index inside
pub slice_get-element : {X : Type 0} (xs : List X) (i : ℕ) → i < length xs → (x : X) × (slice_get xs i ≡ Some x)
slice_get-element [] i h = absurd (omega (arith, h))
slice_get-element (x ∷ xs) zero h = (x, refl)
slice_get-element (x ∷ xs) (suc i) h = slice_get-element xs i (omega (arith, h))

rests_by : {A S : Type 0} (g : Ghosts A S) (m : AppSpec) (node : Node A S) (n : AbstractNode) (slot : ℕ) →
    node.addr ≡ n.addr → SlotsRepresent g (g.config node.shared) node.table.conns (slice_set n.connections slot (connection_in slot n))
    → node.table.iss ≡ initial_number (seen (Periodic slot) n.history) → g.numbers node.shared ≡ n.numbers
    → CountsRepresent node.counts (seen (Periodic slot) n.history) →
    Steps g node None (happened m n (Periodic slot) slot (connection_in slot n) (leaves (connection_in slot n) n.numbers Step.Drop))
unfolding happened
rests_by g m node n slot addr slots iss ns counts = record {
  represented = record { addr = addr; slots = slots; iss = iss; numbers_represented = ns; counts = counts };
  sent = refl;
}

pub rests_at : {A S : Type 0} (g : Ghosts A S) (m : AppSpec) (node : Node A S) (n : AbstractNode) (slot : ℕ) →
    node.addr ≡ n.addr → SlotsRepresent g (g.config node.shared) node.table.conns n.connections
    → node.table.iss ≡ initial_number (seen (Periodic slot) n.history) → g.numbers node.shared ≡ n.numbers
    → CountsRepresent node.counts (seen (Periodic slot) n.history) →
    slice_get n.connections slot ≡ Some (connection_in slot n) → is_live (connection_in slot n).state ≡ false → Steps g node None (periodic m n slot)
rests_at g m node n slot addr slots iss ns counts there dead =
    let a : Connection = connection_in slot n in
    subst (λ (o : Outcome). Steps g node None (happened m n (Periodic slot) slot a (asked m (snapshot n (Periodic slot) slot) o)))
    (sym (closed_tick m a n.numbers dead))
    (rests_by g m node n slot addr (subst (λ (xs : List Connection). SlotsRepresent g (g.config node.shared) node.table.conns xs)
    (sym (set_same n.connections slot a there)) slots) iss ns counts)

-- a message that passes the checks is whole
by_short : (b : Bool) (message : List ℕ) → nat_lt (length message) 8 ≡ b → echo_fate message ≡ None → 8 ≤ length message
by_short true message e h = cc
by_short false message e h = omega (arith, ltb-false (length message) 8 e)

long_enough : (message : List ℕ) → echo_fate message ≡ None → 8 ≤ length message
long_enough message h = by_short (nat_lt (length message) 8) message refl h

-- a reply is as long as its request
pub reply_length : (request : List ℕ) → 24 ≤ length request → length (echo_reply request) ≡ length request
reply_length request long =
    let a : List ℕ = take 12 request in
    let b : List ℕ = slice_range request 16 20 in
    let c : List ℕ = slice_range request 12 16 in
    let d : List ℕ = echo_message (drop 24 request) in
    let message : length d ≡ 4 + length (drop 24 request) = omega arith in
    let whole : length (echo_reply request) ≡ length (((a ++ b) ++ c) ++ d) = refl in
    whole ∙ omega (
      arith,
      long,
      message,
      length-append ((a ++ b) ++ c) d,
      length-append (a ++ b) c,
      length-append a b,
      length-append a (b ++ (c ++ d)),
      length-append b (c ++ d),
      length-append c d,
      length-take 12 request,
      length-drop 16 request,
      length-take 4 (drop 16 request),
      length-drop 12 request,
      length-take 4 (drop 12 request),
      length-drop 24 request,
    )

pub payload_long : (head : IpHead) (bytes : List ℕ) → head.total ≤ length bytes → echo_fate (payload_of head bytes) ≡ None → 28 ≤ head.total
payload_long head bytes most h =
    omega (arith, most, long_enough (payload_of head bytes) h, length-take (head.total - 20) (drop 20 bytes), length-drop 20 bytes)

-- the reply in the packet
pub reply_is : (head : IpHead) (old new : Buffer) → new ≡ answered head old → head.total ≤ length (datagram_in old) → 28 ≤ head.total
    → datagram_in new ≡ echo_reply (take head.total (datagram_in old))
reply_is head old new e most long =
    let request : List ℕ = take head.total old.area in
    let size : length request ≡ head.total = omega (arith, most, length-take old.len old.area, length-take head.total old.area) in
    let inside : head.total ≤ old.len = omega (arith, most, length-take old.len old.area) in
    let n : head.total ≡ length (echo_reply request) = sym (reply_length request (omega (arith, size)) ∙ size) in
    ap (λ (b : Buffer). datagram_in b) e
    ∙ ap (λ (k : ℕ). take k (echo_reply request ++ drop head.total old.area)) n
    ∙ take-append_seam (echo_reply request) (drop head.total old.area)
    ∙ ap echo_reply (sym (take-take head.total old.len old.area inside))

pub answered_long : (head : IpHead) (old new : Buffer) → new ≡ answered head old → head.total ≤ length (datagram_in old) → 28 ≤ head.total
    → length new.area ≡ length old.area
answered_long head old new e most long =
    let request : List ℕ = take head.total old.area in
    let size : length request ≡ head.total = omega (arith, most, length-take old.len old.area, length-take head.total old.area) in
    ap (λ (b : Buffer). length b.area) e
    ∙ omega (
      arith,
      most,
      length-take old.len old.area,
      size,
      reply_length request (omega (arith, size)),
      length-append (echo_reply request) (drop head.total old.area),
      length-drop head.total old.area,
    )
