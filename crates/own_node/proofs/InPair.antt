-- A pair of which `OwnApp` is the second contains it: a message that is written, and the periodic call of its slot.
use Rattle.own_node.proofs.Prelude.{All, ◌≡◌, ◌∙◌, ℕ, ◌&&◌, ◌==◌, Bool, true, false, not, if◌then◌else◌, List, [], ◌++◌, refl, sym, ap}
use Rattle.own_node.proofs.Prelude.{subst, false≢true, After, AppSpec, AppState, IsByte, Snapshot, Connection, closed, AbstractNode}
use Rattle.own_node.proofs.Prelude.{connection_in, periodic, both_ways, change_own, own_numbers, CanBePaired, own_part, pair_spec, own_back}
use Rattle.own_node.proofs.Prelude.{two_applications, own_can_pair, IsMessage, PlainMessage, is_own_port, own_spec, write_message}
use Rattle.own_node.proofs.Prelude.{HasCaptured, can_write_at, is_open_state, next_message_at, own_connection, seen_in_pair, with_change}
use Rattle.app_pair.specs.TwoApplications.{ActsAs}
use Rattle.own_node.proofs.Alone.{open_inside, ready_of}
use Rattle.own_node.proofs.CaptureLaws.{called_part, pairs_capture}
use Rattle.own_node.proofs.Containing.{Contains, Keeps, view_in, view_node, view_own}
use Rattle.own_node.proofs.ReadingLaws.{IsReady}
use Rattle.own_node.proofs.WrittenLaws.{Follows, Holds, HoldsAfter, message_seen, wrote_seen}

abbrev pub second_part : AppState → AppState
second_part p = own_part true p

abbrev pub second_numbers : List ℕ → List ℕ
second_numbers numbers = own_numbers true numbers

-- ---- what `OwnApp` sees of a connection that is ready

module _ (c : Connection) where
  seen_is : (opened mine : Bool) → is_open_state c.state ≡ opened → is_open_state (if opened && not mine then closed else own_connection c).state ≡ true
      → ((if opened && not mine then closed else own_connection c) ≡ own_connection c) × (mine ≡ true)
  seen_is true true e is = (refl, refl)
  seen_is false true e is = (refl, refl)
  seen_is true false e is = absurd (false≢true is)
  seen_is false false e is = absurd (false≢true (sym e ∙ is))

  -- it is of a connection at its own port
  pub seen_own : is_open_state (seen_in_pair c).state ≡ true → (seen_in_pair c ≡ own_connection c) × (is_own_port c.part.port ≡ true)
  seen_own is = seen_is (is_open_state c.state) (is_own_port c.part.port) refl is

module _ (first : AppSpec) (can : CanBePaired first) where
  abbrev pub pair : AppSpec
  pair = pair_spec is_own_port first own_spec

  again : CanBePaired pair
  again = two_applications.again is_own_port first own_spec can own_can_pair

  its : (p : AppState) → is_own_port p.port ≡ true → ActsAs true pair own_spec p
  its p e = two_applications.second is_own_port first own_spec can own_can_pair p e

  others_call : (p : AppState) → is_own_port p.port ≡ false → ActsAs false pair first p
  others_call p e = two_applications.first is_own_port first own_spec can own_can_pair p e

  keeps_by : (p : AppState) (numbers : List ℕ) (r : After) → r.part.port ≡ p.port → r.part.snapshots ≡ p.snapshots
      → (is_own_port p.port ≡ true → (second_part r.part).own ≡ p.own)
      → (is_own_port p.port ≡ true → second_numbers r.numbers ≡ second_numbers numbers)
      → (is_own_port p.port ≡ false → second_numbers r.numbers ≡ second_numbers numbers)
      → Keeps is_own_port second_part second_numbers p numbers r
  keeps_by p numbers r port captures ticket its_own others = record {
    port = port;
    ticket = ticket;
    snapshots = λ e. ap (λ (ks : List Snapshot). (second_part (record p { snapshots = ks })).snapshots) captures;
    own_numbers = both_ways (is_own_port p.port) its_own others;
  }

  abbrev fresh_at : ℕ → AppState
  fresh_at at = record closed.part { port = at }

  pub in_pair : Contains is_own_port second_part second_numbers pair
  in_pair = record {
    port = λ numbers at. again.port.connected numbers at;
    ticket = λ numbers at e. ap (λ (p : AppState). p.own) ((its (fresh_at at) e).connected numbers).part;
    snapshots = λ numbers at e. ap (λ (p : AppState). p.snapshots) ((its (fresh_at at) e).connected numbers).part;
    opened = λ numbers at e. ((its (fresh_at at) e).connected numbers).numbers.its_own;
    others = λ numbers at e. ((others_call (fresh_at at) e).connected numbers).numbers.others;
    newdata = λ numbers p piece.
        keeps_by p numbers (pair.newdata numbers p piece) (again.port.newdata numbers p piece) (again.snapshots.newdata numbers p piece)
        (λ e. ap (λ (q : AppState). q.own) ((its p e).newdata numbers piece).part)
        (λ e. ((its p e).newdata numbers piece).numbers.its_own) (λ e. ((others_call p e).newdata numbers piece).numbers.others);
    acked = λ numbers p count.
        keeps_by p numbers (pair.acked numbers p count) (again.port.acked numbers p count) (again.snapshots.acked numbers p count)
        (λ e. ap (λ (q : AppState). q.own) ((its p e).acked numbers count).part)
        (λ e. ((its p e).acked numbers count).numbers.its_own) (λ e. ((others_call p e).acked numbers count).numbers.others);
    polled = λ numbers p.
        keeps_by p numbers (pair.polled numbers p) (again.port.polled numbers p) (again.snapshots.polled numbers p)
        (λ e. ap (λ (q : AppState). q.own) ((its p e).polled numbers).part)
        (λ e. ((its p e).polled numbers).numbers.its_own) (λ e. ((others_call p e).polled numbers).numbers.others);
    ended = λ numbers p how. both_ways (is_own_port p.port) (λ e. ((its p e).ended numbers how).its_own) (λ e. ((others_call p e).ended numbers how).others);
    prepare_port = λ numbers p now. again.port.prepare numbers p now;
    prepare = λ numbers p now e. (its p e).prepare numbers now;
    fresh_ticket = λ at. refl;
    fresh_captures = λ at. refl;
    fresh = refl;
  }

  abbrev View : AbstractNode → AbstractNode
  View n = view_node is_own_port second_part second_numbers n

  -- at its own port `OwnApp` sees the connection in a slot
  pub own_in_view : (n : AbstractNode) (slot : ℕ) → is_own_port (connection_in slot n).part.port ≡ true → connection_in slot (View n)
      ≡ own_connection (connection_in slot n)
  own_in_view n slot e = view_in is_own_port second_part second_numbers refl n slot ∙ view_own is_own_port second_part second_numbers (connection_in slot n) e

  module _ (n : AbstractNode) (at taken : ℕ) (text : List ℕ) (last : Bool) (f : Follows is_own_port second_part second_numbers pair in_pair
      n) (bytes : All IsByte text)
      (can_write : can_write_at taken (seen_in_pair (connection_in at n)) ≡ true) where
    abbrev c : Connection
    c = connection_in at n

    abbrev seen : Connection
    seen = seen_in_pair c

    abbrev message : PlainMessage
    message = next_message_at taken text last seen

    abbrev change : List ℕ → List ℕ
    change = change_own true (write_message message)

    abbrev wrote : AbstractNode
    wrote = (periodic pair (with_change change n) at).node

    ready : IsReady seen
    ready = ready_of seen taken can_write

    own_port : (seen ≡ own_connection c) × (is_own_port c.part.port ≡ true)
    own_port = seen_own c ready.opened

    opened : is_open_state c.state ≡ true
    opened = ap (λ (x : Connection). is_open_state x.state) (sym own_port.0) ∙ ready.opened

    after_port : is_own_port (connection_in at wrote).part.port ≡ true
    after_port =
        let own = λ (x : Connection). x.state in
        let part = called_part pair (with_change change n) at (open_inside n.connections at opened) (ap own (sym own_port.0) ∙ ready.state)
        (ap (λ (x : Connection). x.len) (sym own_port.0) ∙ ready.len) in
        let polled : After = pair.polled (change n.numbers) c.part in
        ap (λ (p : AppState). is_own_port p.port) part.1 ∙ ap is_own_port (again.port.prepare polled.numbers polled.part part.0
        ∙ again.port.polled (change n.numbers) c.part) ∙ own_port.1

    pub pair_captured : HasCaptured message (own_connection c) (own_connection (connection_in at wrote))
    pair_captured = pairs_capture first can n at taken text last (open_inside n.connections at opened) bytes can_write

    pub pair_message : IsMessage message
    pair_message =
        message_seen is_own_port second_part second_numbers pair in_pair n at taken text last change seen
        (own_connection (connection_in at wrote)) (own_in_view n at own_port.1 ∙ sym own_port.0) (own_in_view wrote at after_port)
        f bytes can_write

    pub pair_wrote : (count slot : ℕ) (before : List ℕ) → Holds is_own_port second_part second_numbers pair in_pair n count slot before
        → HoldsAfter is_own_port second_part second_numbers pair in_pair wrote count slot (before ++ (if at == slot then text else []))
    pair_wrote =
        wrote_seen is_own_port second_part second_numbers pair in_pair n at taken text last change seen
        (own_connection (connection_in at wrote)) (own_in_view n at own_port.1 ∙ sym own_port.0) (own_in_view wrote at after_port)
        f bytes can_write (own_back true (write_message message (own_numbers true n.numbers)) n.numbers)
        (subst (λ (x : Connection). HasCaptured message x (own_connection (connection_in at wrote))) (sym own_port.0) pair_captured)
