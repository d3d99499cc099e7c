-- The periodic call of its slot captures a message that was written to a connection that is ready.
use Rattle.own_node.proofs.Prelude.{All, ◌≡◌, ℕ, ◌<◌, ◌+◌, ◌%◌, ◌&&◌, Bool, true, false, List, [], ◌∷◌, ◌++◌, drop, length, nat_le, nat_lt}
use Rattle.own_node.proofs.Prelude.{not, refl, sym, ap, ◌∙◌, if◌then◌else◌, and_from, and_parts, eq-eqb, false≢true, After, AppSpec}
use Rattle.own_node.proofs.Prelude.{AppState, IsByte, Snapshot, Now, State, Established, Want, Nothing, Send, Close, Abort, Connection}
use Rattle.own_node.proofs.Prelude.{Outcome, asked, closed, does_as_wanted, idles, on_tick, peer_has_closed, polls, prepared, tick_by}
use Rattle.own_node.proofs.Prelude.{ticks_established, waits_for_ack, choose, change_own, own_numbers, CanBePaired, own_part, pair_spec}
use Rattle.own_node.proofs.Prelude.{own_back, two_applications, own_can_pair, message_back, taken_more, HasCaptured}
use Rattle.own_node.proofs.Prelude.{PairsCaptureReadyMessages, ReadyMessagesAreCaptured, called_after, called_in_pair, can_write_at}
use Rattle.own_node.proofs.Prelude.{is_open_state, is_ready_at, next_message, next_message_at, own_connection, with_change, drop-drop}
use Rattle.own_node.proofs.Prelude.{index_of}
use Rattle.uip_node.specs.Prelude.{AbstractNode, Periodic, connection_in, happened, periodic, snapshot}
use Rattle.uip_node.proofs.Settling.{get_set}
use Rattle.own_app.specs.Prelude.{PlainMessage, bytes_taken, is_next_message, is_own_port, has_last, message_in, messages_text}
use Rattle.own_app.specs.Prelude.{messages_text_more, numbers_of, opened_in, own_spec, pending as pending_of, with_message, with_written}
use Rattle.own_app.specs.Prelude.{write_message}
use Rattle.own_node.proofs.ReadingLaws.{IsReady, ready_has}

-- ---- the part of the connection after the application was asked

idles_part : (c : Connection) (numbers : List ℕ) → (idles false c numbers).connection.part ≡ c.part
unfolding idles
idles_part c numbers = choose (λ (o : Outcome). o.connection.part ≡ c.part) (peer_has_closed c.state) _ _ (λ e. refl) (λ e. refl)

wanted_part : (w : Want) (c : Connection) (numbers : List ℕ) → (does_as_wanted w false c numbers).connection.part ≡ c.part
wanted_part Abort c numbers = refl
wanted_part Close c numbers = refl
wanted_part (Send n) c numbers = refl
wanted_part Nothing c numbers = idles_part c numbers

module _ (m : AppSpec) where
  polled : (c : Connection) (numbers : List ℕ) → c.state ≡ Established → c.len ≡ 0 → on_tick m c numbers ≡ polls m c numbers
  unfolding ticks_established
  polled c numbers state none =
      ap (λ (s : State). tick_by m s c numbers) state
      ∙ ap (λ (b : Bool). if b then waits_for_ack m c numbers else polls m c numbers) (ap (λ (l : ℕ). nat_lt 0 l) none)

  asked_part : (c : Connection) (numbers : List ℕ) (snap : Connection → Now) → c.state ≡ Established → c.len ≡ 0
      → (now : Now) × ((asked m snap (on_tick m c numbers)).connection.part ≡ m.prepare (m.polled numbers c.part).numbers (m.polled numbers c.part).part now)
  asked_part c numbers snap state none =
      let o : Outcome = polls m c numbers in
      let now : Now = snap o.connection in
      let p : AppState = m.prepare o.numbers o.connection.part now in (
        now,
        ap (λ (x : Outcome). (asked m snap x).connection.part) (polled c numbers state none)
            ∙ wanted_part (m.want o.numbers p) (prepared m now o.connection o.numbers) o.numbers,
      )

  pub called_part : (n : AbstractNode) (slot : ℕ) → slot < length n.connections → (connection_in slot n).state ≡ Established → (connection_in slot n).len ≡ 0
      → (let c : Connection = connection_in slot n in
      (now : Now) × ((connection_in slot (periodic m n slot).node).part ≡ m.prepare (m.polled n.numbers c.part).numbers (m.polled n.numbers c.part).part now))
  unfolding happened
  called_part n slot inside state none =
      let c : Connection = connection_in slot n in
      let o : Outcome = asked m (snapshot n (Periodic slot) slot) (on_tick m c n.numbers) in
      let part = asked_part c n.numbers (snapshot n (Periodic slot) slot) state none in
      (part.0, ap (λ (x : Connection). x.part) (index_of _ slot closed o.connection (get_set n.connections slot o.connection inside)) ∙ part.1)

-- ---- the capture

captured : (message : PlainMessage) (opened : ℕ) (c new : Connection) (now : Now) → All IsByte message.text → has_last c.part.snapshots ≡ false
    → new.part ≡ with_message (numbers_of opened message) (own_spec.polled (numbers_of opened message) c.part).part now → HasCaptured message c new
captured message opened c new now bytes goes_on is =
    let k : Snapshot = record { numbers = numbers_of opened message; now = now } in
    let back : message_in (numbers_of opened message) ≡ message = message_back opened message bytes in
    let captures : new.part.snapshots ≡ c.part.snapshots ++ k ∷ [] = ap (λ (p : AppState). p.snapshots) is in
    let taken : bytes_taken new.part.snapshots ≡ bytes_taken c.part.snapshots + message.taken =
    ap (λ (l : List Snapshot). bytes_taken l) captures ∙ taken_more c.part.snapshots k
    ∙ ap (λ (x : PlainMessage). bytes_taken c.part.snapshots + x.taken) back in
    record {
      capture = k;
      numbers = back;
      snapshots = captures;
      text = ap (λ (l : List Snapshot). messages_text l) captures ∙ messages_text_more c.part.snapshots k goes_on
          ∙ ap (λ (x : PlainMessage). messages_text c.part.snapshots ++ x.text) back;
      pending =
          ap (λ (p : AppState). drop (bytes_taken p.snapshots) p.input) is
          ∙ ap (λ (t : ℕ). drop t c.part.input) (sym (ap (λ (l : List Snapshot). bytes_taken l) captures) ∙ taken)
          ∙ sym (drop-drop message.taken (bytes_taken c.part.snapshots) c.part.input);
    }

-- a connection that is ready, after the application was polled and asked with the next message among its numbers
captures_next : (numbers : List ℕ) (taken : ℕ) (text : List ℕ) (last : Bool) (c new : Connection) (now : Now) → All IsByte text → can_write_at taken c ≡ true
    → (let l = write_message (next_message_at taken text last c) numbers in
    new.part ≡ own_spec.prepare l (own_spec.polled l c.part).part now → HasCaptured (next_message_at taken text last c) c new)
captures_next numbers taken text last c new now bytes can is =
    let message : PlainMessage = next_message_at taken text last c in
    let parts = and_parts (is_ready_at c) (nat_le taken (length (pending_of c.part))) can in
    let ready : IsReady c = ready_has c parts.0 in
    let l : List ℕ = write_message message numbers in
    let q : AppState = (own_spec.polled l c.part).part in
    let next : is_next_message (message_in l) q ≡ true = ap (λ (x : PlainMessage). is_next_message x q)
    (message_back (opened_in numbers) message bytes) ∙ is_next ready parts.1 in
    captured message (opened_in numbers) c new now bytes ready.goes_on (is ∙ ap (λ (b : Bool). if b then with_message l q now else q) next)
  where
    is_next : IsReady c → nat_le taken (length (pending_of c.part)) ≡ true → is_next_message (next_message_at taken text last c) c.part ≡ true
    is_next ready there =
        and_from _ _ (and_from _ _ (and_from _ _ (and_from _ _ (and_from _ _ (eq-eqb c.part.own c.part.own refl)
        (eq-eqb (length c.part.snapshots % 4294967296) (length c.part.snapshots % 4294967296) refl))
        (ap (λ (b : Bool). not b) ready.kept)) (ap (λ (b : Bool). not b) ready.goes_on)) ready.all) there

pub captures_ready : ReadyMessagesAreCaptured
captures_ready n slot taken text last inside bytes can =
    let c : Connection = connection_in slot n in
    let ready : IsReady c = ready_has c (and_parts (is_ready_at c) (nat_le taken (length (pending_of c.part))) can).0 in
    let part = called_part own_spec (with_written (next_message slot taken text last n) n) slot inside ready.state ready.len in
    captures_next n.numbers taken text last c (called_after slot taken text last n) part.0 bytes can part.1

-- ---- in a pair

module _ (m : AppSpec) (first : CanBePaired m) where
  abbrev pair : AppSpec
  pair = pair_spec is_own_port m own_spec

  -- the second application sees its own poll and its own capture in those of the pair
  sees_asked : (numbers own : List ℕ) (p : AppState) (now : Now) → is_own_port p.port ≡ true → own_numbers true numbers ≡ own
      → own_part true (pair.prepare (pair.polled numbers p).numbers (pair.polled numbers p).part now) ≡ own_spec.prepare own
      (own_spec.polled own (own_part true p)).part now
  sees_asked numbers own p now port is =
      let q : After = pair.polled numbers p in
      let again : CanBePaired pair = two_applications.again is_own_port m own_spec first own_can_pair in
      let at_p = (two_applications.second is_own_port m own_spec first own_can_pair p port).polled numbers in
      let at_q = (two_applications.second is_own_port m own_spec first own_can_pair q.part
      (ap (λ (n : ℕ). is_own_port n) (again.port.polled numbers p) ∙ port)).prepare q.numbers now in
      at_q
      ∙ ap (λ (l : List ℕ). own_spec.prepare l (own_part true q.part) now) (at_p.numbers.its_own ∙ is)
      ∙ ap (λ (x : AppState). own_spec.prepare own x now) at_p.part

  captures_seen : (n : AbstractNode) (slot taken : ℕ) (text : List ℕ) (last : Bool) (b : Bool) → slot < length n.connections → All IsByte text
      → (let c : Connection = connection_in slot n in
      let seen : Connection = if b then closed else own_connection c in
      let message : PlainMessage = next_message_at taken text last seen in
      (is_open_state c.state && not (is_own_port c.part.port)) ≡ b → can_write_at taken seen ≡ true
      → HasCaptured message (own_connection c) (own_connection (called_in_pair m slot message n)))
  captures_seen n slot taken text last true inside bytes is can = absurd (false≢true can)
  captures_seen n slot taken text last false inside bytes is can =
      let c : Connection = connection_in slot n in
      let seen : Connection = own_connection c in
      let message : PlainMessage = next_message_at taken text last seen in
      let ready : IsReady seen = ready_has seen (and_parts (is_ready_at seen) (nat_le taken (length (pending_of seen.part))) can).0 in
      let after : AbstractNode = with_change (change_own true (write_message message)) n in
      let own : List ℕ = write_message message (own_numbers true n.numbers) in
      let part = called_part pair after slot inside ready.state ready.len in
      captures_next (own_numbers true n.numbers) taken text last seen (own_connection (called_in_pair m slot message n)) part.0 bytes can
      (ap (λ (x : AppState). own_part true x) part.1
      ∙ sees_asked after.numbers own c.part part.0 (its_port (is_own_port c.part.port) ready.opened is) (own_back true own n.numbers))
    where
      its_port : (port : Bool) → is_open_state (connection_in slot n).state ≡ true
          → (is_open_state (connection_in slot n).state && not port) ≡ false → port ≡ true
      its_port true e f = refl
      its_port false e f = absurd (false≢true (sym f ∙ ap (λ (b : Bool). b && true) e))

pub pairs_capture : PairsCaptureReadyMessages
pairs_capture m first n slot taken text last inside bytes can =
    let c : Connection = connection_in slot n in
    captures_seen m first n slot taken text last (is_open_state c.state && not (is_own_port c.part.port)) inside bytes refl can
