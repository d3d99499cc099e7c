-- What a connection of `OwnApp` captured is what the program wrote to it, for fewer than 2^32 calls.
use Rattle.own_node.proofs.Prelude.{All, ◌≡◌, ◌∙◌, ℕ, ◌+◌, ◌<◌, ◌≤◌, ◌%◌, ◌==◌, ◌⊎◌, inl, inr, Bool, true, false, List, [], ◌∷◌, ◌++◌}
use Rattle.own_node.proofs.Prelude.{append-nil, drop, if◌then◌else◌, length, length-append, nat_le, refl, sym, ap, subst, arith, and_parts}
use Rattle.own_node.proofs.Prelude.{eq-eqb, eqb-true, false≢true, slice_index_or, slice_set, AppSpec, AppState, IsByte, Snapshot, Now}
use Rattle.own_node.proofs.Prelude.{State, Closed, SynRcvd, Established, CloseWait, FinWait1, FinWait2, Closing, TimeWait, LastAck}
use Rattle.own_node.proofs.Prelude.{Connection, Outcome, closed, is_open, Addr, AbstractNode, Event, connection_in, initial_node, run, step}
use Rattle.own_node.proofs.Prelude.{periodic, both_ways, is_ask, message_back, HasCaptured, can_write_at, can_write_in, is_ready_at}
use Rattle.own_node.proofs.Prelude.{next_message, next_message_at, with_change, is_accepted}
use Rattle.own_app.specs.Prelude.{IsMessage, PlainMessage, is_next_message, message_in, messages_text, next_ticket, no_message, numbers_of}
use Rattle.own_app.specs.Prelude.{opened_in, own_spec, pending as pending_of, with_message, with_written, write_message}
use Rattle.own_node.proofs.ReadingLaws.{IsReady, ready_has}
use Rattle.own_node.proofs.Parts.{AskedPart, IsAtPort}
use Rattle.own_node.proofs.Parts.OutParts.{opened, same}
use Rattle.own_node.proofs.Containing.{Contains, view, view_accepted, view_closed, view_in, view_node}
use Rattle.own_node.proofs.Slots.{InEach, MovesSlot, SlotsStep, each_closed, each_set, first_at_port, index_set, periodic_step, slots_step}
use Rattle.own_node.proofs.Slots.IndexSet.{new_at, old_at}
use Rattle.own_node.proofs.Slots.SlotsStep.{accepts_slot, moves_slot, still}
use Rattle.own_node.proofs.Tickets.{IsTicketed, asked_own, message_fits, ticketed_on}

-- ---- the newest message and the tickets

-- an open connection cannot capture the message
abbrev IsSpent : PlainMessage → Connection → Type 0
IsSpent message c = is_open c.state ≡ true → message.to ≡ c.part.own → message.number ≡ length c.part.snapshots % 4294967296 → ⊥

-- open connections have different tickets
abbrev AreApart : List Connection → Type 0
AreApart cs =
    (i j : ℕ) → (i ≡ j → ⊥) → is_open (slice_index_or cs i closed).state ≡ true → is_open (slice_index_or cs j closed).state ≡ true
    → (slice_index_or cs i closed).part.own ≡ (slice_index_or cs j closed).part.own → ⊥

-- At most `count` connections were opened, with tickets up to that. The newest message is spent.
pub record IsSettled (n : AbstractNode) (count : ℕ) : Type 0 where
  pub few : opened_in n.numbers ≤ count
  pub tickets : InEach (λ c. c.part.own ≤ opened_in n.numbers) n.connections
  pub newest : (message_in n.numbers).to ≤ opened_in n.numbers
  pub apart : AreApart n.connections
  pub spent : InEach (IsSpent (message_in n.numbers)) n.connections

pub first_settled : (n : AbstractNode) → ((slot : ℕ) → connection_in slot n ≡ closed) → n.numbers ≡ numbers_of 0 no_message → IsSettled n 0
first_settled n none numbers =
    let opened : opened_in n.numbers ≡ 0 = ap (λ (l : List ℕ). opened_in l) numbers in
    let to : (message_in n.numbers).to ≡ 0 = ap (λ (l : List ℕ). (message_in l).to) numbers in
    record {
      few = omega (arith, opened);
      tickets = λ slot. subst (λ (c : Connection). c.part.own ≤ opened_in n.numbers) (sym (none slot)) (omega arith);
      newest = omega (arith, to);
      apart = λ i j ne o. absurd (false≢true (subst (λ (c : Connection). is_open c.state ≡ true) (none i) o));
      spent = λ slot o. absurd (false≢true (subst (λ (c : Connection). is_open c.state ≡ true) (none slot) o));
    }

apart_set : (cs : List Connection) (i : ℕ) (new : Connection)
    → ((j : ℕ) → (j ≡ i → ⊥) → is_open new.state ≡ true → is_open (slice_index_or cs j closed).state ≡ true
    → new.part.own ≡ (slice_index_or cs j closed).part.own → ⊥)
    → AreApart cs → AreApart (slice_set cs i new)
apart_set cs i new alone apart a b ne =
    elim (index_set cs i new a) [
      | new_at e v ↦
          elim (index_set cs i new b) [
            | new_at f w ↦ λ o p q. ne (e ∙ sym f)
            | old_at h w ↦ λ o p q.
                alone b (λ f. ne (e ∙ sym f)) (subst (λ (c : Connection). is_open c.state ≡ true) v o) (subst (λ (c : Connection). is_open c.state ≡ true) w p)
                (ap (λ (c : Connection). c.part.own) (sym v) ∙ q ∙ ap (λ (c : Connection). c.part.own) w)
          ]
      | old_at h v ↦
          elim (index_set cs i new b) [
            | new_at f w ↦ λ o p q.
                alone a (λ e. ne (e ∙ sym f)) (subst (λ (c : Connection). is_open c.state ≡ true) w p) (subst (λ (c : Connection). is_open c.state ≡ true) v o)
                (ap (λ (c : Connection). c.part.own) (sym w) ∙ sym q ∙ ap (λ (c : Connection). c.part.own) v)
            | old_at g w ↦ λ o p q.
                apart a b ne (subst (λ (c : Connection). is_open c.state ≡ true) v o) (subst (λ (c : Connection). is_open c.state ≡ true) w p)
                (ap (λ (c : Connection). c.part.own) (sym v) ∙ q ∙ ap (λ (c : Connection). c.part.own) w)
          ]
    ]

same_message : (ticket : ℕ) (numbers : List ℕ) → message_in (ticket ∷ drop 1 numbers) ≡ message_in numbers
same_message ticket [] = refl
same_message ticket (a ∷ []) = refl
same_message ticket (a ∷ b ∷ []) = refl
same_message ticket (a ∷ b ∷ c ∷ []) = refl
same_message ticket (a ∷ b ∷ c ∷ d ∷ []) = refl
same_message ticket (a ∷ b ∷ c ∷ d ∷ e ∷ text) = refl

-- ---- an event captures nothing

prepared_none : (numbers : List ℕ) (p : AppState) (now : Now)
    → ((message_in numbers).to ≡ p.own → (message_in numbers).number ≡ length p.snapshots % 4294967296 → ⊥)
    → (own_spec.prepare numbers p now).snapshots ≡ p.snapshots
prepared_none numbers p now spent =
    elim (is_next_message (message_in numbers) p) as (λ b. is_next_message (message_in numbers) p ≡ b
    → (if b then with_message numbers p now else p).snapshots ≡ p.snapshots) [
      | true ↦ λ e. (let first = and_parts _ _ (and_parts _ _ (and_parts _ _ (and_parts _ _ (and_parts _ _ e).0).0).0).0 in
          absurd (spent (eqb-true (message_in numbers).to p.own first.0) (eqb-true (message_in numbers).number (length p.snapshots % 4294967296) first.1)))
      | false ↦ λ e. refl
    ] refl

asked_none : (o result : Outcome) → AskedPart o result
    → (is_ask o.step ≡ true → (message_in o.numbers).to ≡ o.connection.part.own → (message_in o.numbers).number
    ≡ length o.connection.part.snapshots % 4294967296 → ⊥)
    → result.connection.part.snapshots ≡ o.connection.part.snapshots
asked_none o result h spent =
    elim h.part [
      | inl e ↦ ap (λ (p : AppState). p.snapshots) e
      | inr e ↦ ap (λ (p : AppState). p.snapshots) e.1.1 ∙ prepared_none o.numbers o.connection.part e.1.0 (spent e.0)
    ]

-- The connection in a slot after an event has the captures of before; or it begins, without captures.
pub data SlotAfter (c d : Connection) : Type 0 where
  goes_on : d.part.snapshots ≡ c.part.snapshots → (d.state ≡ SynRcvd → c.state ≡ SynRcvd) → SlotAfter c d
  opens : c.state ≡ SynRcvd → (d.state ≡ SynRcvd → ⊥) → d.part.snapshots ≡ [] → SlotAfter c d
  begins : d.state ≡ SynRcvd → d.part.snapshots ≡ [] → SlotAfter c d

pub record EventLeaves (n m : AbstractNode) (count : ℕ) : Type 0 where
  pub settled : IsSettled m count
  pub slots : (slot : ℕ) → SlotAfter (connection_in slot n) (connection_in slot m)

pub still_leaves : (n m : AbstractNode) (count : ℕ) → m.connections ≡ n.connections → m.numbers ≡ n.numbers → IsSettled n count → EventLeaves n m (count + 1)
still_leaves n m count cs ns g = record {
  settled = record {
    few = (let few = g.few in omega (arith, few, ap (λ (l : List ℕ). opened_in l) ns));
    tickets = subst (λ (l : List Connection). InEach (λ c. c.part.own ≤ opened_in m.numbers) l) (sym cs)
        (subst (λ (l : List ℕ). InEach (λ c. c.part.own ≤ opened_in l) n.connections) (sym ns) g.tickets);
    newest = subst (λ (l : List ℕ). (message_in l).to ≤ opened_in l) (sym ns) g.newest;
    apart = subst AreApart (sym cs) g.apart;
    spent = subst (λ (l : List Connection). InEach (IsSpent (message_in m.numbers)) l) (sym cs)
        (subst (λ (l : List ℕ). InEach (IsSpent (message_in l)) n.connections) (sym ns) g.spent);
  };
  slots = λ slot. (let e : connection_in slot m ≡ connection_in slot n = ap (λ (l : List Connection). slice_index_or l slot closed) cs in
      goes_on (ap (λ (c : Connection). c.part.snapshots) e) (λ z. ap (λ (c : Connection). c.state) (sym e) ∙ z));
}

-- a slot gets a new connection, and the others stay
module _ (n m : AbstractNode) (count slot : ℕ) (d : Connection) (cs : m.connections ≡ slice_set n.connections slot d) (g : IsSettled n count) where
  others_stay : SlotAfter (connection_in slot n) d → (at : ℕ) → SlotAfter (connection_in at n) (connection_in at m)
  others_stay here at =
      elim (index_set n.connections slot d at) [
        | new_at e v ↦
            (let f : connection_in at m ≡ d = ap (λ (l : List Connection). slice_index_or l at closed) cs ∙ v in
            subst (λ (x : Connection). SlotAfter (connection_in at n) x) (sym f) (subst (λ (k : ℕ). SlotAfter (connection_in k n) d) (sym e) here))
        | old_at h v ↦
            (let f : connection_in at m ≡ connection_in at n = ap (λ (l : List Connection). slice_index_or l at closed) cs ∙ v in
            goes_on (ap (λ (c : Connection). c.part.snapshots) f) (λ z. ap (λ (c : Connection). c.state) (sym f) ∙ z))
      ]

  -- with its ticket, and no capture more
  settled_same : m.numbers ≡ n.numbers → d.part.own ≡ (connection_in slot n).part.own → d.part.snapshots ≡ (connection_in slot n).part.snapshots
      → (is_open d.state ≡ true → is_open (connection_in slot n).state ≡ true) → IsSettled m (count + 1)
  settled_same ns own captures opened_before = record {
    few = (let few = g.few in omega (arith, few, ap (λ (l : List ℕ). opened_in l) ns));
    tickets =
        subst (λ (l : List Connection). InEach (λ c. c.part.own ≤ opened_in m.numbers) l) (sym cs)
        (subst (λ (l : List ℕ). InEach (λ c. c.part.own ≤ opened_in l) (slice_set n.connections slot d)) (sym ns)
        (each_set (λ c. c.part.own ≤ opened_in n.numbers) n.connections slot d (let low = g.tickets slot in omega (arith, low, own)) g.tickets));
    newest = subst (λ (l : List ℕ). (message_in l).to ≤ opened_in l) (sym ns) g.newest;
    apart = subst AreApart (sym cs) (apart_set n.connections slot d (λ j ne o p q. g.apart slot j (λ e. ne (sym e)) (opened_before o) p (sym own ∙ q)) g.apart);
    spent =
        subst (λ (l : List Connection). InEach (IsSpent (message_in m.numbers)) l) (sym cs)
        (subst (λ (l : List ℕ). InEach (IsSpent (message_in l)) (slice_set n.connections slot d)) (sym ns)
        (each_set (IsSpent (message_in n.numbers)) n.connections slot d
        (λ o to number. g.spent slot (opened_before o) (to ∙ own) (number ∙ ap (λ (l : List Snapshot). length l % 4294967296) captures)) g.spent));
  }

  -- not open
  settled_shut : m.numbers ≡ n.numbers → d.part.own ≡ 0 → is_open d.state ≡ false → IsSettled m (count + 1)
  settled_shut ns own shut = record {
    few = (let few = g.few in omega (arith, few, ap (λ (l : List ℕ). opened_in l) ns));
    tickets =
        subst (λ (l : List Connection). InEach (λ c. c.part.own ≤ opened_in m.numbers) l) (sym cs)
        (each_set (λ c. c.part.own ≤ opened_in m.numbers) n.connections slot d (omega (arith, own))
        (subst (λ (l : List ℕ). InEach (λ c. c.part.own ≤ opened_in l) n.connections) (sym ns) g.tickets));
    newest = subst (λ (l : List ℕ). (message_in l).to ≤ opened_in l) (sym ns) g.newest;
    apart = subst AreApart (sym cs) (apart_set n.connections slot d (λ j ne o p q. absurd (false≢true (sym shut ∙ o))) g.apart);
    spent =
        subst (λ (l : List Connection). InEach (IsSpent (message_in m.numbers)) l) (sym cs)
        (each_set (IsSpent (message_in m.numbers)) n.connections slot d (λ o. absurd (false≢true (sym shut ∙ o)))
        (subst (λ (l : List ℕ). InEach (IsSpent (message_in l)) n.connections) (sym ns) g.spent));
  }

  -- with the next ticket
  settled_opened : count + 1 < 4294967296 → m.numbers ≡ next_ticket n.numbers ∷ drop 1 n.numbers → d.part.own ≡ next_ticket n.numbers → IsSettled m (count + 1)
  settled_opened low ns own =
      let few = g.few in
      let next : next_ticket n.numbers ≡ opened_in n.numbers + 1 = omega (arith, few, low) in
      let now : opened_in m.numbers ≡ opened_in n.numbers + 1 = ap (λ (l : List ℕ). opened_in l) ns ∙ next in
      let message : message_in m.numbers ≡ message_in n.numbers = ap (λ (l : List ℕ). message_in l) ns ∙ same_message (next_ticket n.numbers) n.numbers in
      record {
        few = omega (arith, few, now);
        tickets =
            subst (λ (l : List Connection). InEach (λ c. c.part.own ≤ opened_in m.numbers) l) (sym cs)
            (each_set (λ c. c.part.own ≤ opened_in m.numbers) n.connections slot d (omega (arith, own, next, now))
            (λ j. (let l = g.tickets j in omega (arith, l, now))));
        newest = (let newest = g.newest in omega (arith, newest, now, ap (λ (x : PlainMessage). x.to) message));
        apart = subst AreApart (sym cs) (apart_set n.connections slot d (λ j ne o p q. (let l = g.tickets j in omega (arith, l, q, own, next))) g.apart);
        spent =
            subst (λ (l : List Connection). InEach (IsSpent (message_in m.numbers)) l) (sym cs)
            (each_set (IsSpent (message_in m.numbers)) n.connections slot d
            (λ o to number. (let newest = g.newest in omega (arith, newest, to, own, next, ap (λ (x : PlainMessage). x.to) message)))
            (subst (λ (x : PlainMessage). InEach (IsSpent x) n.connections) (sym message) g.spent));
      }

not_syn : (d : Connection) → d.state ≡ Established → d.state ≡ SynRcvd → ⊥
not_syn d e f = absurd (let z : Established ≡ SynRcvd = sym e ∙ f in cc)

moves_leaves : (n m : AbstractNode) (count slot : ℕ) → count + 1 < 4294967296 → MovesSlot n m slot → IsSettled n count → EventLeaves n m (count + 1)
moves_leaves n m count slot low it g =
    let c : Connection = connection_in slot n in
    let d : Connection = it.result.connection in
    elim it.parts [
      | same own captures numbers_are opens_before asks syn ↦
          (let numbers : m.numbers ≡ n.numbers = it.numbers ∙ it.asked.numbers ∙ numbers_are in
          let none : d.part.snapshots ≡ it.o.connection.part.snapshots =
          asked_none it.o it.result it.asked (λ a to number.
          g.spent slot (asks a) (sym (ap (λ (l : List ℕ). (message_in l).to) numbers_are) ∙ to ∙ own)
          (sym (ap (λ (l : List ℕ). (message_in l).number) numbers_are) ∙ number ∙ ap (λ (l : List Snapshot). length l % 4294967296) captures)) in
          record {
            settled = settled_same n m count slot d it.connections g numbers (asked_own it.o it.result it.asked ∙ own) (none ∙ captures)
                (λ o. opens_before (it.asked.opens o));
            slots = others_stay n m count slot d it.connections g (goes_on (none ∙ captures) (λ z. syn (it.asked.syn z)));
          })
      | opened state now own captures numbers_are ↦
          (let few = g.few in
          let newest = g.newest in
          let next : next_ticket n.numbers ≡ opened_in n.numbers + 1 = omega (arith, few, low) in
          let message : message_in it.o.numbers ≡ message_in n.numbers = ap (λ (l : List ℕ). message_in l) numbers_are
          ∙ same_message (next_ticket n.numbers) n.numbers in
          let none : d.part.snapshots ≡ it.o.connection.part.snapshots =
          asked_none it.o it.result it.asked (λ a to number. omega (arith, newest, to, own, next, ap (λ (x : PlainMessage). x.to) message)) in
          record {
            settled = settled_opened n m count slot d it.connections g low (it.numbers ∙ it.asked.numbers ∙ numbers_are)
                (asked_own it.o it.result it.asked ∙ own);
            slots = others_stay n m count slot d it.connections g (opens state (λ z. not_syn it.o.connection now (it.asked.syn z)) (none ∙ captures));
          })
    ]

pub event_leaves : (n m : AbstractNode) (count : ℕ) → count + 1 < 4294967296 → SlotsStep n m → IsSettled n count → EventLeaves n m (count + 1)
event_leaves n m count low does g =
    elim does [
      | still cs ns ↦ still_leaves n m count cs ns g
      | accepts_slot slot d is cs ns ↦ record {
        settled = settled_shut n m count slot d cs g ns is.ticket (ap (λ (v : State). is_open v) is.state);
        slots = others_stay n m count slot d cs g (begins is.state is.snapshots);
      }
      | moves_slot slot it ↦ moves_leaves n m count slot low it g
    ]

-- ---- a message is written, and its connection captures it

pub record WriteLeaves (n m : AbstractNode) (count slot : ℕ) (text : List ℕ) : Type 0 where
  pub settled : IsSettled m count
  pub here : messages_text (connection_in slot m).part.snapshots ≡ messages_text (connection_in slot n).part.snapshots ++ text
  pub established : (connection_in slot m).state ≡ SynRcvd → ⊥
  pub others : (at : ℕ) → (at ≡ slot → ⊥) → connection_in at m ≡ connection_in at n

next_count : (k : ℕ) → k % 4294967296 ≡ (k + 1) % 4294967296 → ⊥
next_count k e = omega (arith, e)

pub write_leaves : (n m : AbstractNode) (count slot taken : ℕ) (text : List ℕ) (last : Bool) → All IsByte text → can_write_in slot taken n ≡ true
    → MovesSlot (with_written (next_message slot taken text last n) n) m slot → HasCaptured (next_message slot taken text last n)
    (connection_in slot n) (connection_in slot m) → IsSettled n count
    → WriteLeaves n m (count + 1) slot text
write_leaves n m count slot taken text last bytes can it has g =
    let message : PlainMessage = next_message slot taken text last n in
    let w : AbstractNode = with_written message n in
    let c : Connection = connection_in slot n in
    let ready : IsReady c = ready_has c (and_parts (is_ready_at c) (nat_le taken (length (pending_of c.part))) can).0 in
    let d : Connection = it.result.connection in
    let back : message_in w.numbers ≡ message = message_back (opened_in n.numbers) message bytes in
    elim it.parts [
      | opened state now own captures numbers_are ↦ absurd (not_syn c ready.state state)
      | same own captures numbers_are opens_before asks syn ↦
          (let numbers : m.numbers ≡ w.numbers = it.numbers ∙ it.asked.numbers ∙ numbers_are in
          let newest : message_in m.numbers ≡ message = ap (λ (l : List ℕ). message_in l) numbers ∙ back in
          let count_is : opened_in m.numbers ≡ opened_in n.numbers = ap (λ (l : List ℕ). opened_in l) numbers in
          let own_is : d.part.own ≡ c.part.own = asked_own it.o it.result it.asked ∙ own in
          let few = g.few in
          let ticket = g.tickets slot in
          let is_open_now : is_open c.state ≡ true = ready.opened in
          let placed : connection_in slot m ≡ d = (elim (index_set n.connections slot d slot) [
            | new_at e v ↦ ap (λ (l : List Connection). slice_index_or l slot closed) it.connections ∙ v
            | old_at h v ↦ absurd (false≢true (subst (λ (x : Connection). is_open x.state ≡ true) (h refl) is_open_now))
          ]) in
          let more : length d.part.snapshots ≡ length c.part.snapshots + 1 =
          ap (λ (x : Connection). length x.part.snapshots) (sym placed) ∙ ap (λ (l : List Snapshot). length l) has.snapshots
          ∙ length-append c.part.snapshots (has.capture ∷ []) in
          record {
            settled = record {
              few = omega (arith, few, count_is);
              tickets =
                  subst (λ (l : List Connection). InEach (λ x. x.part.own ≤ opened_in m.numbers) l) (sym it.connections)
                  (each_set (λ x. x.part.own ≤ opened_in m.numbers) n.connections slot d (omega (arith, ticket, own_is, count_is))
                  (λ j. (let l = g.tickets j in omega (arith, l, count_is))));
              newest = (let to : (message_in m.numbers).to ≡ c.part.own = ap (λ (x : PlainMessage). x.to) newest in omega (arith, to, ticket, count_is));
              apart = subst AreApart (sym it.connections)
                  (apart_set n.connections slot d (λ j ne o p q. g.apart slot j (λ e. ne (sym e)) is_open_now p (sym own_is ∙ q)) g.apart);
              spent =
                  subst (λ (x : PlainMessage). InEach (IsSpent x) m.connections) (sym newest)
                  (subst (λ (l : List Connection). InEach (IsSpent message) l) (sym it.connections)
                  (λ j. spent_at n.connections slot d message is_open_now (λ o to number. next_count (length c.part.snapshots)
                  (number ∙ ap (λ (k : ℕ). k % 4294967296) more))
                  (λ i ne o to number. g.apart slot i ne is_open_now o to) j));
            };
            here = has.text;
            established = λ z. not_syn c ready.state (syn (it.asked.syn (ap (λ (x : Connection). x.state) (sym placed) ∙ z)));
            others = λ at ne. elim (index_set n.connections slot d at) [
              | new_at e v ↦ absurd (ne e)
              | old_at h v ↦ ap (λ (l : List Connection). slice_index_or l at closed) it.connections ∙ v
            ];
          })
    ]
  where
    spent_at : (cs : List Connection) (slot : ℕ) (d : Connection) (message : PlainMessage) → is_open (slice_index_or cs slot closed).state
        ≡ true → IsSpent message d
        → ((j : ℕ) → (slot ≡ j → ⊥) → IsSpent message (slice_index_or cs j closed)) → InEach (IsSpent message) (slice_set cs slot d)
    spent_at cs slot d message there new old j =
        elim (index_set cs slot d j) [
          | new_at e v ↦ subst (IsSpent message) (sym v) new
          | old_at h v ↦ subst (IsSpent message) (sym v)
              (λ o to number. old j (λ e. false≢true (subst (λ (x : Connection). is_open x.state ≡ true) (h (sym e)) o)) o to number)
        ]

-- ---- the text of a slot

-- It is what the program wrote, and nothing before the connection opens.
pub record HasWrittenText (c : Connection) (text : List ℕ) : Type 0 where
  pub text_is : messages_text c.part.snapshots ≡ text
  pub none : c.state ≡ SynRcvd → c.part.snapshots ≡ []

pub accepted_is : (st : State) → is_accepted st ≡ true → st ≡ SynRcvd
accepted_is SynRcvd e = refl
accepted_is Closed e = absurd (false≢true e)
accepted_is Established e = absurd (false≢true e)
accepted_is CloseWait e = absurd (false≢true e)
accepted_is FinWait1 e = absurd (false≢true e)
accepted_is FinWait2 e = absurd (false≢true e)
accepted_is Closing e = absurd (false≢true e)
accepted_is TimeWait e = absurd (false≢true e)
accepted_is LastAck e = absurd (false≢true e)

not_accepted : (st : State) → (st ≡ SynRcvd → ⊥) → is_accepted st ≡ false
not_accepted st none = both_ways (is_accepted st) (λ e. absurd (none (accepted_is st e))) (λ e. e)

-- after a call in which nothing was written to it
pub text_stays : (c d : Connection) (text : List ℕ) → SlotAfter c d → HasWrittenText c text → HasWrittenText d (if is_accepted d.state then [] else text ++ [])
text_stays c d text after h =
    elim after [
      | goes_on captures syn ↦ record {
        text_is = both_ways (is_accepted d.state)
            (λ e. ap (λ (l : List Snapshot). messages_text l) (captures ∙ h.none (syn (accepted_is d.state e)))
            ∙ sym (ap (λ (b : Bool). if b then [] else text ++ []) e))
            (λ e. ap (λ (l : List Snapshot). messages_text l) captures ∙ h.text_is ∙ sym (append-nil text)
            ∙ sym (ap (λ (b : Bool). if b then [] else text ++ []) e));
        none = λ z. captures ∙ h.none (syn z);
      }
      | opens state not_now captures ↦ record {
        text_is = ap (λ (l : List Snapshot). messages_text l) (captures ∙ sym (h.none state)) ∙ h.text_is ∙ sym (append-nil text)
            ∙ sym (ap (λ (b : Bool). if b then [] else text ++ []) (not_accepted d.state not_now));
        none = λ z. captures;
      }
      | begins state captures ↦ record {
        text_is = ap (λ (l : List Snapshot). messages_text l) captures ∙ sym (ap (λ (v : State). if is_accepted v then [] else text ++ []) state);
        none = λ z. captures;
      }
    ]

-- after a call that wrote to it
pub text_grows : (c d : Connection) (text more : List ℕ) → messages_text d.part.snapshots ≡ messages_text c.part.snapshots ++ more
    → (d.state ≡ SynRcvd → ⊥) → HasWrittenText c text
    → HasWrittenText d (if is_accepted d.state then [] else text ++ more)
text_grows c d text more grows not_now h = record {
  text_is = grows ∙ ap (λ (l : List ℕ). l ++ more) h.text_is ∙ sym (ap (λ (b : Bool). if b then [] else text ++ more) (not_accepted d.state not_now));
  none = λ z. absurd (not_now z);
}

pub same_slot : (c d : Connection) → d ≡ c → SlotAfter c d
same_slot c d e = goes_on (ap (λ (x : Connection). x.part.snapshots) e) (λ z. ap (λ (x : Connection). x.state) (sym e) ∙ z)

-- ---- of a node with an application that contains `OwnApp`

module _ (mine : ℕ → Bool) (seen : AppState → AppState) (own : List ℕ → List ℕ) (m : AppSpec) (contains : Contains mine seen own m) where
  abbrev pub View : AbstractNode → AbstractNode
  View n = view_node mine seen own n

  abbrev pub view_at : ℕ → AbstractNode → Connection
  view_at slot n = view mine seen own (connection_in slot n)

  seen_in : (n : AbstractNode) (slot : ℕ) → connection_in slot (View n) ≡ view_at slot n
  seen_in n slot = view_in mine seen own contains.fresh n slot

  -- each part is of a connection at its port, and each ticket is of 32 bits
  pub record Follows (n : AbstractNode) : Type 0 where
    pub at_port : InEach IsAtPort n.connections
    pub ticketed : InEach IsTicketed (View n).connections

  pub step_follows : (served : ℕ → Bool) (event : Event) (n : AbstractNode) → Follows n → Follows (step m served n event).node
  step_follows served event n f =
      let it = slots_step mine seen own m contains n f.at_port served event in
      record { at_port = it.1; ticketed = ticketed_on (View n) (View (step m served n event).node) it.0 f.ticketed }

  pub run_follows : (served : ℕ → Bool) (events : List Event) (n : AbstractNode) → Follows n → Follows (run m served events n).node
  run_follows served [] n f = f
  run_follows served (e ∷ es) n f = run_follows served es (step m served n e).node (step_follows served e n f)

  pub change_follows : (change : List ℕ → List ℕ) (n : AbstractNode) → Follows n → Follows (with_change change n)
  change_follows change n f = record { at_port = f.at_port; ticketed = f.ticketed }

  -- a node after `count` calls, and the text that was written to the connection in a slot
  pub record Holds (n : AbstractNode) (count slot : ℕ) (text : List ℕ) : Type 0 where
    pub settled : IsSettled (View n) count
    pub has : HasWrittenText (view_at slot n) text

  -- at first
  first_seen : (addr : Addr) (numbers : List ℕ) (slot : ℕ) → view_at slot (initial_node addr numbers) ≡ closed
  first_seen addr numbers slot = ap (λ (c : Connection). view mine seen own c) (each_closed 10 slot) ∙ view_closed mine seen own contains.fresh

  pub first_follows : (addr : Addr) (numbers : List ℕ) → Follows (initial_node addr numbers)
  first_follows addr numbers = record {
    at_port = first_at_port addr numbers;
    ticketed = λ slot. subst IsTicketed (sym (seen_in (initial_node addr numbers) slot ∙ first_seen addr numbers slot)) (omega arith);
  }

  pub first_holds : (addr : Addr) (numbers : List ℕ) → own numbers ≡ numbers_of 0 no_message → (slot : ℕ) → Holds (initial_node addr numbers) 0 slot []
  first_holds addr numbers own_is slot = record {
    settled = first_settled (View (initial_node addr numbers)) (λ at. seen_in (initial_node addr numbers) at ∙ first_seen addr numbers at) own_is;
    has = subst (λ (c : Connection). HasWrittenText c []) (sym (first_seen addr numbers slot)) record { text_is = refl; none = λ z. refl };
  }

  -- one call more, which wrote this text
  abbrev pub HoldsAfter : AbstractNode → ℕ → ℕ → List ℕ → Type 0
  HoldsAfter n count slot text = Holds n (count + 1) slot (if is_accepted (connection_in slot n).state then [] else text)

  -- the text by the connection that `OwnApp` sees
  by_view : (n : AbstractNode) (slot : ℕ) (text : List ℕ) → HasWrittenText (view_at slot n) (if is_accepted (view_at slot n).state then [] else text)
      → HasWrittenText (view_at slot n) (if is_accepted (connection_in slot n).state then [] else text)
  by_view n slot text h =
      subst (λ (b : Bool). HasWrittenText (view_at slot n) (if b then [] else text)) (view_accepted mine seen own (connection_in slot n)) h

  -- nothing is written
  stays_after : (n after : AbstractNode) (count slot : ℕ) (text : List ℕ) → IsSettled (View after) (count + 1)
      → SlotAfter (connection_in slot (View n)) (connection_in slot (View after)) → Holds n count slot text
      → HoldsAfter after count slot (text ++ [])
  stays_after n after count slot text settled slots h = record {
    settled = settled;
    has = by_view after slot (text ++ [])
        (text_stays (view_at slot n) (view_at slot after) text (subst (λ (c : Connection). SlotAfter c (view_at slot after))
        (seen_in n slot) (subst (λ (d : Connection). SlotAfter (connection_in slot (View n)) d) (seen_in after slot) slots))
        h.has);
  }

  pub events_leave : (served : ℕ → Bool) (events : List Event) → (events ≡ []) ⊎ ((e : Event) × (events ≡ e ∷ [])) → (n : AbstractNode)
      → Follows n → (count slot : ℕ) (text : List ℕ) → count + 1 < 4294967296
      → Holds n count slot text → HoldsAfter (run m served events n).node count slot (text ++ [])
  events_leave served events (inl none) n f count slot text low h =
      let left = still_leaves (View n) (View n) count refl refl h.settled in
      subst (λ (l : List Event). HoldsAfter (run m served l n).node count slot (text ++ [])) (sym none)
      (stays_after n n count slot text left.settled (left.slots slot) h)
  events_leave served events (inr one) n f count slot text low h =
      let after : AbstractNode = (step m served n one.0).node in
      let left = event_leaves (View n) (View after) count low (slots_step mine seen own m contains n f.at_port served one.0).0 h.settled in
      subst (λ (l : List Event). HoldsAfter (run m served l n).node count slot (text ++ [])) (sym one.1)
      (stays_after n after count slot text left.settled (left.slots slot) h)

  -- the numbers of another application change
  pub change_leaves : (change : List ℕ → List ℕ) (n : AbstractNode) (count slot : ℕ) (text : List ℕ) → own (change n.numbers)
      ≡ own n.numbers → Holds n count slot text → Holds (with_change change n) count slot text
  change_leaves change n count slot text others h = record {
    settled = subst (λ (l : List ℕ). IsSettled (record (View n) { numbers = l }) count) (sym others) h.settled;
    has = h.has;
  }

  -- a message is written to the connection in a slot, and the slot is called
  module _ (n : AbstractNode) (at taken : ℕ) (text : List ℕ) (last : Bool) (change : List ℕ → List ℕ) where
    abbrev message : PlainMessage
    message = next_message at taken text last (View n)

    abbrev wrote : AbstractNode
    wrote = (periodic m (with_change change n) at).node

    pub wrote_leaves : own (change n.numbers) ≡ (with_written message (View n)).numbers → Follows n → All IsByte text → can_write_in at taken (View n) ≡ true
        → HasCaptured message (connection_in at (View n)) (connection_in at (View wrote)) → (count slot : ℕ) (before : List ℕ) → Holds n count slot before
        → HoldsAfter wrote count slot (before ++ (if at == slot then text else []))
    wrote_leaves numbers f bytes can captured count slot before h =
        let moves : MovesSlot (with_written message (View n)) (View wrote) at =
        subst (λ (l : List ℕ). MovesSlot (record (View n) { numbers = l }) (View wrote) at) numbers
        (periodic_step mine seen own m contains (with_change change n) f.at_port at).0 in
        let left = write_leaves (View n) (View wrote) count at taken text last bytes can moves captured h.settled in
        both_ways (at == slot)
        (λ e. (let here : at ≡ slot = eqb-true at slot e in
        let grows : messages_text (connection_in slot (View wrote)).part.snapshots ≡ messages_text (connection_in slot (View n)).part.snapshots ++ text =
        subst (λ (k : ℕ). messages_text (connection_in k (View wrote)).part.snapshots ≡ messages_text
        (connection_in k (View n)).part.snapshots ++ text) here left.here in
        let not_now : (connection_in slot (View wrote)).state ≡ SynRcvd
        → ⊥ = subst (λ (k : ℕ). (connection_in k (View wrote)).state ≡ SynRcvd → ⊥) here left.established in
        record {
          settled = left.settled;
          has = by_view wrote slot (before ++ (if at == slot then text else []))
              (text_grows (view_at slot n) (view_at slot wrote) before (if at == slot then text else [])
              (ap (λ (c : Connection). messages_text c.part.snapshots) (sym (seen_in wrote slot)) ∙ grows
              ∙ ap (λ (c : Connection). messages_text c.part.snapshots ++ text) (seen_in n slot)
              ∙ ap (λ (b : Bool). messages_text (view_at slot n).part.snapshots ++ (if b then text else [])) (sym e))
              (λ z. not_now (ap (λ (c : Connection). c.state) (seen_in wrote slot) ∙ z)) h.has);
        }))
        (λ e. (let there : slot ≡ at → ⊥ = λ g. false≢true (sym e ∙ eq-eqb at slot (sym g)) in
        subst (λ (l : List ℕ). HoldsAfter wrote count slot (before ++ l)) (ap (λ (b : Bool). if b then text else []) (sym e))
        (stays_after n wrote count slot before left.settled (same_slot (connection_in slot (View n)) (connection_in slot (View wrote))
        (left.others slot there)) h)))

    -- by the connections that `OwnApp` sees before and after it
    module _ (c d : Connection) (before : connection_in at (View n) ≡ c) (after : connection_in at (View wrote) ≡ d) (f : Follows n)
        (bytes : All IsByte text) (can : can_write_at taken c ≡ true) where
      can_here : can_write_in at taken (View n) ≡ true
      can_here = ap (λ (x : Connection). can_write_at taken x) before ∙ can

      pub message_seen : IsMessage (next_message_at taken text last c)
      message_seen = subst (λ (x : Connection). IsMessage (next_message_at taken text last x)) before
          (message_fits at taken text last (View n) f.ticketed bytes can_here)

      pub wrote_seen : own (change n.numbers) ≡ write_message (next_message_at taken text last c) (own n.numbers)
          → HasCaptured (next_message_at taken text last c) c d → (count slot : ℕ) (text_before : List ℕ)
          → Holds n count slot text_before → HoldsAfter wrote count slot (text_before ++ (if at == slot then text else []))
      wrote_seen numbers captured =
          wrote_leaves (numbers ∙ ap (λ (x : Connection). write_message (next_message_at taken text last x) (own n.numbers)) (sym before)) f bytes can_here
          (subst (λ (x : Connection). HasCaptured (next_message_at taken text last x) x (connection_in at (View wrote))) (sym before)
          (subst (λ (y : Connection). HasCaptured (next_message_at taken text last c) c y) (sym after) captured))
