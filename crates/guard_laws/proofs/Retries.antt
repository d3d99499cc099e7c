-- What is outstanding on the wire is outstanding at the node, and its retransmission is one on the wire.
use Rattle.std.proofs.Common.{◌≡◌, ℕ, zero, suc, ◌+◌, ◌≤◌, ◌==◌, false, List, [], ◌∷◌, ◌++◌, map, take, All}
use Rattle.std.proofs.Common.{Option, Some, None, option_map, if◌then◌else◌, refl, sym, ap, ◌∙◌, subst, arith}
use Rattle.std.specs.Prelude.{slice_get}
use Rattle.std.specs.Option.{option_map_or}
use Rattle.std.proofs.lemmas.List.Elements.{All-cons, All-head, All-nil, All-tail}
use Rattle.uip_wire.specs.Prelude.{wrap}
use Rattle.tcp_segment.specs.Prelude.{PlainSegment}
use Rattle.tcp_machine.specs.Prelude.{Sockets, occupies_sequence_space}
use Rattle.uip_node.specs.Prelude.{Event, called_by}
use Rattle.uip_node.specs.Events.Event.{IpRefused, IcmpRefused, TcpRefused, EchoAsked, Arrived, Overlong, Periodic}
use Rattle.node_laws.specs.Asked.{IsWithoutReset}
use Rattle.node_laws.specs.HonestPeers.{calls_of}
use Rattle.node_laws.specs.Promise.{sequence_length}
use Rattle.node_laws.specs.Timers.{IsOutstanding, IsRetried, RetriesIn}
use Rattle.node_laws.specs.Timers.IsRetried.{given_up, sent_again}
use Rattle.node_laws.specs.Traces.{Exchange, TraceEntry, exchanges_with, received_at, received_from, sent_at}
use Rattle.guard_laws.specs.Shifted.{IsShift, entry_on_wire, event_on_wire, on_wire, received_shifted, reply_on_wire, sent_shifted}
use Rattle.guard_laws.proofs.Wire.{exchanges_are, received_is}

-- ---- parts of a trace that was mapped

record Parts (shift : Sockets → ℕ) (trace first second : List TraceEntry) : Type 0 where
  left : List TraceEntry
  right : List TraceEntry
  is : trace ≡ left ++ right
  first_is : first ≡ map (entry_on_wire shift) left
  second_is : second ≡ map (entry_on_wire shift) right

both_of : (a b : TraceEntry) (xs ys : List TraceEntry) → a ∷ xs ≡ b ∷ ys → (a ≡ b) × (xs ≡ ys)
both_of a b xs ys e = (cc, cc)

parts : (shift : Sockets → ℕ) (trace first second : List TraceEntry) → map (entry_on_wire shift) trace ≡ first ++ second → Parts shift trace first second
parts shift trace [] second e = record { left = []; right = trace; is = refl; first_is = refl; second_is = sym e }
parts shift [] (a ∷ first) second e = cc
parts shift (t ∷ trace) (a ∷ first) second e =
    let two = both_of (entry_on_wire shift t) a (map (entry_on_wire shift) trace) (first ++ second) e in
    let rest = parts shift trace first second two.1 in
    record {
      left = t ∷ rest.left;
      right = rest.right;
      is = ap (λ (l : List TraceEntry). t ∷ l) rest.is;
      first_is = ap (λ (y : TraceEntry). y ∷ first) (sym two.0) ∙ ap (λ (l : List TraceEntry). entry_on_wire shift t ∷ l) rest.first_is;
      second_is = rest.second_is;
    }

-- ---- what is outstanding

record SentBy (f : ℕ) (o : Option PlainSegment) (s : PlainSegment) : Type 0 where
  segment : PlainSegment
  is : o ≡ Some segment
  shifted : s ≡ sent_shifted f segment

sent_by : (f : ℕ) (o : Option PlainSegment) (s : PlainSegment) → option_map (sent_shifted f) o ≡ Some s → SentBy f o s
sent_by f None s e = cc
sent_by f (Some t) s e = let same : sent_shifted f t ≡ s = cc in record { segment = t; is = refl; shifted = sym same }

sent_on : (f : ℕ) (xs : List Exchange) (k : ℕ) → sent_at (map (on_wire f) xs) k ≡ option_map (sent_shifted f) (sent_at xs k)
sent_on f [] k = refl
sent_on f (x ∷ xs) zero = refl
sent_on f (x ∷ xs) (suc k) = sent_on f xs k

received_on : (f : ℕ) (xs : List Exchange) (k : ℕ) → received_at (map (on_wire f) xs) k ≡ option_map (received_shifted f) (received_at xs k)
received_on f [] k = refl
received_on f (x ∷ xs) zero = refl
received_on f (x ∷ xs) (suc k) = received_on f xs k

unreset_back : (f : ℕ) (x : Exchange) → IsWithoutReset (on_wire f x) → IsWithoutReset x
unreset_back f x w = record {
  received = λ t e. w.received (received_shifted f t) (ap (option_map (received_shifted f)) e);
  output = λ t e. w.output (sent_shifted f t) (ap (option_map (sent_shifted f)) e);
}

all_unreset_back : (f : ℕ) (n : ℕ) (xs : List Exchange) → All IsWithoutReset (take n (map (on_wire f) xs)) → All IsWithoutReset (take n xs)
all_unreset_back f zero xs w = All-nil IsWithoutReset
all_unreset_back f (suc n) [] w = All-nil IsWithoutReset
all_unreset_back f (suc n) (x ∷ xs) w =
    All-cons IsWithoutReset x (take n xs) (unreset_back f x (All-head IsWithoutReset (on_wire f x) (take n (map (on_wire f) xs)) w))
    (all_unreset_back f n xs (All-tail IsWithoutReset (on_wire f x) (take n (map (on_wire f) xs)) w))

both_shifted : (ack seq len f : ℕ) → ack ≡ wrap (seq + len) → wrap (ack + f) ≡ wrap (wrap (seq + f) + len)
both_shifted ack seq len f e = omega (arith, e)

outstanding_back : (f : ℕ) (xs wire : List Exchange) (s : PlainSegment) → wire ≡ map (on_wire f) xs → (o : IsOutstanding wire s)
    → SentBy f (sent_at xs o.place) s
outstanding_back f xs wire s same o =
    sent_by f (sent_at xs o.place) s (sym (sent_on f xs o.place) ∙ sym (ap (λ (l : List Exchange). sent_at l o.place) same) ∙ o.output)

is_outstanding : (f : ℕ) (xs wire : List Exchange) (s : PlainSegment) (same : wire ≡ map (on_wire f) xs) (o : IsOutstanding wire s)
    (b : SentBy f (sent_at xs o.place) s) → IsOutstanding xs b.segment
is_outstanding f xs wire s same o b = record {
  place = o.place;
  output = b.is;
  placed = sym (ap (λ (t : PlainSegment). occupies_sequence_space t) b.shifted) ∙ o.placed;
  unacked = λ k t before is acks exact.
      o.unacked k (received_shifted f t) before
      (ap (λ (l : List Exchange). received_at l k) same ∙ (received_on f xs k ∙ ap (option_map (received_shifted f)) is)) acks
      (both_shifted t.ack b.segment.seq (sequence_length b.segment) f exact ∙ sym (ap (λ (u : PlainSegment). wrap (u.seq + sequence_length u)) b.shifted));
  unreset = all_unreset_back f o.place xs (subst (λ (l : List Exchange). All IsWithoutReset (take o.place l)) same o.unreset);
}

-- ---- while nothing is received

none_back : (f : ℕ) (o : Option PlainSegment) → option_map (received_shifted f) o ≡ None → o ≡ None
none_back f None e = refl
none_back f (Some s) e = cc

abbrev Silent : Sockets → TraceEntry → Type 0
Silent p t = received_from p t.event ≡ None

silent_back : (shift : Sockets → ℕ) → IsShift shift → (p : Sockets) (trace : List TraceEntry)
    → All (Silent p) (map (entry_on_wire shift) trace) → All (Silent p) trace
silent_back shift is p [] w = All-nil (Silent p)
silent_back shift is p (t ∷ trace) w =
    All-cons (Silent p) t trace
    (none_back (shift p) (received_from p t.event) (sym (received_is shift is p t.event) ∙ All-head (Silent p) (entry_on_wire shift t)
    (map (entry_on_wire shift) trace) w))
    (silent_back shift is p trace (All-tail (Silent p) (entry_on_wire shift t) (map (entry_on_wire shift) trace) w))

called_on : (shift : Sockets → ℕ) (e : Event) → called_by (event_on_wire shift e) ≡ called_by e
called_on shift (IpRefused fate) = refl
called_on shift (IcmpRefused fate) = refl
called_on shift (TcpRefused fate) = refl
called_on shift (EchoAsked datagram) = refl
called_on shift (Arrived sockets s) = refl
called_on shift Overlong = refl
called_on shift (Periodic slot) = refl

calls_on : (shift : Sockets → ℕ) (slot : ℕ) (trace : List TraceEntry) → calls_of slot (map (entry_on_wire shift) trace) ≡ calls_of slot trace
calls_on shift slot [] = refl
calls_on shift slot (t ∷ trace) =
    ap (λ (o : Option ℕ). if option_map_or (λ place. place == slot) o false then calls_of slot (map (entry_on_wire shift) trace) + 1 else
    calls_of slot (map (entry_on_wire shift) trace)) (called_on shift t.event)
    ∙ ap (λ (n : ℕ). if option_map_or (λ place. place == slot) (called_by t.event) false then n + 1 else n) (calls_on shift slot trace)

-- ---- the retransmission

entry_at : (shift : Sockets → ℕ) (trace : List TraceEntry) (k : ℕ) (t : TraceEntry) → slice_get trace k ≡ Some t
    → slice_get (map (entry_on_wire shift) trace) k ≡ Some (entry_on_wire shift t)
entry_at shift [] k t e = cc
entry_at shift (x ∷ trace) zero t e = ap (option_map (entry_on_wire shift)) e
entry_at shift (x ∷ trace) (suc k) t e = entry_at shift trace k t e

retried_on : (shift : Sockets → ℕ) (p : Sockets) (s : PlainSegment) (t : TraceEntry) → IsRetried p s t
    → IsRetried p (sent_shifted (shift p) s) (entry_on_wire shift t)
retried_on shift p s t h = elim h [
  | sent_again id u is seq alike ↦ sent_again id (sent_shifted (shift p) u) (ap (option_map (reply_on_wire shift)) is)
      (ap (λ (n : ℕ). wrap (n + shift p)) seq) (record { flags = alike.flags; text = alike.text })
  | given_up id u is rst ↦ given_up id (sent_shifted (shift p) u) (ap (option_map (reply_on_wire shift)) is) rst
]

pub retries_on : (shift : Sockets → ℕ) → IsShift shift → (trace : List TraceEntry) → RetriesIn trace → RetriesIn (map (entry_on_wire shift) trace)
retries_on shift is trace all p s before waiting later split outstanding silent calls =
    let f : ℕ = shift p in
    let h = parts shift trace before (waiting ++ later) split in
    let g = parts shift h.right waiting later (sym h.second_is) in
    let same : exchanges_with p before ≡ map (on_wire f) (exchanges_with p h.left) =
    ap (λ (l : List TraceEntry). exchanges_with p l) h.first_is ∙ exchanges_are shift is p h.left in
    let b = outstanding_back f (exchanges_with p h.left) (exchanges_with p before) s same outstanding in
    let r = all p b.segment h.left g.left g.right (h.is ∙ ap (λ (l : List TraceEntry). h.left ++ l) g.is)
    (is_outstanding f (exchanges_with p h.left) (exchanges_with p before) s same outstanding b)
    (silent_back shift is p g.left (subst (λ (l : List TraceEntry). All (Silent p) l) g.first_is silent))
    (λ slot low. subst (λ (n : ℕ). 49 ≤ n) (ap (λ (l : List TraceEntry). calls_of slot l) g.first_is ∙ calls_on shift slot g.left) (calls slot low)) in
    record {
      place = r.place;
      turn = entry_on_wire shift r.turn;
      there = ap (λ (l : List TraceEntry). slice_get l r.place) g.first_is ∙ entry_at shift g.left r.place r.turn r.there;
      retried = subst (λ (t : PlainSegment). IsRetried p t (entry_on_wire shift r.turn)) (sym b.shifted) (retried_on shift p b.segment r.turn r.retried);
    }
