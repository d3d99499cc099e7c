-- The slots that are found in the code's table and in the abstract node's.
-- [add: state] Whether a slot in the state is found.
use Rattle.uip_node.proofs.Prelude.{ℕ, zero, suc, ◌≡◌, ◌+◌, ◌<◌, ◌&&◌, ◌==◌, Bool, true, false, not, max, List, [], ◌∷◌, length, Option}
use Rattle.uip_node.proofs.Prelude.{Some, None, ◌⊎◌, inl, inr, refl, sym, ap, ◌∙◌, subst, arith, nat_lt, if◌then◌else◌, slice_get, position}
use Rattle.uip_node.proofs.Prelude.{bytes_eq, position_or_len, lt-ltb, position-Some, get_or_from_slice_get, Ghosts, is_live, is_time_wait}
use Rattle.uip_node.proofs.Prelude.{State, TimeWait, is_at, has_waited, longest_wait, slot_by, Conn, Connection, Sockets, is_resting}
use Rattle.uip_node.proofs.Prelude.{serves, same_sockets, HasSoundNumbers, IsSound, LenFits, ConnRepresents, IsLike, PlainSegment}
use Rattle.uip_node.proofs.Prelude.{AbstractNode, arrives, arrives_at, opens, slot_for_syn, AllWellFormed, SlotsRepresent, seen, counters}
use Rattle.uip_node.proofs.Prelude.{Arrived, Represents, Steps, Node, option_or}
use Rattle.tcp_table.specs.Slots as table
use Rattle.tcp_machine.proofs.States.{by_state}
use Rattle.uip_node.proofs.Stepping.{represents_later}
use Rattle.uip_node.proofs.Twice.{recounted}

-- place by place the same
abbrev pub Agree : {X Y : Type 0} → (X → Bool) → (Y → Bool) → List X → List Y → Type 0
Agree {X} {Y} p q xs ys = (i : ℕ) (x : X) (y : Y) → slice_get xs i ≡ Some x → slice_get ys i ≡ Some y → p x ≡ q y

or_len_agrees : {X Y : Type 0} (p : X → Bool) (q : Y → Bool) (xs : List X) (ys : List Y) → length xs ≡ length ys → Agree p q xs ys
    → position_or_len p xs ≡ position_or_len q ys
or_len_agrees p q [] [] e h = refl
or_len_agrees p q [] (y ∷ ys) e h = absurd (omega (arith, e))
or_len_agrees p q (x ∷ xs) [] e h = absurd (omega (arith, e))
or_len_agrees p q (x ∷ xs) (y ∷ ys) e h =
    let head : p x ≡ q y = h 0 x y refl refl in
    let tail : position_or_len p xs ≡ position_or_len q ys = or_len_agrees p q xs ys (omega (arith, e)) (λ i a b k l. h (suc i) a b k l) in
    cc

pub position_agrees : {X Y : Type 0} (p : X → Bool) (q : Y → Bool) (xs : List X) (ys : List Y) → length xs ≡ length ys → Agree p q xs ys
    → position p xs ≡ position q ys
position_agrees p q xs ys e h =
    let same = or_len_agrees p q xs ys e h in
    cc

-- what is found is there
pub found : {X : Type 0} (p : X → Bool) (xs : List X) (i : ℕ) → position p xs ≡ Some i → (i < length xs) × ((x : X) → slice_get xs i ≡ Some x → p x ≡ true)
found p [] i h = cc
found p (y ∷ ys) i h =
    let t = position-Some p (y ∷ ys) i y h in
    (t.0, λ x at. sym (ap p (get_or_from_slice_get (y ∷ ys) i x y at)) ∙ t.1)

by_bool : {P : Type 0} (b : Bool) → (b ≡ true → P) → (b ≡ false → P) → P
by_bool true f g = f refl
by_bool false f g = g refl

some_is : {X : Type 0} (x y : X) → slice_get (x ∷ []) 0 ≡ Some y → x ≡ y
some_is x y h = cc

-- what passes is found
or_len_below : {X : Type 0} (p : X → Bool) (xs : List X) (i : ℕ) (x : X) → slice_get xs i ≡ Some x → p x ≡ true → position_or_len p xs < length xs
or_len_below p [] i x at passes = cc
or_len_below p (y ∷ ys) zero x at passes =
    let e : p y ≡ true = ap p (some_is y x at) ∙ passes in
    let z : position_or_len p (y ∷ ys) ≡ 0 = cc in
    omega (arith, z)
or_len_below p (y ∷ ys) (suc i) x at passes =
    let rest : position_or_len p ys < length ys = or_len_below p ys i x at passes in
    by_bool (p y) (λ t. let z : position_or_len p (y ∷ ys) ≡ 0 = cc in omega (arith, z)) (λ f. let z : position_or_len p (y ∷ ys)
    ≡ 1 + position_or_len p ys = cc in omega (arith, z, rest))

found_where : {X : Type 0} (p : X → Bool) (xs : List X) (i : ℕ) (x : X) → slice_get xs i ≡ Some x → p x ≡ true → position p xs ≡ None → ⊥
found_where p xs i x at passes h =
    let below : nat_lt (position_or_len p xs) (length xs) ≡ true = lt-ltb (position_or_len p xs) (length xs) (or_len_below p xs i x at passes) in
    let e : position p xs ≡ Some (position_or_len p xs) = cc in
    cc

pub not_found : {X : Type 0} (p : X → Bool) (xs : List X) → position p xs ≡ None → (i : ℕ) (x : X) → slice_get xs i ≡ Some x → p x ≡ false
not_found {X} p xs h i x at = by_bool (p x) (λ passes. absurd (found_where p xs i x at passes h)) (λ fails. fails)

live_at : {A : Type 0} (c : Conn A) (a : Connection) (s : Sockets) → IsLike c a → c.state ≡ a.state → is_at s.peer s.peer_port s.own_port c ≡ serves s a
live_at c a s l e =
    let peer = l.peer in
    let peer_port = l.peer_port in
    let own_port = l.own_port in
    cc

dead_at : {A : Type 0} (c : Conn A) (a : Connection) (s : Sockets) → c.state ≡ a.state → is_live a.state ≡ false
    → is_at s.peer s.peer_port s.own_port c ≡ serves s a
dead_at c a s e dead =
    let f : is_live c.state ≡ false = ap is_live e ∙ dead in
    ap (λ (b : Bool). b && (bytes_eq c.peer.0 s.peer.0 && ((c.peer_port.0 == s.peer_port.0) && (c.own_port.0 == s.own_port.0)))) f
    ∙ sym (ap (λ (b : Bool). b && same_sockets a.sockets s) dead)

at_serves : {A S : Type 0} (g : Ghosts A S) (k : g.Config) (c : Conn A) (a : Connection) (s : Sockets) → ConnRepresents g k c a
    → is_at s.peer s.peer_port s.own_port c ≡ serves s a
at_serves g k c a s h =
    by_bool (is_live a.state) (λ live. live_at c a s (h.numbers.like live) h.numbers.state) (λ dead. dead_at c a s h.numbers.state dead)

pub find_agrees : {A S : Type 0} (g : Ghosts A S) (k : g.Config) (cs : List (Conn A)) (abstracts : List Connection) (s : Sockets)
    → SlotsRepresent g k cs abstracts →
    position (is_at s.peer s.peer_port s.own_port) cs ≡ position (serves s) abstracts
find_agrees g k cs abstracts s h =
    position_agrees (is_at s.peer s.peer_port s.own_port) (serves s) cs abstracts (sym h.same_length)
    (λ i c a at there. at_serves g k c a s (h.each i c a at there))

waits_alone : (state : State) → is_time_wait state ≡ true → state ≡ TimeWait
waits_alone state = by_state (λ s. is_time_wait s ≡ true → s ≡ TimeWait) (λ t. cc) (λ t. cc) (λ t. cc) (λ t. cc) (λ t. cc) (λ t. cc)
    (λ t. cc) (λ t. refl) (λ t. cc) state

-- in TIME-WAIT the timer counts the age
pub age_counted : {A S : Type 0} (g : Ghosts A S) (k : g.Config) (c : Conn A) (a : Connection) → ConnRepresents g k c a → IsSound g k c
    → is_time_wait a.state ≡ true → c.timer.count ≡ a.age
age_counted g k c a h sound t =
    let waits : a.state ≡ TimeWait = waits_alone a.state t in
    let live : is_live a.state ≡ true = ap is_live waits in
    let numbers : HasSoundNumbers c = sound.numbers (ap is_live h.numbers.state ∙ live) in
    let len : c.len ≡ 0 = subst (λ (s : State). LenFits s c.len) (h.numbers.state ∙ waits) numbers.len in
    (h.numbers.like live).timer.counts (sym (h.numbers.like live).len ∙ len) ∙ ap (λ (s : State). if is_resting s then a.age else 0) waits

if_waits : (b : Bool) (x y t : ℕ) → (b ≡ true → x ≡ y) → (b && (x == t)) ≡ (b && (y == t))
if_waits true x y t h = ap (λ (n : ℕ). n == t) (h refl)
if_waits false x y t h = refl

waited_agrees : {A S : Type 0} (g : Ghosts A S) (k : g.Config) (t : ℕ) (c : Conn A) (a : Connection) → ConnRepresents g k c a
    → IsSound g k c → has_waited t c ≡ (is_time_wait a.state && (a.age == t))
waited_agrees g k t c a h sound =
    ap (λ (s : State). is_time_wait s && (c.timer.count == t)) h.numbers.state
    ∙ if_waits (is_time_wait a.state) c.timer.count a.age t (age_counted g k c a h sound)

greater : (b : Bool) (x y rest more : ℕ) → (b ≡ true → x ≡ y) → rest ≡ more → max (if b then x else 0) rest ≡ max (if b then y else 0) more
greater true x y rest more h e = let same = h refl in cc
greater false x y rest more h e = cc

longest_agrees : {A S : Type 0} (g : Ghosts A S) (k : g.Config) (cs : List (Conn A)) (abstracts : List Connection) → length cs ≡ length abstracts →
    ((i : ℕ) (c : Conn A) (a : Connection) → slice_get cs i ≡ Some c → slice_get abstracts i ≡ Some a → ConnRepresents g k c a
    × IsSound g k c) → table.longest_rest cs ≡ longest_wait (λ (a : Connection). a.state) (λ (a : Connection). a.age) abstracts
longest_agrees g k [] [] e h = refl
longest_agrees g k [] (a ∷ abstracts) e h = absurd (omega (arith, e))
longest_agrees g k (c ∷ cs) [] e h = absurd (omega (arith, e))
longest_agrees g k (c ∷ cs) (a ∷ abstracts) e h =
    let here = h 0 c a refl refl in
    let rest = longest_agrees g k cs abstracts (omega (arith, e)) (λ i d b at there. h (suc i) d b at there) in
    ap (λ (s : State). max (if is_time_wait s then c.timer.count else 0) (table.longest_rest cs)) here.0.numbers.state
    ∙ greater (is_time_wait a.state) c.timer.count a.age (table.longest_rest cs)
    (longest_wait (λ (a : Connection). a.state) (λ (a : Connection). a.age) abstracts) (age_counted g k c a here.0 here.1) rest

pub slot_agrees : {A S : Type 0} (g : Ghosts A S) (k : g.Config) (cs : List (Conn A)) (abstracts : List Connection)
    → SlotsRepresent g k cs abstracts → AllWellFormed g k cs → table.slot_to_take cs ≡ slot_for_syn abstracts
slot_agrees {A} g k cs abstracts h kept =
    let size : length cs ≡ length abstracts = sym h.same_length in
    let free = position_agrees (λ (c : Conn A). not (is_live c.state)) (λ (a : Connection). not (is_live a.state)) cs abstracts size
    (λ i c a at there. ap (λ (s : State). not (is_live s)) (h.each i c a at there).numbers.state) in
    let longest = longest_agrees g k cs abstracts size (λ i c a at there. (h.each i c a at there, (kept i c at).sound)) in
    let waits = position_agrees (has_waited (table.longest_rest cs)) (λ (a : Connection). is_time_wait a.state
    && (a.age == table.longest_rest cs)) cs abstracts size
    (λ i c a at there. waited_agrees g k (table.longest_rest cs) c a (h.each i c a at there) (kept i c at).sound) in
    ap (λ (o : Option ℕ). option_or o (position (has_waited (table.longest_rest cs)) cs)) free
    ∙ ap (option_or (position (λ (a : Connection). not (is_live a.state)) abstracts))
    (waits ∙ ap (λ (n : ℕ). position (λ (a : Connection). is_time_wait a.state && (a.age == n)) abstracts) longest)

option_or_some : (o other : Option ℕ) (i : ℕ) → option_or o other ≡ Some i → (o ≡ Some i) ⊎ (other ≡ Some i)
option_or_some (Some j) other i h = inl h
option_or_some None other i h = inr h

-- a slot that is found is one of the table's
within : {C : Type 0} (state : C → State) (ticks : C → ℕ) (cs : List C) (i : ℕ) → slot_by state ticks cs ≡ Some i → i < length cs
within {C} state ticks cs i h =
    let free : C → Bool = λ c. not (is_live (state c)) in
    let rested : C → Bool = λ c. is_time_wait (state c) && (ticks c == longest_wait state ticks cs) in
    elim (option_or_some (position free cs) (position rested cs) i h) [
      | inl e ↦ (found free cs i e).0
      | inr e ↦ (found rested cs i e).0
    ]

pub slot_within : {A : Type 0} (cs : List (Conn A)) (i : ℕ) → table.slot_to_take cs ≡ Some i → i < length cs
slot_within cs i h = within (λ c. c.state) (λ c. c.timer.count) cs i h

pub syn_slot_within : (cs : List Connection) (i : ℕ) → slot_for_syn cs ≡ Some i → i < length cs
syn_slot_within cs i h = within (λ c. c.state) (λ c. c.age) cs i h

-- a segment is delivered to the slot that the code's table has for it
pub arrives_by : {A S : Type 0} (g : Ghosts A S) (k : g.Config) (cs : List (Conn A)) (n : AbstractNode) (s : Sockets) (seg : PlainSegment)
    (o : Option ℕ) (node : Node A S) (result : Option ℕ) →
    SlotsRepresent g k cs n.connections → position (is_at s.peer s.peer_port s.own_port) cs ≡ o
    → Steps g node result (arrives_at (g.app_spec k) g.served n s seg o) → Steps g node result (arrives (g.app_spec k) g.served n s seg)
arrives_by g k cs n s seg o node result stand here steps =
    subst (λ (x : Option ℕ). Steps g node result (arrives_at (g.app_spec k) g.served n s seg x)) (sym here ∙ find_agrees g k cs n.connections s stand) steps

-- a segment was counted, and is delivered to the slot that the code's table has for it
pub arrived : {A S : Type 0} (g : Ghosts A S) (now : Node A S) (n : AbstractNode) (s : Sockets) (seg : PlainSegment) (o : Option ℕ)
    (net : List ℕ) (node : Node A S) (result : Option ℕ) →
    Represents g now n n.history → position (is_at s.peer s.peer_port s.own_port) now.table.conns ≡ o → net ≡ counters (seen (Arrived s seg) n.history) →
    (Represents g (record now { counts = record now.counts { net = net } }) n (seen (Arrived s seg) n.history)
    → Steps g node result (arrives_at (g.app_spec (g.config now.shared)) g.served n s seg o)) →
    Steps g node result (arrives (g.app_spec (g.config now.shared)) g.served n s seg)
arrived g now n s seg o net node result h here e steps =
    arrives_by g (g.config now.shared) now.table.conns n s seg o node result h.slots here
    (steps (represents_later g now now.packet (record now.counts { net = net }) n n.history (seen (Arrived s seg) n.history) n.history h
    h.iss (recounted (Arrived s seg) n.history now.counts net refl h.counts e)))

-- a plain SYN takes the slot that the code's table has for it
pub opens_by : {A S : Type 0} (g : Ghosts A S) (k : g.Config) (cs : List (Conn A)) (n : AbstractNode) (s : Sockets) (seg : PlainSegment)
    (o : Option ℕ) (node : Node A S) (result : Option ℕ) →
    SlotsRepresent g k cs n.connections → AllWellFormed g k cs → table.slot_to_take cs ≡ o
    → Steps g node result (opens (g.app_spec k) n s seg o) → Steps g node result (opens (g.app_spec k) n s seg (slot_for_syn n.connections))
opens_by g k cs n s seg o node result stand kept here steps =
    subst (λ (x : Option ℕ). Steps g node result (opens (g.app_spec k) n s seg x)) (sym here ∙ slot_agrees g k cs n.connections stand kept) steps
