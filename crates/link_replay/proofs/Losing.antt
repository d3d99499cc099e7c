-- An abstract step writes at most one slot, and a slot that lost its owner is that of the connection that became CLOSED.
use Rattle.link_replay.proofs.Prelude.{◌≡◌, ℕ, zero, suc, Bool, true, false, not, if◌then◌else◌, ◌&&◌, ◌==◌, List, [], ◌∷◌, length, map}
use Rattle.link_replay.proofs.Prelude.{set, refl, sym, ap, ◌∙◌, arith, Option, Some, None, position, slice_get, slice_index_or}
use Rattle.link_replay.proofs.Prelude.{PlainSegment, has_rst, AppSpec, Ghosts, is_at, Conn, Sockets, Connection, closed, is_live, serves}
use Rattle.link_replay.proofs.Prelude.{Outcome, asked, accepted, on_segment, on_tick, is_plain_syn, ConnRepresents, initial_number, Event}
use Rattle.link_replay.proofs.Prelude.{IpRefused, IcmpRefused, TcpRefused, EchoAsked, Arrived, Overlong, Periodic, AbstractNode, NodeStep}
use Rattle.link_replay.proofs.Prelude.{arrives_at, connection_in, for_no_connection, gone_by, happened, snapshot, opens, opens_in}
use Rattle.link_replay.proofs.Prelude.{slot_for_syn, step, SlotsRepresent, both_ways, choose, asked_keeps, on_segment_keeps, on_tick_keeps}
use Rattle.link_replay.proofs.Prelude.{flip, not_peer, serves_dead, serves_yes, Free, find_is, finds, finds_none, gone_pair, lost, lost_at}
use Rattle.link_replay.proofs.Prelude.{or_pair, owner, owner_in, pair_at, sockets_at, SocketPair}
use Rattle.std.proofs.Common.{bytes_eq}

-- an owner whose slot has this connection now, which does not serve it
abbrev left_by : Option SocketPair → Connection → Option SocketPair
left_by None c = None
left_by (Some pair) c = if serves (sockets_at pair) c then None else Some pair

-- the first such, by the slots
abbrev left : List (Option SocketPair) → List Connection → Option SocketPair
left [] cs = None
left (pair ∷ pairs) [] = None
left (pair ∷ pairs) (c ∷ cs) = or_pair (left_by pair c) (left pairs cs)

or_none : (o : Option SocketPair) → or_pair o None ≡ o
or_none None = refl
or_none (Some pair) = refl

owner_live : (c : Connection) → is_live c.state ≡ true → owner c ≡ Some (pair_at c.sockets)
owner_live c e = ap (λ (b : Bool). if b then Some (pair_at c.sockets) else None) e

owner_dead : (c : Connection) → is_live c.state ≡ false → owner c ≡ None
owner_dead c e = ap (λ (b : Bool). if b then Some (pair_at c.sockets) else None) e

left_if : (p : SocketPair) (c : Connection) (b : Bool) → serves (sockets_at p) c ≡ b → left_by (Some p) c ≡ (if b then None else Some p)
left_if p c b e = ap (λ (x : Bool). if x then None else Some p) e

-- a connection that stays leaves nothing
left_same : (c : Connection) → left_by (owner c) c ≡ None
left_same c =
    both_ways (is_live c.state)
    (λ e. ap (λ (o : Option SocketPair). left_by o c) (owner_live c e) ∙ left_if (pair_at c.sockets) c true (serves_yes c.sockets c e refl))
    (λ e. ap (λ (o : Option SocketPair). left_by o c) (owner_dead c e))

left_none : (cs : List Connection) → left (map owner cs) cs ≡ None
left_none [] = refl
left_none (c ∷ cs) = ap (λ (o : Option SocketPair). or_pair o (left (map owner cs) cs)) (left_same c) ∙ left_none cs

-- where one slot is written, what is left is what that slot's owner left
left_set : (cs : List Connection) (slot : ℕ) (new : Connection) → left (map owner cs) (set cs slot new) ≡ left_by (owner (slice_index_or cs slot closed)) new
left_set [] slot new = refl
left_set (c ∷ cs) zero new = ap (or_pair (left_by (owner c) new)) (left_none cs) ∙ or_none (left_by (owner c) new)
left_set (c ∷ cs) (suc slot) new = ap (λ (o : Option SocketPair). or_pair o (left (map owner cs) (set cs slot new))) (left_same c) ∙ left_set cs slot new

-- what a step leaves is what is gone
abbrev Leaves : AbstractNode → NodeStep → Type 0
Leaves n r = left (map owner n.connections) r.node.connections ≡ gone_pair r.gone

by_dead : (old new : Connection) → is_live old.state ≡ false → left_by (owner old) new ≡ gone_pair (gone_by old new)
by_dead old new e =
    ap (λ (o : Option SocketPair). left_by o new) (owner_dead old e)
    ∙ sym (ap (λ (b : Bool). gone_pair (if b && not (is_live new.state) then Some new else None)) e)

by_live : (old new : Connection) (incarnations : Bool) → is_live old.state ≡ true → is_live new.state ≡ incarnations
    → new.sockets ≡ old.sockets → left_by (owner old) new ≡ gone_pair (gone_by old new)
by_live old new true e f s =
    ap (λ (o : Option SocketPair). left_by o new) (owner_live old e)
    ∙ left_if (pair_at old.sockets) new true (serves_yes old.sockets new f s)
    ∙ sym (ap (λ (b : Bool). gone_pair (if is_live old.state && not b then Some new else None)) f
    ∙ ap (λ (b : Bool). gone_pair (if b && false then Some new else None)) e)
by_live old new false e f s =
    ap (λ (o : Option SocketPair). left_by o new) (owner_live old e)
    ∙ left_if (pair_at old.sockets) new false (serves_dead old.sockets new f)
    ∙ sym (ap (λ (b : Bool). gone_pair (if is_live old.state && not b then Some new else None)) f
    ∙ ap (λ (b : Bool). gone_pair (if b && true then Some new else None)) e
    ∙ ap (λ (p : Sockets). Some (pair_at p)) s)

left_gone : (old new : Connection) → new.sockets ≡ old.sockets → left_by (owner old) new ≡ gone_pair (gone_by old new)
left_gone old new s = both_ways (is_live old.state) (λ e. by_live old new (is_live new.state) e refl s) (λ e. by_dead old new e)

happened_leaves : (m : AppSpec) (n : AbstractNode) (event : Event) (slot : ℕ) (o : Outcome) → o.connection.sockets
    ≡ (connection_in slot n).sockets → Leaves n (happened m n event slot (connection_in slot n) o)
unfolding happened
happened_leaves m n event slot o s = left_set n.connections slot o.connection ∙ left_gone (connection_in slot n) o.connection s

-- no connection of a slot serves sockets that none serves
free_in : (p : Sockets) (cs : List Connection) (slot : ℕ) → Free p cs → serves p (slice_index_or cs slot closed) ≡ false
free_in p [] slot f = refl
free_in p (c ∷ cs) zero f = f zero c refl
free_in p (c ∷ cs) (suc slot) f = free_in p cs slot (λ k x g. f (suc k) x g)

opened_leaves : (m : AppSpec) (n : AbstractNode) (sockets : Sockets) (s : PlainSegment) (slot : ℕ) → Free sockets n.connections
    → Leaves n (opens_in m n sockets s slot)
unfolding opens_in happened
opened_leaves m n sockets s slot f =
    let old : Connection = connection_in slot n in
    let new : Connection = accepted (initial_number n.history) sockets s in
    left_set n.connections slot new
    ∙ both_ways (is_live old.state)
    (λ e. (let other : serves old.sockets new ≡ false = flip old.sockets sockets (not_peer sockets old e (free_in sockets n.connections slot f)) in
    ap (λ (o : Option SocketPair). left_by o new) (owner_live old e)
    ∙ left_if (pair_at old.sockets) new false other
    ∙ sym (ap (λ (b : Bool). gone_pair (if b then Some old else None)) e)))
    (λ e. ap (λ (o : Option SocketPair). left_by o new) (owner_dead old e) ∙ sym (ap (λ (b : Bool). gone_pair (if b then Some old else None)) e))

opens_leaves : (m : AppSpec) (n : AbstractNode) (sockets : Sockets) (s : PlainSegment) (slot : Option ℕ) → Free sockets n.connections
    → Leaves n (opens m n sockets s slot)
opens_leaves m n sockets s None f = left_none n.connections
opens_leaves m n sockets s (Some slot) f = opened_leaves m n sockets s slot f

stranger_leaves : (m : AppSpec) (served : ℕ → Bool) (n : AbstractNode) (sockets : Sockets) (s : PlainSegment) → Free sockets n.connections
    → Leaves n (for_no_connection m served n sockets s)
unfolding for_no_connection
stranger_leaves m served n sockets s f =
    choose (λ (r : NodeStep). Leaves n r) (is_plain_syn s && served sockets.own_port.0) _ _ (λ e. opens_leaves m n sockets s (slot_for_syn n.connections) f)
    (λ e. choose (λ (r : NodeStep). Leaves n r) (has_rst s.flags) _ _ (λ g. left_none n.connections) (λ g. left_none n.connections))

arrives_leaves : (m : AppSpec) (served : ℕ → Bool) (n : AbstractNode) (sockets : Sockets) (s : PlainSegment) (found : Option ℕ)
    → (found ≡ None → Free sockets n.connections) → Leaves n (arrives_at m served n sockets s found)
arrives_leaves m served n sockets s None f = stranger_leaves m served n sockets s (f refl)
arrives_leaves m served n sockets s (Some slot) f =
    happened_leaves m n (Arrived sockets s) slot (asked m (snapshot n (Arrived sockets s) slot) (on_segment m (connection_in slot n) n.numbers s))
    (asked_keeps m (snapshot n (Arrived sockets s) slot) (connection_in slot n) (on_segment m (connection_in slot n) n.numbers s)
    (on_segment_keeps m (connection_in slot n) n.numbers s))

-- if the search finds none, none serves
none_free : (p : Sockets) (cs : List Connection) → position (serves p) cs ≡ None → Free p cs
none_free p cs e = elim (find_is p cs) [ finds i f g s ↦ absurd (cc) | finds_none f g ↦ g ]

step_leaves : (m : AppSpec) (served : ℕ → Bool) (n : AbstractNode) (event : Event) → Leaves n (step m served n event)
step_leaves m served n (IpRefused fate) = left_none n.connections
step_leaves m served n (IcmpRefused fate) = left_none n.connections
step_leaves m served n (TcpRefused fate) = left_none n.connections
step_leaves m served n (EchoAsked datagram) = left_none n.connections
step_leaves m served n (Arrived sockets s) = arrives_leaves m served n sockets s (position (serves sockets) n.connections) (none_free sockets n.connections)
step_leaves m served n Overlong = left_none n.connections
step_leaves m served n (Periodic slot) =
    happened_leaves m n (Periodic slot) slot (asked m (snapshot n (Periodic slot) slot) (on_tick m (connection_in slot n) n.numbers))
    (asked_keeps m (snapshot n (Periodic slot) slot) (connection_in slot n) (on_tick m (connection_in slot n) n.numbers)
    (on_tick_keeps m (connection_in slot n) n.numbers))

abbrev pair_of : {A : Type 0} → Conn A → SocketPair
pair_of c = record { peer = c.peer; peer_port = c.peer_port; own_port = c.own_port }

-- a live connection and its sockets are the same in the code and over plain data
agrees : {A S X : Type 0} (g : Ghosts A S) (k : g.Config) (c : Conn A) (a : Connection) (F : Bool → SocketPair → X)
    → ((p q : SocketPair) → F false p ≡ F false q) → ConnRepresents g k c a
    → F (is_live c.state) (pair_of c) ≡ F (is_live a.state) (pair_at a.sockets)
agrees g k c a F none h =
    let state : is_live c.state ≡ is_live a.state = ap is_live h.numbers.state in
    ap (λ b. F b (pair_of c)) state
    ∙ both_ways (is_live a.state)
    (λ e. (let l = h.numbers.like e in
    let peer = l.peer in
    let peer_port = l.peer_port in
    let own_port = l.own_port in
    let same : pair_of c ≡ pair_at a.sockets = cc in
    ap (F (is_live a.state)) same))
    (λ e. ap (λ b. F b (pair_of c)) e ∙ none (pair_of c) (pair_at a.sockets) ∙ sym (ap (λ b. F b (pair_at a.sockets)) e))

-- a connection of the code is at the sockets that the one over plain data serves
at_serves : {A S : Type 0} (g : Ghosts A S) (k : g.Config) (c : Conn A) (a : Connection) (p : SocketPair) → ConnRepresents g k c a
    → is_at p.peer p.peer_port p.own_port c ≡ serves (sockets_at p) a
at_serves g k c a p h = agrees g k c a (λ b q. b
    && (bytes_eq q.peer.0 p.peer.0 && ((q.peer_port.0 == p.peer_port.0) && (q.own_port.0 == p.own_port.0)))) (λ x y. refl) h

lost_by : {A S : Type 0} (g : Ghosts A S) (k : g.Config) (c : Conn A) (a : Connection) (pair : Option SocketPair) → ConnRepresents g k c a
    → lost_at pair c ≡ left_by pair a
lost_by g k c a None h = refl
lost_by g k c a (Some p) h = ap (λ (b : Bool). if b then None else Some p) (at_serves g k c a p h)

abbrev AllRepresent : {A S : Type 0} (g : Ghosts A S) → g.Config → List (Conn A) → List Connection → Type 0
AllRepresent {A} g k cs abstracts = (i : ℕ) (c : Conn A) (a : Connection) → slice_get cs i ≡ Some c → slice_get abstracts i ≡ Some a → ConnRepresents g k c a

lost_agrees : {A S : Type 0} (g : Ghosts A S) (k : g.Config) (pairs : List (Option SocketPair)) (cs : List (Conn A))
    (abstracts : List Connection) → length abstracts ≡ length cs →
    AllRepresent g k cs abstracts → lost pairs cs ≡ left pairs abstracts
lost_agrees g k [] cs abstracts e h = refl
lost_agrees g k (p ∷ pairs) [] [] e h = refl
lost_agrees g k (p ∷ pairs) [] (a ∷ abstracts) e h = absurd (omega (arith, e))
lost_agrees g k (p ∷ pairs) (c ∷ cs) [] e h = absurd (omega (arith, e))
lost_agrees g k (p ∷ pairs) (c ∷ cs) (a ∷ abstracts) e h =
    ap (λ (o : Option SocketPair). or_pair o (lost pairs cs)) (lost_by g k c a p (h 0 c a refl refl))
    ∙ ap (or_pair (left_by p a)) (lost_agrees g k pairs cs abstracts (omega (arith, e)) (λ i d b f g. h (suc i) d b f g))

-- what is lost from the slots of the code is the connection that became CLOSED by the step
pub lost_is_gone : {A S : Type 0} (g : Ghosts A S) (k : g.Config) (cs : List (Conn A)) (pairs : List (Option SocketPair)) (m : AppSpec)
    (served : ℕ → Bool) (n : AbstractNode) (event : Event) →
    pairs ≡ map owner n.connections → SlotsRepresent g k cs (step m served n event).node.connections → lost pairs cs ≡ gone_pair (step m served n event).gone
lost_is_gone g k cs pairs m served n event e h =
    ap (λ (ps : List (Option SocketPair)). lost ps cs) e
    ∙ lost_agrees g k (map owner n.connections) cs (step m served n event).node.connections h.same_length h.each
    ∙ step_leaves m served n event

owner_agrees : {A S : Type 0} (g : Ghosts A S) (k : g.Config) (c : Conn A) (a : Connection) → ConnRepresents g k c a → owner_in c ≡ owner a
owner_agrees g k c a h = agrees g k c a (λ b q. if b then Some q else None) (λ x y. refl) h

owners_agree : {A S : Type 0} (g : Ghosts A S) (k : g.Config) (cs : List (Conn A)) (abstracts : List Connection) → length abstracts ≡ length cs →
    AllRepresent g k cs abstracts → map owner_in cs ≡ map owner abstracts
owners_agree g k [] [] e h = refl
owners_agree g k [] (a ∷ abstracts) e h = absurd (omega (arith, e))
owners_agree g k (c ∷ cs) [] e h = absurd (omega (arith, e))
owners_agree g k (c ∷ cs) (a ∷ abstracts) e h =
    ap (λ (o : Option SocketPair). o ∷ map owner_in cs) (owner_agrees g k c a (h 0 c a refl refl))
    ∙ ap (λ (os : List (Option SocketPair)). owner a ∷ os) (owners_agree g k cs abstracts (omega (arith, e)) (λ i d b f g. h (suc i) d b f g))

-- the owners of the slots of the code are those of the slots over plain data
pub owners_represent : {A S : Type 0} (g : Ghosts A S) (k : g.Config) (cs : List (Conn A)) (abstracts : List Connection)
    → SlotsRepresent g k cs abstracts → map owner_in cs ≡ map owner abstracts
owners_represent g k cs abstracts h = owners_agree g k cs abstracts h.same_length h.each
