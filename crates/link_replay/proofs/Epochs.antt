-- The clients of the code and those over plain data, by their sockets.
use Rattle.link_replay.proofs.Prelude.{◌≡◌, ℕ, ◌+◌, ◌-◌, ◌<◌, ◌≤◌, Bool, true, false, if◌then◌else◌, List, [], ◌∷◌, ◌++◌, length}
use Rattle.link_replay.proofs.Prelude.{length-append, length-set, map, set, take, drop, append-nil, slice_get, slice_index_or, refl, sym}
use Rattle.link_replay.proofs.Prelude.{ap, ◌∙◌, subst, add-zero, arith, Some, Any, drop_all, get_or-append-add, get_or-drop, get_or_default}
use Rattle.link_replay.proofs.Prelude.{length-map, length-take-le, take_all, take_rest, slice_get-get_or, Sockets, Connection, same_sockets}
use Rattle.link_replay.proofs.Prelude.{AbstractClient, Side, addressed, retires, retires_in, client_sockets, get_set, IsAtLast, OnlyEpoch}
use Rattle.link_replay.proofs.Prelude.{buried, sockets_for, Matched, pair_at, sockets_at, SideRepresents, CodeSide, SocketPair}
use Rattle.uip_node.proofs.Connections.{here, there}
use Rattle.link_replay.proofs.Matching.{matched_cons, matched_head, matched_nil, matched_tail}

-- a client of the code has the sockets of the one over plain data
has_same : (p : Sockets) (x : CodeSide) (s : Side) → SideRepresents x s → same_sockets p (sockets_for x.client.setup) ≡ same_sockets p (client_sockets s)
has_same p x s h = ap (λ (c : AbstractClient). same_sockets p (sockets_for c.setup)) h.client

pub addressed_here : (number : ℕ) (p : SocketPair) (xs : List CodeSide) (x : CodeSide) (ss : List Side) → 1 ≤ length xs → x ≡ slice_index_or xs 0 x →
    same_sockets (sockets_at p) (sockets_for x.client.setup) ≡ true → Matched SideRepresents xs ss → number ≡ addressed number (sockets_at p) ss
addressed_here number p [] x ss l at e h = absurd (omega (arith, l))
addressed_here number p (y ∷ ys) x [] l at e h = absurd (omega (arith, h.same_length))
addressed_here number p (y ∷ ys) x (s ∷ ss) l at e h =
    let f : same_sockets (sockets_at p) (client_sockets s) ≡ true =
    sym (has_same (sockets_at p) y s (matched_head SideRepresents y s ys ss h))
    ∙ sym (ap (λ (z : CodeSide). same_sockets (sockets_at p) (sockets_for z.client.setup)) at) ∙ e in
    sym (ap (λ (b : Bool). if b then number else addressed (number + 1) (sockets_at p) ss) f)

pub addressed_later : (number : ℕ) (p : SocketPair) (xs : List CodeSide) (x : CodeSide) (found : ℕ) (ss : List Side) → 1 ≤ length xs
    → x ≡ slice_index_or xs 0 x →
    same_sockets (sockets_at p) (sockets_for x.client.setup) ≡ false
    → ((rest : List Side) → Matched SideRepresents (take (length xs - 1) (drop 1 xs)) rest → found ≡ addressed (number + 1) (sockets_at p) rest) →
    Matched SideRepresents xs ss → found ≡ addressed number (sockets_at p) ss
addressed_later number p [] x found ss l at e later h = absurd (omega (arith, l))
addressed_later number p (y ∷ ys) x found [] l at e later h = absurd (omega (arith, h.same_length))
addressed_later number p (y ∷ ys) x found (s ∷ ss) l at e later h =
    let f : same_sockets (sockets_at p) (client_sockets s) ≡ false =
    sym (has_same (sockets_at p) y s (matched_head SideRepresents y s ys ss h))
    ∙ sym (ap (λ (z : CodeSide). same_sockets (sockets_at p) (sockets_for z.client.setup)) at) ∙ e in
    later ss (subst (λ (l : List CodeSide). Matched SideRepresents l ss) (sym (take_rest (y ∷ ys) 1))
    (matched_tail SideRepresents y s ys ss h)) ∙ sym (ap (λ (b : Bool). if b then number else addressed (number + 1) (sockets_at p) ss) f)

buried_by : (b : Bool) (g : Connection) (x : CodeSide) (s : Side) → SideRepresents x s →
    SideRepresents (if b then record x { epoch = x.epoch + 1 } else x)
    (if b then record s { history = s.history ++ record { iss = g.iss; snapshots = g.part.snapshots } ∷ [] } else s)
buried_by true g x s h = record {
  client = h.client;
  epoch = (let e = h.epoch in let f = length-append s.history (record { iss = g.iss; snapshots = g.part.snapshots } ∷ []) in omega (arith, e, f));
  first_stale = h.first_stale;
}
buried_by false g x s h = h

-- a client whose epoch is raised represents one whose epoch is raised
buried_represents : (g : Connection) (x : CodeSide) (s : Side) → SideRepresents x s → SideRepresents (buried (pair_at g.sockets) x) (retires_in g s)
buried_represents g x s h =
    let e : same_sockets g.sockets (sockets_for x.client.setup) ≡ same_sockets g.sockets (client_sockets s) = has_same g.sockets x s h in
    subst (λ (b : Bool). SideRepresents (buried (pair_at g.sockets) x)
    (if b then record s { history = s.history ++ record { iss = g.iss; snapshots = g.part.snapshots } ∷ [] } else s)) e
    (buried_by (same_sockets g.sockets (sockets_for x.client.setup)) g x s h)

pub all_buried : (gone : SocketPair) (g : Connection) (xs : List CodeSide) (ss : List Side) → pair_at g.sockets ≡ gone
    → Matched SideRepresents xs ss → Matched SideRepresents (map (buried gone) xs) (retires (Some g) ss)
all_buried gone g [] [] e h = matched_nil SideRepresents
all_buried gone g [] (s ∷ ss) e h = absurd (omega (arith, h.same_length))
all_buried gone g (x ∷ xs) [] e h = absurd (omega (arith, h.same_length))
all_buried gone g (x ∷ xs) (s ∷ ss) e h =
    matched_cons SideRepresents (buried gone x) (retires_in g s) (map (buried gone) xs) (retires (Some g) ss)
    (subst (λ (p : SocketPair). SideRepresents (buried p x) (retires_in g s)) e (buried_represents g x s (matched_head SideRepresents x s xs ss h)))
    (all_buried gone g xs ss e (matched_tail SideRepresents x s xs ss h))

stays : (x : CodeSide) → OnlyEpoch x x
stays x = record { client = refl; request = refl; received = refl; first_stale = refl }

then_stays : (x y z : CodeSide) → OnlyEpoch x y → OnlyEpoch y z → OnlyEpoch x z
then_stays x y z h g = record {
  client = g.client ∙ h.client;
  request = g.request ∙ h.request;
  received = g.received ∙ h.received;
  first_stale = g.first_stale ∙ h.first_stale;
}

-- one more client is changed
pub kept_more : (xs ys : List CodeSide) (i : ℕ) (d z : CodeSide) → Matched OnlyEpoch xs ys → i < length ys
    → OnlyEpoch (slice_index_or ys i d) z → Matched OnlyEpoch xs (set ys i z)
kept_more xs ys i d z h l e = record {
  same_length = h.same_length ∙ sym (length-set ys i z);
  each = λ j a b f g. elim (get_set ys i z j b g) [
    | here p q ↦ subst (λ (w : CodeSide). OnlyEpoch a w) q
        (then_stays a (slice_index_or ys i d) z (h.each i a (slice_index_or ys i d) (sym (ap (slice_get xs) p) ∙ f) (slice_get-get_or ys i d l)) e)
    | there n q ↦ h.each j a b f q
  ];
}

-- after the last client all are changed
pub all_done : (gone : SocketPair) (xs ys : List CodeSide) (i : ℕ) → length xs ≤ i → ys ≡ map (buried gone) (take i xs) ++ drop i xs → ys ≡ map (buried gone) xs
all_done gone xs ys i l e =
    e ∙ ap (λ (zs : List CodeSide). map (buried gone) zs ++ drop i xs) (take_all i xs l)
    ∙ ap (λ (zs : List CodeSide). map (buried gone) xs ++ zs) (drop_all i xs l) ∙ append-nil (map (buried gone) xs)

-- the clients from a place on are not changed yet
unchanged : (gone : SocketPair) (xs ys : List CodeSide) (i : ℕ) (d : CodeSide) → i < length xs → ys ≡ map (buried gone) (take i xs)
    ++ drop i xs → slice_index_or ys i d ≡ slice_index_or xs i d
unchanged gone xs ys i d l e =
    let long : length (map (buried gone) (take i xs)) ≡ i = length-map (take i xs) (buried gone) ∙ length-take-le i xs (omega (arith, l)) in
    ap (λ (zs : List CodeSide). slice_index_or zs i d) e
    ∙ ap (λ (j : ℕ). slice_index_or (map (buried gone) (take i xs) ++ drop i xs) j d) (sym long ∙ sym (add-zero (length (map (buried gone) (take i xs)))))
    ∙ get_or-append-add (map (buried gone) (take i xs)) (drop i xs) 0 d
    ∙ get_or-drop i xs 0 d
    ∙ ap (λ (j : ℕ). slice_index_or xs j d) (add-zero i)

-- the client that could not be changed
pub last_found : (gone : SocketPair) (xs ys : List CodeSide) (i : ℕ) (d : CodeSide) → i < length xs → ys ≡ map (buried gone) (take i xs)
    ++ drop i xs → IsAtLast gone (slice_index_or ys i d) → Any (IsAtLast gone) xs
last_found gone xs ys i d l e last = (
  i,
  slice_index_or xs i d,
  l,
  get_or_default xs i (slice_index_or xs i d) d l,
  subst (λ (x : CodeSide). IsAtLast gone x) (unchanged gone xs ys i d l e) last,
)
