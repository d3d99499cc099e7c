-- The bytes of a datagram stay the same while its world's addresses and ports do.
use Rattle.link_replay.proofs.Prelude.{◌≡◌, ℕ, zero, suc, Bool, List, [], ◌∷◌, ◌++◌, refl, sym, ap, ◌∙◌, subst, Option, Some, None}
use Rattle.link_replay.proofs.Prelude.{slice_get, set, length-set, ◌≤◌, option_map_or, Addr, ticks_of, PlainSegment, Setup, World, Side}
use Rattle.link_replay.proofs.Prelude.{Sent, Content, numbered, epoch_of, posts, with_side, OfSegment, OfPing, OfEcho, bytes_by}
use Rattle.link_replay.proofs.Prelude.{client_bytes, node_bytes, Who, FromClient, FromNode, Pinger, Matched, FitsRequest, get_set, here}
use Rattle.link_replay.proofs.Prelude.{there, SideRepresents, SentRepresents, LinkRepresents, IsLink, Link, link_of, CodeSide, CodeSent}
use Rattle.link_replay.proofs.Pairs.{push, put, turn}

-- the same addresses and ports, or no client on either side
abbrev pub Sames : Option Side → Option Side → Type 0
Sames None None = Unit {0}
Sames (Some x) (Some y) = x.client.setup ≡ y.client.setup
Sames None (Some y) = ⊥
Sames (Some x) None = ⊥

-- two lists of clients with the same addresses and ports
pub record SamePlaces (xs ys : List Side) : Type 0 where
  pub each : (i : ℕ) → Sames (slice_get xs i) (slice_get ys i)

client_same : (id : ℕ) (s : PlainSegment) (x y : Option Side) → Sames x y → option_map_or (client_bytes id s) x [] ≡ option_map_or (client_bytes id s) y []
client_same id s None None h = refl
client_same id s (Some x) (Some y) h = ap (λ (z : Setup). client_bytes id s (record x { client = record x.client { setup = z } })) h
client_same id s None (Some y) h = absurd h
client_same id s (Some x) None h = absurd h

node_same : (a b : Addr) (id : ℕ) (s : PlainSegment) (x y : Option Side) → a ≡ b → Sames x y → option_map_or (node_bytes a id s) x []
    ≡ option_map_or (node_bytes b id s) y []
node_same a b id s None None e h = refl
node_same a b id s (Some x) (Some y) e h = ap (λ z. node_bytes z id s x) e
    ∙ ap (λ (z : Setup). node_bytes b id s (record x { client = record x.client { setup = z } })) h
node_same a b id s None (Some y) e h = absurd h
node_same a b id s (Some x) None e h = absurd h

same_numbered : (xs ys : List Side) (n : ℕ) → SamePlaces xs ys → Sames (numbered xs n) (numbered ys n)
same_numbered xs ys zero h = tt
same_numbered xs ys (suc n) h = h.each n

by_same : (w v : World) → w.node.addr ≡ v.node.addr → SamePlaces w.sides v.sides → (who : Who) (content : Content) → bytes_by w who content
    ≡ bytes_by v who content
by_same w v a h (FromClient n) (OfSegment id s) = client_same id s (numbered w.sides n) (numbered v.sides n) (same_numbered w.sides v.sides n h)
by_same w v a h (FromNode n) (OfSegment id s) = node_same w.node.addr v.node.addr id s (numbered w.sides n) (numbered v.sides n) a
    (same_numbered w.sides v.sides n h)
by_same w v a h Pinger (OfSegment id s) = refl
by_same w v a h who (OfPing datagram) = refl
by_same w v a h who (OfEcho request) = refl

pub sent_stays : (w v : World) → w.node.addr ≡ v.node.addr → SamePlaces w.sides v.sides → (xs : List CodeSent) (ys : List Sent)
    → Matched (SentRepresents w) xs ys → Matched (SentRepresents v) xs ys
sent_stays w v a h xs ys m = turn (SentRepresents w) (SentRepresents v) xs ys (λ x y p. record {
  who = p.who;
  tick = p.tick;
  epoch = p.epoch;
  again = p.again;
  bytes = p.bytes ∙ by_same w v a h y.who y.content;
}) m

-- one more datagram on both sides
pub posted : (w : World) (xs : List CodeSent) (x : CodeSent) (who : Who) (again : Bool) (content : Content)
    → Matched (SentRepresents w) xs w.sent → SentRepresents w x
    (record { who = who; tick = ticks_of w.node.history; epoch = epoch_of who w.sides; again = again; content = content })
    → Matched (SentRepresents (posts w who again content)) (xs ++ x ∷ []) (posts w who again content).sent
posted w xs x who again content m p =
    let e : Sent = record { who = who; tick = ticks_of w.node.history; epoch = epoch_of who w.sides; again = again; content = content } in
    let v : World = posts w who again content in
    turn (SentRepresents w) (SentRepresents v) (xs ++ x ∷ []) (w.sent ++ e ∷ [])
    (λ a b q. record { who = q.who; tick = q.tick; epoch = q.epoch; again = q.again; bytes = q.bytes })
    (push (SentRepresents w) xs w.sent x e m p)

-- a client is put anew
sames_refl : (x : Option Side) → Sames x x
sames_refl None = tt
sames_refl (Some x) = refl

get_put : (xs : List Side) (n : ℕ) (old new : Side) → slice_get xs n ≡ Some old → new.client.setup ≡ old.client.setup → (i : ℕ)
    → Sames (slice_get xs i) (slice_get (set xs n new) i)
get_put [] n old new h e i = absurd (cc)
get_put (x ∷ xs) zero old new h e zero = let q : x ≡ old = cc in ap (λ (z : Side). z.client.setup) q ∙ sym e
get_put (x ∷ xs) zero old new h e (suc i) = sames_refl (slice_get xs i)
get_put (x ∷ xs) (suc n) old new h e zero = refl
get_put (x ∷ xs) (suc n) old new h e (suc i) = get_put xs n old new h e i

pub side_put : (link : Link) (w : World) (n : ℕ) (new : CodeSide) (s t : Side) → LinkRepresents link w → slice_get w.sides n ≡ Some s
    → t.client.setup ≡ s.client.setup → SideRepresents new t
    → LinkRepresents (record link { sides = set link.sides n new }) (with_side w (suc n) t)
side_put link w n new s t h g e p = record {
  sides = put SideRepresents link.sides w.sides n new t h.sides p;
  sent = sent_stays w (with_side w (suc n) t) refl record { each = get_put w.sides n s t g e } link.sent w.sent h.sent;
}

pub link_put : (addr : Addr) (link : Link) (n : ℕ) (new : CodeSide) → IsLink addr link → FitsRequest new.client new.request → new.client.setup.server ≡ addr
    → IsLink addr (record link { sides = set link.sides n new })
link_put addr link n new h c e = record {
  few = subst (λ k. k ≤ 64) (sym (length-set link.sides n new)) h.few;
  clients = λ i side g. elim (get_set link.sides n new i side g) [
    | here q p ↦ subst (λ (z : CodeSide). FitsRequest z.client z.request) p c
    | there q o ↦ h.clients i side o
  ];
  servers = λ i side g. elim (get_set link.sides n new i side g) [
    | here q p ↦ subst (λ (z : CodeSide). z.client.setup.server ≡ addr) p e
    | there q o ↦ h.servers i side o
  ];
  many = h.many;
  sizes = h.sizes;
}

pub same_places : (xs : List Side) → SamePlaces xs xs
same_places xs = record { each = λ i. sames_refl (slice_get xs i) }

-- the mark alone
pub link_marked : (link : Link) (w : World) (k : ℕ) → LinkRepresents link w → LinkRepresents link (record w { mark = k })
link_marked link w k h = record { sides = h.sides; sent = sent_stays w (record w { mark = k }) refl (same_places w.sides) link.sent w.sent h.sent }

-- clients and datagrams that are read from copies of their lists
pub link_read : (P : Link → Type 0) (xs ys : List CodeSide) (ps qs : List CodeSent) → xs ≡ ys → ps ≡ qs → P (link_of ys qs) → P (link_of xs ps)
link_read P xs ys ps qs e f p = subst (λ (zs : List CodeSide). P (link_of zs ps)) (sym e) (subst (λ (zs : List CodeSent). P (link_of ys zs)) (sym f) p)
