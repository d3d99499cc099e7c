-- The initial world: each client represents the one that is planned, and the plan is one.
use Rattle.link_replay.proofs.Prelude.{All, list_all, list_any, ◌≡◌, ℕ, zero, suc, ◌+◌, ◌<◌, ◌≤◌, Bool, true, false, not, ◌&&◌, List, []}
use Rattle.link_replay.proofs.Prelude.{◌∷◌, ◌++◌, length, map, refl, sym, ap, ◌∙◌, subst, arith, Some, None, slice_get, eqb, leb, lit<}
use Rattle.link_replay.proofs.Prelude.{length-map, and_parts, and_from, leb-true, or_parts, bytes_eq, slice_get_within, Addr, Port, IsAddr}
use Rattle.link_replay.proofs.Prelude.{IsByte, slice_get-element, FitsRequest, abstract_client, idle, Client, Setup, Plan, are_apart}
use Rattle.link_replay.proofs.Prelude.{client_in_range, is_between, meets, Sockets, World, Planned, IsPlan, IsPlanned, fresh_side}
use Rattle.link_replay.proofs.Prelude.{sockets_in, get_push, older, newest, all_nil, all_cons, get_map, Matched, AreFresh, IsFresh}
use Rattle.link_replay.proofs.Prelude.{plan_from, planned, server, IsLink, SentRepresents, SideRepresents, CodeSent, Link, CodeSide}
use Rattle.std.proofs.lemmas.Bool.{eq-eqb, not-true}

pub server_is_addr : IsAddr server
server_is_addr = record {
  four = refl;
  all_bytes = all_cons IsByte 10 (0 ∷ 0 ∷ 1 ∷ []) (lit< tt)
      (all_cons IsByte 0 (0 ∷ 1 ∷ []) (lit< tt) (all_cons IsByte 0 (1 ∷ []) (lit< tt) (all_cons IsByte 1 [] (lit< tt) (all_nil IsByte))));
}

-- one client
pub fresh : (number : ℕ) (plan : Plan) (setup : Setup) (client : Client) (request received : List ℕ) → number ≤ 64 → client_in_range plan ≡ true
    → setup ≡ (planned number plan).setup → IsAddr plan.addr → plan.port.0 < 65536 → plan.mss < 65536 → All IsByte plan.request
    → request ≡ plan.request → received ≡ [] → ((r : List ℕ) → abstract_client client r [] ≡ idle setup r)
    → ((r : List ℕ) → length r ≤ 4096 → FitsRequest client r)
    → IsFresh number plan (record { client = client; request = request; received = received; epoch = 0; first_stale = None })
fresh number plan setup client request received few range e addr port mss bytes asked none is_idle fits =
    let parts = and_parts (is_between 1 65535 plan.port.0 && is_between 1 1460 plan.seg) (is_between 1 4096 (length plan.request)) range in
    let sizes = and_parts (leb 1 (length plan.request)) (leb (length plan.request) 4096) parts.1 in
    let segs = and_parts (leb 1 plan.seg) (leb plan.seg 1460) (and_parts (is_between 1 65535 plan.port.0) (is_between 1 1460 plan.seg) parts.0).1 in
    let short : length plan.request ≤ 4096 = leb-true (length plan.request) 4096 sizes.1 in
    record {
      represented = record {
        client = ap (λ (r : List ℕ). abstract_client client r received) asked ∙ ap (λ (r : List ℕ). abstract_client client plan.request r) none
            ∙ is_idle plan.request ∙ ap (λ (s : Setup). idle s plan.request) e;
        epoch = refl;
        first_stale = refl;
      };
      fits = fits request (subst (λ (r : List ℕ). length r ≤ 4096) (sym asked) short);
      at_server = ap (λ c. c.setup.server) (is_idle []) ∙ ap (λ (s : Setup). s.server) e;
      in_range = record {
        addr = addr;
        port = port;
        server = server_is_addr;
        server_port = lit< tt;
        offered = mss;
        iss = omega (arith, few);
        short = short;
        all_bytes = bytes;
        seg = (leb-true 1 plan.seg segs.0, leb-true plan.seg 1460 segs.1);
      };
    }

pub in_range_at : (clients : List Plan) (i : ℕ) (plan : Plan) → list_all client_in_range clients ≡ true → slice_get clients i ≡ Some plan
    → client_in_range plan ≡ true
in_range_at [] i plan h g = absurd (cc)
in_range_at (x ∷ xs) zero plan h g =
    let e : x ≡ plan = cc in
    ap (λ (p : Plan). client_in_range p) (sym e) ∙ (and_parts (client_in_range x) (list_all client_in_range xs) h).0
in_range_at (x ∷ xs) (suc i) plan h g = in_range_at xs i plan (and_parts (client_in_range x) (list_all client_in_range xs) h).1 g

-- the clients so far
abbrev pub FreshTo : List Plan → List CodeSide → Type 0
FreshTo plans sides = (i : ℕ) (plan : Plan) (side : CodeSide) → slice_get plans i ≡ Some plan → slice_get sides i ≡ Some side → IsFresh (suc i) plan side

-- one client more
pub one_more : (clients : List Plan) (sides : List CodeSide) (at : ℕ) (plan : Plan) (new : CodeSide) → slice_get clients at ≡ Some plan → length sides ≡ at
    → IsFresh (at + 1) plan new → FreshTo clients sides → FreshTo clients (sides ++ new ∷ [])
one_more clients sides at plan new there size is h i p side g s =
    elim (get_push sides new i side s) [
      | older old ↦ h i p side g old
      | newest j q ↦ (let here : i ≡ at = j ∙ size in
          let number : at + 1 ≡ suc i = omega (arith, here) in
          let found : slice_get clients i ≡ Some plan = ap (slice_get clients) here ∙ there in
          let meant : plan ≡ p = cc in
          subst (λ (n : ℕ). IsFresh n p side) number (subst (λ (x : Plan). IsFresh (at + 1) x side) meant
          (subst (λ (x : CodeSide). IsFresh (at + 1) plan x) q is)))
    ]

-- what is at an index of a plan
pub record PlannedAt (number : ℕ) (plans : List Plan) (i : ℕ) (p : Planned) : Type 0 where
  pub plan : Plan
  pub get : slice_get plans i ≡ Some plan
  pub is : p ≡ planned (number + i) plan

pub planned_at : (number : ℕ) (plans : List Plan) (i : ℕ) (p : Planned) → slice_get (plan_from number plans) i ≡ Some p → PlannedAt number plans i p
planned_at number [] i p g = absurd (cc)
planned_at number (x ∷ xs) zero p g = record {
  plan = x;
  get = refl;
  is = (let e : planned number x ≡ p = cc in sym e ∙ ap (λ (n : ℕ). planned n x) (let z : number ≡ number + 0 = omega arith in z));
}
planned_at number (x ∷ xs) (suc i) p g =
    let r = planned_at (number + 1) xs i p g in
    record { plan = r.plan; get = r.get; is = r.is ∙ ap (λ (n : ℕ). planned n r.plan) (let z : number + 1 + i ≡ number + suc i = omega arith in z) }

plan_length : (number : ℕ) (plans : List Plan) → length (plan_from number plans) ≡ length plans
plan_length number [] = refl
plan_length number (x ∷ xs) = ap suc (plan_length (number + 1) xs)

first_number : (i : ℕ) → 1 + i ≡ suc i
first_number i = omega arith

pub all_planned : (plans : List Plan) (sides : List CodeSide) → AreFresh plans sides → (k : ℕ) (p : Planned)
    → slice_get (plan_from 1 plans) k ≡ Some p → IsPlanned p
all_planned plans sides h k p g =
    let r = planned_at 1 plans k p g in
    let l = slice_get_within plans k r.plan r.get in
    let s = slice_get-element sides k (omega (arith, l, h.same_length)) in
    subst IsPlanned (sym (r.is ∙ ap (λ (n : ℕ). planned n r.plan) (first_number k))) (h.each k r.plan s.0 r.get s.1).in_range

pub sides_represent : (plans : List Plan) (sides : List CodeSide) → AreFresh plans sides → Matched SideRepresents sides (map fresh_side (plan_from 1 plans))
sides_represent plans sides h = record {
  same_length = h.same_length ∙ sym (length-map (plan_from 1 plans) fresh_side ∙ plan_length 1 plans);
  each = λ i x y g f.
      (let m = get_map fresh_side (plan_from 1 plans) i y f in
      let r = planned_at 1 plans i m.from m.get in
      subst (SideRepresents x) (ap (λ (n : ℕ). fresh_side (planned n r.plan)) (sym (first_number i)) ∙ ap fresh_side (sym r.is) ∙ m.is)
      (h.each i r.plan x r.get g).represented);
}

fresh_at : (plans : List Plan) (sides : List CodeSide) → AreFresh plans sides → (i : ℕ) (side : CodeSide) → slice_get sides i ≡ Some side
    → (plan : Plan) × IsFresh (suc i) plan side
fresh_at plans sides h i side g =
    let l = slice_get_within sides i side g in
    let p = slice_get-element plans i (omega (arith, l, h.same_length)) in
    (p.0, h.each i p.0 side p.1 g)

pub link_opened : (addr : Addr) (link : Link) (plans : List Plan) → AreFresh plans link.sides → length plans ≤ 64 → link.sent ≡ []
    → addr ≡ server → IsLink addr link
link_opened addr link plans h few none at = record {
  few = omega (arith, few, h.same_length);
  clients = λ i side g. (fresh_at plans link.sides h i side g).1.fits;
  servers = λ i side g. (fresh_at plans link.sides h i side g).1.at_server ∙ sym at;
  many = omega (arith, ap length none);
  sizes = λ i sent g. absurd (let e = ap (λ xs. slice_get xs i) none in (cc));
}

-- the clients of a schedule are a plan: no two have the same sockets
any_at : (f : Plan → Bool) (plans : List Plan) (i : ℕ) (p : Plan) → list_any f plans ≡ false → slice_get plans i ≡ Some p → f p ≡ true → ⊥
any_at f [] i p h g t = cc
any_at f (x ∷ xs) zero p h g t =
    let e : x ≡ p = cc in
    let l = or_parts (f x) (list_any f xs) h in
    let there : f x ≡ true = ap f e ∙ t in
    absurd (cc (l.0, there))
any_at f (x ∷ xs) (suc i) p h g t = any_at f xs i p (or_parts (f x) (list_any f xs) h).1 g t

bytes_same : (xs : List ℕ) → bytes_eq xs xs ≡ true
bytes_same [] = refl
bytes_same (x ∷ xs) = and_from (eqb x x) (bytes_eq xs xs) (eq-eqb x x refl) (bytes_same xs)

meets_same : (p q : Plan) → p.addr ≡ q.addr → p.port ≡ q.port → meets p q ≡ true
meets_same p q a b =
    and_from (bytes_eq p.addr.0 q.addr.0) (eqb p.port.0 q.port.0)
    (ap (λ (z : Addr). bytes_eq p.addr.0 z.0) (sym a) ∙ bytes_same p.addr.0) (eq-eqb p.port.0 q.port.0 (ap (λ (z : Port). z.0) b))

later_apart : (plans : List Plan) → are_apart plans ≡ true → (j k : ℕ) (p q : Plan) → slice_get plans j ≡ Some p
    → slice_get plans k ≡ Some q → j < k → meets p q ≡ true → ⊥
later_apart [] h j k p q g f l m = cc
later_apart (x ∷ xs) h zero zero p q g f l m = omega (arith, l)
later_apart (x ∷ xs) h zero (suc k) p q g f l m =
    let e : x ≡ p = cc in
    let parts = and_parts (not (list_any (λ later. meets x later) xs)) (are_apart xs) h in
    any_at (λ later. meets x later) xs k q (not-true (list_any (λ later. meets x later) xs) parts.0) f (ap (λ (z : Plan). meets z q) e ∙ m)
later_apart (x ∷ xs) h (suc j) zero p q g f l m = omega (arith, l)
later_apart (x ∷ xs) h (suc j) (suc k) p q g f l m =
    later_apart xs (and_parts (not (list_any (λ later. meets x later) xs)) (are_apart xs) h).1 j k p q g f (omega (arith, l)) m

one_place : (j k : ℕ) → (j < k → ⊥) → (k < j → ⊥) → j ≡ k
one_place j k a b = omega (arith, a, b)

pub is_plan : (plans : List Plan) → are_apart plans ≡ true → ((k : ℕ) (p : Planned) → slice_get (plan_from 1 plans) k ≡ Some p
    → IsPlanned p) → IsPlan (plan_from 1 plans)
is_plan plans apart each = record {
  each = each;
  apart = λ j k p q g f e.
      (let a = planned_at 1 plans j p g in
      let b = planned_at 1 plans k q f in
      let same : sockets_in (planned (1 + j) a.plan) ≡ sockets_in (planned (1 + k) b.plan) = ap sockets_in (sym a.is) ∙ e ∙ ap sockets_in b.is in
      let addr : a.plan.addr ≡ b.plan.addr = ap (λ (s : Sockets). s.peer) same in
      let port : a.plan.port ≡ b.plan.port = ap (λ (s : Sockets). s.peer_port) same in
      one_place j k (λ l. later_apart plans apart j k a.plan b.plan a.get b.get l (meets_same a.plan b.plan addr port))
      (λ l. later_apart plans apart k j b.plan a.plan b.get a.get l (meets_same b.plan a.plan (sym addr) (sym port))));
}

-- no datagram
pub none_represent : (w : World) (sent : List CodeSent) → sent ≡ [] → Matched (SentRepresents w) sent []
none_represent w sent none = record { same_length = ap length none; each = λ i x y g h. absurd (cc) }
