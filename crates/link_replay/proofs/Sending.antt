-- A client's step in the world.
use Rattle.link_replay.proofs.Prelude.{◌≡◌, ℕ, zero, suc, ◌≤◌, ◌++◌, replicate, drop, false, List, [], length, take, set, refl, sym, ap}
use Rattle.link_replay.proofs.Prelude.{◌∙◌, subst, arith, Option, Some, None, slice_get, length-take, if◌then◌else◌, PlainSegment}
use Rattle.link_replay.proofs.Prelude.{datagram_bytes, option_map_or, closed, drop_all, take_all, append_nothing, abstract_client, Sends}
use Rattle.link_replay.proofs.Prelude.{client_datagram, client_hands, client_receives, FitsRequest, AbstractClient, ClientStep}
use Rattle.link_replay.proofs.Prelude.{client_takes, ClientState, Idle, Setup, same_receiving, ticks_of, handed, bytes_by, client_bytes}
use Rattle.link_replay.proofs.Prelude.{World, Side, at_side, numbered, epoch, past_connection_of, becomes_opened, client_stepped}
use Rattle.link_replay.proofs.Prelude.{with_client, with_side, OfSegment, FromClient, get_set_same, set_same, Stepped, Addr, CodeSent}
use Rattle.link_replay.proofs.Prelude.{LinkRepresents, SideRepresents, IsLink, Link, link_of, PostsOfClient, CodeSide}
use Rattle.link_replay.proofs.Pairs.{partner}
use Rattle.link_replay.proofs.Places.{link_put, side_put}

-- nothing is sent
pub sends_none : (setup : Setup) (s : Option PlainSegment) (area : List ℕ) → Sends setup s None area → s ≡ None
sends_none setup None area h = refl
sends_none setup (Some x) area h = let e = h.answer in absurd (cc)

-- what is sent is a segment
pub record IsAtStart (setup : Setup) (s : Option PlainSegment) (len : ℕ) (area : List ℕ) : Type 0 where
  pub segment : PlainSegment
  pub is : s ≡ Some segment
  pub bytes : take len area ≡ datagram_bytes (client_datagram setup segment)
  pub inside : len ≤ length area

pub sends_some : (setup : Setup) (s : Option PlainSegment) (len : ℕ) (area : List ℕ) → Sends setup s (Some len) area → IsAtStart setup s len area
sends_some setup None len area h = absurd (let e : Some len ≡ None = h in cc)
sends_some setup (Some x) len area h =
    let e : len ≡ length (datagram_bytes (client_datagram setup x)) = (let f = h.answer in cc) in
    let l : length (take (length (datagram_bytes (client_datagram setup x))) area) ≡ length (datagram_bytes (client_datagram setup x)) = ap
    (λ (xs : List ℕ). length xs) h.prefix in
    record {
      segment = x;
      is = refl;
      bytes = ap (λ n. take n area) e ∙ h.prefix;
      inside = (let m = length-take (length (datagram_bytes (client_datagram setup x))) area in omega (arith, e, l, m));
    }

-- the bytes of a client's segment in its world
pub prefix_bytes : (w : World) (number : ℕ) (side : Side) (x : PlainSegment) → numbered w.sides number ≡ Some side
    → bytes_by w (FromClient number) (OfSegment 0 x) ≡ datagram_bytes (client_datagram side.client.setup x)
prefix_bytes w number side x h = ap (λ (o : Option Side). option_map_or (client_bytes 0 x) o []) h

-- a step of a client is put in its place
pub stepped_put : (link : Link) (w : World) (n : ℕ) (old new : CodeSide) (s : Side) (step : ClientStep) (answer : Option ℕ) (area : List ℕ)
    → LinkRepresents link w → slice_get w.sides n ≡ Some s →
    SideRepresents old s → new.client.setup ≡ old.client.setup → Stepped step s new answer area
    → LinkRepresents (record link { sides = set link.sides n new }) (with_side w (suc n) (with_client s step.client))
stepped_put link w n old new s step answer area h g o q p =
    side_put link w n new s (with_client s step.client) h g
    (ap (λ (k : AbstractClient). k.setup) (sym p.represented.client) ∙ q ∙ ap (λ (k : AbstractClient). k.setup) o.client) p.represented

pub sends_inside : (setup : Setup) (s : Option PlainSegment) (answer : Option ℕ) (len : ℕ) (area : List ℕ) → Sends setup s answer area
    → answer ≡ Some len → len ≤ length area
sends_inside setup s answer len area h e = (sends_some setup s len area (subst (λ x. Sends setup s x area) e h)).inside

-- some client over plain data that one of the code represents
pub record SomeSide (side : CodeSide) : Type 0 where
  pub plain : Side
  pub represented : SideRepresents side plain

pub some_side : (side : CodeSide) → SomeSide side
some_side side = record {
  plain = record {
    client = abstract_client side.client side.request side.received;
    history = replicate side.epoch (past_connection_of closed);
    opened = None;
    first_stale = side.first_stale;
  };
  represented = record { client = refl; epoch = sym (length_same side.epoch (past_connection_of closed)); first_stale = refl };
}
  where
    length_same : {X : Type 0} (n : ℕ) (x : X) → length (replicate n x) ≡ n
    length_same zero x = refl
    length_same (suc n) x = ap suc (length_same n x)

-- what was written over a whole area
pub area_is : (new old : List ℕ) (n : ℕ) → length new ≡ length old → n ≡ length old → take n (new ++ drop (length new) old) ≡ new
area_is new old n e f = ap (λ (xs : List ℕ). take n (new ++ xs)) (drop_all (length new) old (omega (arith, e)))
    ∙ ap (λ (xs : List ℕ). take n xs) (append_nothing new) ∙ take_all n new (omega (arith, e, f))

-- what was written over the whole area of a list, as the list has it then
pub record AreaBack (new old : List ℕ) (n : ℕ) : Type 0 where
  pub size : length new ≡ length old
  pub is : take n (new ++ drop (length new) old) ≡ new

pub area_back : (new lent old : List ℕ) (n : ℕ) → length new ≡ length lent → lent ≡ old → length lent ≡ n → AreaBack new old n
area_back new lent old n room value len =
    let size : length new ≡ length old = room ∙ ap length value in
    record { size = size; is = area_is new old n size (sym len ∙ ap length value) }

-- a client took a step
pub kept_put : (addr : Addr) (link : Link) (n : ℕ) (old new : CodeSide) → slice_get link.sides n ≡ Some old → FitsRequest new.client new.request
    → new.client.setup ≡ old.client.setup → IsLink addr link → IsLink addr (record link { sides = set link.sides n new })
kept_put addr link n old new at fits setup h = link_put addr link n new h fits (ap (λ (x : Setup). x.server) setup ∙ h.servers n old at)

-- what is posted keeps what clients and datagrams keep, where the clients are read from a copy of their list
pub kept_posted : (addr : Addr) (xs ys : List CodeSide) (before after : List CodeSent) → xs ≡ ys
    → (IsLink addr (link_of xs before) → IsLink addr (link_of xs after)) → IsLink addr (link_of ys before) → IsLink addr (link_of ys after)
kept_posted addr xs ys before after e keeps =
    subst (λ (zs : List CodeSide). IsLink addr (link_of zs before) → IsLink addr (link_of zs after)) e keeps

-- the same of what a client sends, with a copy of the area
pub posted_as : (number tick : ℕ) (len : Option ℕ) (x y : List ℕ) (xs ys : List CodeSide) (before after : List CodeSent) → x ≡ y → xs ≡ ys
    → PostsOfClient number len tick x (link_of xs before) (link_of xs after) → PostsOfClient number len tick y (link_of ys before) (link_of ys after)
posted_as number tick len x y xs ys before after e f p =
    subst (λ (z : List ℕ). PostsOfClient number len tick z (link_of ys before) (link_of ys after)) e
    (subst (λ (zs : List CodeSide). PostsOfClient number len tick x (link_of zs before) (link_of zs after)) f p)

-- the client at a place took a step
module _ (link : Link) (w : World) (number n : ℕ) (old new : CodeSide) (s : Side) (is : number ≡ suc n) (h : LinkRepresents link w)
    (g : slice_get w.sides n ≡ Some s) (o : SideRepresents old s) (q : new.client.setup ≡ old.client.setup) where
  numbered_new : (t : Side) → numbered (with_side w number t).sides number ≡ Some t
  numbered_new t = subst (λ k. numbered (with_side w k t).sides k ≡ Some t) (sym is) (get_set_same w.sides n s t g)

  step_put : (step : ClientStep) (answer : Option ℕ) (area : List ℕ) → Stepped step s new answer area
      → LinkRepresents (record link { sides = set link.sides n new }) (with_side w number (with_client s step.client))
  step_put step answer area p =
      subst (λ k. LinkRepresents (record link { sides = set link.sides n new }) (with_side w k (with_client s step.client))) (sym is)
      (stepped_put link w n old new s step answer area h g o q p)

  setup_stays : (step : ClientStep) (answer : Option ℕ) (area : List ℕ) → Stepped step s new answer area
      → (with_client s step.client).client.setup ≡ s.client.setup
  setup_stays step answer area p = ap (λ (k : AbstractClient). k.setup) (sym p.represented.client) ∙ q ∙ ap (λ (k : AbstractClient). k.setup) o.client

  -- what it sent is appended from the start of the area
  pub step_posted : (step : ClientStep) (answer : Option ℕ) (area : List ℕ) (after : Link) (tick : ℕ) → Stepped step s new answer area
      → PostsOfClient number answer tick area (record link { sides = set link.sides n new }) after
      → tick ≡ ticks_of w.node.history → LinkRepresents after (client_stepped w number s step)
  step_posted step answer area after tick p posted t =
      let new_side : Side = with_client s step.client in
      let sends : Sends new_side.client.setup step.sent answer area
      = subst (λ (x : Setup). Sends x step.sent answer area) (sym (setup_stays step answer area p)) p.sent in
      posted (with_side w number new_side) new_side step.sent (step_put step answer area p) (numbered_new new_side) sends t

-- what is done to the client at a number is done in the world
pub done_at : (link after : Link) (w : World) (number n : ℕ) (old : CodeSide) (act : Side → World) → number ≡ suc n → LinkRepresents link w
    → slice_get link.sides n ≡ Some old
    → ((s : Side) → slice_get w.sides n ≡ Some s → SideRepresents old s → LinkRepresents after (act s)) → LinkRepresents after (at_side w number act)
done_at link after w number n old act is h at done =
    let p = partner SideRepresents link.sides w.sides n old h.sides at in
    subst (λ (x : Option Side). LinkRepresents after (option_map_or act x w)) (sym (ap (numbered w.sides) is ∙ p.get)) (done p.other p.get p.pair)

stays : (st : ClientState) → becomes_opened st st ≡ false
stays Idle = refl
stays _ = refl

-- a client that keeps everything
same_client : (s : Side) → with_client s s.client ≡ s
same_client s = ap (λ b. record s { opened = (if b then Some (epoch s) else s.opened) }) (stays s.client.state)

stepped_handed : (w : World) (n : ℕ) (s : Side) (o : Option PlainSegment) → slice_get w.sides n ≡ Some s
    → client_stepped w (suc n) s (client_hands s.client o) ≡ option_map_or (λ x. client_stepped w (suc n) s (client_takes s.client x)) o w
stepped_handed w n s None g = ap (λ (xs : List Side). record w { sides = xs }) (ap (set w.sides n) (same_client s) ∙ set_same w.sides n s g)
stepped_handed w n s (Some x) g = refl

-- what a client does with the bytes that it receives
pub received_handed : (w : World) (number n : ℕ) (s : Side) (bytes : List ℕ) → number ≡ suc n → slice_get w.sides n ≡ Some s →
    client_stepped w number s (client_hands s.client (client_receives s.client.setup bytes)) ≡ handed w number bytes s
received_handed w number n s bytes is g =
    subst (λ k. client_stepped w k s (client_hands s.client (client_receives s.client.setup bytes)) ≡ handed w k bytes s) (sym is)
    (stepped_handed w n s (client_receives s.client.setup bytes) g
    ∙ ap (λ (o : Option PlainSegment). option_map_or (λ x. client_stepped w (suc n) s (client_takes s.client x)) o w) (same_receiving s.client.setup bytes))
