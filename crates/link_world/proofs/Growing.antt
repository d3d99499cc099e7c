-- Acts only add datagrams, a client that has sent is never idle again, and every client stays as planned.
use Rattle.link_world.proofs.Prelude.{◌≡◌, ℕ, zero, suc, ◌≤◌, Bool, false, List, [], ◌∷◌, length, map, set, Option, Some, None, slice_get}
use Rattle.link_world.proofs.Prelude.{refl, sym, ap, ◌∙◌, arith, slice_get-map, option_map, AppSpec, PlainSegment, Connection, same_sockets}
use Rattle.link_world.proofs.Prelude.{ticks_of, Event, Reply, tick, event_of, Arrived, EchoAsked, Echo, TcpReply, NodeStep, step}
use Rattle.link_world.proofs.Prelude.{AbstractClient, ClientStep, client_takes, keeps, advertises_window, client_opens, client_again}
use Rattle.link_world.proofs.Prelude.{client_closes, client_aborts, client_acts, does, handed, handles_all, hands_over, is_idle, state_at}
use Rattle.link_world.proofs.Prelude.{changed, receives_datagram, ping_from, sent_bytes, Content, Sent, Side, World, retires, retires_in}
use Rattle.link_world.proofs.Prelude.{client_sockets, client_stepped, delivers, epoch_of, marked, node_handles, node_stepped, posts}
use Rattle.link_world.proofs.Prelude.{posts_of_client, posts_reply, with_client, with_side, OfSegment, OfPing, OfEcho, planned_of, Act, Who}
use Rattle.link_world.proofs.Prelude.{FromClient, FromNode, Pinger, choose}
use Rattle.link_world.proofs.Doing.{at_number, where_there, delivered_by}
use Rattle.link_world.proofs.Rounds.{one_longer}
use Rattle.link_world.proofs.Setups.{Keeps, again_keeps, aborts_keeps, closes_keeps, opens_keeps, planned_by, takes_keeps}

-- the client in a place is not idle
abbrev pub Spoken : List Side → ℕ → Type 0
Spoken sides k = is_idle (state_at (slice_get sides k)) ≡ false

pub record Grows (w v : World) : Type 0 where
  pub sent : length w.sent ≤ length v.sent
  pub spoken : (k : ℕ) → Spoken w.sides k → Spoken v.sides k
  pub planned : map planned_of v.sides ≡ map planned_of w.sides

pub grows_not : (w : World) → Grows w w
grows_not w = record { sent = omega arith; spoken = λ k s. s; planned = refl }

pub grows_on : (w v u : World) → Grows w v → Grows v u → Grows w u
grows_on w v u g h = record { sent = omega (arith, g.sent, h.sent); spoken = λ k s. h.spoken k (g.spoken k s); planned = h.planned ∙ g.planned }

-- ---- the world

pub posts_grows : (w : World) (who : Who) (again : Bool) (content : Content) → Grows w (posts w who again content)
posts_grows w who again content =
    let new : Sent = record { who = who; tick = ticks_of w.node.history; epoch = epoch_of who w.sides; again = again; content = content } in
    record { sent = omega (arith, one_longer w.sent new); spoken = λ k s. s; planned = refl }

reply_grows : (w : World) (r : Option Reply) → Grows w (posts_reply w r)
reply_grows w None = grows_not w
reply_grows w (Some (Echo request)) = posts_grows w (FromNode 0) false (OfEcho request)
reply_grows w (Some (TcpReply sockets id again s)) = posts_grows w (FromNode (Rattle.link_world.specs.World.addressed 1 sockets w.sides)) again (OfSegment id s)

buried_state : (gone : Connection) (side : Option Side) → state_at (option_map (retires_in gone) side) ≡ state_at side
buried_state gone None = refl
buried_state gone (Some side) = choose (λ (x : Side). x.client.state ≡ side.client.state) (same_sockets gone.sockets (client_sockets side))
    _ _ (λ e. refl) (λ e. refl)

buries_spoken : (gone : Option Connection) (sides : List Side) (k : ℕ) → Spoken sides k → Spoken (retires gone sides) k
buries_spoken None sides k s = s
buries_spoken (Some g) sides k s = ap (λ o. is_idle (state_at o)) (slice_get-map (retires_in g) sides k) ∙ ap is_idle (buried_state g (slice_get sides k)) ∙ s

buried_planned : (g : Connection) (side : Side) → planned_of (retires_in g side) ≡ planned_of side
buried_planned g side = choose (λ (x : Side). planned_of x ≡ planned_of side) (same_sockets g.sockets (client_sockets side)) _ _ (λ e. refl) (λ e. refl)

map_planned : (g : Connection) (sides : List Side) → map planned_of (map (retires_in g) sides) ≡ map planned_of sides
map_planned g [] = refl
map_planned g (side ∷ sides) = ap (λ p. p ∷ map planned_of (map (retires_in g) sides)) (buried_planned g side)
    ∙ ap (λ ps. planned_of side ∷ ps) (map_planned g sides)

buries_planned : (gone : Option Connection) (sides : List Side) → map planned_of (retires gone sides) ≡ map planned_of sides
buries_planned None sides = refl
buries_planned (Some g) sides = map_planned g sides

stepped_grows : (w : World) (r : NodeStep) → Grows w (node_stepped w r)
stepped_grows w r =
    let v : World = record w { node = r.node; sides = retires r.gone w.sides } in
    grows_on w v (node_stepped w r) (record {
      sent = omega arith;
      spoken = buries_spoken r.gone w.sides;
      planned = buries_planned r.gone w.sides;
    }) (reply_grows v r.sent)

-- a side is put anew
put_spoken : (sides : List Side) (n : ℕ) (side new : Side) → slice_get sides n ≡ Some side
    → (is_idle side.client.state ≡ false → is_idle new.client.state ≡ false)
    → (k : ℕ) → Spoken sides k → Spoken (set sides n new) k
put_spoken [] n side new at stays k s = absurd (cc)
put_spoken (x ∷ sides) zero side new at stays zero s = let e : x ≡ side = cc in stays (ap (λ (y : Side). is_idle y.client.state) (sym e) ∙ s)
put_spoken (x ∷ sides) zero side new at stays (suc k) s = s
put_spoken (x ∷ sides) (suc n) side new at stays zero s = s
put_spoken (x ∷ sides) (suc n) side new at stays (suc k) s = put_spoken sides n side new at stays k s

put_planned : (sides : List Side) (n : ℕ) (side new : Side) → slice_get sides n ≡ Some side → planned_of new ≡ planned_of side
    → map planned_of (set sides n new) ≡ map planned_of sides
put_planned [] n side new at e = refl
put_planned (x ∷ sides) zero side new at e = let q : x ≡ side = cc in ap (λ p. p ∷ map planned_of sides) (e ∙ ap planned_of (sym q))
put_planned (x ∷ sides) (suc n) side new at e = ap (λ ps. planned_of x ∷ ps) (put_planned sides n side new at e)

put_grows : (w : World) (n : ℕ) (side new : Side) → slice_get w.sides n ≡ Some side
    → (is_idle side.client.state ≡ false → is_idle new.client.state ≡ false) → planned_of new ≡ planned_of side → Grows w (with_side w (suc n) new)
put_grows w n side new at stays same = record {
  sent = omega arith;
  spoken = put_spoken w.sides n side new at stays;
  planned = put_planned w.sides n side new at same;
}

posted_grows : (w : World) (number : ℕ) (x : Option PlainSegment) → Grows w (posts_of_client w number x)
posted_grows w number x =
    where_there (Grows w) (λ s. posts w (FromClient number) false (OfSegment 0 s)) x w (grows_not w)
    (λ s e. posts_grows w (FromClient number) false (OfSegment 0 s))

client_grows : (w : World) (n : ℕ) (side base : Side) (took : ClientStep) → slice_get w.sides n ≡ Some side → base.client ≡ side.client
    → Keeps base.client took → Grows w (client_stepped w (suc n) base took)
client_grows w n side base took at same keeps =
    let v = with_side w (suc n) (with_client base took.client) in
    grows_on w v (client_stepped w (suc n) base took) (put_grows w n side (with_client base took.client) at
    (λ h. keeps.stays (ap (λ (c : AbstractClient). is_idle c.state) same ∙ h)) (keeps.planned ∙ ap planned_by same)) (posted_grows v (suc n) took.sent)

module _ (m : AppSpec) (served : ℕ → Bool) where
  handles_grows : (w : World) (event : Event) → Grows w (node_handles m served w event)
  handles_grows w event = stepped_grows w (step m served w.node event)

  all_grows : (events : List Event) (w : World) → Grows w (handles_all m served events w)
  all_grows [] w = grows_not w
  all_grows (e ∷ events) w = grows_on w (node_handles m served w e) (handles_all m served events (node_handles m served w e))
      (handles_grows w e) (all_grows events (node_handles m served w e))

  node_grows : (w : World) (n k : ℕ) (e : Sent) (s : PlainSegment) (side : Side) → slice_get w.sides n ≡ Some side
      → Grows w (node_handles m served (with_side w (suc n) (marked side k e)) (Arrived (client_sockets side) s))
  node_grows w n k e s side at =
      let v = with_side w (suc n) (marked side k e) in
      grows_on w v (node_handles m served v (Arrived (client_sockets side) s)) (put_grows w n side (marked side k e) at (λ h. h) refl)
      (handles_grows v (Arrived (client_sockets side) s))

  delivers_grows : (w : World) (k : ℕ) (e : Sent) (who : Who) (content : Content) → Grows w (delivers m served w k e who content)
  delivers_grows w k e who content =
      delivered_by m served (Grows w) w k e who content (grows_not w) (λ n side at s. node_grows w n k e s side at)
      (λ n side at s. client_grows w n side (marked side k e) (client_takes side.client s) at refl (takes_keeps side.client s))
      (λ datagram is. handles_grows w (EchoAsked datagram))

  acts_grows : (w : World) (number : ℕ) (act : AbstractClient → ClientStep) → ((c : AbstractClient) → Keeps c (act c)) → Grows w (client_acts w number act)
  acts_grows w number act keeps =
      at_number (Grows w) (λ i side. client_stepped w i side (act side.client)) w.sides number w (grows_not w)
      (λ n side at. client_grows w n side side (act side.client) at refl (keeps side.client))

  handed_grows : (w : World) (n : ℕ) (bytes : List ℕ) (side : Side) → slice_get w.sides n ≡ Some side → Grows w (handed w (suc n) bytes side)
  handed_grows w n bytes side at =
      where_there (Grows w) (λ s. client_stepped w (suc n) side (client_takes side.client s)) (receives_datagram side.client.setup bytes) w (grows_not w)
      (λ s e. client_grows w n side side (client_takes side.client s) at refl (takes_keeps side.client s))

  over_grows : (w : World) (bytes : List ℕ) (who : Who) → Grows w (hands_over m served w bytes who)
  over_grows w bytes (FromClient number) = handles_grows w (event_of w.node.addr bytes)
  over_grows w bytes Pinger = handles_grows w (event_of w.node.addr bytes)
  over_grows w bytes (FromNode number) = at_number (Grows w) (λ i side. handed w i bytes side) w.sides number w (grows_not w)
      (λ n side at. handed_grows w n bytes side at)

  pub does_grows : (w : World) (act : Act) → Grows w (does m served w act)
  does_grows w (Act.Opens n) = acts_grows w n client_opens opens_keeps
  does_grows w (Act.Again n) = acts_grows w n client_again again_keeps
  does_grows w (Act.Closes n) = acts_grows w n client_closes closes_keeps
  does_grows w (Act.Aborts n) = acts_grows w n client_aborts aborts_keeps
  does_grows w (Act.Window n x) = acts_grows w n (advertises_window x) (λ c. record { stays = λ h. h; planned = refl })
  does_grows w (Act.Ping source) = posts_grows w Pinger false (OfPing (ping_from source w.node.addr))
  does_grows w (Act.Give k) = at_number (Grows w) (λ i e. delivers m served w i e e.who e.content) w.sent k w (grows_not w)
      (λ n e at. delivers_grows w (suc n) e e.who e.content)
  does_grows w (Act.Damage k at mask) =
      at_number (Grows w) (λ i e. hands_over m served w (changed (sent_bytes w e) at mask) e.who) w.sent k w (grows_not w)
      (λ n e there. over_grows w (changed (sent_bytes w e) at mask) e.who)
  does_grows w Act.Tick = all_grows tick w
