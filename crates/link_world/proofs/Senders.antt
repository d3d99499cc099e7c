-- Each datagram is a client's, a pinger's or the node's, and the node sends to clients alone.
use Rattle.link_world.proofs.Prelude.{◌≡◌, ℕ, zero, suc, Bool, true, false, ◌&&◌, List, [], ◌∷◌, ◌++◌, map, set, refl, sym, ap, ◌∙◌, subst}
use Rattle.link_world.proofs.Prelude.{arith, Option, Some, None, slice_get, slice_index_or, option_map, option_map_or, slice_get-map}
use Rattle.link_world.proofs.Prelude.{PlainSegment, has_rst, AppSpec, Pages, IsPaged, Sockets, Connection, closed, is_live, serves}
use Rattle.link_world.proofs.Prelude.{same_sockets, is_plain_syn, segment_of, is_again, reset_for_no_connection, Outcome, leaves, asked}
use Rattle.link_world.proofs.Prelude.{accept, on_segment, on_tick, Step, Event, Answer, HistoryEntry, Reply, Arrived, EchoAsked, Periodic}
use Rattle.link_world.proofs.Prelude.{Silent, Spoke, NoSlot, Echo, TcpReply, initial_number, ident_of, AbstractNode, NodeStep, snapshot}
use Rattle.link_world.proofs.Prelude.{happened, connection_in, slot_for_syn, passes, refuses, opens_in, opens, for_no_connection}
use Rattle.link_world.proofs.Prelude.{arrives_at, step, AbstractClient, ClientStep, client_takes, client_opens, client_again, client_closes}
use Rattle.link_world.proofs.Prelude.{client_aborts, advertises_window, Setup, World, Side, Sent, Content, client_sockets, retires}
use Rattle.link_world.proofs.Prelude.{retires_in, addressed, posts, posts_reply, node_stepped, node_handles, with_client, with_side}
use Rattle.link_world.proofs.Prelude.{client_stepped, marked, delivers, OfSegment, OfPing, OfEcho, ping_from, client_acts, handles_all}
use Rattle.link_world.proofs.Prelude.{does, serving, Planned, initial_world, Act, Who, FromClient, FromNode, Pinger, IsLoss, IsReached}
use Rattle.link_world.proofs.Prelude.{IsNumberOf, IsSentBy, SentToClients, both_ways, choose, only_some, and_true, get_push, older, newest}
use Rattle.link_world.proofs.Prelude.{get_set, get_set_same, find_is, index_of, all_closed, here, there, finds, finds_none, same_is}
use Rattle.link_world.proofs.Prelude.{asked_keeps, on_segment_keeps, on_tick_keeps, on_tick_closed}
use Rattle.link_world.proofs.Doing.{at_number, where_there, delivered_by}
use Rattle.link_world.proofs.Sides.{finds_one, buried_sockets}
use Rattle.link_world.proofs.Setups.{SameSetup, takes_setup, opens_setup, again_setup, closes_setup, aborts_setup}
use Rattle.link_world.proofs.Harmless.{Harmless}
use Rattle.link_world.proofs.RetransmissionInvariant.{get_older}
use Rattle.link_world.proofs.Runs.{reached}

-- a client has these sockets
pub record HasClient (sides : List Side) (p : Sockets) : Type 0 where
  pub index : ℕ
  pub side : Side
  pub get : slice_get sides index ≡ Some side
  pub same : p ≡ client_sockets side

-- every connection that lives is one with a client
abbrev pub HaveClients : List Side → List Connection → Type 0
HaveClients sides table = (i : ℕ) (c : Connection) → slice_get table i ≡ Some c → is_live c.state ≡ true → HasClient sides c.sockets

-- the request of an echo reply was sent
pub record IsAsked (sent : List Sent) (request : List ℕ) : Type 0 where
  pub index : ℕ
  pub asker : Sent
  pub get : slice_get sent index ≡ Some asker
  pub is : asker.content ≡ OfPing request

abbrev pub Asked : List Sent → Content → Type 0
Asked sent (OfEcho request) = IsAsked sent request
Asked sent (OfSegment id s) = Unit {0}
Asked sent (OfPing datagram) = Unit {0}

abbrev pub IsFrom : List Side → List Sent → Who → Content → Type 0
IsFrom sides sent who content = IsSentBy sides who content × Asked sent content

abbrev AllFrom : List Side → List Sent → Type 0
AllFrom sides sent = (k : ℕ) (e : Sent) → slice_get sent k ≡ Some e → IsFrom sides sent e.who e.content

pub record HasSenders (w : World) : Type 0 where
  pub conns : HaveClients w.sides w.node.connections
  pub sent : AllFrom w.sides w.sent

-- ---- the clients stay, with their sockets

record Stays (after : List Side) (k : ℕ) (side : Side) : Type 0 where
  new : Side
  get : slice_get after k ≡ Some new
  same : client_sockets new ≡ client_sockets side

abbrev AllStay : List Side → List Side → Type 0
AllStay before after = (k : ℕ) (side : Side) → slice_get before k ≡ Some side → Stays after k side

client_stays : (a b : List Side) (p : Sockets) → AllStay a b → HasClient a p → HasClient b p
client_stays a b p f h = let s : Stays b h.index h.side = f h.index h.side h.get in
    record { index = h.index; side = s.new; get = s.get; same = h.same ∙ sym s.same }

clients_stay : (a b : List Side) (table : List Connection) → AllStay a b → HaveClients a table → HaveClients b table
clients_stay a b table f h i c x l = client_stays a b c.sockets f (h i c x l)

number_stays : (a b : List Side) (number : ℕ) → AllStay a b → IsNumberOf a number → IsNumberOf b number
number_stays a b zero f h = absurd (let z : None ≡ Some h.0 = h.1 in cc)
number_stays a b (suc n) f h = let s : Stays b n h.0 = f n h.0 h.1 in (s.new, s.get)

sender_stays : (a b : List Side) (who : Who) (content : Content) → AllStay a b → IsSentBy a who content → IsSentBy b who content
sender_stays a b (FromClient number) (OfSegment id s) f h = number_stays a b number f h
sender_stays a b (FromClient number) (OfPing datagram) f h = absurd h
sender_stays a b (FromClient number) (OfEcho request) f h = absurd h
sender_stays a b (FromNode number) (OfSegment id s) f h = number_stays a b number f h
sender_stays a b (FromNode number) (OfPing datagram) f h = absurd h
sender_stays a b (FromNode number) (OfEcho request) f h = h
sender_stays a b Pinger (OfSegment id s) f h = absurd h
sender_stays a b Pinger (OfPing datagram) f h = tt
sender_stays a b Pinger (OfEcho request) f h = absurd h

senders_stay : (a b : List Side) (sent : List Sent) → AllStay a b → AllFrom a sent → AllFrom b sent
senders_stay a b sent f h k e x = (sender_stays a b e.who e.content f (h k e x).0, (h k e x).1)

put_stays : (sides : List Side) (n : ℕ) (side new : Side) → slice_get sides n ≡ Some side → client_sockets new ≡ client_sockets side
    → AllStay sides (set sides n new)
put_stays [] n side new at e k old h = absurd (cc)
put_stays (s ∷ ss) zero side new at e zero old h =
    record { new = new; get = refl; same = (let q : side ≡ old = cc in e ∙ ap (λ (o : Side). client_sockets o) q) }
put_stays (s ∷ ss) zero side new at e (suc k) old h = record { new = old; get = h; same = refl }
put_stays (s ∷ ss) (suc n) side new at e zero old h = record { new = old; get = h; same = refl }
put_stays (s ∷ ss) (suc n) side new at e (suc k) old h = let r : Stays (set ss n new) k old = put_stays ss n side new at e k old h in
    record { new = r.new; get = r.get; same = r.same }

buries_stay : (gone : Option Connection) (sides : List Side) → AllStay sides (retires gone sides)
buries_stay None sides k side h = record { new = side; get = h; same = refl }
buries_stay (Some g) sides k side h = record {
  new = retires_in g side;
  get = slice_get-map (retires_in g) sides k
      ∙ ap (λ (o : Option Side). Rattle.std.specs.Prelude.option_map (retires_in g) o) h;
  same = buried_sockets (Some g) side;
}

-- ---- one more datagram

asked_stays : (sent : List Sent) (x : Sent) (content : Content) → Asked sent content → Asked (sent ++ x ∷ []) content
asked_stays sent x (OfSegment id s) h = tt
asked_stays sent x (OfPing datagram) h = tt
asked_stays sent x (OfEcho request) h = record { index = h.index; asker = h.asker; get = get_older sent x h.asker h.index h.get; is = h.is }

push_from : (sides : List Side) (sent : List Sent) (new : Sent) → IsFrom sides sent new.who new.content → AllFrom sides sent → AllFrom sides (sent ++ new ∷ [])
push_from sides sent new s h k e x = elim (get_push sent new k e x) [
  | older y ↦ ((h k e y).0, asked_stays sent new e.content (h k e y).1)
  | newest i y ↦ subst (λ (z : Sent). IsFrom sides (sent ++ new ∷ []) z.who z.content) y (s.0, asked_stays sent new new.content s.1)
]

posts_from : (w : World) (who : Who) (again : Bool) (content : Content) → IsFrom w.sides w.sent who content → HasSenders w
    → HasSenders (posts w who again content)
posts_from w who again content s h = record { conns = h.conns; sent = push_from w.sides w.sent _ s h.sent }

-- ---- a step of the node

abbrev MaySend : List Side → List Sent → Reply → Type 0
MaySend sides sent (Echo request) = IsAsked sent request
MaySend sides sent (TcpReply sockets id again s) = HasClient sides sockets

record StepFrom (sides : List Side) (sent : List Sent) (r : NodeStep) : Type 0 where
  conns : HaveClients sides r.node.connections
  output : (x : Reply) → r.sent ≡ Some x → MaySend sides sent x

-- the client with these sockets is addressed
is_number : (sides : List Side) (p : Sockets) → HasClient sides p → IsNumberOf sides (addressed 1 p sides)
is_number sides p h =
    let r = finds_one 1 p h.index h.side sides h.get h.same in
    let e : addressed 1 p sides ≡ suc r.index = r.is ∙ omega arith in
    subst (λ n. IsNumberOf sides n) (sym e) (r.side, r.get)

reply_from : (w : World) (r : Option Reply) → ((x : Reply) → r ≡ Some x → MaySend w.sides w.sent x) → HasSenders w → HasSenders (posts_reply w r)
reply_from w None f h = h
reply_from w (Some (Echo request)) f h = posts_from w (FromNode 0) false (OfEcho request) (refl, f (Echo request) refl) h
reply_from w (Some (TcpReply sockets id again s)) f h = posts_from w (FromNode (addressed 1 sockets w.sides)) again (OfSegment id s)
    (is_number w.sides sockets (f (TcpReply sockets id again s) refl), tt) h

send_stays : (a b : List Side) (sent : List Sent) (x : Reply) → AllStay a b → MaySend a sent x → MaySend b sent x
send_stays a b sent (Echo request) f h = h
send_stays a b sent (TcpReply sockets id again s) f h = client_stays a b sockets f h

stepped_from : (w : World) (r : NodeStep) → StepFrom w.sides w.sent r → HasSenders w → HasSenders (node_stepped w r)
stepped_from w r g h =
    let stay : AllStay w.sides (retires r.gone w.sides) = buries_stay r.gone w.sides in
    reply_from (record w { node = r.node; sides = retires r.gone w.sides }) r.sent (λ x e. send_stays w.sides (retires r.gone w.sides)
    w.sent x stay (g.output x e)) record {
      conns = clients_stay w.sides (retires r.gone w.sides) r.node.connections stay g.conns;
      sent = senders_stay w.sides (retires r.gone w.sides) w.sent stay h.sent;
    }

module _ (sides : List Side) (sent : List Sent) where
  set_clients : (table : List Connection) (i : ℕ) (new : Connection) → (is_live new.state ≡ true → HasClient sides new.sockets)
      → HaveClients sides table → HaveClients sides (set table i new)
  set_clients table i new f h j c x l = elim (get_set table i new j c x) [
    | here e q ↦ (let g : is_live c.state ≡ true → HasClient sides c.sockets = subst (λ (z : Connection). is_live z.state ≡ true
        → HasClient sides z.sockets) q f in g l)
    | there n g ↦ h j c g l
  ]

  index_client : (table : List Connection) (i : ℕ) → HaveClients sides table → is_live (slice_index_or table i closed).state ≡ true
      → HasClient sides (slice_index_or table i closed).sockets
  index_client [] i h l = absurd (cc)
  index_client (c ∷ cs) zero h l = h zero c refl l
  index_client (c ∷ cs) (suc i) h l = index_client cs i (λ j x g. h (suc j) x g) l

  replies_from : (output : Option PlainSegment) (sockets : Sockets) (id : ℕ) (again : Bool)
      → ((s : PlainSegment) → output ≡ Some s → HasClient sides sockets) → (x : Reply) → option_map (λ s. TcpReply sockets id again s)
      output ≡ Some x → MaySend sides sent x
  replies_from None sockets id again f x e = absurd (cc)
  replies_from (Some s) sockets id again f x e = only_some (λ r. MaySend sides sent r) (TcpReply sockets id again s) x e (f s refl)

  module _ (m : AppSpec) where
    happened_from : (n : AbstractNode) (event : Event) (slot : ℕ) (old : Connection) (o : Outcome)
        → (is_live o.connection.state ≡ true → HasClient sides o.connection.sockets) →
        ((s : PlainSegment) → segment_of m o.connection o.step ≡ Some s → HasClient sides o.connection.sockets)
        → HaveClients sides n.connections → StepFrom sides sent (happened m n event slot old o)
    unfolding happened
    happened_from n event slot old o f g h = record {
      conns = set_clients n.connections slot o.connection f h;
      output = (let history : List HistoryEntry =
          record { event = event; answer = option_map_or (λ s. Spoke (is_again o.step)) (segment_of m o.connection o.step) Silent } ∷ n.history in
          replies_from (segment_of m o.connection o.step) o.connection.sockets (ident_of history) (is_again o.step) g);
    }

    still_from : (n : AbstractNode) (event : Event) (answer : Answer) → HaveClients sides n.connections → StepFrom sides sent (passes n event answer)
    still_from n event answer h = record { conns = h; output = λ x e. absurd (cc) }

    opens_from : (n : AbstractNode) (p : Sockets) (s : PlainSegment) (slot : Option ℕ) → HasClient sides p → HaveClients sides n.connections
        → StepFrom sides sent (opens m n p s slot)
    unfolding opens_in
    opens_from n p s None c h = still_from n (Arrived p s) NoSlot h
    opens_from n p s (Some slot) c h =
        let g : StepFrom sides sent (happened m n (Arrived p s) slot (connection_in slot n) (accept (initial_number n.history) p s n.numbers)) =
        happened_from n (Arrived p s) slot (connection_in slot n) (accept (initial_number n.history) p s n.numbers) (λ l. c) (λ x e. c) h in
        record { conns = g.conns; output = g.output }

    refuses_from : (n : AbstractNode) (p : Sockets) (s : PlainSegment) → HasClient sides p → HaveClients sides n.connections
        → StepFrom sides sent (refuses n p s)
    refuses_from n p s c h = record {
      conns = h;
      output = λ x e. (let history : List HistoryEntry = record { event = Arrived p s; answer = Spoke false } ∷ n.history in
          only_some (λ r. MaySend sides sent r) (TcpReply p (ident_of history) false (reset_for_no_connection s)) x e c);
    }

    stranger_from : (served : ℕ → Bool) (n : AbstractNode) (p : Sockets) (s : PlainSegment) → HasClient sides p
        → HaveClients sides n.connections → StepFrom sides sent (for_no_connection m served n p s)
    unfolding for_no_connection
    stranger_from served n p s c h =
        choose (λ x. StepFrom sides sent x) (is_plain_syn s && served p.own_port.0) _ _ (λ e. opens_from n p s (slot_for_syn n.connections) c h)
        (λ e. choose (λ x. StepFrom sides sent x) (has_rst s.flags) _ _ (λ q. still_from n (Arrived p s) Silent h) (λ q. refuses_from n p s c h))

    -- a connection that has the same sockets continues
    goes_on_from : (n : AbstractNode) (event : Event) (slot : ℕ) (c : Connection) (o : Outcome) → o.connection.sockets ≡ c.sockets
        → HasClient sides c.sockets → HaveClients sides n.connections → StepFrom sides sent (happened m n event slot c o)
    goes_on_from n event slot c o e k h =
        let known : HasClient sides o.connection.sockets = subst (λ p. HasClient sides p) (sym e) k in
        happened_from n event slot c o (λ l. known) (λ s q. known) h

    served_sockets : (p : Sockets) (c : Connection) → serves p c ≡ true → c.sockets ≡ p
    served_sockets p c e = same_is c.sockets p (and_true (is_live c.state) (same_sockets c.sockets p) e).1

    arrives_from : (served : ℕ → Bool) (n : AbstractNode) (p : Sockets) (s : PlainSegment) (c : Connection) (slot : ℕ)
        → connection_in slot n ≡ c → serves p c ≡ true → HasClient sides p → HaveClients sides n.connections
        → StepFrom sides sent (arrives_at m served n p s (Some slot))
    arrives_from served n p s c slot q e k h =
        let old : Connection = connection_in slot n in
        let o : Outcome = on_segment m old n.numbers s in
        goes_on_from n (Arrived p s) slot old (asked m (snapshot n (Arrived p s) slot) o) (asked_keeps m (snapshot n (Arrived p s) slot) old
        o (on_segment_keeps m old n.numbers s))
        (subst (λ (z : Sockets). HasClient sides z) (sym (ap (λ (z : Connection). z.sockets) q ∙ served_sockets p c e)) k) h

    arrival_from : (served : ℕ → Bool) (n : AbstractNode) (p : Sockets) (s : PlainSegment) → HasClient sides p
        → HaveClients sides n.connections → StepFrom sides sent (step m served n (Arrived p s))
    arrival_from served n p s k h = elim (find_is p n.connections) [
      | finds i f g e ↦ subst (λ x. StepFrom sides sent (arrives_at m served n p s x)) (sym (f ∙ ap Some (omega arith)))
          (arrives_from served n p s (serving p n.connections) i (index_of n.connections i closed (serving p n.connections) g) e k h)
      | finds_none f g ↦ subst (λ x. StepFrom sides sent (arrives_at m served n p s x)) (sym f) (stranger_from served n p s k h)
    ]

    nothing_sent : (c : Connection) (s : PlainSegment) → segment_of m c Step.Drop ≡ Some s → ⊥
    nothing_sent c s e = cc

    periodic_from : (served : ℕ → Bool) (n : AbstractNode) (slot : ℕ) → HaveClients sides n.connections → StepFrom sides sent (step m served n (Periodic slot))
    periodic_from served n slot h =
        let c : Connection = connection_in slot n in
        let o : Outcome = on_tick m c n.numbers in
        both_ways (is_live c.state)
        (λ l. goes_on_from n (Periodic slot) slot c (asked m (snapshot n (Periodic slot) slot) o)
        (asked_keeps m (snapshot n (Periodic slot) slot) c o (on_tick_keeps m c n.numbers)) (index_client n.connections slot h l) h)
        (λ l. subst (λ (x : Outcome). StepFrom sides sent
        (happened m n (Periodic slot) slot c (asked m (snapshot n (Periodic slot) slot) x))) (sym (on_tick_closed m c n.numbers l))
        (happened_from n (Periodic slot) slot c (leaves c n.numbers Step.Drop) (λ e. absurd (let z : true ≡ false = sym e ∙ l in cc))
        (λ s e. absurd (nothing_sent c s e)) h))

-- ---- the acts

put_from : (w : World) (n : ℕ) (side new : Side) → slice_get w.sides n ≡ Some side → client_sockets new ≡ client_sockets side → HasSenders w
    → HasSenders (with_side w (suc n) new)
put_from w n side new at e h =
    let stay : AllStay w.sides (set w.sides n new) = put_stays w.sides n side new at e in
    record {
      conns = clients_stay w.sides (set w.sides n new) w.node.connections stay h.conns;
      sent = senders_stay w.sides (set w.sides n new) w.sent stay h.sent;
    }

abbrev sockets_by : Setup → Sockets
sockets_by setup = record { peer = setup.addr; peer_port = setup.port; own_port = setup.server_port }

client_from : (w : World) (n : ℕ) (side base : Side) (took : ClientStep) → slice_get w.sides n ≡ Some side
    → took.client.setup ≡ side.client.setup → HasSenders w → HasSenders (client_stepped w (suc n) base took)
client_from w n side base took at e h =
    let new : Side = with_client base took.client in
    let v : World = with_side w (suc n) new in
    let g : HasSenders v = put_from w n side new at (ap sockets_by e) h in
    where_there HasSenders (λ x. posts v (FromClient (suc n)) false (OfSegment 0 x)) took.sent v g
    (λ x is. posts_from v (FromClient (suc n)) false (OfSegment 0 x) ((new, get_set_same w.sides n side new at), tt) g)

loss_from : (w v : World) → IsLoss w v → HasSenders w → HasSenders v
loss_from w v l h =
    let conns : HaveClients w.sides v.node.connections = subst (λ t. HaveClients w.sides t) (sym l.connections) h.conns in
    let sent : AllFrom w.sides v.sent = subst (λ t. AllFrom w.sides t) (sym l.sent) h.sent in
    record { conns = subst (λ s. HaveClients s v.node.connections) (sym l.sides) conns; sent = subst (λ s. AllFrom s v.sent) (sym l.sides) sent }

module _ (m : AppSpec) (served : ℕ → Bool) where
  gives_node_from : (w : World) (n k : ℕ) (e : Sent) (s : PlainSegment) (side : Side) → slice_get w.sides n ≡ Some side → HasSenders w
      → HasSenders (node_handles m served (with_side w (suc n) (marked side k e)) (Arrived (client_sockets side) s))
  gives_node_from w n k e s side at h =
      let v : World = with_side w (suc n) (marked side k e) in
      let g : HasSenders v = put_from w n side (marked side k e) at refl h in
      stepped_from v (step m served v.node (Arrived (client_sockets side) s))
      (arrival_from v.sides v.sent m served v.node (client_sockets side) s record {
        index = n;
        side = marked side k e;
        get = get_set_same w.sides n side (marked side k e) at;
        same = refl;
      } g.conns) g

  echo_from : (w : World) (datagram : List ℕ) → IsAsked w.sent datagram → HasSenders w → HasSenders (node_handles m served w (EchoAsked datagram))
  echo_from w datagram a h = stepped_from w (step m served w.node (EchoAsked datagram))
      record { conns = h.conns; output = λ x e. only_some (λ r. MaySend w.sides w.sent r) (Echo datagram) x e a } h

  delivers_from : (w : World) (k : ℕ) (e : Sent) (who : Who) (content : Content) → ((datagram : List ℕ) → content ≡ OfPing datagram
      → IsAsked w.sent datagram) → HasSenders w → HasSenders (delivers m served w k e who content)
  delivers_from w k e who content a h =
      delivered_by m served HasSenders w k e who content h (λ n side at s. gives_node_from w n k e s side at h)
      (λ n side at s. client_from w n side (marked side k e) (client_takes side.client s) at (takes_setup side.client s) h)
      (λ datagram is. echo_from w datagram (a datagram is) h)

  act_from : (w : World) (number : ℕ) (act : AbstractClient → ClientStep) → ((c : AbstractClient) → SameSetup c (act c)) → HasSenders w
      → HasSenders (client_acts w number act)
  act_from w number act s h =
      at_number HasSenders (λ i side. client_stepped w i side (act side.client)) w.sides number w h
      (λ n side at. client_from w n side side (act side.client) at (s side.client) h)

  slots_from : (slots : List ℕ) (w : World) → HasSenders w → HasSenders (handles_all m served (map Periodic slots) w)
  slots_from [] w h = h
  slots_from (slot ∷ slots) w h =
      slots_from slots (node_handles m served w (Periodic slot)) (stepped_from w (step m served w.node (Periodic slot))
      (periodic_from w.sides w.sent m served w.node slot h.conns) h)

  does_from : (w : World) (act : Act) → Harmless m served w act → HasSenders w → HasSenders (does m served w act)
  does_from w (Act.Opens n) l h = act_from w n client_opens opens_setup h
  does_from w (Act.Again n) l h = act_from w n client_again again_setup h
  does_from w (Act.Closes n) l h = act_from w n client_closes closes_setup h
  does_from w (Act.Aborts n) l h = act_from w n client_aborts aborts_setup h
  does_from w (Act.Window n x) l h = act_from w n (advertises_window x) (λ c. refl) h
  does_from w (Act.Ping source) l h = posts_from w Pinger false (OfPing (ping_from source w.node.addr)) (tt, tt) h
  does_from w (Act.Give k) l h =
      at_number HasSenders (λ i e. delivers m served w i e e.who e.content) w.sent k w h
      (λ n e at. delivers_from w (suc n) e e.who e.content (λ datagram q. record { index = n; asker = e; get = at; is = q }) h)
  does_from w (Act.Damage k at mask) l h = loss_from w (does m served w (Act.Damage k at mask)) l h
  does_from w Act.Tick l h = slots_from (0 ∷ 1 ∷ 2 ∷ 3 ∷ 4 ∷ 5 ∷ 6 ∷ 7 ∷ 8 ∷ 9 ∷ []) w h

opening_from : (addr : Rattle.uip_wire.specs.declared.addr.Addr.Addr) (numbers : List ℕ) (plan : List Planned) → HasSenders (initial_world addr numbers plan)
opening_from addr numbers plan = record {
  conns = λ i c x. subst (λ (z : Connection). is_live z.state ≡ true → HasClient (initial_world addr numbers plan).sides z.sockets)
      (all_closed 10 i c x) (λ l. absurd (cc));
  sent = λ k e x. absurd (cc);
}

pub has_senders : (m : AppSpec) (pages : Pages) → IsPaged m pages → (w : World) → IsReached m pages w → HasSenders w
has_senders m pages lawful w r = reached m pages lawful (λ v. HasSenders v) (λ served v act l h f. does_from m served v act l h)
    (λ addr numbers plan is. opening_from addr numbers plan) w r

pub sent_to_clients : SentToClients
sent_to_clients m pages lawful w r k e x = ((has_senders m pages lawful w r).sent k e x).0
