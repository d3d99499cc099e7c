-- Every datagram that was ever sent is sound.
use Rattle.link_world.proofs.Prelude.{◌≡◌, ℕ, suc, ◌<◌, Bool, false, List, [], ◌∷◌, map, refl, sym, ap, ◌∙◌, subst, arith, Option, Some}
use Rattle.link_world.proofs.Prelude.{None, slice_get, Addr, PlainSegment, AppSpec, IsAddr, Connection, same_sockets, Reply, Arrived}
use Rattle.link_world.proofs.Prelude.{EchoAsked, Periodic, Echo, TcpReply, AbstractNode, NodeStep, step, AbstractClient, ClientStep}
use Rattle.link_world.proofs.Prelude.{client_takes, client_opens, client_again, client_closes, client_aborts, advertises_window, World}
use Rattle.link_world.proofs.Prelude.{Side, Sent, Content, client_sockets, retires, retires_in, addressed, posts, posts_reply}
use Rattle.link_world.proofs.Prelude.{posts_of_client, node_stepped, node_handles, with_client, with_side, client_stepped, marked, delivers}
use Rattle.link_world.proofs.Prelude.{OfSegment, OfPing, OfEcho, ping_from, client_acts, handles_all, does, Act, Who, FromClient, FromNode}
use Rattle.link_world.proofs.Prelude.{Pinger, IsAct, IsLoss, IsSteady, choose, only_some, get_push, older, newest, get_map, get_set, here}
use Rattle.link_world.proofs.Prelude.{there, IsSoundSegment}
use Rattle.link_world.proofs.SentBytes.{SendsBytesWhere}
use Rattle.link_world.proofs.FitWorlds.{FitWorld, put_fits, periodic_fits}
use Rattle.link_world.proofs.Sound.{IsSoundClient, SoundStep, takes_sound, opens_sound, again_sound, closes_sound, aborts_sound}
use Rattle.link_world.proofs.Sound.{window_sound}
use Rattle.link_world.proofs.SoundNodes.{EachOf, LensAll, SoundReply, SoundNode, arrival_node, periodic_node}
use Rattle.link_world.proofs.Doing.{at_number, where_there}
use Rattle.link_world.proofs.Harmless.{Harmless}

pub data SoundSent (addr : Addr) (who : Who) (content : Content) : Type 0 where
  of_segment : (id : ℕ) (s : PlainSegment) → content ≡ OfSegment id s → id < 65536 → IsSoundSegment s → SoundSent addr who content
  of_ping : (source : Addr) → who ≡ Pinger → content ≡ OfPing (ping_from source addr) → IsAddr source → SoundSent addr who content
  of_echo : (request : List ℕ) → who ≡ FromNode 0 → content ≡ OfEcho request → SoundSent addr who content

abbrev pub SoundSides : List Side → Type 0
SoundSides sides = (k : ℕ) (side : Side) → slice_get sides k ≡ Some side → IsSoundClient side.client

pub record SoundWorld (w : World) : Type 0 where
  pub addr : IsAddr w.node.addr
  pub conns : LensAll w.node.connections
  pub sides : SoundSides w.sides
  pub sent : (k : ℕ) (e : Sent) → slice_get w.sent k ≡ Some e → SoundSent w.node.addr e.who e.content

-- the mark does not matter to it
pub sound_marked : (w : World) (mark : ℕ) → SoundWorld (record w { mark = mark }) → SoundWorld w
sound_marked w mark h = record { addr = h.addr; conns = h.conns; sides = h.sides; sent = h.sent }

posts_sound : (w : World) (who : Who) (again : Bool) (content : Content) → SoundSent w.node.addr who content → SoundWorld w
    → SoundWorld (posts w who again content)
posts_sound w who again content s h = record {
  addr = h.addr;
  conns = h.conns;
  sides = h.sides;
  sent = λ k e x. elim (get_push w.sent _ k e x) [ older y ↦ h.sent k e y | newest i y ↦ subst (λ (z : Sent). SoundSent w.node.addr z.who z.content) y s ];
}

reply_sound : (w : World) (r : Option Reply) → ((x : Reply) → r ≡ Some x → SoundReply x) → SoundWorld w → SoundWorld (posts_reply w r)
reply_sound w None f h = h
reply_sound w (Some (Echo request)) f h = posts_sound w (FromNode 0) false (OfEcho request) (of_echo request refl refl) h
reply_sound w (Some (TcpReply sockets id again s)) f h =
    let g : (id < 65536) × IsSoundSegment s = f (TcpReply sockets id again s) refl in
    posts_sound w (FromNode (addressed 1 sockets w.sides)) again (OfSegment id s) (of_segment id s refl g.0 g.1) h

buried_sound : (gone : Option Connection) (sides : List Side) → SoundSides sides → SoundSides (retires gone sides)
buried_sound None sides h k side x = h k side x
buried_sound (Some g) sides h k side x =
    let p = get_map (retires_in g) sides k side x in
    let s : IsSoundClient p.from.client = h k p.from p.get in
    subst (λ (o : Side). IsSoundClient o.client) p.is (choose (λ (o : Side). IsSoundClient o.client)
    (same_sockets g.sockets (client_sockets p.from)) _ _ (λ e. s) (λ e. s))

stepped_sound : (H : Connection → Type 0) (w : World) (r : NodeStep) → SoundNode H w.node r → SoundWorld w → SoundWorld (node_stepped w r)
stepped_sound H w r g h = reply_sound (record w { node = r.node; sides = retires r.gone w.sides }) r.sent g.output record {
  addr = subst (λ x. IsAddr x) (sym g.addr) h.addr;
  conns = g.conns;
  sides = buried_sound r.gone w.sides h.sides;
  sent = λ k e x. subst (λ z. SoundSent z e.who e.content) (sym g.addr) (h.sent k e x);
}

put_sound : (w : World) (n : ℕ) (new : Side) → IsSoundClient new.client → SoundWorld w → SoundWorld (with_side w (suc n) new)
put_sound w n new s h = record {
  addr = h.addr;
  conns = h.conns;
  sides = λ k x y. elim (get_set w.sides n new k x y) [ here e p ↦ subst (λ (o : Side). IsSoundClient o.client) p s | there e g ↦ h.sides k x g ];
  sent = h.sent;
}

client_sound : (w : World) (n : ℕ) (base : Side) (took : ClientStep) → SoundStep took → SoundWorld w → SoundWorld (client_stepped w (suc n) base took)
client_sound w n base took s h =
    let v : World = with_side w (suc n) (with_client base took.client) in
    let g : SoundWorld v = put_sound w n (with_client base took.client) s.client h in
    where_there SoundWorld (λ x. posts v (FromClient (suc n)) false (OfSegment 0 x)) took.sent v g
    (λ x e. posts_sound v (FromClient (suc n)) false (OfSegment 0 x) (of_segment 0 x refl (omega arith) (s.output x e)) g)

same_segment : (P : PlainSegment → Type 0) (id id' : ℕ) (s t : PlainSegment) → OfSegment id s ≡ OfSegment id' t → P t → P s
same_segment P id id' s t e h = subst P (let f : t ≡ s = cc in f) h

segment_inside : (addr : Addr) (who : Who) (id : ℕ) (s : PlainSegment) → SoundSent addr who (OfSegment id s) → IsSoundSegment s
segment_inside addr who id s h = elim h [
  | of_segment id' t e l g ↦ same_segment (λ x. IsSoundSegment x) id id' s t e g
  | of_ping source r e a ↦ absurd (cc)
  | of_echo request r e ↦ absurd (cc)
]

pub loss_sound : (w v : World) → IsLoss w v → SoundWorld w → SoundWorld v
loss_sound w v l h = record {
  addr = subst (λ x. IsAddr x) (sym l.addr) h.addr;
  conns = subst LensAll (sym l.connections) h.conns;
  sides = subst SoundSides (sym l.sides) h.sides;
  sent = λ k e x. subst (λ z. SoundSent z e.who e.content) (sym l.addr) (h.sent k e (ap (λ (z : List Sent). slice_get z k) (sym l.sent) ∙ x));
}

-- ---- and H is known of each connection

pub record KnownWorld (H : Connection → Type 0) (w : World) : Type 0 where
  pub sound : SoundWorld w
  pub known : EachOf H w.node.connections

reply_node : (w : World) (r : Option Reply) → (posts_reply w r).node ≡ w.node
reply_node w None = refl
reply_node w (Some (Echo request)) = refl
reply_node w (Some (TcpReply sockets id again s)) = refl

posted_node : (w : World) (number : ℕ) (sent : Option PlainSegment) → (posts_of_client w number sent).node ≡ w.node
posted_node w number None = refl
posted_node w number (Some s) = refl

module _ (H : Connection → Type 0) where
  same_known : (v w : World) → v.node ≡ w.node → EachOf H w.node.connections → EachOf H v.node.connections
  same_known v w e h = subst (λ (n : AbstractNode). EachOf H n.connections) (sym e) h

  stepped_known : (w : World) (r : NodeStep) → SoundNode H w.node r → SoundWorld w → KnownWorld H (node_stepped w r)
  stepped_known w r g h = record {
    sound = stepped_sound H w r g h;
    known = same_known (node_stepped w r) (record w { node = r.node; sides = retires r.gone w.sides })
        (reply_node (record w { node = r.node; sides = retires r.gone w.sides }) r.sent) g.known;
  }

  client_known : (w : World) (n : ℕ) (base : Side) (took : ClientStep) → SoundStep took → KnownWorld H w → KnownWorld H (client_stepped w (suc n) base took)
  client_known w n base took s h = record {
    sound = client_sound w n base took s h.sound;
    known = same_known (client_stepped w (suc n) base took) w (posted_node (with_side w (suc n) (with_client base took.client)) (suc n) took.sent) h.known;
  }

module _ (m : AppSpec) (steady : IsSteady m) (H : Connection → Type 0) (bytes : SendsBytesWhere m H) (served : ℕ → Bool) where
  gives_node_sound : (w : World) (n k : ℕ) (e : Sent) (s : PlainSegment) (side : Side) → slice_get w.sides n ≡ Some side → IsSoundSegment s
      → FitWorld w → KnownWorld H w
      → KnownWorld H (node_handles m served (with_side w (suc n) (marked side k e)) (Arrived (client_sockets side) s))
  gives_node_sound w n k e s side at g f h =
      let v : World = with_side w (suc n) (marked side k e) in
      let vf : FitWorld v = put_fits w n side (marked side k e) at refl refl f in
      let vh : SoundWorld v = put_sound w n (marked side k e) (h.sound.sides n side at) h.sound in
      stepped_known H v (step m served v.node (Arrived (client_sockets side) s))
      (arrival_node m steady H bytes served v.node (client_sockets side) s (f.sides n side at).addr (f.sides n side at).port g vf.node vh.conns h.known) vh

  echo_sound : (w : World) (datagram : List ℕ) → KnownWorld H w → KnownWorld H (node_handles m served w (EchoAsked datagram))
  echo_sound w datagram h = stepped_known H w (step m served w.node (EchoAsked datagram)) record {
    addr = refl;
    conns = h.sound.conns;
    known = h.known;
    output = λ x e. only_some (λ r. SoundReply r) (Echo datagram) x e tt;
  } h.sound

  delivers_sound : (w : World) (k : ℕ) (e : Sent) (who : Who) (content : Content) → SoundSent w.node.addr who content → FitWorld w
      → KnownWorld H w → KnownWorld H (delivers m served w k e who content)
  delivers_sound w k e (FromClient number) (OfSegment id s) g f h =
      at_number (KnownWorld H) (λ i side. node_handles m served (with_side w i (marked side k e)) (Arrived (client_sockets side) s)) w.sides number w h
      (λ n side at. gives_node_sound w n k e s side at (segment_inside w.node.addr (FromClient number) id s g) f h)
  delivers_sound w k e (FromNode number) (OfSegment id s) g f h =
      at_number (KnownWorld H) (λ i side. client_stepped w i (marked side k e) (client_takes side.client s)) w.sides number w h
      (λ n side at. client_known H w n (marked side k e) (client_takes side.client s) (takes_sound side.client s (h.sound.sides n side at)) h)
  delivers_sound w k e Pinger (OfPing datagram) g f h = echo_sound w datagram h
  delivers_sound w k e (FromClient n) (OfPing datagram) g f h = h
  delivers_sound w k e (FromClient n) (OfEcho request) g f h = h
  delivers_sound w k e (FromNode n) (OfPing datagram) g f h = h
  delivers_sound w k e (FromNode n) (OfEcho request) g f h = h
  delivers_sound w k e Pinger (OfSegment id s) g f h = h
  delivers_sound w k e Pinger (OfEcho request) g f h = h

  act_sound : (w : World) (number : ℕ) (act : AbstractClient → ClientStep) → ((c : AbstractClient) → IsSoundClient c → SoundStep (act c))
      → KnownWorld H w → KnownWorld H (client_acts w number act)
  act_sound w number act s h =
      at_number (KnownWorld H) (λ i side. client_stepped w i side (act side.client)) w.sides number w h
      (λ n side at. client_known H w n side (act side.client) (s side.client (h.sound.sides n side at)) h)

  slots_sound : (slots : List ℕ) (w : World) → FitWorld w → KnownWorld H w → KnownWorld H (handles_all m served (map Periodic slots) w)
  slots_sound [] w f h = h
  slots_sound (slot ∷ slots) w f h =
      slots_sound slots (node_handles m served w (Periodic slot)) (periodic_fits m steady served w slot f)
      (stepped_known H w (step m served w.node (Periodic slot)) (periodic_node m steady H bytes served w.node slot f.node h.sound.conns h.known) h.sound)

  pub does_sound : (w : World) (act : Act) → IsAct act → Harmless m served w act → FitWorld w → KnownWorld H w → KnownWorld H (does m served w act)
  does_sound w (Act.Opens n) is l f h = act_sound w n client_opens opens_sound h
  does_sound w (Act.Again n) is l f h = act_sound w n client_again again_sound h
  does_sound w (Act.Closes n) is l f h = act_sound w n client_closes closes_sound h
  does_sound w (Act.Aborts n) is l f h = act_sound w n client_aborts aborts_sound h
  does_sound w (Act.Window n x) is l f h = act_sound w n (advertises_window x) (λ c s. window_sound x c is s) h
  does_sound w (Act.Ping source) is l f h =
      record { sound = posts_sound w Pinger false (OfPing (ping_from source w.node.addr)) (of_ping source refl refl is) h.sound; known = h.known }
  does_sound w (Act.Give k) is l f h =
      at_number (KnownWorld H) (λ i e. delivers m served w i e e.who e.content) w.sent k w h
      (λ n e at. delivers_sound w (suc n) e e.who e.content (h.sound.sent n e at) f h)
  does_sound w (Act.Damage k at mask) is l f h = record {
    sound = loss_sound w (does m served w (Act.Damage k at mask)) l h.sound;
    known = subst (EachOf H) (sym l.connections) h.known;
  }
  does_sound w Act.Tick is l f h = slots_sound (0 ∷ 1 ∷ 2 ∷ 3 ∷ 4 ∷ 5 ∷ 6 ∷ 7 ∷ 8 ∷ 9 ∷ []) w f h
