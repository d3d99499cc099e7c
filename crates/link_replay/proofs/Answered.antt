-- What a call of the node did updates the clients and the list of datagrams.
use Rattle.link_replay.proofs.Prelude.{option_map_or, is_some, ◌≡◌, ◌≤◌, ℕ, zero, suc, Bool, true, false, List, [], length, refl, sym, ap}
use Rattle.link_replay.proofs.Prelude.{◌∙◌, subst, arith, Option, Some, None, slice_get, Vec, with_items, with_items_is, Addr, Buffer}
use Rattle.link_replay.proofs.Prelude.{datagram_in, echo_reply, PlainSegment, datagram_bytes, Connection, Sockets, datagram_to, reply_bytes}
use Rattle.link_replay.proofs.Prelude.{Reply, Echo, TcpReply, AbstractNode, IsSent, Client, FitsRequest, bytes_by, node_bytes, World, Side}
use Rattle.link_replay.proofs.Prelude.{Content, addressed, retires, numbered, posts, posts_reply, OfEcho, OfSegment, FromNode, addressed_is}
use Rattle.link_replay.proofs.Prelude.{OnlyEpoch, Matched, gone_pair, is_sent_again, pair_at, sockets_at, IsLink, LinkRepresents}
use Rattle.link_replay.proofs.Prelude.{SentRepresents, SideRepresents, AreTo, IsTo, Link, link_of, CodeSent, CodeSide, SocketPair}
use Rattle.link_replay.proofs.Pairs.{Partner, partner}
use Rattle.link_replay.proofs.Places.{sent_stays}
use Rattle.link_replay.proofs.Staying.{buried_places}

-- the same client, maybe epochs before
before : (xs ys : List CodeSide) (i : ℕ) (y : CodeSide) → Matched OnlyEpoch xs ys → slice_get ys i ≡ Some y
    → Partner (λ (new old : CodeSide). OnlyEpoch old new) xs i y
before xs ys i y m g = partner (λ (new old : CodeSide). OnlyEpoch old new) ys xs i y record {
  same_length = sym m.same_length;
  each = λ j a b p q. m.each j b a q p;
} g

still_client : (old new : CodeSide) → OnlyEpoch old new → FitsRequest old.client old.request → FitsRequest new.client new.request
still_client old new e h =
    subst (λ (z : Client). FitsRequest z new.request) (sym e.client) (subst (λ (z : List ℕ). FitsRequest old.client z) (sym e.request) h)

-- as many clients as before are all written
with_same : (sides : Vec CodeSide) (ys : List CodeSide) → length sides.items ≡ length ys → (with_items sides ys).items ≡ ys
with_same sides ys e = with_items_is sides ys (sym e ∙ sym sides.ok.0)

-- clients that are epochs on keep what clients keep
pub link_buried : (addr : Addr) (sides : Vec CodeSide) (sent : List CodeSent) (ys : List CodeSide) → Matched OnlyEpoch sides.items ys
    → IsLink addr (link_of sides.items sent)
    → IsLink addr (link_of (with_items sides ys).items sent)
link_buried addr sides sent ys m h =
    let zs : List CodeSide = (with_items sides ys).items in
    let n : Matched OnlyEpoch sides.items zs = subst (λ (xs : List CodeSide). Matched OnlyEpoch sides.items xs) (sym (with_same sides ys m.same_length)) m in
    record {
      few = subst (λ (k : ℕ). k ≤ 64) n.same_length h.few;
      clients = λ i y g. (let p = before sides.items zs i y n g in still_client p.other y p.pair (h.clients i p.other p.get));
      servers = λ i y g. (let p = before sides.items zs i y n g in subst (λ (z : Client). z.setup.server ≡ addr) (sym p.pair.client)
          (h.servers i p.other p.get));
      many = h.many;
      sizes = h.sizes;
    }

-- the world after the node's step and the burial, before the answer is posted
abbrev pub left_by : World → AbstractNode → Option Connection → World
left_by w node gone = record w { node = node; sides = retires gone w.sides }

sent_left : (link : Link) (w : World) (node : AbstractNode) (gone : Option Connection) → node.addr ≡ w.node.addr → LinkRepresents link w
    → Matched (SentRepresents (left_by w node gone)) link.sent w.sent
sent_left link w node gone e h = sent_stays w (left_by w node gone) (sym e) (buried_places gone w.sides) link.sent w.sent h.sent

sides_left : (sides : Vec CodeSide) (sent : List CodeSent) (w : World) (node : AbstractNode) (g : Connection) (ys : List CodeSide)
    → length sides.items ≡ length ys → node.addr ≡ w.node.addr
    → LinkRepresents (link_of sides.items sent) w → Matched SideRepresents ys (retires (Some g) w.sides)
    → LinkRepresents (link_of (with_items sides ys).items sent) (left_by w node (Some g))
sides_left sides sent w node g ys l e h m = record {
  sides = subst (λ (xs : List CodeSide). Matched SideRepresents xs (retires (Some g) w.sides)) (sym (with_same sides ys l)) m;
  sent = sent_left (link_of sides.items sent) w node (Some g) e h;
}

-- a connection became CLOSED
pub one_gone : (sides : Vec CodeSide) (sent : List CodeSent) (w : World) (node : AbstractNode) (gone : Option Connection)
    (pair : SocketPair) (ys : List CodeSide) → length sides.items ≡ length ys
    → Some pair ≡ gone_pair gone → node.addr ≡ w.node.addr → LinkRepresents (link_of sides.items sent) w
    → ((ss : List Side) (g : Connection) → pair_at g.sockets ≡ pair → Matched SideRepresents sides.items ss → Matched SideRepresents ys (retires (Some g) ss))
    → LinkRepresents (link_of (with_items sides ys).items sent) (left_by w node gone)
one_gone sides sent w node None pair ys l p e h b = absurd (cc)
one_gone sides sent w node (Some g) pair ys l p e h b = sides_left sides sent w node g ys l e h
    (b w.sides g (let q : pair ≡ pair_at g.sockets = cc in sym q) h.sides)

-- none did
pub none_gone : (link : Link) (w : World) (node : AbstractNode) (gone : Option Connection) → None ≡ gone_pair gone → node.addr ≡ w.node.addr
    → LinkRepresents link w → LinkRepresents link (left_by w node gone)
none_gone link w node None p e h = record { sides = h.sides; sent = sent_left link w node None e h }
none_gone link w node (Some g) p e h = absurd (cc)

-- the number of the client that an answer goes to
pub record IsNumber (xs : List CodeSide) (to : Option SocketPair) (number : ℕ) : Type 0 where
  pub none : to ≡ None → number ≡ 0
  pub some : (pair : SocketPair) → to ≡ Some pair → (ss : List Side) → Matched SideRepresents xs ss → number ≡ addressed 1 (sockets_at pair) ss

-- an answer to no client has the number 0, and one to a client its client's
pub number_of_none : (xs : List CodeSide) (to : Option SocketPair) (number : ℕ) → to ≡ None → number ≡ 0 → IsNumber xs to number
number_of_none xs to number t e = record { none = λ u. e; some = λ pair u. absurd (let z : None ≡ Some pair = sym t ∙ u in cc) }

pub number_of_some : (xs : List CodeSide) (to : Option SocketPair) (number : ℕ) (pair : SocketPair) → to ≡ Some pair
    → ((ss : List Side) → Matched SideRepresents xs ss → number ≡ addressed 1 (sockets_at pair) ss) → IsNumber xs to number
number_of_some xs to number pair t e = record {
  none = λ u. absurd (let z : Some pair ≡ None = sym t ∙ u in cc);
  some = λ other u ss m. (let z : Some pair ≡ Some other = sym t ∙ u in let same : pair ≡ other = cc in
      subst (λ (p : SocketPair). number ≡ addressed 1 (sockets_at p) ss) same (e ss m));
}

-- what goes to no client has no bytes, but for an echo reply
abbrev pub meant_for : ℕ → Option SocketPair → List ℕ → List ℕ
meant_for number None datagram = datagram
meant_for zero (Some pair) datagram = []
meant_for (suc number) (Some pair) datagram = datagram

-- the three ways in which the code makes the bytes
pub meant_nothing : (number : ℕ) (to : Option SocketPair) (datagram : List ℕ) → number ≡ 0 → is_some to ≡ true → [] ≡ meant_for number to datagram
meant_nothing number None datagram e h = absurd (cc)
meant_nothing zero (Some pair) datagram e h = refl
meant_nothing (suc number) (Some pair) datagram e h = absurd (omega (arith, e))

pub meant_to_none : (number : ℕ) (to : Option SocketPair) (datagram : List ℕ) → is_some to ≡ false → datagram ≡ meant_for number to datagram
meant_to_none number None datagram h = refl
meant_to_none number (Some pair) datagram h = absurd (cc)

pub meant_to_one : (number : ℕ) (to : Option SocketPair) (datagram : List ℕ) → (number ≡ 0 → ⊥) → datagram ≡ meant_for number to datagram
meant_to_one number None datagram n = refl
meant_to_one zero (Some pair) datagram n = absurd (n refl)
meant_to_one (suc number) (Some pair) datagram n = refl

-- the bytes of a segment to the client with its sockets
node_sent : (addr : Addr) (sockets : Sockets) (id : ℕ) (s : PlainSegment) (ss : List Side) (pair : SocketPair) (number : ℕ) → number ≡ addressed 1 sockets ss
    → meant_for number (Some pair) (datagram_bytes (datagram_to addr sockets id s)) ≡ option_map_or (node_bytes addr id s) (numbered ss number) []
node_sent addr sockets id s ss pair zero e = refl
node_sent addr sockets id s ss pair (suc k) e =
    let r = addressed_is 1 sockets k ss (sym e) in
    let at : k ≡ r.index = omega (arith, r.is) in
    ap (λ (p : Sockets). datagram_bytes (datagram_to addr p id s)) r.same
    ∙ sym (ap (λ (o : Option Side). option_map_or (node_bytes addr id s) o []) (ap (slice_get ss) at ∙ r.get))

-- an answer is posted
pub answer_posted : (P : World → Type 0) (w : World) (reply : Reply) (xs : List CodeSide) (to : Option SocketPair) (number : ℕ)
    (again : Bool) (datagram meant : List ℕ)
    → IsTo to reply → again ≡ is_sent_again (Some reply) → datagram ≡ reply_bytes w.node.addr reply → Matched SideRepresents xs w.sides
    → IsNumber xs to number → meant ≡ meant_for number to datagram
    → ((content : Content) → meant ≡ bytes_by w (FromNode number) content → P (posts w (FromNode number) again content)) → P (posts_reply w (Some reply))
answer_posted P w (Echo request) xs to number again datagram meant t a d m n e post =
    let bytes : meant ≡ echo_reply request = e ∙ ap (λ (o : Option SocketPair). meant_for number o datagram) t ∙ d in
    subst (λ (k : ℕ). P (posts w (FromNode k) false (OfEcho request))) (n.none t)
    (subst (λ (b : Bool). P (posts w (FromNode number) b (OfEcho request))) a (post (OfEcho request) bytes))
answer_posted P w (TcpReply sockets id again' s) xs to number again datagram meant t a d m n e post =
    let to_whom : number ≡ addressed 1 sockets w.sides = n.some (pair_at sockets) t w.sides m in
    let bytes : meant ≡ option_map_or (node_bytes w.node.addr id s) (numbered w.sides number) []
    = e ∙ ap (λ (o : Option SocketPair). meant_for number o datagram) t ∙ ap (meant_for number (Some (pair_at sockets))) d
    ∙ node_sent w.node.addr sockets id s w.sides (pair_at sockets) number to_whom in
    subst (λ (k : ℕ). P (posts w (FromNode k) again' (OfSegment id s))) to_whom
    (subst (λ (b : Bool). P (posts w (FromNode number) b (OfSegment id s))) a (post (OfSegment id s) bytes))

-- the node sent nothing
pub quiet : (P : World → Type 0) (w : World) (addr : Addr) (output : Option Reply) (sent : Option ℕ) (packet : Buffer) → sent ≡ None
    → IsSent addr output sent packet → P w → P (posts_reply w output)
quiet P w addr None sent packet e h p = p
quiet P w addr (Some reply) sent packet e h p = absurd (let z : None ≡ Some (length (reply_bytes addr reply)) = sym e ∙ h.answer in cc)

-- it answered
pub loud : (P : World → Type 0) (w : World) (addr : Addr) (to : Option SocketPair) (output : Option Reply) (sent : Option ℕ) (size : ℕ)
    (packet : Buffer) (again : Bool)
    → sent ≡ Some size → addr ≡ w.node.addr → AreTo to output → again ≡ is_sent_again output → IsSent addr output sent packet
    → ((reply : Reply) → IsTo to reply → again ≡ is_sent_again (Some reply) → datagram_in packet ≡ reply_bytes w.node.addr reply
    → P (posts_reply w (Some reply)))
    → P (posts_reply w output)
loud P w addr to None sent size packet again e a t g h post = absurd (let z : None ≡ Some size = sym h ∙ e in cc)
loud P w addr to (Some reply) sent size packet again e a t g h post = post reply t g (h.datagram ∙ ap (λ (x : Addr). reply_bytes x reply) a)
