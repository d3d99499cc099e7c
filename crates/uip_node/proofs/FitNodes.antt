-- Every connection of a node has captures of snapshots alone, and an address and a port that fit their types.
use Rattle.uip_node.proofs.Prelude.{All, position_from, position_from-zero, ◌≡◌, ℕ, zero, suc, ◌+◌, ◌<◌, ◌≤◌, Bool, not, ◌&&◌, List, []}
use Rattle.uip_node.proofs.Prelude.{◌∷◌, length, refl, sym, ap, ◌∙◌, subst, arith, Option, Some, None, slice_get, slice_index_or, position}
use Rattle.uip_node.proofs.Prelude.{cond, length-set, PlainSegment, has_rst, AppSpec, IsSteady, IsSnapshot, IsNow, IsU32, IsByte, IsAddr}
use Rattle.uip_node.proofs.Prelude.{Sockets, Connection, closed, serves, is_plain_syn, Outcome, accept, on_segment, on_tick, Event, Reply}
use Rattle.uip_node.proofs.Prelude.{EchoReplied, Silent, IpRefused, IcmpRefused, TcpRefused, EchoAsked, Arrived, Overlong, Periodic}
use Rattle.uip_node.proofs.Prelude.{initial_number, AbstractNode, NodeStep, snapshot, happened, connection_in, slot_for_syn, opens_in}
use Rattle.uip_node.proofs.Prelude.{opens, for_no_connection, arrives_at, remembers, step, serving, IsEvent}
use Rattle.tcp_machine.specs.Connection.{is_live}
use Rattle.uip_node.proofs.Finding.{syn_slot_within}
use Rattle.uip_node.proofs.Stepping.{slice_get-element}
use Rattle.uip_node.proofs.Basics.{choose, only_some}
use Rattle.uip_node.proofs.Fits.{FitConn, FitOut, all_nil, all_cons, set_conns, snapshot_fits, asked_fits, accepted_fits, on_segment_fits}
use Rattle.uip_node.proofs.Fits.{on_tick_fits}

abbrev pub FitConns : List Connection → Type 0
FitConns table = (i : ℕ) (c : Connection) → slice_get table i ≡ Some c → FitConn c

pub record FitNode (n : AbstractNode) : Type 0 where
  pub size : length n.connections ≤ 10
  pub conns : FitConns n.connections
  pub numbers : All IsU32 n.numbers

pub record FitStep (r : NodeStep) : Type 0 where
  pub node : FitNode r.node
  pub gone : (g : Connection) → r.gone ≡ Some g → FitConn g

pub closed_fits : FitConn closed
closed_fits = record {
  rest = λ r. absurd (cc);
  snapshots = all_nil IsSnapshot;
  addr = record {
    four = refl;
    all_bytes = all_cons IsByte 0 (0 ∷ 0 ∷ 0 ∷ []) (omega arith) (all_cons IsByte 0 (0 ∷ 0 ∷ []) (omega arith)
        (all_cons IsByte 0 (0 ∷ []) (omega arith) (all_cons IsByte 0 [] (omega arith) (all_nil IsByte))));
  };
  port = omega arith;
}

pub serving_fits : (p : Sockets) (table : List Connection) → FitConns table → FitConn (serving p table)
serving_fits p [] h = closed_fits
serving_fits p (c ∷ cs) h = choose (λ x. FitConn x) (serves p c) _ _ (λ e. h zero c refl) (λ e. serving_fits p cs (λ i x g. h (suc i) x g))

pub index_fits : (table : List Connection) (i : ℕ) → FitConns table → FitConn (slice_index_or table i closed)
index_fits [] i h = closed_fits
index_fits (c ∷ cs) zero h = h zero c refl
index_fits (c ∷ cs) (suc i) h = index_fits cs i (λ j x g. h (suc j) x g)

-- what a position means
pub record Placed {X : Type 0} (xs : List X) (at i : ℕ) : Type 0 where
  pub index : ℕ
  pub is : i ≡ at + index
  pub item : X
  pub get : slice_get xs index ≡ Some item

placed_from : {X : Type 0} (p : X → Bool) (at : ℕ) (xs : List X) (i : ℕ) → position_from p at xs ≡ Some i → Placed xs at i
placed_from p at [] i h = absurd (cc)
placed_from p at (x ∷ xs) i h =
    Rattle.uip_node.proofs.Basics.both_ways (p x)
    (λ e. let z : Some at ≡ Some i = sym (ap (λ b. cond b (Some at) (position_from p (at + 1) xs)) e) ∙ h in
    record { index = 0; is = (let y : at ≡ i = cc in omega (arith, y)); item = x; get = refl })
    (λ e. let r = placed_from p (at + 1) xs i (sym (ap (λ b. cond b (Some at) (position_from p (at + 1) xs)) e) ∙ h) in
    record { index = suc r.index; is = omega (arith, r.is); item = r.item; get = r.get })

pub record Inside {X : Type 0} (xs : List X) (i : ℕ) : Type 0 where
  pub item : X
  pub get : slice_get xs i ≡ Some item

pub position_in : {X : Type 0} (p : X → Bool) (xs : List X) (i : ℕ) → position p xs ≡ Some i → Inside xs i
position_in p xs i h =
    let r = placed_from p 0 xs i (sym (position_from-zero p xs) ∙ h) in
    record { item = r.item; get = ap (slice_get xs) (let e : i ≡ r.index = omega (arith, r.is) in e) ∙ r.get }

-- the slot for a SYN is one of the ten
pub slot_inside : (cs : List Connection) (slot : ℕ) → slot_for_syn cs ≡ Some slot → Inside cs slot
slot_inside cs slot h =
    let there = slice_get-element cs slot (syn_slot_within cs slot h) in
    record { item = there.0; get = there.1 }

module _ (m : AppSpec) (steady : IsSteady m) where
  pub happened_fits : (n : AbstractNode) (event : Event) (slot : ℕ) (old : Connection) (o : Outcome) → FitNode n → FitOut o
      → FitStep (happened m n event slot old o)
  unfolding happened
  happened_fits n event slot old o f h = record {
    node = record {
      size = omega (arith, f.size, length-set n.connections slot o.connection);
      conns = set_conns n.connections slot o.connection h.conn f.conns;
      numbers = h.numbers;
    };
    gone = choose (λ (x : Option Connection). (g : Connection) → x ≡ Some g → FitConn g) (is_live old.state && not (is_live o.connection.state)) _ _
        (λ e g q. only_some (λ z. FitConn z) o.connection g q h.conn) (λ e g q. absurd (cc));
  }

  pub node_snapshot : (n : AbstractNode) (event : Event) (slot : ℕ) → FitNode n → (c : Connection) → FitConn c → IsNow (snapshot n event slot c)
  node_snapshot n event slot f c h = snapshot_fits n event slot c f.size f.conns h

  pub still_fits : (n d : AbstractNode) (sent : Option Reply) → d.connections ≡ n.connections → d.numbers ≡ n.numbers → FitNode n
      → FitStep (record { node = d; sent = sent; gone = None })
  still_fits n d sent ec en f = record {
    node = record {
      size = subst (λ (x : List Connection). length x ≤ 10) (sym ec) f.size;
      conns = subst FitConns (sym ec) f.conns;
      numbers = subst (λ x. All IsU32 x) (sym en) f.numbers;
    };
    gone = λ g q. absurd (cc);
  }

  opens_fit : (n : AbstractNode) (sockets : Sockets) (s : PlainSegment) (slot : Option ℕ) → IsAddr sockets.peer
      → sockets.peer_port.0 < 65536 → FitNode n → FitStep (opens m n sockets s slot)
  unfolding opens_in happened
  opens_fit n sockets s None a p f = still_fits n _ None refl refl f
  opens_fit n sockets s (Some slot) a p f =
      let h : FitStep (happened m n (Arrived sockets s) slot (connection_in slot n) (accept (initial_number n.history) sockets s n.numbers)) =
      happened_fits n (Arrived sockets s) slot (connection_in slot n) (accept (initial_number n.history) sockets s n.numbers) f
      record { conn = accepted_fits m steady (initial_number n.history) sockets s a p; numbers = f.numbers } in
      record {
        node = h.node;
        gone = choose (λ (x : Option Connection). (g : Connection) → x ≡ Some g → FitConn g) (is_live (connection_in slot n).state) _ _
            (λ e g q. only_some (λ z. FitConn z) (connection_in slot n) g q (index_fits n.connections slot f.conns)) (λ e g q. absurd (cc));
      }

  stranger_fits : (served : ℕ → Bool) (n : AbstractNode) (sockets : Sockets) (s : PlainSegment) → IsAddr sockets.peer
      → sockets.peer_port.0 < 65536 → FitNode n → FitStep (for_no_connection m served n sockets s)
  unfolding for_no_connection
  stranger_fits served n sockets s a p f =
      choose (λ x. FitStep x) (is_plain_syn s && served sockets.own_port.0) _ _ (λ e. opens_fit n sockets s (slot_for_syn n.connections) a p f)
      (λ e. choose (λ x. FitStep x) (has_rst s.flags) _ _ (λ g. still_fits n _ None refl refl f) (λ g. still_fits n _ _ refl refl f))

  pub arrives_fits : (served : ℕ → Bool) (n : AbstractNode) (sockets : Sockets) (s : PlainSegment) (found : Option ℕ) → IsAddr sockets.peer
      → sockets.peer_port.0 < 65536 → FitNode n → FitStep (arrives_at m served n sockets s found)
  arrives_fits served n sockets s None a p f = stranger_fits served n sockets s a p f
  arrives_fits served n sockets s (Some slot) a p f =
      happened_fits n (Arrived sockets s) slot (connection_in slot n) _ f
      (asked_fits m steady (snapshot n (Arrived sockets s) slot) (node_snapshot n (Arrived sockets s) slot f) (on_segment m (connection_in slot n) n.numbers s)
      (on_segment_fits m steady (connection_in slot n) n.numbers s (index_fits n.connections slot f.conns) f.numbers))

  -- an event whose addresses and ports fit their types
  pub event_fits : (served : ℕ → Bool) (n : AbstractNode) (event : Event) → IsEvent event → FitNode n → FitNode (step m served n event).node
  event_fits served n (IpRefused fate) e f = (still_fits n (remembers n (IpRefused fate) Silent) None refl refl f).node
  event_fits served n (IcmpRefused fate) e f = (still_fits n (remembers n (IcmpRefused fate) Silent) None refl refl f).node
  event_fits served n (TcpRefused fate) e f = (still_fits n (remembers n (TcpRefused fate) Silent) None refl refl f).node
  event_fits served n (EchoAsked datagram) e f = (still_fits n (remembers n (EchoAsked datagram) EchoReplied) None refl refl f).node
  event_fits served n (Arrived sockets s) e f = (arrives_fits served n sockets s (position (serves sockets) n.connections) e.0 e.1 f).node
  event_fits served n Overlong e f = (still_fits n (remembers n Overlong Silent) None refl refl f).node
  event_fits served n (Periodic slot) e f =
      (happened_fits n (Periodic slot) slot (connection_in slot n) _ f
      (asked_fits m steady (snapshot n (Periodic slot) slot) (node_snapshot n (Periodic slot) slot f) (on_tick m (connection_in slot n) n.numbers)
      (on_tick_fits m steady (connection_in slot n) n.numbers (index_fits n.connections slot f.conns) f.numbers))).node
