-- What the node sends in a step is sound.
use Rattle.link_world.proofs.Prelude.{◌≡◌, ℕ, zero, suc, ◌<◌, Bool, false, ◌&&◌, List, [], ◌∷◌, set, refl, subst, arith, Option, Some, None}
use Rattle.link_world.proofs.Prelude.{slice_get, slice_index_or, position, option_map, option_map_or, PlainSegment, has_rst, AppSpec}
use Rattle.link_world.proofs.Prelude.{IsAddr, Now, Sockets, Connection, closed, serves, is_plain_syn, segment_of, is_again}
use Rattle.link_world.proofs.Prelude.{reset_for_no_connection, Outcome, asked, accept, on_segment, on_tick, Event, Answer, HistoryEntry}
use Rattle.link_world.proofs.Prelude.{Reply, Arrived, Periodic, Silent, Spoke, NoSlot, Echo, TcpReply, initial_number, ident_of}
use Rattle.link_world.proofs.Prelude.{AbstractNode, NodeStep, snapshot, happened, connection_in, slot_for_syn, passes, refuses, opens_in}
use Rattle.link_world.proofs.Prelude.{opens, for_no_connection, arrives_at, step, IsSteady, choose, only_some, get_set, here, there}
use Rattle.link_world.proofs.Prelude.{FitConn, accepted_fits, asked_fits, on_segment_fits, on_tick_fits, FitNode, index_fits, node_snapshot}
use Rattle.link_world.proofs.Prelude.{Lens, closed_lens, accepted_lens, asked_lens, on_segment_lens, on_tick_lens, IsSoundSegment}
use Rattle.link_world.proofs.Prelude.{none_sound, sent_sound}
use Rattle.link_world.proofs.SentBytes.{SendsBytesWhere}

abbrev pub EachOf : (Connection → Type 0) → List Connection → Type 0
EachOf P table = (i : ℕ) (c : Connection) → slice_get table i ≡ Some c → P c

abbrev pub LensAll : List Connection → Type 0
LensAll table = EachOf Lens table

abbrev pub SoundReply : Reply → Type 0
SoundReply (Echo request) = Unit {0}
SoundReply (TcpReply sockets id again s) = (id < 65536) × IsSoundSegment s

pub record SoundNode (H : Connection → Type 0) (n : AbstractNode) (r : NodeStep) : Type 0 where
  pub addr : r.node.addr ≡ n.addr
  pub conns : LensAll r.node.connections
  pub known : EachOf H r.node.connections
  pub output : (x : Reply) → r.sent ≡ Some x → SoundReply x

index_each : (P : Connection → Type 0) (table : List Connection) (i : ℕ) → P closed → EachOf P table → P (slice_index_or table i closed)
index_each P [] i z h = z
index_each P (c ∷ cs) zero z h = h zero c refl
index_each P (c ∷ cs) (suc i) z h = index_each P cs i z (λ j x g. h (suc j) x g)

set_each : (P : Connection → Type 0) (table : List Connection) (i : ℕ) (new : Connection) → P new → EachOf P table → EachOf P (set table i new)
set_each P table i new f h j c x = elim (get_set table i new j c x) [ here e q ↦ subst P q f | there n g ↦ h j c g ]

replies : (output : Option PlainSegment) (sockets : Sockets) (id : ℕ) (again : Bool) → id < 65536
    → ((s : PlainSegment) → output ≡ Some s → IsSoundSegment s) → (x : Reply) → option_map (λ s. TcpReply sockets id again s) output ≡ Some x → SoundReply x
replies None sockets id again l f x e = absurd (cc)
replies (Some s) sockets id again l f x e = only_some (λ r. SoundReply r) (TcpReply sockets id again s) x e (l, f s refl)

ident_low : (history : List HistoryEntry) → ident_of history < 65536
ident_low history = omega arith

module _ (m : AppSpec) (steady : IsSteady m) (H : Connection → Type 0) (bytes : SendsBytesWhere m H) where
  -- the connections beside the one that takes the step
  record Rest (n : AbstractNode) : Type 0 where
    lens : LensAll n.connections
    known : EachOf H n.connections

  still_sound : (n : AbstractNode) (event : Event) (answer : Answer) → Rest n → SoundNode H n (passes n event answer)
  still_sound n event answer l = record { addr = refl; conns = l.lens; known = l.known; output = λ x e. absurd (cc) }

  happened_sound : (n : AbstractNode) (event : Event) (slot : ℕ) (old : Connection) (o : Outcome) → Rest n → Lens o.connection
      → FitConn o.connection → H o.connection → SoundNode H n (happened m n event slot old o)
  unfolding happened
  happened_sound n event slot old o l h f k = record {
    addr = refl;
    conns = set_each Lens n.connections slot o.connection h l.lens;
    known = set_each H n.connections slot o.connection k l.known;
    output = (let history : List HistoryEntry =
        record { event = event; answer = option_map_or (λ s. Spoke (is_again o.step)) (segment_of m o.connection o.step) Silent } ∷ n.history in
        replies (segment_of m o.connection o.step) o.connection.sockets (ident_of history) (is_again o.step) (ident_low history)
        (λ s e. sent_sound m o.connection o.step s h (bytes.says o.connection f k) e));
  }

  opens_sound : (n : AbstractNode) (sockets : Sockets) (s : PlainSegment) (slot : Option ℕ) → IsAddr sockets.peer
      → sockets.peer_port.0 < 65536 → Rest n → SoundNode H n (opens m n sockets s slot)
  unfolding opens_in
  opens_sound n sockets s None a p l = still_sound n (Arrived sockets s) NoSlot l
  opens_sound n sockets s (Some slot) a p l =
      let iss : ℕ = initial_number n.history in
      let h : SoundNode H n (happened m n (Arrived sockets s) slot (connection_in slot n) (accept iss sockets s n.numbers)) =
      happened_sound n (Arrived sockets s) slot (connection_in slot n) (accept iss sockets s n.numbers) l (accepted_lens iss sockets s)
      (accepted_fits m steady iss sockets s a p) (bytes.accepted_knows iss sockets s) in
      record { addr = h.addr; conns = h.conns; known = h.known; output = h.output }

  refuses_sound : (n : AbstractNode) (sockets : Sockets) (s : PlainSegment) → IsSoundSegment s → Rest n → SoundNode H n (refuses n sockets s)
  refuses_sound n sockets s g l = record {
    addr = refl;
    conns = l.lens;
    known = l.known;
    output = λ x e. (let history : List HistoryEntry = record { event = Arrived sockets s; answer = Spoke false } ∷ n.history in
        only_some (λ r. SoundReply r) (TcpReply sockets (ident_of history) false (reset_for_no_connection s)) x e (ident_low history, none_sound s g));
  }

  stranger_sound : (served : ℕ → Bool) (n : AbstractNode) (sockets : Sockets) (s : PlainSegment) → IsAddr sockets.peer
      → sockets.peer_port.0 < 65536 → IsSoundSegment s → Rest n → SoundNode H n (for_no_connection m served n sockets s)
  unfolding for_no_connection
  stranger_sound served n sockets s a p g l =
      choose (λ x. SoundNode H n x) (is_plain_syn s && served sockets.own_port.0) _ _ (λ e. opens_sound n sockets s (slot_for_syn n.connections) a p l)
      (λ e. choose (λ x. SoundNode H n x) (has_rst s.flags) _ _ (λ q. still_sound n (Arrived sockets s) Silent l) (λ q. refuses_sound n sockets s g l))

  arrives_sound : (served : ℕ → Bool) (n : AbstractNode) (sockets : Sockets) (s : PlainSegment) (found : Option ℕ) → IsAddr sockets.peer
      → sockets.peer_port.0 < 65536 → IsSoundSegment s → FitNode n → Rest n → SoundNode H n (arrives_at m served n sockets s found)
  arrives_sound served n sockets s None a p g f l = stranger_sound served n sockets s a p g l
  arrives_sound served n sockets s (Some slot) a p g f l =
      let c : Connection = connection_in slot n in
      let o : Outcome = on_segment m c n.numbers s in
      let at : Connection → Now = snapshot n (Arrived sockets s) slot in
      happened_sound n (Arrived sockets s) slot c (asked m at o) l
      (asked_lens m at o (on_segment_lens m c n.numbers s (index_each Lens n.connections slot closed_lens l.lens)))
      (asked_fits m steady at (node_snapshot m steady n (Arrived sockets s) slot f) o
      (on_segment_fits m steady c n.numbers s (index_fits n.connections slot f.conns) f.numbers)).conn
      (bytes.segment_knows at c n.numbers s g.text (index_each H n.connections slot bytes.closed_knows l.known))

  pub arrival_node : (served : ℕ → Bool) (n : AbstractNode) (sockets : Sockets) (s : PlainSegment) → IsAddr sockets.peer
      → sockets.peer_port.0 < 65536 → IsSoundSegment s → FitNode n → LensAll n.connections → EachOf H n.connections
      → SoundNode H n (step m served n (Arrived sockets s))
  arrival_node served n sockets s a p g f l k = arrives_sound served n sockets s (position (serves sockets) n.connections) a p g f
      record { lens = l; known = k }

  pub periodic_node : (served : ℕ → Bool) (n : AbstractNode) (slot : ℕ) → FitNode n → LensAll n.connections → EachOf H n.connections
      → SoundNode H n (step m served n (Periodic slot))
  periodic_node served n slot f l k =
      let c : Connection = connection_in slot n in
      let o : Outcome = on_tick m c n.numbers in
      let at : Connection → Now = snapshot n (Periodic slot) slot in
      happened_sound n (Periodic slot) slot c (asked m at o) record { lens = l; known = k }
      (asked_lens m at o (on_tick_lens m c n.numbers (index_each Lens n.connections slot closed_lens l)))
      (asked_fits m steady at (node_snapshot m steady n (Periodic slot) slot f) o
      (on_tick_fits m steady c n.numbers (index_fits n.connections slot f.conns) f.numbers)).conn
      (bytes.tick_knows at c n.numbers (index_each H n.connections slot bytes.closed_knows k))
