-- What is outstanding is retransmitted until it is acknowledged, or the connection is reset (RFC 793, section 3.7; RFC 1122, section
-- 4.2.3.5). The statement is about exchanges with a peer and calls of slots.
use Rattle.std.specs.Prelude.{◌≡◌, ◌+◌, ◌<◌, ◌≤◌, ◌++◌, All, Bool, false, List, None, slice_get, Some, take, true, ℕ}
use Rattle.uip_wire.specs.Prelude.{wrap}
use Rattle.uip_wire.specs.declared.addr.Addr.{Addr}
use Rattle.tcp_segment.specs.Prelude.{PlainSegment, has_rst, has_ack}
use Rattle.app_events.specs.Prelude.{AppSpec, IsAddr, IsU32}
use Rattle.tcp_machine.specs.Prelude.{Sockets, occupies_sequence_space}
use Rattle.uip_node.specs.Prelude.{Event, TcpReply, Alike, initial_node, IsSteady}
use Rattle.node_laws.specs.Asked.{IsWithoutReset}
use Rattle.node_laws.specs.HonestPeers.{calls_of}
use Rattle.node_laws.specs.Promise.{sequence_length}
use Rattle.node_laws.specs.Traces.{Exchange, TraceEntry, received_from, sent_at, received_at, exchanges_with}
use Rattle.node_laws.specs.Turns.{trace_of}
use Rattle.node_laws.specs.Wire.{IsOfLine}

-- A SYN, text or FIN was sent. Since then no received segment acknowledges it, and no RST was received or sent.
pub record IsOutstanding (exchanges : List Exchange) (s : PlainSegment) : Type 0 where
  pub place : ℕ
  pub output : sent_at exchanges place ≡ Some s
  pub placed : occupies_sequence_space s ≡ true
  pub unacked : (k : ℕ) (t : PlainSegment) → k < place → received_at exchanges k ≡ Some t
      → has_ack t.flags ≡ true → t.ack ≡ wrap (s.seq + sequence_length s) → ⊥
  pub unreset : All IsWithoutReset (take place exchanges)

-- At this trace entry the node retransmits the segment with the same flags and text, marked as a retransmission, or it sends a RST.
pub data IsRetried (p : Sockets) (s : PlainSegment) (t : TraceEntry) : Type 0 where
  sent_again : (id : ℕ) (u : PlainSegment) → t.sent ≡ Some (TcpReply p id true u) → u.seq ≡ s.seq → Alike u s → IsRetried p s t
  given_up : (id : ℕ) (u : PlainSegment) → t.sent ≡ Some (TcpReply p id false u) → has_rst u.flags ≡ true → IsRetried p s t

-- Some entry of this trace retransmits or resets.
pub record IsRetriedIn (p : Sockets) (s : PlainSegment) (trace : List TraceEntry) : Type 0 where
  pub place : ℕ
  pub turn : TraceEntry
  pub there : slice_get trace place ≡ Some turn
  pub retried : IsRetried p s turn

-- At any point of this trace let each of the ten slots be called 49 times while nothing is received from the peer. Then some entry of these
-- retransmits what is outstanding, or resets the connection.
abbrev pub RetriesIn : List TraceEntry → Type 0
RetriesIn trace =
    (p : Sockets) (s : PlainSegment) (before waiting later : List TraceEntry) → trace ≡ before ++ (waiting ++ later)
    → IsOutstanding (exchanges_with p before) s → All (λ t. received_from p t.event ≡ None) waiting
    → ((slot : ℕ) → slot < 10 → 49 ≤ calls_of slot waiting) → IsRetriedIn p s waiting

-- This holds in every trace of a node, for every steady application.
abbrev pub RetransmitsOrResets : Type 0
RetransmitsOrResets =
    (m : AppSpec) → IsSteady m → (ports : ℕ → Bool) (own : Addr) → IsAddr own → (numbers : List ℕ) → All IsU32 numbers
    → (events : List Event) → All (IsOfLine own) events → RetriesIn (trace_of m ports events (initial_node own numbers))
