-- A cooperating peer (RFC 793, section 3.9): it sends a request, acknowledges each segment, loses nothing, and answers before the node
-- resets it. It has its whole page and a FIN after a stated number of its segments.
use Rattle.std.specs.Option.{option_map_or}
use Rattle.std.specs.Prelude.{◌≡◌, ◌+◌, ◌<◌, ◌≤◌, ◌==◌, ◌&&◌, ◌⊎◌, [], All, Bool, false, List, not, true, ℕ}
use Rattle.std.specs.Prelude.{◌∷◌, ◌++◌, length, map, suc, drop, Some, None, is_some, if◌then◌else◌}
use Rattle.uip_wire.specs.Prelude.{wrap}
use Rattle.uip_wire.specs.declared.addr.Addr.{Addr}
use Rattle.tcp_segment.specs.Prelude.{PlainSegment, has_syn, has_fin, has_rst, has_ack}
use Rattle.app_events.specs.Prelude.{AppState, AppSpec, Snapshot, IsPrefixOf, Pages, IsPaged, IsAddr, IsU32, IsSnapshot}
use Rattle.tcp_machine.specs.Prelude.{Sockets, first_mss, occupies_sequence_space}
use Rattle.uip_node.specs.Prelude.{Event, called_by, initial_node, AnswersPolled}
use Rattle.node_laws.specs.Receivers.{EndsAfter, receives}
use Rattle.node_laws.specs.Traces.{Exchange, TraceEntry, exchanges_with}
use Rattle.node_laws.specs.Turns.{trace_of}
use Rattle.node_laws.specs.Wire.{IsOfLine}

-- A peer with a request, the IRS and the ISS of the node, and the longest text that its SYN allows.
pub record Asker : Type 0 where
  pub request : List ℕ
  pub irs : ℕ
  pub iss : ℕ
  pub mss : ℕ

-- the text received in these exchanges, the oldest first
abbrev pub text_received : List Exchange → List ℕ
text_received [] = []
text_received (x ∷ older) = text_received older ++ option_map_or (λ s. s.text) x.received []

-- the indices of these exchanges, the oldest first
abbrev pub in_turn : List Exchange → List ℕ
in_turn [] = []
in_turn (x ∷ older) = map suc (in_turn older) ++ 0 ∷ []

-- what the simplest receiver has of everything sent in these exchanges, delivered once and in order
abbrev pub receives_all : ℕ → List Exchange → List ℕ
receives_all iss incarnation = receives iss incarnation (in_turn incarnation) []

-- The newest segment sent since the last received one, at its exchange or later, occupies sequence space: it awaits an acknowledgement.
abbrev pub awaits_ack : List Exchange → Bool
awaits_ack [] = false
awaits_ack (x ∷ older) = option_map_or occupies_sequence_space x.output (not (is_some x.received) && awaits_ack older)

abbrev pub is_bare_ack : PlainSegment → Bool
is_bare_ack s = has_ack s.flags && (length s.text == 0)

-- the number of acknowledgements without text that were received
abbrev pub bare_acks : List Exchange → ℕ
bare_acks [] = 0
bare_acks (x ∷ older) = if option_map_or is_bare_ack x.received false then bare_acks older + 1 else bare_acks older

-- The exchange received the SYN of the peer, without text, and sent the SYN-ACK of the node.
pub record SendsSyn (a : Asker) (x : Exchange) : Type 0 where
  pub syn : PlainSegment
  pub received : x.received ≡ Some syn
  pub number : syn.seq ≡ a.irs
  pub mss : first_mss syn.mss ≡ a.mss
  pub text : syn.text ≡ []
  pub answer : PlainSegment
  pub output : x.output ≡ Some answer
  pub answers : has_syn answer.flags ≡ true
  pub seq : answer.seq ≡ wrap a.iss

-- The next segment of the peer. It carries the next slice of the request, after what it sent before. It acknowledges everything that a
-- receiver has of what the node sent before. Its window admits the longest text. If it has no text, it acknowledges a segment that awaits
-- it.
pub record SendsNext (a : Asker) (x : Exchange) (before : List Exchange) : Type 0 where
  pub segment : PlainSegment
  pub received : x.received ≡ Some segment
  pub syn : has_syn segment.flags ≡ false
  pub fin : has_fin segment.flags ≡ false
  pub rst : has_rst segment.flags ≡ false
  pub acks : has_ack segment.flags ≡ true
  pub seq : segment.seq ≡ wrap (a.irs + 1 + length (text_received before))
  pub part : IsPrefixOf (text_received before ++ segment.text) a.request
  pub ack : segment.ack ≡ wrap (a.iss + 1 + length (receives_all a.iss before))
  pub window : a.mss ≤ segment.window
  pub some : segment.text ≡ [] → awaits_ack before ≡ true

-- The exchange received nothing, and the node sent no RST.
abbrev pub IsWaitedFor : Exchange → Type 0
IsWaitedFor x = (x.received ≡ None) × ((s : PlainSegment) → x.output ≡ Some s → has_rst s.flags ≡ false)

-- After its handshake each exchange receives nothing, or the next segment of the peer.
abbrev pub IsHonest : Asker → List Exchange → Type 0
IsHonest a [] = ⊥
IsHonest a (x ∷ []) = SendsSyn a x
IsHonest a (x ∷ y ∷ older) = (IsWaitedFor x ⊎ SendsNext a x (y ∷ older)) × IsHonest a (y ∷ older)

-- the number of calls of a slot in this trace
abbrev pub calls_of : ℕ → List TraceEntry → ℕ
calls_of slot [] = 0
calls_of slot (t ∷ trace) =
    if option_map_or (λ place. place == slot) (called_by t.event) false then calls_of slot trace + 1 else calls_of slot trace

-- An incarnation of a cooperating peer in this trace. Its whole request is received before any slot is called more often than the patience
-- of the application.
pub record AsksHonestly (a : Asker) (p : Sockets) (patience : ℕ) (trace incarnation : List TraceEntry) : Type 0 where
  pub before : List TraceEntry
  pub asking : List TraceEntry
  pub later : List TraceEntry
  pub split : trace ≡ before ++ incarnation
  pub joined : incarnation ≡ asking ++ later
  pub honest : IsHonest a (exchanges_with p incarnation)
  pub whole : text_received (exchanges_with p asking) ≡ a.request
  pub prompt : (slot : ℕ) → calls_of slot asking ≤ patience

-- The peer has its whole page. A FIN follows the page, and the simplest receiver had the whole page when the FIN was sent.
pub record HasItsPage (pages : Pages) (a : Asker) (incarnation : List Exchange) : Type 0 where
  pub snapshots : List Snapshot
  pub in_range : All IsSnapshot snapshots
  pub whole : pages.complete a.request snapshots ≡ true
  pub ends : EndsAfter a.iss incarnation (length (pages.page a.request snapshots))
  pub complete : receives_all a.iss (drop ends.place incarnation) ≡ pages.page a.request snapshots

-- A cooperating peer has its whole page and a FIN under two conditions. Its whole request was received, however it was split. It sent more
-- acknowledgements without text than the application needs segments. Other peers have no influence.
abbrev pub HonestPeer : Type 0
HonestPeer =
    (m : AppSpec) (pages : Pages) → IsPaged m pages → (served : ℕ → Bool) (own : Addr) → IsAddr own → (numbers : List ℕ) → All IsU32 numbers
    → (events : List Event) → All (IsOfLine own) events
    → (a : Asker) (p : Sockets) (fine : ℕ → AppState → Bool) (left : AppState → ℕ) (texts patience : ℕ)
    → AnswersPolled m a.request a.mss fine left texts patience → (incarnation : List TraceEntry)
    → AsksHonestly a p patience (trace_of m served events (initial_node own numbers)) incarnation
    → texts < bare_acks (exchanges_with p incarnation) → HasItsPage pages a (exchanges_with p incarnation)
