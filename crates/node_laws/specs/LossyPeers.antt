-- A cooperating peer over a link that loses, repeats and reorders datagrams (RFC 793, section 1.5, "Reliability"). It sends a request, and
-- acknowledges each segment of the node before the node gives up. Copies and old segments of it may arrive between. Once its request is
-- whole, its page and a FIN have arrived, or a segment awaits one of a bounded number of acknowledgements.
use Rattle.std.specs.Option.{option_map_or}
use Rattle.std.specs.Prelude.{◌≡◌, ◌+◌, ◌<◌, ◌≤◌, ◌==◌, ◌&&◌, ◌⊎◌, [], All, Bool, false, List, not, true, ℕ}
use Rattle.std.specs.Prelude.{◌∷◌, ◌++◌, length, drop, Some, None, is_some, if◌then◌else◌}
use Rattle.uip_wire.specs.Prelude.{wrap}
use Rattle.uip_wire.specs.declared.addr.Addr.{Addr}
use Rattle.tcp_segment.specs.Prelude.{PlainSegment, has_fin, has_rst, has_ack}
use Rattle.app_events.specs.Prelude.{AppState, AppSpec, Pages, IsPaged, IsAddr, IsU32}
use Rattle.tcp_machine.specs.Prelude.{Sockets, occupies_sequence_space}
use Rattle.uip_node.specs.Prelude.{Event, initial_node, AnswersPolled}
use Rattle.node_laws.specs.Asked.{IsWithoutReset}
use Rattle.node_laws.specs.HonestPeers.{Asker, SendsSyn, SendsNext, HasItsPage, text_received, receives_all, awaits_ack, bare_acks}
use Rattle.node_laws.specs.HonestPeers.{calls_of}
use Rattle.node_laws.specs.Traces.{Exchange, TraceEntry, exchanges_with, received_at}
use Rattle.node_laws.specs.Turns.{trace_of}
use Rattle.node_laws.specs.Wire.{IsOfLine}

-- RCV.NXT of the node (RFC 793, section 3.2), by the text that it received
abbrev pub expected_next : Asker → List Exchange → ℕ
expected_next a before = wrap (a.irs + 1 + length (text_received before))

-- SND.NXT of the node (RFC 793, section 3.2), by the text that it sent
abbrev pub sent_next : Asker → List Exchange → ℕ
sent_next a before = wrap (a.iss + 1 + length (receives_all a.iss before))

-- SEG.ACK is SND.NXT, and something awaits an acknowledgement (RFC 793, section 3.4: a new one, SND.UNA < SEG.ACK =< SND.NXT).
abbrev pub acknowledges_new : Asker → List Exchange → PlainSegment → Bool
acknowledges_new a before s = has_ack s.flags && (awaits_ack before && (s.ack == sent_next a before))

-- A copy that the link repeated, or delivered late or out of order. With SYN, text or FIN its SEG.SEQ is not RCV.NXT (RFC 793, section 3.9,
-- "first check sequence number"). Without these it acknowledges nothing new.
abbrev pub is_stale : Asker → List Exchange → PlainSegment → Bool
is_stale a before s =
    if occupies_sequence_space s then not (s.seq == expected_next a before) else not (acknowledges_new a before s)

-- one exchange more, unless it received a stale segment
abbrev pub with_fresh : Asker → Exchange → List Exchange → List Exchange
with_fresh a x before = if option_map_or (is_stale a before) x.received false then before else x ∷ before

-- the exchanges of an incarnation without those that received a stale segment, the newest first
abbrev pub fresh : Asker → List Exchange → List Exchange
fresh a [] = []
fresh a (x ∷ []) = x ∷ []
fresh a (x ∷ y ∷ older) = with_fresh a x (fresh a (y ∷ older))

-- How often the node retransmitted what is outstanding (RFC 793, section 3.7): segments with SYN, text or FIN, since one was last received.
abbrev pub retransmissions : List Exchange → ℕ
retransmissions [] = 0
retransmissions (x ∷ older) =
    if is_some x.received then 0
    else if option_map_or occupies_sequence_space x.output false && awaits_ack older then retransmissions older + 1
    else retransmissions older

-- After its SYN no segment of the peer was received: the node is in SYN-RECEIVED (RFC 793, section 3.4).
abbrev pub in_handshake : List Exchange → Bool
in_handshake [] = true
in_handshake (x ∷ []) = true
in_handshake (x ∷ y ∷ older) = if is_some x.received then false else in_handshake (y ∷ older)

-- How often the node retransmits before it gives up (RFC 1122, section 4.2.3.5): a SYN five times, text or a FIN eight times.
abbrev pub retransmission_limit : List Exchange → ℕ
retransmission_limit exchanges = if in_handshake exchanges then 5 else 8

-- The exchange received a stale segment without RST. If the node does not discard it for its number, its window admits the longest text.
pub record ReceivesStale (a : Asker) (x : Exchange) (before : List Exchange) : Type 0 where
  pub segment : PlainSegment
  pub received : x.received ≡ Some segment
  pub rst : has_rst segment.flags ≡ false
  pub stale : is_stale a before segment ≡ true
  pub window : occupies_sequence_space segment ≡ false → a.mss ≤ segment.window

-- One exchange of the peer over a lossy link. It received nothing, and a retransmission is left. Or it received the next segment of the
-- peer, or a stale one.
pub data IsOverLoss (a : Asker) (x : Exchange) (before : List Exchange) : Type 0 where
  receives_nothing : x.received ≡ None → retransmissions before < retransmission_limit before → IsOverLoss a x before
  receives_next : SendsNext a x before → IsOverLoss a x before
  receives_stale : ReceivesStale a x before → IsOverLoss a x before

-- The first exchange is that of the SYN of the peer. Each later one is such an exchange, after the fresh ones before it.
abbrev pub IsLossy : Asker → List Exchange → Type 0
IsLossy a [] = ⊥
IsLossy a (x ∷ []) = SendsSyn a x
IsLossy a (x ∷ y ∷ older) = IsOverLoss a x (fresh a (y ∷ older)) × IsLossy a (y ∷ older)

-- An incarnation of a cooperating peer on a lossy link, in this trace. While it opens, its SYN and stale segments alone are received. While
-- it asks, its whole request is received, and no slot is called more often than the patience of the application.
pub record AsksOverLoss (a : Asker) (p : Sockets) (patience : ℕ) (trace incarnation : List TraceEntry) : Type 0 where
  pub before : List TraceEntry
  pub opening : List TraceEntry
  pub asking : List TraceEntry
  pub later : List TraceEntry
  pub split : trace ≡ before ++ incarnation
  pub joined : incarnation ≡ opening ++ (asking ++ later)
  pub lossy : IsLossy a (exchanges_with p incarnation)
  pub handshake : in_handshake (fresh a (exchanges_with p opening)) ≡ true
  pub whole : text_received (fresh a (exchanges_with p (opening ++ asking))) ≡ a.request
  pub prompt : (slot : ℕ) → calls_of slot asking ≤ patience

-- A segment was received whose SEG.ACK is this number: everything before it is acknowledged (RFC 793, section 3.3).
pub record HasAcknowledged (incarnation : List Exchange) (number : ℕ) : Type 0 where
  pub place : ℕ
  pub segment : PlainSegment
  pub received : received_at incarnation place ≡ Some segment
  pub acks : has_ack segment.flags ≡ true
  pub ack : segment.ack ≡ number

-- The whole page was sent, and a FIN after it. When the FIN was sent, everything before it was acknowledged, and no RST was received or
-- sent.
pub record Arrives (pages : Pages) (a : Asker) (incarnation : List Exchange) : Type 0 where
  pub page : HasItsPage pages a incarnation
  pub acknowledged : HasAcknowledged (drop page.ends.place incarnation) page.ends.segment.seq
  pub unreset : All IsWithoutReset (drop page.ends.place incarnation)

-- no FIN was sent in this exchange
abbrev pub IsWithoutFin : Exchange → Type 0
IsWithoutFin x = (s : PlainSegment) → x.output ≡ Some s → has_fin s.flags ≡ false

-- The page is on its way: a SYN or text awaits an acknowledgement, after at most this many new acknowledgements without text. No FIN was
-- sent, and no RST was received or sent.
pub record IsOnItsWay (a : Asker) (texts : ℕ) (incarnation : List Exchange) : Type 0 where
  pub awaits : awaits_ack (fresh a incarnation) ≡ true
  pub few : bare_acks (fresh a incarnation) ≤ texts
  pub unfinished : All IsWithoutFin incarnation
  pub unreset : All IsWithoutReset incarnation

-- Progress: the page has arrived, or it is on its way. In the second case the next segment of the peer acknowledges what awaits it
-- (`SendsNext`), which counts one up. So the page arrives at the latest with the acknowledgement after this many.
abbrev pub Progresses : Pages → Asker → ℕ → List Exchange → Type 0
Progresses pages a texts incarnation = Arrives pages a incarnation ⊎ IsOnItsWay a texts incarnation

-- Every cooperating peer of this trace progresses, over a link that loses, repeats and reorders datagrams, from its whole request on. The
-- application answers its request in at most this number of texts.
abbrev pub ArrivesIn : AppSpec → Pages → List TraceEntry → Type 0
ArrivesIn m pages trace =
    (a : Asker) (p : Sockets) (fine : ℕ → AppState → Bool) (left : AppState → ℕ) (texts patience : ℕ)
    → AnswersPolled m a.request a.mss fine left texts patience
    → (incarnation : List TraceEntry) → AsksOverLoss a p patience trace incarnation
    → Progresses pages a texts (exchanges_with p incarnation)

-- Arrival under loss, in every trace of a node, for every application whose output is a page. Other peers have no influence.
abbrev pub ArrivesUnderLoss : Type 0
ArrivesUnderLoss =
    (m : AppSpec) (pages : Pages) → IsPaged m pages → (served : ℕ → Bool) (own : Addr) → IsAddr own → (numbers : List ℕ) → All IsU32 numbers
    → (events : List Event) → All (IsOfLine own) events → ArrivesIn m pages (trace_of m served events (initial_node own numbers))
