-- The guarantee for each incarnation of a connection, for any events of a line from any peers, in any order.
use Rattle.std.specs.Prelude.{◌≡◌, ◌+◌, ◌<◌, ◌≤◌, ◌⊎◌, ◌∷◌, ◌++◌, [], All, Bool, drop, false, length, List, Option, Some, suc, true, ℕ}
use Rattle.std.specs.Prelude.{if◌then◌else◌}
use Rattle.uip_wire.specs.Prelude.{wrap}
use Rattle.tcp_segment.specs.Prelude.{PlainSegment, has_syn, has_fin, has_rst, has_ack}
use Rattle.app_events.specs.Prelude.{Snapshot, IsPrefixOf, Pages, IsSnapshot}
use Rattle.tcp_machine.specs.Prelude.{first_mss, occupies_sequence_space}
use Rattle.uip_node.specs.Prelude.{Alike, IsSlice}
use Rattle.node_laws.specs.Traces.{Exchange, sent_at, received_at}
use Rattle.node_laws.specs.Receivers.{IsReceived, EndsAfter}

-- The account of an incarnation. `peer_mss` is the MSS option of the peer's SYN. `input` and `snapshots` are the arguments of the page, and
-- `stream` is what was sent of it.
pub record Account : Type 0 where
  pub irs : ℕ
  pub iss : ℕ
  pub peer_mss : Option ℕ
  pub input : List ℕ
  pub snapshots : List Snapshot
  pub stream : List ℕ

-- ---- the handshake

-- A segment with SYN and SEG.SEQ IRS was received. The segment sent has SEG.SEQ ISS and SEG.ACK IRS + 1.
pub record Opening (x : Exchange) (a : Account) : Type 0 where
  pub syn : PlainSegment
  pub received : x.received ≡ Some syn
  pub is_syn : has_syn syn.flags ≡ true
  pub number : syn.seq ≡ a.irs
  pub mss : syn.mss ≡ a.peer_mss
  pub answer : PlainSegment
  pub output : x.output ≡ Some answer
  pub seq : answer.seq ≡ wrap a.iss
  pub acks : answer.ack ≡ wrap (a.irs + 1)

-- The oldest exchange is that of the first two segments of the handshake.
abbrev pub Begins : List Exchange → Account → Type 0
Begins [] a = ⊥
Begins (x ∷ []) a = Opening x a
Begins (x ∷ y ∷ older) a = Begins (y ∷ older) a

-- ---- selections of what is received

-- One more received segment is selected: its number follows all data selected before, and no FIN was counted before.
pub record Selects (irs : ℕ) (x : Exchange) (Before : List ℕ → Bool → Type 0) (selected : List ℕ) (counts_fin : Bool) : Type 0 where
  pub segment : PlainSegment
  pub received : x.received ≡ Some segment
  pub earlier : List ℕ
  pub before : Before earlier false
  pub seq : segment.seq ≡ wrap (irs + 1 + length earlier)
  pub joined : selected ≡ earlier ++ segment.text
  pub fin : counts_fin ≡ true → has_fin segment.flags ≡ true

-- A selection of the segments received in these exchanges has `selected` as its data. If `counts_fin` is true, its last segment has a FIN,
-- which is counted.
abbrev pub IsSelection : ℕ → List Exchange → List ℕ → Bool → Type 0
IsSelection irs [] selected counts_fin = (selected ≡ []) × (counts_fin ≡ false)
IsSelection irs (x ∷ older) selected counts_fin =
    IsSelection irs older selected counts_fin ⊎ Selects irs x (IsSelection irs older) selected counts_fin

-- ---- what is sent

-- The data of the segment is a slice of the stream, at the offset that its sequence number gives.
pub record IsAtOffset (iss : ℕ) (stream : List ℕ) (s : PlainSegment) : Type 0 where
  pub at : ℕ
  pub slice : IsSlice stream s.text at
  pub seq : s.seq ≡ wrap (iss + 1 + at)

-- What a segment sends. A SYN has the ISS as its number, and no data. Data is a slice of the stream, at the offset that the number gives. A
-- FIN has no data, and its number follows the whole stream.
pub record SendsSlice (iss : ℕ) (stream : List ℕ) (s : PlainSegment) : Type 0 where
  pub syn : has_syn s.flags ≡ true → (s.seq ≡ wrap iss) × (s.text ≡ [])
  pub bytes : 0 < length s.text → IsAtOffset iss stream s
  pub fin : has_fin s.flags ≡ true → (s.text ≡ []) × (s.seq ≡ wrap (iss + 1 + length stream))

-- The segment acknowledges the data of some selection of the segments received up to this exchange. If `counts_fin` is true, it also
-- acknowledges the FIN of the last segment selected. This data is a prefix of the input.
pub record Acknowledges (irs : ℕ) (by_then : List Exchange) (input : List ℕ) (s : PlainSegment) : Type 0 where
  pub selected : List ℕ
  pub counts_fin : Bool
  pub is : IsSelection irs by_then selected counts_fin
  pub prefix : IsPrefixOf selected input
  pub ack : s.ack ≡ wrap (irs + 1 + length selected + (if counts_fin then 1 else 0))

-- SEG.LEN (RFC 793, section 3.3): the sequence numbers that a segment occupies.
abbrev pub sequence_length : PlainSegment → ℕ
sequence_length s = length s.text + (if has_syn s.flags then 1 else 0) + (if has_fin s.flags then 1 else 0)

-- Between the older exchange j and the newer exchange i, or in i itself, a received segment acknowledges exactly this one.
pub record IsAcknowledged (incarnation : List Exchange) (i j : ℕ) (t : PlainSegment) : Type 0 where
  pub place : ℕ
  pub from : i ≤ place
  pub to : place < j
  pub segment : PlainSegment
  pub received : received_at incarnation place ≡ Some segment
  pub acks : has_ack segment.flags ≡ true
  pub exact : segment.ack ≡ wrap (t.seq + sequence_length t)

-- ---- the guarantee

-- This account holds for the incarnation. A segment carried each byte of the stream. The data of each segment is a slice of the stream, no
-- longer than the MSS of the peer allows. Each segment without RST acknowledges a prefix of the input, and perhaps a FIN.
-- Stop and wait: let t, and later s, be sent with SEG.LEN above 0 and different SEG.SEQ (i < j: exchange i is newer). Then a segment that
-- acknowledges the end of t was received after t was sent, and before s was sent or in the exchange of s.
pub record AccountHolds (incarnation : List Exchange) (a : Account) : Type 0 where
  pub begins : Begins incarnation a
  pub selection : IsSelection a.irs incarnation a.input false
  pub in_range : All IsSnapshot a.snapshots
  pub carried : IsReceived a.iss incarnation a.stream
  pub slices : (k : ℕ) (s : PlainSegment) → sent_at incarnation k ≡ Some s → SendsSlice a.iss a.stream s
  pub within_mss : (k : ℕ) (s : PlainSegment) → sent_at incarnation k ≡ Some s → length s.text ≤ first_mss a.peer_mss
  pub acknowledges : (k : ℕ) (s : PlainSegment) → sent_at incarnation k ≡ Some s → has_rst s.flags ≡ false
      → Acknowledges a.irs (drop k incarnation) a.input s
  pub stop_and_wait : (i j : ℕ) (s t : PlainSegment) → i < j → sent_at incarnation i ≡ Some s → sent_at incarnation j ≡ Some t
      → occupies_sequence_space s ≡ true → occupies_sequence_space t ≡ true → (s.seq ≡ t.seq → ⊥) → IsAcknowledged incarnation i j t

-- Sequence numbers determine offsets. Two segments with the same SEG.SEQ, and SEG.LEN above 0, have the same flags and text. Whatever a
-- receiver reassembled is a prefix of the stream, and all of it if a FIN follows.
pub record NumbersGiveOffsets (incarnation : List Exchange) (a : Account) : Type 0 where
  pub same : (i j : ℕ) (s t : PlainSegment) → i < j → sent_at incarnation i ≡ Some s → sent_at incarnation j ≡ Some t
      → occupies_sequence_space s ≡ true → occupies_sequence_space t ≡ true → s.seq ≡ t.seq → Alike t s
  pub prefix : (got : List ℕ) → IsReceived a.iss incarnation got → IsPrefixOf got a.stream
  pub all : (got : List ℕ) → IsReceived a.iss incarnation got → EndsAfter a.iss incarnation (length got) → got ≡ a.stream

-- The stream is a prefix of the page. If a FIN was sent, the stream is the page, and the page is complete.
pub record IsPrefixOfPage (pages : Pages) (input : List ℕ) (incarnation : List Exchange) (a : Account) : Type 0 where
  pub prefix : IsPrefixOf a.stream (pages.page input a.snapshots)
  pub ends : (k : ℕ) (s : PlainSegment) → sent_at incarnation k ≡ Some s → has_fin s.flags ≡ true
      → (a.stream ≡ pages.page input a.snapshots) × (pages.complete input a.snapshots ≡ true)

-- What determines the output of an application at a port.
pub data OutputModel : Type 0 where
  Paged : (pages : Pages) → OutputModel  -- the page of the whole input
  Interactive : (sessions : Pages) → OutputModel  -- the session of a prefix of the input, without a bound
  Free : OutputModel  -- anything

-- The stream is a prefix of what the output model determines. Sequence numbers determine offsets: always in a page, otherwise while the
-- stream is shorter than 2^30 bytes.
abbrev pub TextConforms : OutputModel → List Exchange → Account → Type 0
TextConforms (Paged pages) incarnation a = IsPrefixOfPage pages a.input incarnation a × NumbersGiveOffsets incarnation a
TextConforms (Interactive sessions) incarnation a =
    ((input : List ℕ) × IsPrefixOf input a.input × IsPrefixOfPage sessions input incarnation a)
    × (length a.stream < 1073741824 → NumbersGiveOffsets incarnation a)
TextConforms Free incarnation a = length a.stream < 1073741824 → NumbersGiveOffsets incarnation a

-- A newer account of the same incarnation extends an older one.
pub record IsExtendedBy (older newer : Account) : Type 0 where
  pub irs : older.irs ≡ newer.irs
  pub iss : older.iss ≡ newer.iss
  pub peer_mss : older.peer_mss ≡ newer.peer_mss
  pub input : IsPrefixOf older.input newer.input
  pub snapshots : (more : List Snapshot) × (older.snapshots ++ more ≡ newer.snapshots)
  pub stream : IsPrefixOf older.stream newer.stream

-- An incarnation conforms if an account holds at each of its exchanges, and newer accounts extend older ones. `account back` is that of
-- the incarnation without its newest `back` exchanges.
pub record IncarnationConforms (model : OutputModel) (incarnation : List Exchange) : Type 0 where
  pub account : ℕ → Account
  pub holds : (back : ℕ) → back < length incarnation → AccountHolds (drop back incarnation) (account back)
  pub conforms : (back : ℕ) → back < length incarnation → TextConforms model (drop back incarnation) (account back)
  pub grows : (back : ℕ) → suc back < length incarnation → IsExtendedBy (account (suc back)) (account back)
