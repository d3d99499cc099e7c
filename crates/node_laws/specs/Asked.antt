-- Nothing is sent unsolicited, and connections open only at served ports.
use Rattle.std.specs.Prelude.{◌≡◌, ◌⊎◌, ◌∷◌, ◌++◌, All, Bool, false, List, None, Some, true, ℕ}
use Rattle.tcp_segment.specs.Prelude.{PlainSegment, has_rst}
use Rattle.tcp_machine.specs.Prelude.{Sockets}
use Rattle.uip_node.specs.Prelude.{EchoAsked, Echo}
use Rattle.node_laws.specs.Traces.{Exchange, TraceEntry, is_opening, is_incarnation}

-- An echo reply answers the echo request of the same trace entry.
abbrev pub IsEchoed : TraceEntry → Type 0
IsEchoed t = (request : List ℕ) → t.sent ≡ Some (Echo request) → t.event ≡ EchoAsked request

-- No RST was received or sent in this exchange.
pub record IsWithoutReset (x : Exchange) : Type 0 where
  pub received : (s : PlainSegment) → x.received ≡ Some s → has_rst s.flags ≡ false
  pub output : (s : PlainSegment) → x.output ≡ Some s → has_rst s.flags ≡ false

-- The newest of these exchanges are an incarnation, and in it no RST was received or sent.
pub record ContinuesUnreset (exchanges : List Exchange) : Type 0 where
  pub incarnation : List Exchange
  pub older : List Exchange
  pub split : exchanges ≡ incarnation ++ older
  pub is : is_incarnation incarnation ≡ true
  pub unreset : All IsWithoutReset incarnation

-- A segment is sent in two cases only: the exchange received a segment without RST, or it received nothing and an incarnation without RST
-- continues.
abbrev pub IsSolicited : Exchange → List Exchange → Type 0
IsSolicited x before = (s : PlainSegment) → x.output ≡ Some s →
    ((t : PlainSegment) × (x.received ≡ Some t) × (has_rst t.flags ≡ false)) ⊎ ((x.received ≡ None) × ContinuesUnreset before)

-- Every segment sent on this pair of sockets is solicited.
abbrev pub NothingUnsolicited : List Exchange → Type 0
NothingUnsolicited exchanges =
    (later : List Exchange) (x : Exchange) (before : List Exchange) → exchanges ≡ later ++ (x ∷ before) → IsSolicited x before

-- A connection opens only at a served port.
abbrev pub OpensServed : (ℕ → Bool) → Sockets → List Exchange → Type 0
OpensServed served p exchanges =
    (later : List Exchange) (x : Exchange) (before : List Exchange) → exchanges ≡ later ++ (x ∷ before) → is_opening x ≡ true
    → served p.own_port.0 ≡ true
