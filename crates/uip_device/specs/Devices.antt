-- A device, and the output of each call.
use Rattle.std.specs.Prelude.{◌≡◌, ◌≤◌, ◌==◌, ◌+◌, ℕ, Bool, List, [], ◌∷◌, ◌++◌, Option, None, Some, IfSome, if◌then◌else◌, length, map, ◌⊎◌, false, true}
use Rattle.std.specs.List.{find, flat_map}
use Rattle.app_events.specs.Prelude.{AppSpec}
use Rattle.app_events.specs.declared.app.App.{Ghosts}
use Rattle.app_events.specs.declared.row.Row.{Row}
use Rattle.packet_buffer.specs.Prelude.{datagram_in}
use Rattle.tcp_machine.specs.Prelude.{rows_from}
use Rattle.uip_node.specs.Prelude.{AbstractNode, initial_node, Node}
use Rattle.uip_wire.specs.declared.addr.Addr.{Addr}
use Rattle.uip_slip.specs.Prelude.{IsNoise, WasFed, frames, is_free, state_in}
use Rattle.serve_loop.specs.Prelude.{IsNode}
use Rattle.sip_hash.specs.declared.key.Key.{Key}
use Rattle.guarded_node.specs.Counts.{fresh_guard}
use Rattle.guarded_node.specs.declared.guard.Rules.{Rules}
use Rattle.uip_device.specs.Calls.{Call, Feeds, arrivals_by, bytes_of_call, is_by_datagram}
use Rattle.uip_device.specs.Moves.{Move, Makes, Gives, Writing, goes_by_datagram, with_numbers}
use Rattle.uip_device.specs.Handing.{FillsRoom, text_to_come}
use Rattle.uip_device.specs.Sending.{HandsOut, SendsOver}
use Rattle.uip_device.specs.declared.device.Device.{Device}

-- The pending output belongs to the datagram in the packet.
pub record IsSoundDevice {A S : Type 0} (g : Ghosts A S) (d : Device A S) : Type 0 where
  pub left : IfSome d.left (λ at. at ≤ length (datagram_in d.node.packet))

-- the pending output
abbrev pub left_text_of : {A S : Type 0} → Device A S → List ℕ
left_text_of d = text_to_come (datagram_in d.node.packet) d.left

-- If output is pending, what was written filled the room.
abbrev pub HasFilled : {A S : Type 0} → Device A S → ℕ → ℕ → Type 0
HasFilled d wrote room = FillsRoom (datagram_in d.node.packet) d.left wrote room

-- The device was fed these bytes.
abbrev pub HasDelivered : {A S : Type 0} → List ℕ → Device A S → Type 0
HasDelivered bytes d = WasFed bytes (state_in d.node.packet.area d.part)

-- After any bytes fed before, these bytes complete at most one frame.
abbrev pub CompleteOne : {A S : Type 0} → List ℕ → Device A S → Type 0
CompleteOne bytes d = (before : List ℕ) → HasDelivered before d → length (frames (before ++ bytes)) ≤ length (frames before) + 1

-- A device at the address `own` that was fed nothing and asked for nothing. Its node represents the initial one, with an application of
-- this specification. Its guard has these rules, and has done nothing.
pub record IsFreshDevice {A S : Type 0} (g : Ghosts A S) (m : AppSpec) (numbers : List ℕ) (own : Addr) (rules : Rules)
    (d : Device A S) : Type 0 where
  pub guard : d.guard ≡ fresh_guard rules
  pub sound : IsSoundDevice g d
  pub input : HasDelivered [] d
  pub none : d.left ≡ None
  pub represented : IsNode g m own d.node (initial_node own numbers)

-- A fresh device whose guard has no secret.
pub record IsFreshWithoutSecret {A S : Type 0} (g : Ghosts A S) (d : Device A S) : Type 0 where
  pub m : AppSpec
  pub numbers : List ℕ
  pub own : Addr
  pub rules : Rules
  pub none : rules.key ≡ None
  pub fresh : IsFreshDevice g m numbers own rules d

-- The guard has this secret now, and had none before. All else is unchanged.
pub record IsProtected {A S : Type 0} (key : Key) (old new : Device A S) : Type 0 where
  pub none : old.guard.rules.key ≡ None
  pub set : new ≡ record old { guard = record old.guard { rules = record old.guard.rules { key = Some key } } }

-- No connection is open: none has a row in the table of connections.
abbrev pub is_node_idle : AbstractNode → Bool
is_node_idle n = length (rows_from 0 n.connections) == 0

-- the row of a slot among those of the open connections; none if it is CLOSED
abbrev pub row_in : ℕ → List Row → Option Row
row_in slot rows = find (λ row. row.slot == slot) rows

abbrev pub connection_row : ℕ → AbstractNode → Option Row
connection_row slot n = row_in slot (rows_from 0 n.connections)

-- A call returned these bytes. Whatever the device was fed before, it was then fed the bytes of the call too. Its guarded node took what
-- the call brings. The bytes are from the pending output and from what the node sent (`HandsOut`).
pub record Answers {A S : Type 0} (g : Ghosts A S) (call : Call) (old new : Device A S) (handed : List ℕ) : Type 0 where
  pub input : (before : List ℕ) → HasDelivered before old → HasDelivered (before ++ bytes_of_call call) new
  pub sends : (before : List ℕ) → HasDelivered before old → SendsOver g (arrivals_by before call) old.guard new.guard old.node new.node
      (λ own replies. HandsOut (is_by_datagram call) old.guard.rules.key own (left_text_of old) handed (left_text_of new) replies)

-- A call for which a frame was lost that was partly received: as if any noise had come within it, just before the call.
abbrev pub Spoils : {A S : Type 0} → Ghosts A S → Call → Device A S → Device A S → List ℕ → Type 0
Spoils {A = A} {S = S} g call old new handed =
    (noise : List ℕ) → IsNoise noise → (mid : Device A S) × Answers g (Feeds noise) old mid [] × Answers g call mid new handed

-- A call that writes the packet, or not. If it does while a frame is partly received, that frame is lost.
pub record AnswersOver {A S : Type 0} (g : Ghosts A S) (call : Call) (writes : Bool) (old new : Device A S) (handed : List ℕ) : Type 0 where
  pub answers : (is_free old.part ≡ true) ⊎ (writes ≡ false) → Answers g call old new handed
  pub spoils : is_free old.part ≡ false → writes ≡ true → Spoils g call old new handed

-- The counters of a node's application were changed between calls. Its packet is unchanged, and it represents the same node with these
-- counters.
pub record ChangesNode {A S : Type 0} (g : Ghosts A S) (change : List ℕ → List ℕ) (old new : Node A S) : Type 0 where
  pub kept : g.config new.shared ≡ g.config old.shared
  pub packet : new.packet ≡ old.packet
  pub represented : (m : AppSpec) (own : Addr) (n : AbstractNode) → IsNode g m own old n → IsNode g m own new (with_numbers change n)

-- The counters of the application were changed between calls. The bytes fed, the pending output and the guard are unchanged, and the node
-- represents the same node with these counters.
pub record Changes {A S : Type 0} (g : Ghosts A S) (change : List ℕ → List ℕ) (old new : Device A S) : Type 0 where
  pub guard : new.guard ≡ old.guard
  pub kept : g.config new.node.shared ≡ g.config old.node.shared
  pub input : (before : List ℕ) → HasDelivered before old → HasDelivered before new
  pub left : left_text_of new ≡ left_text_of old
  pub represented : (m : AppSpec) (own : Addr) (n : AbstractNode) → IsNode g m own old.node n
      → IsNode g m own new.node (with_numbers change n)

-- A move returned these bytes: a call did, and setting a value returned none.
abbrev pub AnswersMove : {A S : Type 0} → Ghosts A S → Writing → Move → Device A S → Device A S → List ℕ → Type 0
AnswersMove g gives (Makes call) old new handed = Answers g call old new handed
AnswersMove g gives (Gives number text) old new handed = Changes g (gives number text) old new × (handed ≡ [])

-- a move, and the bytes that it returned
pub record Answered : Type 0 where
  pub move : Move
  pub handed : List ℕ

abbrev pub moves_of : List Answered → List Move
moves_of all = map (λ it. it.move) all

-- moves in order with these results
abbrev pub AnswersAll : {A S : Type 0} → Ghosts A S → Writing → List Answered → Device A S → Device A S → Type 0
AnswersAll g gives [] a c = a ≡ c
AnswersAll {A = A} {S = S} g gives (it ∷ all) a c =
    (b : Device A S) × AnswersMove g gives it.move a b it.handed × AnswersAll g gives all b c

-- The property holds for every fresh device and any moves in order, with their results.
abbrev pub FromFresh : {A S : Type 0} → Ghosts A S
    → (AppSpec → Writing → List ℕ → Addr → Rules → List Answered → Device A S → Device A S → Type 0) → Type 0
FromFresh {A = A} {S = S} g P =
    (m : AppSpec) (gives : Writing) (numbers : List ℕ) (own : Addr) (rules : Rules) (all : List Answered) (old new : Device A S)
    → IsFreshDevice g m numbers own rules old → AnswersAll g gives all old new → P m gives numbers own rules all old new

-- the pending output after each of these moves
abbrev pub lefts_of : {A S : Type 0} (g : Ghosts A S) (gives : Writing) (all : List Answered) (a c : Device A S)
    → AnswersAll g gives all a c → List (List ℕ)
lefts_of g gives [] a c same = []
lefts_of g gives (it ∷ all) a c more = left_text_of more.0 ∷ lefts_of g gives all more.0 c more.2

-- The bytes returned over the serial line, concatenated, and the datagrams returned over the datagram link. A call there that sent nothing
-- returned no bytes.
abbrev pub line_handed : List Answered → List ℕ
line_handed all = flat_map (λ it. if goes_by_datagram it.move then [] else it.handed) all

abbrev pub datagrams_handed : List Answered → List (List ℕ)
datagrams_handed all = flat_map (λ it. if goes_by_datagram it.move then it.handed ∷ [] else []) all
