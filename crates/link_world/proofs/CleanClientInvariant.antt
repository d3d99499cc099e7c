-- What holds of one client and of the connection that serves it, as long as the client is clean.
-- [add: state] A case of each invariant, here and in some fifteen files of this folder; THEOREM.md names them.
use Rattle.link_world.proofs.Prelude.{◌≡◌, ℕ, suc, ◌+◌, ◌<◌, ◌≤◌, Bool, true, false, List, [], ◌++◌, length, Option, Some, None, slice_get}
use Rattle.link_world.proofs.Prelude.{refl, if◌then◌else◌, wrap, PlainSegment, has_syn, has_fin, has_rst, has_ack, Snapshot, AppSpec}
use Rattle.link_world.proofs.Prelude.{IsPrefixOf, State, Closed, SynRcvd, Established, CloseWait, FinWait1, FinWait2, Closing, TimeWait}
use Rattle.link_world.proofs.Prelude.{LastAck, Connection, is_live, segment_of, Outcome, AbstractClient, ClientStep, is_receiving}
use Rattle.link_world.proofs.Prelude.{has_closed, own_first, ClientState, Sent, Content, PastConnection, becomes_opened, OfSegment, OfPing}
use Rattle.link_world.proofs.Prelude.{OfEcho, Who, FromClient, FromNode, era, IsPart}
use Rattle.link_client.specs.declared.client_state.ClientState.TheVariants as Is
use Rattle.link_world.proofs.Speaking.{Speaker}

abbrev pub is_some : Option ℕ → Bool
is_some None = false
is_some (Some o) = true

-- the segment of a datagram; an echo has none, and a RST is used in its place
abbrev pub no_segment : PlainSegment
no_segment = record { seq = 0; ack = 0; flags = 4; window = 0; mss = None; text = [] }

abbrev pub segment_in : Content → PlainSegment
segment_in (OfSegment id s) = s
segment_in (OfPing datagram) = no_segment
segment_in (OfEcho request) = no_segment

abbrev pub seg : Sent → PlainSegment
seg e = segment_in e.content

-- the datagrams of the client in place k of the list, which has the number k + 1
abbrev pub from : ℕ → Who
from k = FromClient (suc k)

abbrev pub to : ℕ → Who
to k = FromNode (suc k)

-- A step of a connection as it is seen on the line.
pub record Spoken : Type 0 where
  pub connection : Connection
  pub sent : Option PlainSegment

abbrev pub spoken : AppSpec → Outcome → Spoken
spoken m o = record { connection = o.connection; sent = segment_of m o.connection o.step }

-- the text of the whole request is whole and this is its end
pub record IsAll (speaker : Speaker) (client : AbstractClient) (captures : List Snapshot) (at : ℕ) : Type 0 where
  pub whole : speaker.whole client.request captures ≡ true
  pub end : at ≡ length (speaker.text client.request captures)

-- The connection, by its state.
pub record AtSyn (speaker : Speaker) (c : Connection) : Type 0 where
  pub port : speaker.at c.sockets.own_port.0 ≡ true
  pub taken : c.taken ≡ 0
  pub len : c.len ≡ 1
  pub snapshots : c.part.snapshots ≡ []
  pub acked : c.acked ≡ 0
  pub input : c.part.input ≡ []

pub record AtText (speaker : Speaker) (opened : Option ℕ) (client : AbstractClient) (c : Connection) : Type 0 where
  pub opened_is : is_some opened ≡ true
  pub here : speaker.here c.part ≡ true
  pub input : IsPrefixOf c.part.input client.request
  pub fits : c.part.acked + c.len ≤ length (speaker.text c.part.input c.part.snapshots)
  pub count : c.acked ≡ 1 + c.part.acked

-- in ESTABLISHED all that was accepted was delivered, if the state is not lost
pub record AtOpen (speaker : Speaker) (opened : Option ℕ) (client : AbstractClient) (c : Connection) : Type 0 where
  pub text : AtText speaker opened client c
  pub taken : speaker.lost c.part ≡ false → c.taken ≡ length c.part.input

pub record AtFin (speaker : Speaker) (opened : Option ℕ) (client : AbstractClient) (c : Connection) : Type 0 where
  pub opened_is : is_some opened ≡ true
  pub ends : IsAll speaker client c.part.snapshots c.part.acked
  pub count : c.acked ≡ 1 + c.part.acked
  pub input : IsPrefixOf c.part.input client.request

pub record AtRest (opened : Option ℕ) (client : AbstractClient) (c : Connection) : Type 0 where
  pub opened_is : is_some opened ≡ true
  pub input : IsPrefixOf c.part.input client.request

abbrev pub StateGood : Speaker → Option ℕ → AbstractClient → Connection → State → Type 0
StateGood speaker opened client c Closed = Unit {0}
StateGood speaker opened client c SynRcvd = AtSyn speaker c
StateGood speaker opened client c Established = AtOpen speaker opened client c
StateGood speaker opened client c CloseWait = AtText speaker opened client c
StateGood speaker opened client c FinWait1 = AtFin speaker opened client c
StateGood speaker opened client c FinWait2 = AtRest opened client c
StateGood speaker opened client c Closing = AtFin speaker opened client c
StateGood speaker opened client c TimeWait = AtRest opened client c
StateGood speaker opened client c LastAck = AtFin speaker opened client c

pub record ConnGood (speaker : Speaker) (opened : Option ℕ) (client : AbstractClient) (c : Connection) : Type 0 where
  pub irs : c.irs ≡ own_first client
  pub state : StateGood speaker opened client c c.state

-- before its client opened, a connection that lives is in SYN-RECEIVED
pub unopened : (speaker : Speaker) (client : AbstractClient) (c : Connection) (st : State) → is_live st ≡ true
    → StateGood speaker None client c st → (st ≡ SynRcvd) × AtSyn speaker c
unopened speaker client c Closed l g = absurd (cc)
unopened speaker client c SynRcvd l g = (refl, g)
unopened speaker client c Established l g = absurd (let z : false ≡ true = g.text.opened_is in cc)
unopened speaker client c _ l g = absurd (let z : false ≡ true = g.opened_is in cc)

-- What a client has sent.
pub record IsSyn (client : AbstractClient) (opened : Option ℕ) (at_epoch : ℕ) (s : PlainSegment) : Type 0 where
  pub syn : has_syn s.flags ≡ true
  pub no_ack : has_ack s.flags ≡ false
  pub no_text : s.text ≡ []
  pub seq : s.seq ≡ own_first client
  pub before : (o : ℕ) → opened ≡ Some o → at_epoch ≤ o

pub record IsData (client : AbstractClient) (opened : Option ℕ) (s : PlainSegment) : Type 0 where
  pub no_syn : has_syn s.flags ≡ false
  pub opened_is : is_some opened ≡ true
  pub at : ℕ
  pub part : IsPart client.request s.text at
  pub seq : 0 < length s.text → s.seq ≡ wrap (own_first client + 1 + at)

pub data ClientSent (client : AbstractClient) (opened : Option ℕ) (at_epoch : ℕ) (s : PlainSegment) : Type 0 where
  sent_reset : has_rst s.flags ≡ true → ClientSent client opened at_epoch s
  sent_syn : IsSyn client opened at_epoch s → ClientSent client opened at_epoch s
  sent_data : IsData client opened s → ClientSent client opened at_epoch s

-- What the node has sent. IsOpen: the client opened in the epoch of the datagram.
pub record IsText (speaker : Speaker) (client : AbstractClient) (iss : ℕ) (captures : List Snapshot) (s : PlainSegment) : Type 0 where
  pub no_syn : has_syn s.flags ≡ false
  pub no_fin : has_fin s.flags ≡ false
  pub at : ℕ
  pub part : IsPart (speaker.text client.request captures) s.text at
  pub seq : s.seq ≡ wrap (iss + 1 + at)

pub record IsFin (speaker : Speaker) (client : AbstractClient) (iss : ℕ) (captures : List Snapshot) (s : PlainSegment) : Type 0 where
  pub no_syn : has_syn s.flags ≡ false
  pub is_fin : has_fin s.flags ≡ true
  pub no_text : s.text ≡ []
  pub at : ℕ
  pub ends : IsAll speaker client captures at
  pub seq : s.seq ≡ wrap (iss + 1 + at)

pub record IsSynAck (iss : ℕ) (s : PlainSegment) : Type 0 where
  pub syn : has_syn s.flags ≡ true
  pub seq : s.seq ≡ wrap iss

pub record IsAck (s : PlainSegment) : Type 0 where
  pub no_syn : has_syn s.flags ≡ false
  pub no_fin : has_fin s.flags ≡ false
  pub no_text : s.text ≡ []

pub data NodeSent (speaker : Speaker) (client : AbstractClient) (IsOpen : Type 0) (iss : ℕ) (captures : List Snapshot) (s : PlainSegment) : Type 0 where
  node_reset : has_rst s.flags ≡ true → NodeSent speaker client IsOpen iss captures s
  node_syn : has_rst s.flags ≡ false → IsSynAck iss s → NodeSent speaker client IsOpen iss captures s
  node_ack : has_rst s.flags ≡ false → IsAck s → NodeSent speaker client IsOpen iss captures s
  node_text : has_rst s.flags ≡ false → IsOpen → IsText speaker client iss captures s → NodeSent speaker client IsOpen iss captures s
  node_fin : has_rst s.flags ≡ false → IsOpen → IsFin speaker client iss captures s → NodeSent speaker client IsOpen iss captures s

-- One step of a connection that lives, seen from its client.
pub record SentGood (speaker : Speaker) (opened : Option ℕ) (client : AbstractClient) (c : Connection) (s : PlainSegment) : Type 0 where
  pub incarnations : has_rst s.flags ≡ false → is_live c.state ≡ true
  pub output : NodeSent speaker client (is_some opened ≡ true) c.iss c.part.snapshots s

-- the connection afterwards, d, beside the one before, c
pub record Moved (speaker : Speaker) (opened : Option ℕ) (client : AbstractClient) (c d : Connection) : Type 0 where
  pub iss : d.iss ≡ c.iss
  pub more : List Snapshot
  pub snapshots : d.part.snapshots ≡ c.part.snapshots ++ more
  pub good : is_live d.state ≡ true → ConnGood speaker opened client d

pub record StepGood (speaker : Speaker) (opened : Option ℕ) (client : AbstractClient) (c : Connection) (step : Spoken) : Type 0 where
  pub moved : Moved speaker opened client c step.connection
  pub output : (s : PlainSegment) → step.sent ≡ Some s → SentGood speaker opened client step.connection s

-- What is kept of each datagram.
pub record FromGood (client : AbstractClient) (opened : Option ℕ) (history : List PastConnection) (e : Sent) : Type 0 where
  pub time : e.epoch ≤ length history
  pub output : ClientSent client opened e.epoch (seg e)

pub record ToGood (speaker : Speaker) (client : AbstractClient) (opened : Option ℕ) (history : List PastConnection) (c : Connection) (e : Sent) : Type 0 where
  pub time : e.epoch ≤ length history
  pub incarnations : has_rst (seg e).flags ≡ false → e.epoch ≡ length history → is_live c.state ≡ true
  pub output : NodeSent speaker client (opened ≡ Some e.epoch) (era history c e.epoch).iss (era history c e.epoch).snapshots (seg e)

-- it has not opened
abbrev pub is_early : ClientState → Bool
is_early Is.Idle = true
is_early Is.Opening = true
is_early Is.Reset = true
is_early _ = false

-- it may still open
abbrev pub is_unasked : ClientState → Bool
is_unasked Is.Idle = true
is_unasked Is.Opening = true
is_unasked _ = false

pub record NotOpened (client : AbstractClient) : Type 0 where
  pub early : is_early client.state ≡ true
  pub nothing : client.received ≡ []

pub record HasOpened (speaker : Speaker) (client : AbstractClient) (history : List PastConnection) (c : Connection) (o : ℕ) : Type 0 where
  pub time : o ≤ length history
  pub then_live : o ≡ length history → is_live c.state ≡ true
  pub live_then : is_live c.state ≡ true → o ≡ length history
  pub asked : is_unasked client.state ≡ false
  pub part : IsPart (speaker.text client.request (era history c o).snapshots) client.received 0
  pub expected : is_receiving client.state ≡ true → client.expected ≡ wrap ((era history c o).iss + 1 + length client.received)
  pub all : has_closed client.state ≡ true → IsAll speaker client (era history c o).snapshots (length client.received)

abbrev pub OpenedGood : Speaker → AbstractClient → List PastConnection → Connection → Option ℕ → Type 0
OpenedGood speaker client history c None = NotOpened client
OpenedGood speaker client history c (Some o) = HasOpened speaker client history c o

pub record Steady (client : AbstractClient) : Type 0 where
  pub short : length client.request ≤ 4096
  pub low : own_first client < 4294967296
  pub out_fits : client.acked + client.out ≤ length client.request

-- what is known of one clean client
pub record Good (speaker : Speaker) (number : ℕ) (client : AbstractClient) (opened : Option ℕ) (history : List PastConnection)
    (c : Connection) (sent : List Sent) : Type 0 where
  pub steady : Steady client
  pub opened_good : OpenedGood speaker client history c opened
  pub connection : is_live c.state ≡ true → ConnGood speaker opened client c
  pub of_client : (k : ℕ) (e : Sent) → slice_get sent k ≡ Some e → e.who ≡ from number → FromGood client opened history e
  pub of_node : (k : ℕ) (e : Sent) → slice_get sent k ≡ Some e → e.who ≡ to number → ToGood speaker client opened history c e

-- One step of a client.
pub record TookGood (speaker : Speaker) (client : AbstractClient) (history : List PastConnection) (c : Connection) (opened next : Option ℕ)
    (took : ClientStep) : Type 0 where
  pub next_is : next ≡ (if becomes_opened client.state took.client.state then Some (length history) else opened)
  pub request : took.client.request ≡ client.request
  pub setup : own_first took.client ≡ own_first client
  pub steady : Steady took.client
  pub opened_good : OpenedGood speaker took.client history c next
  pub output : (s : PlainSegment) → took.sent ≡ Some s → ClientSent took.client next (length history) s
