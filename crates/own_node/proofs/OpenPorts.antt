-- A connection opens only at the port that its frame is for.
use Rattle.own_node.proofs.Prelude.{◌≡◌, ◌∙◌, ℕ, ◌+◌, ◌-◌, ◌%◌, ◌<◌, ◌≤◌, ◌&&◌, ◌||◌, Bool, true, false, if◌then◌else◌, not, eqb, ltb, List}
use Rattle.own_node.proofs.Prelude.{[], ◌∷◌, ◌++◌, drop, length, length-drop, length-take, take, Option, Some, None, refl, sym, ap, subst}
use Rattle.own_node.proofs.Prelude.{arith, and_from, and_parts, eq-eqb, eqb-true, false≢true, le-leb, ltb-false, get_or-drop, get_or-take}
use Rattle.own_node.proofs.Prelude.{All-head, All-tail, AppSpec, is_open_port, with_port, choose, find_is, finds, finds_none, index_of}
use Rattle.own_node.proofs.Prelude.{initial_number, Arrived, EchoAsked, IcmpRefused, IpRefused, Overlong, Periodic, TcpRefused}
use Rattle.std.proofs.lemmas.Grind.{common_steps}
use Rattle.std.specs.Option.{option_map_or}
use Rattle.std.specs.Prelude.{All, bytes_eq, Err, Ok, position, Result, slice_index, slice_index_or, slice_range}
use Rattle.icmp_echo.specs.Prelude.{echo_fate}
use Rattle.icmp_echo.specs.declared.fate.IcmpFate.{IcmpFate}
use Rattle.own_node.specs.Ports.{carries_segment, is_for_closed_port, target_port}
use Rattle.own_node.proofs.Slots.{each_closed, each_set}
use Rattle.tcp_machine.specs.Prelude.{Connection, Outcome, Sockets, accept, asked, closed, is_live, is_plain_syn, on_segment, on_tick}
use Rattle.tcp_machine.specs.Prelude.{same_sockets, serves}
use Rattle.tcp_segment.specs.Prelude.{PlainSegment, has_rst, pseudo_header, segment_in}
use Rattle.tcp_segment.specs.Received.{header_len}
use Rattle.tcp_segment.specs.declared.fate.TcpFate.{TcpFate}
use Rattle.tcp_segment.specs.declared.segment.Segment.{Segment}
use Rattle.uip_ipv4.specs.Prelude.{head_by, head_or_fate, payload_of, proto_of}
use Rattle.uip_ipv4.specs.declared.fate.IpFate.{IpFate}
use Rattle.uip_ipv4.specs.declared.head.IpHead.{IpHead}
use Rattle.uip_ipv4.specs.declared.proto.Proto.{Proto}
use Rattle.uip_ipv4.specs.declared.proto.Proto.TheVariants.{Icmp, Tcp}
use Rattle.uip_ipv4.proofs.Facts.{facts_at}
use Rattle.uip_node.proofs.Peers.{asked_keeps, on_segment_keeps, on_tick_closed, on_tick_keeps}
use Rattle.uip_node.proofs.SocketPairs.{same_is}
use Rattle.uip_node.specs.Laws.{serving}
use Rattle.uip_node.specs.Node.{arrives_at, for_no_connection, happened, opens, opens_in, slot_for_syn, snapshot}
use Rattle.uip_node.specs.Prelude.{AbstractNode, Event, NodeStep, by_head, by_segment, connection_in, event_of, initial_node, run, step}
use Rattle.uip_wire.specs.Prelude.{address_at, checksum_of, word_at}
use Rattle.uip_wire.specs.declared.addr.Addr.{Addr}

-- ---- the event of a datagram

-- what is known of the sockets of a segment that arrives, and nothing of another event
abbrev pub OfSegment : (Sockets → Type 0) → Event → Type 0
OfSegment P (Arrived p s) = P p
OfSegment P _ = Unit {0}

-- a datagram with a segment has no options, and the segment is to this port
abbrev pub IsTo : List ℕ → Event → Type 0
IsTo bytes event =
    OfSegment (λ p. (24 ≤ length bytes) × (slice_index bytes 0 ≡ 69) × (slice_index bytes 9 ≡ 6) × (p.own_port.0 ≡ word_at bytes 22)) event

same_number : (a b : ℕ) → not (eqb a b) ≡ false → a ≡ b
same_number a b h = grind (arith, common_steps)

-- a byte of the payload
payload_byte : (bytes : List ℕ) (total i : ℕ) → i < total - 20 → slice_index (slice_range bytes 20 total) i ≡ slice_index bytes (20 + i)
payload_byte bytes total i low = get_or-take (total - 20) (drop 20 bytes) i 0 low ∙ get_or-drop 20 bytes i 0

payload_long : (bytes : List ℕ) (total : ℕ) → 20 ≤ length (slice_range bytes 20 total) → (40 ≤ length bytes) × (20 ≤ total - 20)
payload_long bytes total long = (
  omega (arith, long, length-take (total - 20) (drop 20 bytes), length-drop 20 bytes),
  omega (arith, long, length-take (total - 20) (drop 20 bytes), length-drop 20 bytes),
)

segment_to : (head : IpHead) (bytes source target : List ℕ) (total : ℕ) → slice_index bytes 0 ≡ 69 → slice_index bytes 9 ≡ 6
    → IsTo bytes (by_segment head bytes (segment_in source target (slice_range bytes 20 total)))
unfolding segment_in
segment_to head bytes source target total version protocol =
    let payload : List ℕ = slice_range bytes 20 total in
    let P : Result Segment TcpFate → Type 0 = λ r. IsTo bytes (by_segment head bytes r) in
    choose P (ltb (length payload) 20) _ _ (λ e. tt)
    (λ e. choose P (ltb (header_len payload) 20 || ltb (length payload) (header_len payload)) _ _ (λ f. tt)
    (λ f. choose P (not (eqb (checksum_of (pseudo_header source target (length payload) ++ payload)) 0)) _ _ (λ g. tt)
    (λ g. (let long = payload_long bytes total (ltb-false (length payload) 20 e) in
    let low = long.0 in
    let room = long.1 in
    let high = payload_byte bytes total 2 (omega (arith, room)) in
    let next = payload_byte bytes total 3 (omega (arith, room)) in
    (omega (arith, low), version, protocol, omega (arith, high, next))))))

echo_to : (bytes : List ℕ) (fate : Option IcmpFate) (request : List ℕ) → IsTo bytes (option_map_or IcmpRefused fate (EchoAsked request))
echo_to bytes None request = tt
echo_to bytes (Some fate) request = tt

head_to : (bytes : List ℕ) → slice_index bytes 0 ≡ 69 → IsTo bytes (by_head bytes (head_by (proto_of (slice_index bytes 9)) bytes))
head_to bytes version =
    let head : Proto → IpHead = λ proto. record {
      total = word_at bytes 2;
      proto = proto;
      source = record { 0 = address_at bytes 12 };
      target = record { 0 = address_at bytes 16 };
    } in
    let P : Option Proto → Type 0 = λ o. IsTo bytes (by_head bytes (head_by o bytes)) in
    choose P (eqb (slice_index bytes 9) 1) _ _ (λ e. echo_to bytes (echo_fate (payload_of (head Icmp) bytes)) (take (word_at bytes 2) bytes))
    (λ e. choose P (eqb (slice_index bytes 9) 6) _ _ (λ f. segment_to (head Tcp) bytes (address_at bytes 12) (address_at bytes 16)
    (word_at bytes 2) version (eqb-true (slice_index bytes 9) 6 f)) (λ f. tt))

-- a header that was read has this version and length
second_passed : (short version : Bool) (first second : IpFate) (rest : Result IpHead IpFate) (head : IpHead)
    → (if short then Err first else if version then Err second else rest) ≡ Ok head → version ≡ false
second_passed true version first second rest head e = absurd (cc)
second_passed false true first second rest head e = absurd (cc)
second_passed false false first second rest head e = refl

version_is : (own bytes : List ℕ) (head : IpHead) → head_or_fate bytes own ≡ Ok head → slice_index bytes 0 ≡ 69
unfolding head_or_fate
version_is own bytes head e = same_number (slice_index bytes 0) 69 (second_passed _ _ _ _ _ head e)

pub bytes_to : (own : Addr) (bytes : List ℕ) → IsTo bytes (event_of own bytes)
bytes_to own bytes = by (head_or_fate bytes own.0) refl
  where
    by : (r : Result IpHead IpFate) → head_or_fate bytes own.0 ≡ r → IsTo bytes (by_head bytes r)
    by (Err fate) e = tt
    by (Ok head) e =
        subst (λ (r : Result IpHead IpFate). IsTo bytes (by_head bytes r)) (facts_at own.0 bytes head e).fields (head_to bytes (version_is own.0 bytes head e))

-- ---- the event of a frame that is not dropped

-- a segment is to a port of these
abbrev pub IsAt : (ℕ → Bool) → Event → Type 0
IsAt Q event = OfSegment (λ p. Q p.own_port.0 ≡ true) event

carries : (frame : List ℕ) → word_at frame 12 ≡ 2048 → 24 ≤ length (drop 14 frame) → slice_index (drop 14 frame) 0 ≡ 69
    → slice_index (drop 14 frame) 9 ≡ 6 → carries_segment frame ≡ true
carries frame kind long version protocol =
    let size = length-drop 14 frame in
    and_from _ _ (and_from _ _ (and_from _ _ (le-leb 38 (length frame) (omega (arith, long, size))) (eq-eqb (word_at frame 12) 2048 kind))
    (eq-eqb (slice_index frame 14) 69 (sym (get_or-drop 14 frame 0 0) ∙ version)))
    (eq-eqb (slice_index frame 23) 6 (sym (get_or-drop 14 frame 9 0) ∙ protocol))

port_at_offset : (frame : List ℕ) → word_at (drop 14 frame) 22 ≡ target_port frame
port_at_offset frame = let high = get_or-drop 14 frame 22 0 in let low = get_or-drop 14 frame 23 0 in omega (arith, high, low)

kept_open : (segment here : Bool) → segment && not here ≡ false → segment ≡ true → here ≡ true
kept_open true true e f = refl
kept_open true false e f = sym e
kept_open false here e f = absurd (false≢true f)

pub event_at : (ports frame : List ℕ) (event : Event) → word_at frame 12 ≡ 2048 → is_for_closed_port ports frame ≡ false
    → IsTo (drop 14 frame) event → IsAt (is_open_port ports) event
event_at ports frame (Arrived p s) kind kept it =
    ap (is_open_port ports) (it.3 ∙ port_at_offset frame) ∙ kept_open (carries_segment frame) (is_open_port ports (target_port frame)) kept
    (carries frame kind it.0 it.1 it.2)
event_at ports frame (IpRefused fate) kind kept it = tt
event_at ports frame (IcmpRefused fate) kind kept it = tt
event_at ports frame (TcpRefused fate) kind kept it = tt
event_at ports frame (EchoAsked datagram) kind kept it = tt
event_at ports frame Overlong kind kept it = tt
event_at ports frame (Periodic slot) kind kept it = tt

pub frame_at : (own : Addr) (ports frame : List ℕ) → word_at frame 12 ≡ 2048 → is_for_closed_port ports frame ≡ false
    → IsAt (is_open_port ports) (event_of own (drop 14 frame))
frame_at own ports frame kind kept = event_at ports frame (event_of own (drop 14 frame)) kind kept (bytes_to own (drop 14 frame))

-- ---- the connections after an event

module _ (m : AppSpec) (served Q : ℕ → Bool) where
  -- the connection is at a port of these, if it is not CLOSED
  abbrev IsIn : Connection → Type 0
  IsIn c = is_live c.state ≡ true → Q c.sockets.own_port.0 ≡ true

  abbrev AllIn : AbstractNode → Type 0
  AllIn n = (slot : ℕ) → IsIn (connection_in slot n)

  module _ (n : AbstractNode) (each : AllIn n) where
    happened_in : (event : Event) (slot : ℕ) (old : Connection) (o : Outcome) → IsIn o.connection → AllIn (happened m n event slot old o).node
    unfolding happened
    happened_in event slot old o is = each_set IsIn n.connections slot o.connection is each

    opens_at : (sockets : Sockets) (s : PlainSegment) (slot : Option ℕ) → Q sockets.own_port.0 ≡ true → AllIn (opens m n sockets s slot).node
    unfolding opens_in
    opens_at sockets s None at = each
    opens_at sockets s (Some slot) at = happened_in (Arrived sockets s) slot (connection_in slot n)
        (accept (initial_number n.history) sockets s n.numbers) (λ live. at)

    new_at : (sockets : Sockets) (s : PlainSegment) → Q sockets.own_port.0 ≡ true → AllIn (for_no_connection m served n sockets s).node
    unfolding for_no_connection
    new_at sockets s at =
        choose (λ (r : NodeStep). AllIn r.node) (is_plain_syn s && served sockets.own_port.0) _ _ (λ e. opens_at sockets s (slot_for_syn n.connections) at)
        (λ e. choose (λ (r : NodeStep). AllIn r.node) (has_rst s.flags) _ _ (λ f. each) (λ f. each))

    segment_in_slot : (sockets : Sockets) (s : PlainSegment) (found : Option ℕ) → Q sockets.own_port.0 ≡ true
        → ((slot : ℕ) → found ≡ Some slot → (connection_in slot n).sockets ≡ sockets) → AllIn (arrives_at m served n sockets s found).node
    segment_in_slot sockets s None at is = new_at sockets s at
    segment_in_slot sockets s (Some slot) at is =
        let c : Connection = connection_in slot n in
        let o : Outcome = asked m (snapshot n (Arrived sockets s) slot) (on_segment m c n.numbers s) in
        let keeps : o.connection.sockets ≡ c.sockets = asked_keeps m (snapshot n (Arrived sockets s) slot) c (on_segment m c n.numbers s)
        (on_segment_keeps m c n.numbers s) in
        happened_in (Arrived sockets s) slot c o (λ live. ap (λ (p : Sockets). Q p.own_port.0) (keeps ∙ is slot refl) ∙ at)

    tick_in : (slot : ℕ) (live : Bool) → is_live (connection_in slot n).state ≡ live
        → IsIn (asked m (snapshot n (Periodic slot) slot) (on_tick m (connection_in slot n) n.numbers)).connection
    tick_in slot true e =
        let c : Connection = connection_in slot n in
        let keeps = asked_keeps m (snapshot n (Periodic slot) slot) c (on_tick m c n.numbers) (on_tick_keeps m c n.numbers) in
        (λ live. ap (λ (p : Sockets). Q p.own_port.0) keeps ∙ each slot e)
    tick_in slot false e =
        subst (λ (o : Outcome). IsIn (asked m (snapshot n (Periodic slot) slot) o).connection)
        (sym (on_tick_closed m (connection_in slot n) n.numbers e)) (each slot)

    found_at : (p : Sockets) (slot : ℕ) → position (serves p) n.connections ≡ Some slot → (connection_in slot n).sockets ≡ p
    found_at p slot e =
        elim (find_is p n.connections) [
          | finds i f g s ↦ (let same : i ≡ slot = (let z : Some (0 + i) ≡ Some slot = sym f ∙ e in let y : 0 + i ≡ slot = cc in omega (arith, y)) in
              let at : connection_in slot n ≡ serving p n.connections = sym (ap (λ (j : ℕ). slice_index_or n.connections j closed) same)
              ∙ index_of n.connections i closed (serving p n.connections) g in
              ap (λ (c : Connection). c.sockets) at ∙ same_is (serving p n.connections).sockets p
              (and_parts (is_live (serving p n.connections).state) (same_sockets (serving p n.connections).sockets p) s).1)
          | finds_none f g ↦ absurd (cc)
        ]

    pub step_at : (event : Event) → IsAt Q event → AllIn (step m served n event).node
    step_at (IpRefused fate) at = each
    step_at (IcmpRefused fate) at = each
    step_at (TcpRefused fate) at = each
    step_at (EchoAsked datagram) at = each
    step_at (Arrived sockets s) at = segment_in_slot sockets s (position (serves sockets) n.connections) at (found_at sockets)
    step_at (Periodic slot) at =
        happened_in (Periodic slot) slot (connection_in slot n)
        (asked m (snapshot n (Periodic slot) slot) (on_tick m (connection_in slot n) n.numbers)) (tick_in slot (is_live (connection_in slot n).state) refl)
    step_at Overlong at = each

-- the connections after events
pub run_at : (m : AppSpec) (served Q : ℕ → Bool) (events : List Event) (n : AbstractNode) → AllIn m served Q n → All (IsAt Q) events
    → AllIn m served Q (run m served events n).node
run_at m served Q [] n each are = each
run_at m served Q (event ∷ events) n each are =
    run_at m served Q events (step m served n event).node (step_at m served Q n each event (All-head (IsAt Q) event events are))
    (All-tail (IsAt Q) event events are)

-- the initial node has no connections
pub first_at : (Q : ℕ → Bool) (own : Addr) (numbers : List ℕ) (slot : ℕ) → is_live (connection_in slot (initial_node own numbers)).state
    ≡ true → Q (connection_in slot (initial_node own numbers)).sockets.own_port.0 ≡ true
first_at Q own numbers slot live = absurd (false≢true (subst (λ (c : Connection). is_live c.state ≡ true) (each_closed 10 slot) live))

-- ---- a port is opened

pub or_more : (here : Bool) (P Q : Bool) → (P ≡ true → Q ≡ true) → here || P ≡ true → here || Q ≡ true
or_more true P Q h e = refl
or_more false P Q h e = h e

more_open : (ports : List ℕ) (port p : ℕ) → is_open_port ports p ≡ true → is_open_port (ports ++ port ∷ []) p ≡ true
more_open [] port p e = absurd (false≢true e)
more_open (q ∷ ports) port p e = or_more (eqb q p) (is_open_port ports p) (is_open_port (ports ++ port ∷ []) p) (more_open ports port p) e

-- which leaves those before open
pub stays_open : (port p : ℕ) (ports : List ℕ) → is_open_port ports p ≡ true → is_open_port (with_port port ports) p ≡ true
stays_open port p ports e =
    choose (λ (l : List ℕ). is_open_port l p ≡ true) (is_open_port ports port) ports (ports ++ port ∷ []) (λ f. e) (λ f. more_open ports port p e)
