-- Each reply of a node on an Ethernet line has 20 to 1500 bytes.
use Rattle.ethernet_arp.proofs.Prelude.{◌≡◌, ℕ, zero, suc, ◌+◌, ◌*◌, ◌-◌, ◌%◌, ◌≤◌, ◌&&◌, ◌||◌, ◌==◌, Bool, true, false, not, if◌then◌else◌}
use Rattle.ethernet_arp.proofs.Prelude.{nat_le, nat_lt, eqb, ltb, List, [], ◌∷◌, ◌++◌, Option, None, Some, Result, Ok, Err, length, set}
use Rattle.ethernet_arp.proofs.Prelude.{take, drop, map, replicate, position, slice_index, slice_get, slice_index_or, refl, sym, ap, ◌∙◌}
use Rattle.ethernet_arp.proofs.Prelude.{subst, arith, inl, inr, ◌⊎◌, length-append, length-take, length-drop, ⊤, option_map, slice_range}
use Rattle.ethernet_arp.proofs.Prelude.{option_map_or, leb-true, le-leb, ltb-false, and_from, and_parts, or_parts, AppSpec, Item, Byte}
use Rattle.ethernet_arp.proofs.Prelude.{Quiet, address_at, checksum_of, word_at, bytes_of, Addr, length-bytes_of, head_bytes, head_by}
use Rattle.ethernet_arp.proofs.Prelude.{head_or_fate, payload_of, proto_of, IpFate, IpHead, Proto, Icmp, Tcp, length-head_bytes, facts_at}
use Rattle.ethernet_arp.proofs.Prelude.{echo_fate, echo_message, echo_reply, IcmpFate, segment_or_fate, TcpFate, Segment, Outcome}
use Rattle.ethernet_arp.proofs.Prelude.{Connection, Sockets, closed, serves, accept, on_segment, on_tick, bare_ack, fin_of, is_plain_syn}
use Rattle.ethernet_arp.proofs.Prelude.{reset_of, reset_for_no_connection, segment_of, syn_ack, text_segment, Step, initial_number, by_head}
use Rattle.ethernet_arp.proofs.Prelude.{by_proto, by_segment, datagram_to, event_of, reply_bytes, Event, Reply, IpRefused, IcmpRefused}
use Rattle.ethernet_arp.proofs.Prelude.{TcpRefused, EchoAsked, Arrived, Periodic, AbstractNode, NodeStep, arrives_at, connection_in}
use Rattle.ethernet_arp.proofs.Prelude.{for_no_connection, happened, snapshot, initial_node, opens, opens_in, slot_for_syn, step, choose}
use Rattle.ethernet_arp.proofs.Prelude.{only_some, get_set, small_size, reply_length, here, there, asked_keeps, on_segment_keeps}
use Rattle.ethernet_arp.proofs.Prelude.{on_tick_keeps, Lens, accepted_lens, asked_lens, closed_lens, on_segment_lens, on_tick_lens}
use Rattle.ethernet_arp.proofs.Prelude.{StationEvent, OfMedium, OfNode, Station, station_after, station_after_all, beat_on}
use Rattle.ethernet_arp.proofs.Prelude.{station_event_by, station_events_after, station_events_of_line, tick_on, is_beat, closed_by}
use Rattle.ethernet_arp.proofs.Prelude.{ether_medium, is_taken, is_whole, open_from, Host, broadcast, frame_brings, is_arp, is_arp_for}
use Rattle.ethernet_arp.proofs.Prelude.{is_datagram, is_sendable, mac_at, Act, DatagramsFitFrames}
use Rattle.std.proofs.Common.{bytes_eq}
use Rattle.tcp_segment.specs.Segments.{Datagram as Segmented, PlainSegment, datagram_bytes, fixed_words, has_rst, option_words}
use Rattle.tcp_segment.specs.Segments.{segment_bytes, segment_sum}
use Rattle.uip_node.specs.Events.Event.{Overlong}
use Rattle.uip_node.specs.Events.Reply.{Echo as EchoSent, TcpReply as TcpSent}
use Rattle.line_medium.specs.Media.{MediumInput, Datagram, Overlong as OverlongFrame, Own}

within : (d : List ℕ) → 20 ≤ length d → length d ≤ 1500 → is_sendable d ≡ true
within d least most = and_from (nat_le 20 (length d)) (nat_le (length d) 1500) (le-leb 20 (length d) least) (le-leb (length d) 1500 most)

-- ---- a segment's datagram

-- a segment without a text, or with at most 1460 bytes of it and without the option
record IsSmall (s : PlainSegment) : Type 0 where
  short : length s.text ≤ 1460
  alone : (s.mss ≡ None) ⊎ (s.text ≡ [])

whole_length : (d : Segmented) → length d.source ≡ 4 → length d.target ≡ 4 → length (datagram_bytes d) ≡ 20 + length (segment_bytes d)
unfolding datagram_bytes
whole_length d s t =
    length-append (head_bytes (20 + length (segment_bytes d)) d.id Tcp d.source d.target) (segment_bytes d)
    ∙ ap (λ n. n + length (segment_bytes d)) (length-head_bytes (20 + length (segment_bytes d)) d.id Tcp d.source d.target s t)

-- ---- what comes

-- a request for an echo is a whole datagram, and a peer has an address
abbrev EventFits : Event → Type 0
EventFits (EchoAsked d) = (24 ≤ length d) × (length d ≤ 1500)
EventFits (Arrived sockets s) = length sockets.peer.0 ≡ 4
EventFits _ = ⊤

segment_fits : (head : IpHead) (bytes : List ℕ) (r : Result Segment TcpFate) → length head.source.0 ≡ 4 → EventFits (by_segment head bytes r)
segment_fits head bytes (Ok s) h = h
segment_fits head bytes (Err fate) h = tt

short_no : (bytes : List ℕ) → nat_lt (length bytes) 8 ≡ false → 8 ≤ length bytes
short_no bytes e = omega (arith, ltb-false (length bytes) 8 e)

echo_fits : (head : IpHead) (bytes : List ℕ) → head.total ≤ length bytes → length bytes ≤ 1500
    → EventFits (option_map_or IcmpRefused (echo_fate (payload_of head bytes)) (EchoAsked (take head.total bytes)))
echo_fits head bytes total most =
    let P : Option IcmpFate → Type 0 = λ fate. EventFits (option_map_or IcmpRefused fate (EchoAsked (take head.total bytes))) in
    let message : List ℕ = payload_of head bytes in
    choose P (nat_lt (length message) 8) _ _ (λ e. tt)
    (λ e. let size = short_no (payload_of head bytes) e in
    let cut = length-take (head.total - 20) (drop 20 bytes) in
    let behind = length-drop 20 bytes in
    let prefix = length-take head.total bytes in
    choose P (not (checksum_of message == 0)) _ _ (λ f. tt)
    (λ f. choose P (not (slice_index message 0 == 8) || not (slice_index message 1 == 0)) _ _ (λ g. tt)
    (λ g. (omega (arith, total, most, size, cut, behind, prefix), omega (arith, total, most, prefix)))))

proto_fits : (proto : Proto) (head : IpHead) (bytes : List ℕ) → head.total ≤ length bytes → length bytes ≤ 1500 → length head.source.0 ≡ 4
    → EventFits (by_proto proto head bytes)
proto_fits Icmp head bytes total most h = echo_fits head bytes total most
proto_fits Tcp head bytes total most h = segment_fits head bytes (segment_or_fate head bytes) h

head_fits : (own : Addr) (bytes : List ℕ) → length bytes ≤ 1500 → (r : Result IpHead IpFate) → head_or_fate bytes own.0 ≡ r → EventFits (by_head bytes r)
head_fits own bytes most (Err fate) is = tt
head_fits own bytes most (Ok head) is =
    let facts = facts_at own.0 bytes head is in
    proto_fits head.proto head bytes facts.most most (ap (λ (address : List ℕ). length address) facts.source)

bytes_fit : (own : Addr) (bytes : List ℕ) → length bytes ≤ 1500 → EventFits (event_of own bytes)
bytes_fit own bytes most = head_fits own bytes most (head_or_fate bytes own.0) refl

-- ---- the connections

record ConnFits (c : Connection) : Type 0 where
  lens : Lens c
  peer : length c.sockets.peer.0 ≡ 4

abbrev TableFits : List Connection → Type 0
TableFits table = (i : ℕ) (c : Connection) → slice_get table i ≡ Some c → ConnFits c

closed_conn : ConnFits closed
closed_conn = record { lens = closed_lens; peer = refl }

set_fits : (table : List Connection) (i : ℕ) (new : Connection) → ConnFits new → TableFits table → (j : ℕ) (c : Connection)
    → slice_get (set table i new) j ≡ Some c → ConnFits c
set_fits table i new f h j c x = elim (get_set table i new j c x) [ here e q ↦ subst (λ z. ConnFits z) q f | there n g ↦ h j c g ]

index_conn : (table : List Connection) (i : ℕ) → TableFits table → ConnFits (slice_index_or table i closed)
index_conn [] i h = closed_conn
index_conn (c ∷ cs) zero h = h zero c refl
index_conn (c ∷ cs) (suc i) h = index_conn cs i (λ j x g. h (suc j) x g)

all_closed : (n i : ℕ) (c : Connection) → slice_get (replicate n closed) i ≡ Some c → ConnFits c
all_closed zero i c e = absurd (cc)
all_closed (suc n) zero c e = only_some (λ z. ConnFits z) closed c e closed_conn
all_closed (suc n) (suc i) c e = all_closed n i c e

abbrev Fits : Addr → Reply → Type 0
Fits own reply = is_sendable (reply_bytes own reply) ≡ true

-- what a step leaves, and what it sends
record StepFits (own : Addr) (r : NodeStep) : Type 0 where
  table : TableFits r.node.connections
  sent : (reply : Reply) → r.sent ≡ Some reply → Fits own reply

abbrev StationEventFits : StationEvent Act → Type 0
StationEventFits (OfMedium a) = ⊤
StationEventFits (OfNode e) = EventFits e

abbrev StationEventsFit : List (StationEvent Act) → Type 0
StationEventsFit [] = ⊤
StationEventsFit (d ∷ station_events) = StationEventFits d × StationEventsFit station_events

abbrev CameFits : List (MediumInput Act) → Type 0
CameFits [] = ⊤
CameFits (Own a ∷ cs) = CameFits cs
CameFits (Datagram d ∷ cs) = (length d ≤ 1500) × CameFits cs
CameFits (OverlongFrame ∷ cs) = CameFits cs

module _ (own : Addr) (four : length own.0 ≡ 4) where
  tcp_fits : (sockets : Sockets) (id : ℕ) (again : Bool) (s : PlainSegment) → length sockets.peer.0 ≡ 4 → IsSmall s → Fits own (TcpSent sockets id again s)
  tcp_fits sockets id again s peer small =
      let whole = whole_length (datagram_to own sockets id s) four peer in
      let most = small_size (datagram_to own sockets id s) small.short small.alone in
      within (datagram_bytes (datagram_to own sockets id s)) (omega (arith, whole)) (omega (arith, whole, most))

  sent_text_fits : (output : Option PlainSegment) (sockets : Sockets) (id : ℕ) (again : Bool) → length sockets.peer.0 ≡ 4
      → ((s : PlainSegment) → output ≡ Some s → IsSmall s)
      → (reply : Reply) → option_map (λ s. TcpSent sockets id again s) output ≡ Some reply → Fits own reply
  sent_text_fits None sockets id again peer small reply e = absurd (cc)
  sent_text_fits (Some s) sockets id again peer small reply e = only_some (λ z. Fits own z) (TcpSent sockets id again s) reply e
      (tcp_fits sockets id again s peer (small s refl))

  module _ (m : AppSpec) where
    text_small : (c : Connection) → Lens c → IsSmall (text_segment m c)
    text_small c l = record {
      short = (let e : length (take c.len (drop c.part.acked (m.output c.part))) ≤ c.len = simp length-take (omega arith) in omega (arith, e, l.len));
      alone = inl refl;
    }

    step_small : (c : Connection) (step : Step) (s : PlainSegment) → Lens c → segment_of m c step ≡ Some s → IsSmall s
    step_small c Step.Drop s l e = absurd (cc)
    step_small c Step.Ack s l e = only_some (λ x. IsSmall x) (bare_ack c) s e (record { short = omega arith; alone = inr refl })
    step_small c (Step.SynAck again) s l e = only_some (λ x. IsSmall x) (syn_ack c) s e (record { short = omega arith; alone = inr refl })
    step_small c (Step.Text again) s l e = only_some (λ x. IsSmall x) (text_segment m c) s e (text_small c l)
    step_small c (Step.Fin again) s l e = only_some (λ x. IsSmall x) (fin_of c) s e (record { short = omega arith; alone = inr refl })
    step_small c Step.Reset s l e = only_some (λ x. IsSmall x) (reset_of c) s e (record { short = omega arith; alone = inr refl })
    step_small c (Step.Ask fresh) s l e = absurd (cc)

    happened_fits : (n : AbstractNode) (event : Event) (slot : ℕ) (old : Connection) (o : Outcome) → TableFits n.connections
        → ConnFits o.connection → StepFits own (happened m n event slot old o)
    unfolding happened
    happened_fits n event slot old o f h = record {
      table = set_fits n.connections slot o.connection h f;
      sent = sent_text_fits (segment_of m o.connection o.step) o.connection.sockets _ _ h.peer (λ s e. step_small o.connection o.step s h.lens e);
    }

    opens_fit : (n : AbstractNode) (sockets : Sockets) (s : PlainSegment) (slot : Option ℕ) → length sockets.peer.0 ≡ 4
        → TableFits n.connections → StepFits own (opens m n sockets s slot)
    unfolding opens_in happened
    opens_fit n sockets s None peer f = record { table = f; sent = λ reply e. absurd (cc) }
    opens_fit n sockets s (Some slot) peer f =
        let h : StepFits own (happened m n (Arrived sockets s) slot (connection_in slot n) (accept (initial_number n.history) sockets s n.numbers)) =
        happened_fits n (Arrived sockets s) slot (connection_in slot n) (accept (initial_number n.history) sockets s n.numbers) f
        (record { lens = accepted_lens (initial_number n.history) sockets s; peer = peer }) in
        record { table = h.table; sent = h.sent }

    stranger_fits : (served : ℕ → Bool) (n : AbstractNode) (sockets : Sockets) (s : PlainSegment) → length sockets.peer.0 ≡ 4
        → TableFits n.connections → StepFits own (for_no_connection m served n sockets s)
    unfolding for_no_connection
    stranger_fits served n sockets s peer f =
        choose (λ x. StepFits own x) (is_plain_syn s && served sockets.own_port.0) _ _ (λ e. opens_fit n sockets s (slot_for_syn n.connections) peer f)
        (λ e. choose (λ x. StepFits own x) (has_rst s.flags) _ _ (λ g. record { table = f; sent = λ reply q. absurd (cc) })
        (λ g. record {
          table = f;
          sent = λ reply q. only_some (λ z. Fits own z) (TcpSent sockets _ false (reset_for_no_connection s)) reply q
              (tcp_fits sockets _ false (reset_for_no_connection s) peer (record { short = omega arith; alone = inr refl }));
        }))

    arrives_fits : (served : ℕ → Bool) (n : AbstractNode) (sockets : Sockets) (s : PlainSegment) (found : Option ℕ) → length sockets.peer.0
        ≡ 4 → TableFits n.connections → StepFits own (arrives_at m served n sockets s found)
    arrives_fits served n sockets s None peer f = stranger_fits served n sockets s peer f
    arrives_fits served n sockets s (Some slot) peer f =
        let old : ConnFits (connection_in slot n) = index_conn n.connections slot f in
        let kept = asked_keeps m (snapshot n (Arrived sockets s) slot) (connection_in slot n) (on_segment m (connection_in slot n) n.numbers
        s) (on_segment_keeps m (connection_in slot n) n.numbers s) in
        happened_fits n (Arrived sockets s) slot (connection_in slot n) _ f
        (record {
          lens = asked_lens m (snapshot n (Arrived sockets s) slot) (on_segment m (connection_in slot n) n.numbers s)
              (on_segment_lens m (connection_in slot n) n.numbers s old.lens);
          peer = ap (λ (z : Sockets). length z.peer.0) kept ∙ old.peer;
        })

    step_fits : (served : ℕ → Bool) (n : AbstractNode) (event : Event) → EventFits event → TableFits n.connections → StepFits own (step m served n event)
    step_fits served n (IpRefused fate) e f = record { table = f; sent = λ reply q. absurd (cc) }
    step_fits served n (IcmpRefused fate) e f = record { table = f; sent = λ reply q. absurd (cc) }
    step_fits served n (TcpRefused fate) e f = record { table = f; sent = λ reply q. absurd (cc) }
    step_fits served n (EchoAsked d) e f = record {
      table = f;
      sent = λ reply q. only_some (λ z. Fits own z) (EchoSent d) reply q
          (let size = reply_length d e.0 in within (echo_reply d) (omega (arith, size, e.0)) (omega (arith, size, e.1)));
    }
    step_fits served n (Arrived sockets s) e f = arrives_fits served n sockets s (position (serves sockets) n.connections) e f
    step_fits served n Overlong e f = record { table = f; sent = λ reply q. absurd (cc) }
    step_fits served n (Periodic slot) e f =
        let old : ConnFits (connection_in slot n) = index_conn n.connections slot f in
        let kept = asked_keeps m (snapshot n (Periodic slot) slot) (connection_in slot n) (on_tick m (connection_in slot n) n.numbers)
        (on_tick_keeps m (connection_in slot n) n.numbers) in
        happened_fits n (Periodic slot) slot (connection_in slot n) _ f
        (record {
          lens = asked_lens m (snapshot n (Periodic slot) slot) (on_tick m (connection_in slot n) n.numbers)
              (on_tick_lens m (connection_in slot n) n.numbers old.lens);
          peer = ap (λ (z : Sockets). length z.peer.0) kept ∙ old.peer;
        })

    -- ---- over deeds

    station_event_keeps : (served : ℕ → Bool) (s : Station Act) (d : StationEvent Act) → StationEventFits d → TableFits s.node.connections
        → TableFits (station_after m served s d).node.connections
    station_event_keeps served s (OfMedium a) h f = f
    station_event_keeps served s (OfNode e) h f = (step_fits served s.node e h f).table

    each_fits : (served : ℕ → Bool) (station_events : List (StationEvent Act)) (s : Station Act) → StationEventsFit station_events
        → TableFits s.node.connections
        → (done : List (StationEvent Act)) (event : Event) (later : List (StationEvent Act)) (reply : Reply) → station_events ≡ done ++ OfNode event ∷ later
        → (step m served (station_after_all m served done s).node event).sent ≡ Some reply → Fits own reply
    each_fits served [] s h f [] event later reply split e = absurd (cc)
    each_fits served [] s h f (x ∷ done) event later reply split e = absurd (cc)
    each_fits served (d ∷ station_events) s h f [] event later reply split e =
        let same : d ≡ OfNode event = cc in
        (step_fits served s.node event (subst (λ (x : StationEvent Act). StationEventFits x) same h.0) f).sent reply e
    each_fits served (d ∷ station_events) s h f (x ∷ done) event later reply split e =
        let same : x ≡ d = cc in
        let rest : station_events ≡ done ++ OfNode event ∷ later = cc in
        each_fits served station_events (station_after m served s d) h.1 (station_event_keeps served s d h.0 f) done event later reply rest
        (ap (λ (y : StationEvent Act). (step m served (station_after_all m served done (station_after m served s y)).node event).sent) (sym same) ∙ e)

    -- ---- the deeds of a line

    station_events_join : (xs ys : List (StationEvent Act)) → StationEventsFit xs → StationEventsFit ys → StationEventsFit (xs ++ ys)
    station_events_join [] ys a b = b
    station_events_join (x ∷ xs) ys a b = (a.0, station_events_join xs ys a.1 b)

    tick_fits : (k : Host) → StationEventsFit (tick_on (ether_medium k))
    tick_fits k = (tt, (tt, (tt, (tt, (tt, (tt, (tt, (tt, (tt, (tt, (tt, tt)))))))))))

    beat_fits : (k : Host) (pace number : ℕ) → StationEventsFit (beat_on (ether_medium k) pace number)
    beat_fits k pace number =
        elim (is_beat pace number) as (λ v. StationEventsFit (if v then tick_on (ether_medium k) else [])) [
          | true ↦ tick_fits k
          | false ↦ tt
        ]

    came_fits : (cs : List (MediumInput Act)) → CameFits cs → StationEventsFit (map (station_event_by own) cs)
    came_fits [] h = tt
    came_fits (Own a ∷ cs) h = (tt, came_fits cs h)
    came_fits (Datagram d ∷ cs) h = (bytes_fit own d h.0, came_fits cs h.1)
    came_fits (OverlongFrame ∷ cs) h = (tt, came_fits cs h)

    frame_fits : (k : Host) (frame : List ℕ) → length frame ≤ 1514 → CameFits (frame_brings k frame)
    frame_fits k frame most =
        let P : List (MediumInput Act) → Type 0 = λ cs. CameFits cs in
        let size = length-drop 14 frame in
        choose P (bytes_eq (mac_at frame 0) k.mac || bytes_eq (mac_at frame 0) broadcast) _ _
        (λ e. choose P (is_datagram (word_at frame 12) && nat_lt 0 (length (drop 14 frame))) _ _ (λ f. (omega (arith, most, size), tt))
        (λ f. choose P (is_arp (word_at frame 12) && is_arp_for k.addr (drop 14 frame)) _ _
        (λ g. choose P (word_at (drop 14 frame) 6 == 1) _ _ (λ i. tt) (λ i. choose P (word_at (drop 14 frame) 6 == 2) _ _ (λ j. tt) (λ j. tt)))
        (λ g. tt)))
        (λ e. tt)

    closes_fit : (k : Host) (part : List ℕ) → CameFits (closed_by k part)
    closes_fit k part =
        choose (λ cs. CameFits cs) (is_whole part && is_taken (drop 2 part)) _ _
        (λ e. let both = and_parts (is_whole part) (is_taken (drop 2 part)) e in
        let sizes = and_parts (nat_le 14 (length (drop 2 part))) (nat_le (length (drop 2 part)) 1514) both.1 in
        frame_fits k (drop 2 part) (leb-true (length (drop 2 part)) 1514 sizes.1))
        (λ e. tt)

    line_fits : (k : Host) (pace : ℕ) (before : List ℕ) (items : List Item) → StationEventsFit (station_events_after (ether_medium k) own pace before items)
    line_fits k pace before [] = tt
    line_fits k pace before (Byte b ∷ items) =
        let this = map (station_event_by own) (closed_by k (open_from [] before ++ b ∷ [])) in
        let beat = beat_on (ether_medium k) pace (length before + 1) in
        station_events_join (map (station_event_by own) (closed_by k (open_from [] before ++ b ∷ [])) ++ beat_on (ether_medium k) pace (length before + 1))
        (station_events_after (ether_medium k) own pace (before ++ b ∷ []) items)
        (station_events_join (map (station_event_by own) (closed_by k (open_from [] before ++ b ∷ []))) (beat_on (ether_medium k) pace (length before + 1))
        (came_fits (closed_by k (open_from [] before ++ b ∷ [])) (closes_fit k (open_from [] before ++ b ∷ []))) (beat_fits k pace (length before + 1)))
        (line_fits k pace (before ++ b ∷ []) items)
    line_fits k pace before (Quiet ∷ items) =
        station_events_join (tick_on (ether_medium k)) (station_events_after (ether_medium k) own pace before items) (tick_fits k)
        (line_fits k pace before items)

pub all_sendable : DatagramsFitFrames
all_sendable m served k own pace items numbers four = record {
  each = each_fits own four m served (station_events_of_line (ether_medium k) own pace items) (record { acts = []; node = initial_node own numbers })
      (line_fits own four m k pace [] items) (λ i c e. all_closed 10 i c e);
}
