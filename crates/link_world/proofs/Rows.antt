-- Whole schedules, computed from the definitions alone.
-- [add: counter] The lists of counters, and the length of a page that has them.
-- [add: act] A worked schedule with the act.
use Rattle.link_world.proofs.Prelude.{◌≡◌, ◌+◌, ◌==◌, ℕ, Bool, true, false, List, [], ◌∷◌, ◌++◌, map, length, replicate, flat_map}
use Rattle.link_world.proofs.Prelude.{if◌then◌else◌, refl, Option, Some, None, Result, Ok, Err, FIN, SYN, RST, PSH, ACK, Row, Snapshot}
use Rattle.link_world.proofs.Prelude.{idles, peer_closes, stays_established, in_established, fin_acked, fin_waits, on_segment, rests_on}
use Rattle.link_world.proofs.Prelude.{ticks_established, ticks_of, happened, opens_in, for_no_connection, sends_next, takes_in_order}
use Rattle.link_world.proofs.Prelude.{takes_by, client_takes, opens_by, again_by, closes_by, aborts_by, ClientState, World, Side, Sent}
use Rattle.link_world.proofs.Prelude.{Content, numbered, OfSegment, OfPing, OfEcho, folded, head_or_fate, head_bytes, datagram_bytes}
use Rattle.link_world.proofs.Prelude.{segment_in, NoDatagram, NoByte, AlreadyOpen, ping_from, plays, BadLine, Planned, initial_world, Opens}
use Rattle.link_world.proofs.Prelude.{Again, Closes, Aborts, Window, Ping, Give, Damage, Tick, Round, Lose, Who, FromClient, FromNode}
use Rattle.link_client.specs.declared.client_state.ClientState.TheVariants as Is
use Rattle.link_schedule.specs.declared.event.Event.{Event}
use Rattle.link_world.proofs.Sample.{Piece, sample}
use Rattle.link_world.proofs.Sample.Piece.{Plain, Made}

abbrev web : ℕ → Bool
web port = port == 80

-- `GET / HTTP/1.0` and an empty line
abbrev get : List ℕ
get = 71 ∷ 69 ∷ 84 ∷ 32 ∷ 47 ∷ 32 ∷ 72 ∷ 84 ∷ 84 ∷ 80 ∷ 47 ∷ 49 ∷ 46 ∷ 48 ∷ 13 ∷ 10 ∷ 13 ∷ 10 ∷ []

abbrev client : ℕ → ℕ → ℕ → ℕ → List ℕ → Planned
client number host port mss request = record {
  setup = record {
    addr = record { 0 = 10 ∷ 0 ∷ 0 ∷ host ∷ [] };
    port = record { 0 = port };
    mss = mss;
    seg = 536;
    iss = record { 0 = number };
    server = record { 0 = 10 ∷ 0 ∷ 0 ∷ 1 ∷ [] };
    server_port = record { 0 = 80 };
  };
  request = request;
}

abbrev usual : List Planned
usual = client 1000 2 1025 0 get ∷ []

abbrev text_of : ℕ → List Piece
text_of n = Plain (replicate n 7) ∷ []

abbrev played : List Piece → List Planned → List Event → Result World BadLine
played pieces plan events = plays (sample pieces) web events (initial_world (record { 0 = 10 ∷ 0 ∷ 0 ∷ 1 ∷ [] }) [] plan)

-- What is reported: for each client its state, the bytes that it received and its first stale datagram; ticks; datagrams.
pub record ClientLine : Type 0 where
  state : ClientState
  received : ℕ
  first_stale : Option ℕ

pub record Report : Type 0 where
  clients : List ClientLine
  ticks : ℕ
  datagrams : ℕ

abbrev line_of : Side → ClientLine
line_of side = record { state = side.client.state; received = length side.client.received; first_stale = side.first_stale }

abbrev reported : World → Report
reported w = record { clients = map line_of w.sides; ticks = ticks_of w.node.history; datagrams = length w.sent }

abbrev report_of : Result World BadLine → Result Report BadLine
report_of (Ok w) = Ok (reported w)
report_of (Err bad) = Err bad

-- A datagram as it is shown: tick, who, flags, number, length, again.
pub record Shown : Type 0 where
  tick : ℕ
  who : Who
  flags : ℕ
  seq : ℕ
  len : ℕ
  again : Bool

abbrev shown_as : Sent → Content → Shown
shown_as e (OfSegment id s) = record { tick = e.tick; who = e.who; flags = s.flags; seq = s.seq; len = length s.text; again = e.again }
shown_as e (OfPing datagram) = record { tick = e.tick; who = e.who; flags = 0; seq = 0; len = 0; again = false }
shown_as e (OfEcho request) = record { tick = e.tick; who = e.who; flags = 0; seq = 0; len = 0; again = false }

abbrev shown_at : Option Sent → Option Shown
shown_at None = None
shown_at (Some e) = Some (shown_as e e.content)

abbrev shown : ℕ → Result World BadLine → Option Shown
shown k (Ok w) = shown_at (numbered w.sent k)
shown k (Err bad) = None

abbrev all_shown : Result World BadLine → List Shown
all_shown (Ok w) = map (λ e. shown_as e e.content) w.sent
all_shown (Err bad) = []

abbrev one : ClientState → ℕ → Option ℕ → List ClientLine
one state received first_stale = record { state = state; received = received; first_stale = first_stale } ∷ []

abbrev rounds : ℕ → List Event
rounds n = replicate n Round

abbrev node_sends : ℕ → ℕ → ℕ → ℕ → Bool → Shown
node_sends tick flags seq len again = record { tick = tick; who = FromNode 1; flags = flags; seq = seq; len = len; again = again }

abbrev client_sends : ℕ → ℕ → ℕ → Shown
client_sends flags seq len = record { tick = 0; who = FromClient 1; flags = flags; seq = seq; len = len; again = false }

a_page_shown : all_shown (played (text_of 86) usual (Opens 1 ∷ rounds 12))
    ≡ client_sends SYN 1000 0 ∷ node_sends 0 (SYN + ACK) 0 0 false ∷ client_sends (ACK + PSH) 1001 18 ∷ node_sends 0 (ACK + PSH) 1 86 false
    ∷ client_sends ACK 1019 0 ∷ node_sends 0 (FIN + ACK) 87 0 false ∷ client_sends (FIN + ACK) 1019 0 ∷ node_sends 0 ACK 88 0 false ∷ []
unfolding idles peer_closes stays_established in_established fin_acked fin_waits on_segment rests_on ticks_established happened opens_in
    for_no_connection sends_next takes_in_order takes_by client_takes opens_by again_by closes_by aborts_by
a_page_shown = refl

abbrev lost_segment_run : Result World BadLine
lost_segment_run = played (text_of 86) usual (Opens 1 ∷ rounds 3 ++ Tick 249 ∷ Give 13 ∷ [])

abbrev lost_syn_acks_run : Result World BadLine
lost_syn_acks_run = played (text_of 86) usual (Opens 1 ∷ Round ∷ Tick 102 ∷ Lose ∷ Again 1 ∷ rounds 12)

abbrev shrunk_window_run : Result World BadLine
shrunk_window_run = played (text_of 1080) usual (Opens 1 ∷ rounds 5 ++ Lose ∷ Window 1 40 ∷ Again 1 ∷ Round ∷ Tick 4 ∷ rounds 7)

abbrev repeats_run : Result World BadLine
repeats_run = played (text_of 1080) usual (Opens 1 ∷ rounds 4 ++ Give 4 ∷ rounds 3 ++ Give 5 ∷ rounds 5)

abbrev client_first_run : Result World BadLine
client_first_run = played (text_of 1080) usual (Opens 1 ∷ rounds 4 ++ Closes 1 ∷ Give 6 ∷ Give 7 ∷ Give 8 ∷ Give 9 ∷ Give 10 ∷ Give 11 ∷ Give 12 ∷ [])

abbrev aborted_run : Result World BadLine
aborted_run = played (text_of 86) usual (Opens 1 ∷ rounds 3 ++ Aborts 1 ∷ Give 5 ∷ Give 4 ∷ [])

abbrev undecided_run : Result World BadLine
undecided_run = played (text_of 86) (client 1000 2 1025 0 (71 ∷ 69 ∷ 84 ∷ []) ∷ []) (Opens 1 ∷ rounds 4 ++ Closes 1 ∷ rounds 2)

abbrev large_mss_run : Result World BadLine
large_mss_run = played (text_of 2080) (client 1000 2 1025 1460 get ∷ []) (Opens 1 ∷ rounds 12)

abbrev honest_run : Result World BadLine
honest_run = played (text_of 1080) usual (Opens 1 ∷ rounds 16)

abbrev late_syn_run : Result World BadLine
late_syn_run = played (text_of 86) (client 1000 2 1025 0 get ∷ client 2000 3 1025 0 get ∷ []) (Opens 1 ∷ rounds 12 ++ Tick 120 ∷ Give 1 ∷ [])

abbrev eleven : List Planned
eleven =
    client 1000 2 1025 0 get ∷ client 2000 2 1026 0 get ∷ client 3000 2 1027 0 get ∷ client 4000 2 1028 0 get ∷ client 5000 2 1029 0 get
    ∷ client 6000 2 1030 0 get ∷ client 7000 2 1031 0 get ∷ client 8000 2 1032 0 get ∷ client 9000 2 1033 0 get ∷ client 10000 2 1034 0 get
    ∷ client 11000 2 1035 0 get ∷ []

abbrev evicted_run : Result World BadLine
evicted_run = played (text_of 86) eleven (Opens 1 ∷ Opens 2 ∷ Opens 3 ∷ Opens 4 ∷ Opens 5 ∷ Opens 6 ∷ Opens 7 ∷ Opens 8 ∷ Opens 9 ∷ Opens 10
    ∷ rounds 8 ++ Opens 11 ∷ Round ∷ Give 41 ∷ rounds 7)

abbrev row_text : Row → List ℕ
row_text row = if row.waiting then replicate 90 (row.count) else replicate 93 row.slot

abbrev table_page : List Piece
table_page = Plain (replicate 80 7) ∷ Made (λ m. flat_map row_text m.now.rows) ∷ []

abbrev full_table_run : Result World BadLine
full_table_run = played table_page eleven (Opens 1 ∷ Opens 2 ∷ Opens 3 ∷ Opens 4 ∷ Opens 5 ∷ Opens 6 ∷ Opens 7 ∷ Opens 8 ∷ Opens 9
    ∷ Opens 10 ∷ Opens 11 ∷ rounds 2 ++ Give 22 ∷ Give 32 ∷ Give 33 ∷ Give 34 ∷ Give 35 ∷ Give 36 ∷ Give 37 ∷ Give 38 ∷ Give 39 ∷ Give 40 ∷ [])

abbrev counts_text : Snapshot → List ℕ
counts_text m = flat_map (λ n. replicate 11 n) m.now.net

abbrev counts_page : List Piece
counts_page = Plain (replicate 80 7) ∷ Made counts_text ∷ Made counts_text ∷ []

abbrev generator_again_run : Result World BadLine
generator_again_run = played counts_page usual (Opens 1 ∷ rounds 5 ++ Lose ∷ Ping (record { 0 = 10 ∷ 0 ∷ 0 ∷ 9 ∷ [] })
    ∷ Ping (record { 0 = 10 ∷ 0 ∷ 0 ∷ 9 ∷ [] }) ∷ Round ∷ Tick 4 ∷ rounds 7)

abbrev content_text : Content → List ℕ
content_text (OfSegment id s) = s.text
content_text (OfPing datagram) = []
content_text (OfEcho request) = []

abbrev text_at : Option Sent → List ℕ
text_at None = []
text_at (Some e) = content_text e.content

abbrev sent_text_in : ℕ → Result World BadLine → List ℕ
sent_text_in k (Ok w) = text_at (numbered w.sent k)
sent_text_in k (Err bad) = []

abbrev damaged_run : ℕ → Result World BadLine
damaged_run at = played (text_of 86) usual (Opens 1 ∷ rounds 3 ++ Damage 4 at 1 ∷ Lose ∷ Tick 4 ∷ rounds 5)

-- runs, and what is reported of each
abbrev endings : List (Result World BadLine × Result Report BadLine)
endings =
    -- a page
    (played (text_of 86) usual (Opens 1 ∷ rounds 12), Ok (record { clients = one Is.Closed 86 None; ticks = 0; datagrams = 8 }))
    -- a segment is lost each time: it is sent again at eight ages and given up at tick 249
    ∷ (lost_segment_run, Ok (record { clients = one Is.Reset 0 None; ticks = 249; datagrams = 13 }))
    -- SYN-ACKs are lost until the server gives up; the SYN sent again opens the next connection
    ∷ (lost_syn_acks_run, Ok (record { clients = one Is.Closed 86 None; ticks = 102; datagrams = 16 }))
    -- the window shrinks while a segment is outstanding: it is sent again at its first length
    ∷ (shrunk_window_run, Ok (record { clients = one Is.Closed 1080 None; ticks = 4; datagrams = 14 }))
    -- repeats and old acknowledgements
    ∷ (repeats_run, Ok (record { clients = one Is.Closed 1080 None; ticks = 0; datagrams = 13 }))
    -- the client closes first and still gets its whole page
    ∷ (client_first_run, Ok (record { clients = one Is.Ended 1080 None; ticks = 0; datagrams = 12 }))
    -- the client aborts, and an older datagram reaches it afterwards
    ∷ (aborted_run, Ok (record { clients = one Is.Reset 0 (Some 4); ticks = 0; datagrams = 5 }))
    -- the client closes before its request is decided
    ∷ (undecided_run, Ok (record { clients = one Is.Reset 0 None; ticks = 0; datagrams = 6 }))
    -- two segments of the largest size
    ∷ (large_mss_run, Ok (record { clients = one Is.Closed 2080 None; ticks = 0; datagrams = 10 }))
    -- an honest link
    ∷ (honest_run, Ok (record { clients = one Is.Closed 1080 None; ticks = 0; datagrams = 12 }))
    -- a late SYN makes a finished client stale
    ∷ (
      late_syn_run,
      Ok (record {
        clients = record { state = Is.Closed; received = 86; first_stale = Some 1 }
            ∷ record { state = Is.Idle; received = 0; first_stale = None } ∷ [];
        ticks = 120;
        datagrams = 9;
      }),
    )
    -- a SYN takes a slot from TIME-WAIT; a late ACK of the client that had it makes that client stale
    ∷ (
      evicted_run,
      Ok (record {
        clients = record { state = Is.Closed; received = 86; first_stale = Some 41 } ∷ replicate 10
            (record { state = Is.Closed; received = 86; first_stale = None });
        ticks = 0;
        datagrams = 89;
      }),
    )
    -- a full table: the eleventh SYN is dropped, and a page shows ten connections as they are when it is asked for
    ∷ (
      full_table_run,
      Ok (record {
        clients = record { state = Is.Closed; received = 983; first_stale = None } ∷ replicate 9
            (record { state = Is.Opened; received = 0; first_stale = None }) ++ record { state = Is.Opening; received = 0; first_stale = None } ∷ [];
        ticks = 0;
        datagrams = 40;
      }),
    )
    -- a generated text is sent again as it was captured
    ∷ (generator_again_run, Ok (record { clients = one Is.Closed 520 None; ticks = 4; datagrams = 17 }))
    ∷ []

endings_hold : map (λ row. report_of row.0) endings ≡ map (λ row. row.1) endings
unfolding idles peer_closes stays_established in_established fin_acked fin_waits on_segment rests_on ticks_established happened opens_in
    for_no_connection sends_next takes_in_order takes_by client_takes opens_by again_by closes_by aborts_by ping_from
endings_hold = refl

-- the numbers of datagrams in runs, and what is shown of each
abbrev datagrams : List (ℕ × Result World BadLine × Shown)
datagrams =
    (5, lost_segment_run, node_sends 4 (ACK + PSH) 1 86 true)
    ∷ (12, lost_segment_run, node_sends 200 (ACK + PSH) 1 86 true)
    ∷ (13, lost_segment_run, node_sends 249 (RST + ACK) 1 0 false)
    ∷ (8, lost_syn_acks_run, node_sends 102 (RST + ACK) 0 0 false)
    ∷ (10, lost_syn_acks_run, node_sends 102 (SYN + ACK) 1020 0 false)
    ∷ (6, shrunk_window_run, node_sends 0 (ACK + PSH) 537 536 false)
    ∷ (8, shrunk_window_run, node_sends 4 (ACK + PSH) 537 536 true)
    ∷ (10, shrunk_window_run, node_sends 4 (ACK + PSH) 1073 8 false)
    ∷ (6, undecided_run, node_sends 0 (RST + ACK) 1 0 false)
    ∷ (4, large_mss_run, node_sends 0 (ACK + PSH) 1 1460 false)
    ∷ (6, large_mss_run, node_sends 0 (ACK + PSH) 1461 620 false)
    ∷ (83, evicted_run, node_sends 0 (RST + ACK) 87 0 false)
    ∷ []

datagrams_hold : map (λ row. shown row.0 row.1) datagrams ≡ map (λ row. Some row.2) datagrams
unfolding idles peer_closes stays_established in_established fin_acked fin_waits on_segment rests_on ticks_established happened opens_in
    for_no_connection sends_next takes_in_order takes_by client_takes opens_by again_by closes_by aborts_by
datagrams_hold = refl

-- datagrams with a given text
abbrev texts : List (ℕ × Result World BadLine × List ℕ)
texts =
    (6, generator_again_run, flat_map (λ n. replicate 11 n) (3 ∷ 2 ∷ 0 ∷ 0 ∷ 0 ∷ 0 ∷ 0 ∷ 0 ∷ 0 ∷ 0 ∷ 0 ∷ 0 ∷ 0 ∷ 0 ∷ 3 ∷ 2 ∷ 0 ∷ 0 ∷ 0 ∷ 0 ∷ []))
    -- the same, sent again
    ∷ (11, generator_again_run, flat_map (λ n. replicate 11 n) (3 ∷ 2 ∷ 0 ∷ 0 ∷ 0 ∷ 0 ∷ 0 ∷ 0 ∷ 0 ∷ 0 ∷ 0 ∷ 0 ∷ 0 ∷ 0 ∷ 3 ∷ 2 ∷ 0 ∷ 0 ∷ 0 ∷ 0 ∷ []))
    -- the second generator shows those of its own moment
    ∷ (13, generator_again_run, flat_map (λ n. replicate 11 n) (6 ∷ 6 ∷ 0 ∷ 0 ∷ 0 ∷ 0 ∷ 0 ∷ 0 ∷ 0 ∷ 0 ∷ 2 ∷ 2 ∷ 0 ∷ 0 ∷ 4 ∷ 4 ∷ 0 ∷ 0 ∷ 1 ∷ 0 ∷ []))
    ∷ []

texts_hold : map (λ row. sent_text_in row.0 row.1) texts ≡ map (λ row. row.2) texts
unfolding idles peer_closes stays_established in_established fin_acked fin_waits on_segment rests_on ticks_established happened opens_in
    for_no_connection sends_next takes_in_order takes_by client_takes opens_by again_by closes_by aborts_by ping_from
texts_hold = refl

-- runs with damage, and acts that are refused
abbrev damages : List (Result World BadLine × Result Report BadLine)
damages =
    -- a damaged byte is a loss
    (damaged_run 45, Ok (record { clients = one Is.Closed 86 None; ticks = 4; datagrams = 9 }))
    -- a byte past the datagram
    ∷ (damaged_run 126, Err (record { place = 4; why = NoByte }))
    -- a datagram that was not sent yet, and a client that is not idle
    ∷ (played (text_of 86) usual (Opens 1 ∷ Give 2 ∷ []), Err (record { place = 1; why = NoDatagram }))
    ∷ (played (text_of 86) usual (Opens 1 ∷ Opens 1 ∷ []), Err (record { place = 1; why = AlreadyOpen }))
    ∷ []

damages_hold : map (λ row. report_of row.0) damages ≡ map (λ row. row.1) damages
unfolding idles peer_closes stays_established in_established fin_acked fin_waits on_segment rests_on ticks_established happened opens_in
    for_no_connection sends_next takes_in_order takes_by client_takes opens_by again_by closes_by aborts_by folded head_or_fate head_bytes
    datagram_bytes segment_in
damages_hold = refl

damaged_again : shown 5 (damaged_run 45) ≡ Some (node_sends 4 (ACK + PSH) 1 86 true)
unfolding idles peer_closes stays_established in_established fin_acked fin_waits on_segment rests_on ticks_established happened opens_in
    for_no_connection sends_next takes_in_order takes_by client_takes opens_by again_by closes_by aborts_by folded head_or_fate head_bytes
    datagram_bytes segment_in
damaged_again = refl
