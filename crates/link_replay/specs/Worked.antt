-- Whole schedules of the web server, worked by hand: what each client has at the end.
-- [add: counter] The lists of counters.
use Rattle.std.specs.Prelude.{◌≡◌, ℕ, ◌+◌, List, [], ◌∷◌, ◌++◌, codes, flat_map, length}
use Rattle.std.specs.Prelude.{map, replicate, Option, Some, None, Result, Ok, Err}
use Rattle.site_image.specs.Prelude.{File}
use Rattle.uip_node.specs.Prelude.{ticks_of}
use Rattle.link_client.specs.declared.client_state.ClientState.TheVariants.{Opening, Opened, Closed, Reset}
use Rattle.link_world.specs.Prelude.{World, Sent, numbered, Planned, initial_world, losing_lines, plays, BadLine}
use Rattle.link_world.specs.Prelude.{ClientEnd, clean_end, end_of_client, text_of_content, worked_client}
use Rattle.link_schedule.specs.declared.event.Event.{Event}
use Rattle.link_schedule.specs.declared.event.Event.TheVariants.{Opens, Closes, Ping, Give, Tick, Round, Lose}
use Rattle.web_pages.specs.Prelude.{is_served, web_spec, file, ok, as_html, get, hello_site, hits_site}

-- a client of the web server: its ISS, its port, the number of bytes in each segment, and its request
abbrev pub client : ℕ → ℕ → ℕ → List ℕ → Planned
client first port seg request = worked_client first port 80 seg request

-- The end of a schedule: what the clients have, the number of ticks, and the number of datagrams.
pub record Ending : Type 0 where
  pub clients : List ClientEnd
  pub ticks : ℕ
  pub datagrams : ℕ

abbrev pub ending_at : World → Ending
ending_at w = record { clients = map end_of_client w.sides; ticks = ticks_of w.node.history; datagrams = length w.sent }

abbrev pub ending_of : Result World BadLine → Result Ending BadLine
ending_of (Ok w) = Ok (ending_at w)
ending_of (Err bad) = Err bad

-- the lines of a schedule over a site with no hits before
abbrev pub replayed : List File → List Planned → List Event → Result World BadLine
replayed files plan lines =
    plays (web_spec files) is_served lines (initial_world (record { 0 = 10 ∷ 0 ∷ 0 ∷ 1 ∷ [] }) (map (λ file. 0) files) plan)

abbrev pub ends_with : List File → List Planned → List Event → Result Ending BadLine
ends_with files plan lines = ending_of (replayed files plan lines)

abbrev pub worked_text : Option Sent → List ℕ
worked_text None = []
worked_text (Some sent) = text_of_content sent.content

-- the text of the datagram with a number
abbrev pub text_sent : ℕ → Result World BadLine → List ℕ
text_sent k (Ok w) = worked_text (numbered w.sent k)
text_sent k (Err bad) = []

abbrev pub ended : List ClientEnd → ℕ → Result Ending BadLine
ended clients datagrams = Ok (record { clients = clients; ticks = 0; datagrams = datagrams })

-- a page that shows one hit count of one digit
abbrev pub hit_page : ℕ → List ℕ
hit_page digit = ok ++ as_html ++ replicate 9 32 ++ digit ∷ []

-- the counters, each of one digit, as a page shows them
abbrev pub counter_lines : List ℕ → List ℕ
counter_lines counters = flat_map (λ n. replicate 9 32 ++ (48 + n) ∷ 10 ∷ []) counters

-- a page with the counters twice: the second segment is lost, two echo requests arrive, and the timer expires
abbrev pub counters_site : List File
counters_site = file (codes "/s.shtml") (codes "%! net-stats\n%! net-stats\n") ∷ []

abbrev pub stranger : Event
stranger = Ping (record { 0 = 10 ∷ 0 ∷ 0 ∷ 9 ∷ [] })

abbrev pub sent_again : Result World BadLine
sent_again =
    replayed counters_site (client 1000 1025 536 (get (codes "/s.shtml")) ∷ [])
    (Opens 1 ∷ replicate 5 Round ++ Lose ∷ stranger ∷ stranger ∷ Round ∷ Tick 4 ∷ replicate 7 Round)

abbrev pub at_first : List ℕ
at_first = counter_lines (3 ∷ 2 ∷ replicate 12 0 ++ 3 ∷ 2 ∷ replicate 4 0)

abbrev pub later : List ℕ
later = counter_lines (6 ∷ 6 ∷ replicate 8 0 ++ 2 ∷ 2 ∷ 0 ∷ 0 ∷ 4 ∷ 4 ∷ 0 ∷ 0 ∷ 1 ∷ 0 ∷ [])

-- a page with the table of connections, all in use
abbrev pub table_site : List File
table_site = file (codes "/t.shtml") (codes "%! tcp-connections") ∷ []

abbrev pub eleven : List Planned
eleven =
    client 1000 1025 536 (get (codes "/t.shtml")) ∷ client 2000 1026 536 (get (codes "/")) ∷ client 3000 1027 536 (get (codes "/"))
    ∷ client 4000 1028 536 (get (codes "/")) ∷ client 5000 1029 536 (get (codes "/")) ∷ client 6000 1030 536 (get (codes "/"))
    ∷ client 7000 1031 536 (get (codes "/")) ∷ client 8000 1032 536 (get (codes "/")) ∷ client 9000 1033 536 (get (codes "/"))
    ∷ client 10000 1034 536 (get (codes "/")) ∷ client 11000 1035 536 (get (codes "/")) ∷ []

-- the row of a connection in SYN-RECEIVED whose SYN-ACK is outstanding, by the digit of its slot and the last two of its port
abbrev pub waiting_row : ℕ → List ℕ → List ℕ
waiting_row slot port =
    codes "<tr><td>" ++ (48 + slot) ∷ codes "</td><td>10.0.0.2:10" ++ port
    ++ codes "</td><td>SYN-RCVD</td><td>0</td><td>3</td><td>*</td></tr>\r\n"

abbrev pub table_page : List ℕ
table_page =
    ok ++ as_html ++ codes "<tr><td>0</td><td>10.0.0.2:1025</td><td>ESTABLISHED</td><td>0</td><td>0</td><td> </td></tr>\r\n"
    ++ waiting_row 1 (codes "26") ++ waiting_row 2 (codes "27") ++ waiting_row 3 (codes "28") ++ waiting_row 4 (codes "29")
    ++ waiting_row 5 (codes "30") ++ waiting_row 6 (codes "31") ++ waiting_row 7 (codes "32") ++ waiting_row 8 (codes "33")
    ++ waiting_row 9 (codes "34")

pub record AreWorkedReplays : Type 0 where
  -- a whole page
  pub page : ends_with hello_site (client 1000 1025 536 (get (codes "/")) ∷ []) (Opens 1 ∷ replicate 14 Round)
      ≡ ended (clean_end Closed (ok ++ as_html ++ codes "hello\n") ∷ []) 8
  -- A whole page of two texts and a normal close in 60 lines, though four copies of the SYN-ACK are lost, and seven of each text and of the
  -- FIN: each segment of the node is lost as often as arrival allows.
  pub lossy : ends_with hits_site (client 1000 1025 536 (get (codes "/h.shtml")) ∷ []) (losing_lines 4 (7 ∷ 7 ∷ 7 ∷ []))
      ≡ Ok (record { clients = clean_end Closed (hit_page 49) ∷ []; ticks = 481; datagrams = 35 })
  pub lossy_lines : length (losing_lines 4 (7 ∷ 7 ∷ 7 ∷ [])) ≡ 60
  -- the second client sees the hit of the first
  pub hits : ends_with hits_site (client 1000 1025 536 (get (codes "/h.shtml")) ∷ client 2000 1026 536 (get (codes "/h.shtml")) ∷ [])
      (Opens 1 ∷ replicate 14 Round ++ Opens 2 ∷ replicate 14 Round)
      ≡ ended (clean_end Closed (hit_page 49) ∷ clean_end Closed (hit_page 50) ∷ []) 20
  -- a request that is refused, byte by byte: a normal close, and no page
  pub refused : ends_with hello_site (client 1000 1025 1 (codes "POST / ") ∷ []) (Opens 1 ∷ replicate 14 Round)
      ≡ ended (clean_end Closed [] ∷ []) 14
  -- a client that closes before its request is decided is reset
  pub undecided : ends_with hello_site (client 1000 1025 536 (codes "GET") ∷ [])
      (Opens 1 ∷ replicate 4 Round ++ Closes 1 ∷ replicate 2 Round)
      ≡ ended (clean_end Reset [] ∷ []) 6
  -- a generated text that is lost is retransmitted with the same bytes, though the counters have changed
  pub first_time : text_sent 6 sent_again ≡ at_first
  pub second_time : text_sent 11 sent_again ≡ at_first
  pub counters : ending_of sent_again
      ≡ Ok (record { clients = clean_end Closed (ok ++ as_html ++ at_first ++ later) ∷ []; ticks = 4; datagrams = 17 })
  -- the table while all ten connections are in use; the SYN of the eleventh client is dropped
  pub full_table : ends_with table_site eleven
      (Opens 1 ∷ Opens 2 ∷ Opens 3 ∷ Opens 4 ∷ Opens 5 ∷ Opens 6 ∷ Opens 7 ∷ Opens 8 ∷ Opens 9 ∷ Opens 10 ∷ Opens 11 ∷ Round ∷ Round
      ∷ Give 22 ∷ Give 32 ∷ Give 33 ∷ Give 34 ∷ Give 35 ∷ Give 36 ∷ Give 37 ∷ Give 38 ∷ Give 39 ∷ Give 40 ∷ [])
      ≡ ended (clean_end Closed table_page ∷ replicate 9 (clean_end Opened []) ++ clean_end Opening [] ∷ []) 40
