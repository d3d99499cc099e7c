-- Whole conversations, computed from the definitions alone.
use Rattle.uip_node.proofs.Prelude.{◌≡◌, ◌+◌, ℕ, zero, suc, Bool, true, false, List, [], ◌∷◌, ◌++◌, map, refl, Option, Some, None, ◌==◌}
use Rattle.uip_node.proofs.Prelude.{FIN, SYN, RST, PSH, ACK, fixed_spec, hello, Sockets, idles, peer_closes, stays_established}
use Rattle.uip_node.proofs.Prelude.{in_established, fin_acked, fin_waits, on_segment, rests_on, ticks_established, Event, Reply, tick}
use Rattle.uip_node.proofs.Prelude.{Arrived, Echo, TcpReply, initial_node, run, happened, opens_in, for_no_connection}

abbrev web : ℕ → Bool
web port = port == 80

abbrev peer : Sockets
peer = record { peer = record { 0 = 10 ∷ 0 ∷ 0 ∷ 2 ∷ [] }; peer_port = record { 0 = 1025 }; own_port = record { 0 = 80 } }

-- a segment of the peer
abbrev says : ℕ → ℕ → ℕ → Option ℕ → List ℕ → Event
says seq ack flags mss text = Arrived peer (record { seq = seq; ack = ack; flags = flags; window = 8192; mss = mss; text = text })

abbrev syn : Event
syn = says 1000 0 SYN (Some 966) []

-- What was sent, as far as it differs: identification, again, number, acknowledgement, SYN, PSH, FIN, RST, text.
pub record Reported : Type 0 where
  id : ℕ
  again : Bool
  seq : ℕ
  ack : ℕ
  flags : ℕ
  text : List ℕ

abbrev reported : Reply → Reported
reported (Echo request) = record { id = 0; again = false; seq = 0; ack = 0; flags = 0; text = [] }
reported (TcpReply sockets id again s) = record { id = id; again = again; seq = s.seq; ack = s.ack; flags = s.flags; text = s.text }

abbrev ticks : ℕ → List Event
ticks zero = []
ticks (suc n) = tick ++ ticks n

abbrev sent_for : List Event → List Reported
sent_for events = map reported (run fixed_spec web events (initial_node (record { 0 = 10 ∷ 0 ∷ 0 ∷ 1 ∷ [] }) [])).sent

abbrev synack : ℕ → Bool → Reported
synack id again = record { id = id; again = again; seq = 0; ack = 1001; flags = SYN + ACK; text = [] }

abbrev greeting : ℕ → Bool → Reported
greeting id again = record { id = id; again = again; seq = 1; ack = 1002; flags = ACK + PSH; text = hello }

-- a SYN is answered, and the SYN-ACK is sent again at the fourth tick
usual_syn : sent_for (syn ∷ ticks 4) ≡ synack 1 false ∷ synack 2 true ∷ []
unfolding idles peer_closes stays_established in_established fin_acked fin_waits on_segment rests_on ticks_established happened opens_in for_no_connection
usual_syn = refl

-- a byte is answered by the text
first_text : sent_for (syn ∷ says 1001 1 ACK None (120 ∷ []) ∷ []) ≡ synack 1 false ∷ greeting 2 false ∷ []
unfolding idles peer_closes stays_established in_established fin_acked fin_waits on_segment rests_on ticks_established happened opens_in for_no_connection
first_text = refl

-- the text is lost each time: it is sent again at eight ages and given up at the ninth
lost_text : sent_for (syn ∷ says 1001 1 ACK None (120 ∷ []) ∷ ticks 249)
    ≡ synack 1 false ∷ greeting 2 false ∷ greeting 3 true ∷ greeting 4 true ∷ greeting 5 true ∷ greeting 6 true ∷ greeting 7 true
    ∷ greeting 8 true ∷ greeting 9 true ∷ greeting 10 true
    ∷ record { id = 11; again = false; seq = 1; ack = 1002; flags = RST + ACK; text = [] } ∷ []
unfolding idles peer_closes stays_established in_established fin_acked fin_waits on_segment rests_on ticks_established happened opens_in for_no_connection
lost_text = refl

-- a whole life: the peer acknowledges the text and the FIN, and closes
whole_life : sent_for (syn ∷ says 1001 1 ACK None (120 ∷ []) ∷ says 1002 7 ACK None [] ∷ says 1002 8 (FIN + ACK) None [] ∷ [])
    ≡ synack 1 false ∷ greeting 2 false
    ∷ record { id = 3; again = false; seq = 7; ack = 1002; flags = FIN + ACK; text = [] }
    ∷ record { id = 4; again = false; seq = 8; ack = 1003; flags = ACK; text = [] } ∷ []
unfolding idles peer_closes stays_established in_established fin_acked fin_waits on_segment rests_on ticks_established happened opens_in for_no_connection
whole_life = refl

-- the peer closes first, with its request: it still gets the whole text, and then the FIN
closes_first : sent_for (syn ∷ says 1001 1 ACK None [] ∷ says 1001 1 (FIN + ACK) None (120 ∷ []) ∷ says 1003 7 ACK None [] ∷ says 1003 8 ACK None [] ∷ [])
    ≡ synack 1 false
    ∷ record { id = 2; again = false; seq = 1; ack = 1003; flags = ACK + PSH; text = hello }
    ∷ record { id = 3; again = false; seq = 7; ack = 1003; flags = FIN + ACK; text = [] } ∷ []
unfolding idles peer_closes stays_established in_established fin_acked fin_waits on_segment rests_on ticks_established happened opens_in for_no_connection
closes_first = refl
