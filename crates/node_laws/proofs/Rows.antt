-- Worked incarnations, computed from the definitions alone.
use Rattle.node_laws.proofs.Prelude.{option_map, ◌≡◌, ◌+◌, ℕ, Bool, true, false, List, [], ◌∷◌, map, refl, Option, Some, None, ◌==◌, FIN}
use Rattle.node_laws.proofs.Prelude.{SYN, RST, ACK, fixed_spec, hello, Sockets, idles, peer_closes, stays_established, in_established}
use Rattle.node_laws.proofs.Prelude.{fin_acked, fin_waits, on_segment, rests_on, ticks_established, Event, Arrived, Periodic, happened}
use Rattle.node_laws.proofs.Prelude.{opens_in, for_no_connection, Exchange, exchanges_with, is_incarnation, is_opening, initial_node}
use Rattle.node_laws.proofs.Prelude.{trace_of}

abbrev pub web : ℕ → Bool
web port = port == 80

abbrev pub peer : Sockets
peer = record { peer = record { 0 = 10 ∷ 0 ∷ 0 ∷ 2 ∷ [] }; peer_port = record { 0 = 1025 }; own_port = record { 0 = 80 } }

abbrev pub says : ℕ → ℕ → ℕ → List ℕ → Event
says seq ack flags text = Arrived peer (record { seq = seq; ack = ack; flags = flags; window = 8192; mss = None; text = text })

abbrev pub session_over : List Event → List Exchange
session_over events = exchanges_with peer (trace_of fixed_spec web events (initial_node (record { 0 = 10 ∷ 0 ∷ 0 ∷ 1 ∷ [] }) []))

-- a SYN, a byte, the acknowledgement of the text and of the FIN, and the peer's FIN are one life
one_life : is_incarnation (session_over (says 1000 0 SYN [] ∷ says 1001 1 ACK (120 ∷ []) ∷ says 1002 7 ACK [] ∷ says 1002 8 (FIN + ACK) [] ∷ [])) ≡ true
unfolding idles peer_closes stays_established in_established fin_acked fin_waits on_segment rests_on ticks_established happened opens_in for_no_connection
one_life = refl

-- after a reset a SYN begins another
two_lives : map (λ x. is_opening x) (session_over (says 1000 0 SYN [] ∷ says 1001 1 ACK (120 ∷ []) ∷ says 1002 7 RST [] ∷ says 5000 0 SYN []
    ∷ [])) ≡ true ∷ false ∷ false ∷ true ∷ []
unfolding idles peer_closes stays_established in_established fin_acked fin_waits on_segment rests_on ticks_established happened opens_in for_no_connection
two_lives = refl

-- a SYN in a life begins none
one_still : map (λ x. is_opening x) (session_over (says 1000 0 SYN [] ∷ says 1000 0 SYN [] ∷ says 1001 1 ACK (120 ∷ []) ∷ says 5000 0 SYN []
    ∷ [])) ≡ false ∷ false ∷ false ∷ true ∷ []
unfolding idles peer_closes stays_established in_established fin_acked fin_waits on_segment rests_on ticks_established happened opens_in for_no_connection
one_still = refl

-- what is sent in these exchanges, the newest first
abbrev pub reported : List Exchange → List (Option (ℕ × List ℕ))
reported [] = []
reported (x ∷ older) = option_map (λ s. (s.seq, s.text)) x.output ∷ reported older

-- the peer's window shrinks to 3, and the text is cut to it
shrunk_window : reported (session_over (Arrived peer (record { seq = 1000; ack = 0; flags = SYN; window = 8192; mss = None; text = [] })
    ∷ says 1001 1 ACK [] ∷ Arrived peer (record { seq = 1001; ack = 1; flags = ACK; window = 3; mss = None; text = 120 ∷ [] })
    ∷ Arrived peer (record { seq = 1002; ack = 4; flags = ACK; window = 3; mss = None; text = [] }) ∷ []))
    ≡ Some (4, 108 ∷ 111 ∷ 10 ∷ []) ∷ Some (1, 104 ∷ 101 ∷ 108 ∷ []) ∷ None ∷ Some (0, []) ∷ []
unfolding idles peer_closes stays_established in_established fin_acked fin_waits on_segment rests_on ticks_established happened opens_in for_no_connection
shrunk_window = refl

-- nothing is acknowledged, and in the fourth call of the slot the text is sent again
sent_twice : reported (session_over (says 1000 0 SYN [] ∷ says 1001 1 ACK (120 ∷ []) ∷ Periodic 0 ∷ Periodic 0 ∷ Periodic 0 ∷ Periodic 0 ∷ []))
    ≡ Some (1, hello) ∷ None ∷ None ∷ None ∷ Some (1, hello) ∷ Some (0, []) ∷ []
unfolding idles peer_closes stays_established in_established fin_acked fin_waits on_segment rests_on ticks_established happened opens_in for_no_connection
sent_twice = refl
