-- A peer on a link that loses and repeats, computed from the definitions alone: a lost SYN-ACK, and a lost text.
use Rattle.node_laws.proofs.Prelude.{◌≡◌, ◌+◌, ℕ, true, List, [], ◌∷◌, length, drop, refl, arith, Some, None, PlainSegment}
use Rattle.node_laws.proofs.Prelude.{SYN, ACK, hello, idles, peer_closes, stays_established, in_established, fin_acked}
use Rattle.node_laws.proofs.Prelude.{fin_waits, on_segment, rests_on, ticks_established, Periodic, happened, opens_in, for_no_connection}
use Rattle.node_laws.proofs.Prelude.{Asker, IsLossy, fresh, text_received, awaits_ack, bare_acks, receives_all, Exchange}
use Rattle.node_laws.specs.LossyPeers.IsOverLoss.{receives_next, receives_nothing, receives_stale}
use Rattle.node_laws.proofs.Rows.{says, session_over, reported}

abbrev segment : ℕ → ℕ → List ℕ → PlainSegment
segment seq ack text = record { seq = seq; ack = ack; flags = ACK; window = 8192; mss = None; text = text }

abbrev syn : PlainSegment
syn = record { seq = 1000; ack = 0; flags = SYN; window = 8192; mss = None; text = [] }

-- The SYN-ACK is lost, and the peer sends its SYN again. The node sends the SYN-ACK again in the fourth call of the slot. Then the text is
-- lost. The peer repeats its request, and an acknowledgement of the SYN comes late. The text is sent again, and acknowledged.
abbrev lossy : List Exchange
lossy = session_over (says 1000 0 SYN [] ∷ says 1000 0 SYN [] ∷ Periodic 0 ∷ Periodic 0 ∷ Periodic 0 ∷ Periodic 0
    ∷ says 1001 1 ACK [] ∷ says 1001 1 ACK (120 ∷ []) ∷ Periodic 0 ∷ Periodic 0 ∷ says 1001 1 ACK (120 ∷ []) ∷ says 1002 1 ACK []
    ∷ Periodic 0 ∷ Periodic 0 ∷ says 1002 7 ACK [] ∷ [])

abbrev asker : Asker
asker = record { request = 120 ∷ []; irs = 1000; iss = 0; mss = 536 }

-- what is sent in reply, the newest first: the FIN, the text again, two bare ACKs, the text, the SYN-ACK again, a bare ACK, the SYN-ACK
sent : reported lossy ≡ Some (7, []) ∷ Some (1, hello) ∷ None ∷ None ∷ Some (1, []) ∷ None ∷ None ∷ Some (1, hello) ∷ None
    ∷ Some (0, []) ∷ None ∷ None ∷ None ∷ Some (0, []) ∷ Some (0, []) ∷ []
unfolding idles peer_closes stays_established in_established fin_acked fin_waits on_segment rests_on ticks_established happened opens_in for_no_connection
sent = refl

-- twelve of the fifteen exchanges are fresh, with the request once and two acknowledgements
kept : length (fresh asker lossy) ≡ 12
unfolding idles peer_closes stays_established in_established fin_acked fin_waits on_segment rests_on ticks_established happened opens_in for_no_connection
kept = refl

asked : text_received (fresh asker lossy) ≡ 120 ∷ []
unfolding idles peer_closes stays_established in_established fin_acked fin_waits on_segment rests_on ticks_established happened opens_in for_no_connection
asked = refl

acknowledged : bare_acks (fresh asker lossy) ≡ 2
unfolding idles peer_closes stays_established in_established fin_acked fin_waits on_segment rests_on ticks_established happened opens_in for_no_connection
acknowledged = refl

-- Before the last exchange the page is on its way: the text awaits an acknowledgement, after one without text.
abbrev waiting : List Exchange
waiting = drop 1 lossy

awaited : awaits_ack (fresh asker waiting) ≡ true
unfolding idles peer_closes stays_established in_established fin_acked fin_waits on_segment rests_on ticks_established happened opens_in for_no_connection
awaited = refl

one_before : bare_acks (fresh asker waiting) ≡ 1
unfolding idles peer_closes stays_established in_established fin_acked fin_waits on_segment rests_on ticks_established happened opens_in for_no_connection
one_before = refl

-- the receiver has the page
has_page : receives_all 0 lossy ≡ hello
unfolding idles peer_closes stays_established in_established fin_acked fin_waits on_segment rests_on ticks_established happened opens_in for_no_connection
has_page = refl

-- and the premise holds
is_lossy : IsLossy asker lossy
unfolding idles peer_closes stays_established in_established fin_acked fin_waits on_segment rests_on ticks_established happened opens_in for_no_connection
is_lossy = (
  receives_next (record {
    segment = segment 1002 7 [];
    received = refl;
    syn = refl;
    fin = refl;
    rst = refl;
    acks = refl;
    seq = refl;
    part = record { rest = []; joined = refl };
    ack = refl;
    window = omega arith;
    some = λ e. refl;
  }),
  (
    receives_nothing refl (omega arith),
    (
      receives_nothing refl (omega arith),
      (
        receives_stale (record { segment = segment 1002 1 []; received = refl; rst = refl; stale = refl; window = λ e. omega arith }),
        (
          receives_stale (record { segment = segment 1001 1 (120 ∷ []); received = refl; rst = refl; stale = refl; window = λ e. omega arith }),
          (
            receives_nothing refl (omega arith),
            (
              receives_nothing refl (omega arith),
              (
                receives_next (record {
                  segment = segment 1001 1 (120 ∷ []);
                  received = refl;
                  syn = refl;
                  fin = refl;
                  rst = refl;
                  acks = refl;
                  seq = refl;
                  part = record { rest = []; joined = refl };
                  ack = refl;
                  window = omega arith;
                  some = λ e. absurd (cc);
                }),
                (
                  receives_next (record {
                    segment = segment 1001 1 [];
                    received = refl;
                    syn = refl;
                    fin = refl;
                    rst = refl;
                    acks = refl;
                    seq = refl;
                    part = record { rest = 120 ∷ []; joined = refl };
                    ack = refl;
                    window = omega arith;
                    some = λ e. refl;
                  }),
                  (
                    receives_nothing refl (omega arith),
                    (
                      receives_nothing refl (omega arith),
                      (
                        receives_nothing refl (omega arith),
                        (
                          receives_nothing refl (omega arith),
                          (
                            receives_stale (record { segment = syn; received = refl; rst = refl; stale = refl; window = λ e. omega arith }),
                            record {
                              syn = syn;
                              received = refl;
                              number = refl;
                              mss = refl;
                              text = refl;
                              answer = record { seq = 0; ack = 1001; flags = SYN + ACK; window = 1460; mss = Some 1460; text = [] };
                              output = refl;
                              answers = refl;
                              seq = refl;
                            },
                          ),
                        ),
                      ),
                    ),
                  ),
                ),
              ),
            ),
          ),
        ),
      ),
    ),
  ),
)
