-- An honest peer, and one that is silent, computed from the definitions alone.
use Rattle.node_laws.proofs.Prelude.{◌≡◌, ◌+◌, ℕ, false, inl, inr, List, [], ◌∷◌, refl, arith, Some, None, PlainSegment, has_rst, SYN, PSH}
use Rattle.node_laws.proofs.Prelude.{ACK, hello, idles, peer_closes, stays_established, in_established, fin_acked, fin_waits, on_segment}
use Rattle.node_laws.proofs.Prelude.{rests_on, ticks_established, Periodic, happened, opens_in, for_no_connection, only_some, Asker}
use Rattle.node_laws.proofs.Prelude.{IsHonest, text_received, bare_acks, receives_all, Exchange}
use Rattle.node_laws.proofs.Rows.{says, session_over, reported}

abbrev segment : ℕ → ℕ → List ℕ → PlainSegment
segment seq ack text = record { seq = seq; ack = ack; flags = ACK; window = 8192; mss = None; text = text }

-- It acknowledges the SYN, waits for a call of the slot, asks by one byte, and acknowledges the one text once that was sent again.
abbrev honest : List Exchange
honest = session_over (says 1000 0 SYN [] ∷ says 1001 1 ACK [] ∷ Periodic 0 ∷ says 1001 1 ACK (120 ∷ [])
    ∷ Periodic 0 ∷ Periodic 0 ∷ Periodic 0 ∷ Periodic 0 ∷ says 1002 7 ACK [] ∷ [])

abbrev asker : Asker
asker = record { request = 120 ∷ []; irs = 1000; iss = 0; mss = 536 }

-- So it is honest: each of its segments is the next, and it is waited for between them.
is_honest : IsHonest asker honest
unfolding idles peer_closes stays_established in_established fin_acked fin_waits on_segment rests_on ticks_established happened opens_in for_no_connection
is_honest = (
  inr record {
    segment = segment 1002 7 [];
    received = refl;
    syn = refl;
    fin = refl;
    rst = refl;
    acks = refl;
    seq = refl;
    part = record { rest = []; joined = refl };
    ack = refl;
    window = omega arith;
    some = λ e. refl;
  },
  (
    inl (
      refl,
      λ s e. only_some (λ t. has_rst t.flags ≡ false)
          (record { seq = 1; ack = 1002; flags = ACK + PSH; window = 1460; mss = None; text = hello }) s e refl,
    ),
    (
      inl (refl, λ s e. absurd (cc)),
      (
        inl (refl, λ s e. absurd (cc)),
        (
          inl (refl, λ s e. absurd (cc)),
          (
            inr record {
              segment = segment 1001 1 (120 ∷ []);
              received = refl;
              syn = refl;
              fin = refl;
              rst = refl;
              acks = refl;
              seq = refl;
              part = record { rest = []; joined = refl };
              ack = refl;
              window = omega arith;
              some = λ e. absurd (cc);
            },
            (
              inl (refl, λ s e. absurd (cc)),
              (
                inr record {
                  segment = segment 1001 1 [];
                  received = refl;
                  syn = refl;
                  fin = refl;
                  rst = refl;
                  acks = refl;
                  seq = refl;
                  part = record { rest = 120 ∷ []; joined = refl };
                  ack = refl;
                  window = omega arith;
                  some = λ e. refl;
                },
                record {
                  syn = record { seq = 1000; ack = 0; flags = SYN; window = 8192; mss = None; text = [] };
                  received = refl;
                  number = refl;
                  mss = refl;
                  text = refl;
                  answer = record { seq = 0; ack = 1001; flags = SYN + ACK; window = 1460; mss = Some 1460; text = [] };
                  output = refl;
                  answers = refl;
                  seq = refl;
                },
              ),
            ),
          ),
        ),
      ),
    ),
  ),
)

-- the request is that byte, and two acknowledgements without text are more than the one text
asked : text_received honest ≡ 120 ∷ []
unfolding idles peer_closes stays_established in_established fin_acked fin_waits on_segment rests_on ticks_established happened opens_in for_no_connection
asked = refl

acknowledged : bare_acks honest ≡ 2
unfolding idles peer_closes stays_established in_established fin_acked fin_waits on_segment rests_on ticks_established happened opens_in for_no_connection
acknowledged = refl

-- and the receiver has the page
has_page : receives_all 0 honest ≡ hello
unfolding idles peer_closes stays_established in_established fin_acked fin_waits on_segment rests_on ticks_established happened opens_in for_no_connection
has_page = refl

-- the SYN is sent again in the fourth call of the slot
sent_syn_twice : reported (session_over (says 1000 0 SYN [] ∷ Periodic 0 ∷ Periodic 0 ∷ Periodic 0 ∷ Periodic 0 ∷ []))
    ≡ Some (0, []) ∷ None ∷ None ∷ None ∷ Some (0, []) ∷ []
unfolding idles peer_closes stays_established in_established fin_acked fin_waits on_segment rests_on ticks_established happened opens_in for_no_connection
sent_syn_twice = refl
