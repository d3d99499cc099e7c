-- The queries that are sent over the events of a line.
use Rattle.std.specs.Prelude.{◌+◌, ◌%◌, if◌then◌else◌, ◌∷◌, ◌++◌, [], filter, flat_map, List, nat_le, not, take, ℕ}
use Rattle.dns_message.specs.Replies.{query_datagram}
use Rattle.rexmit_timer.specs.Prelude.{ages}
use Rattle.rexmit_timer.specs.declared.timer.TheConstants.{TEXT_LIMIT}
use Rattle.uip_slip.specs.Prelude.{slip_text}
use Rattle.udp_resolver.specs.Fates.{Question, fate_of, before_silence, is_settled, silences}
use Rattle.udp_resolver.specs.LineEvents.{LineEvent}

-- The questions that are open.
abbrev pub open_ones : List Question → List LineEvent → List Question
open_ones asked happened = filter (λ q. not (is_settled (fate_of happened q))) asked

-- The questions that are sent again at the silence of this number, if it occurred: those that were open before it.
abbrev pub asked_at : List Question → List LineEvent → ℕ → List Question
asked_at asked happened number =
    if nat_le number (silences happened) then open_ones asked (before_silence number happened) else []

-- All questions are sent at the start, in order, and again at each of the ages of a retransmission, counted in silences.
abbrev pub queries : List Question → List LineEvent → List Question
queries asked happened = asked ++ flat_map (asked_at asked happened) (take TEXT_LIMIT ages)

-- The identification of the IP header after another.
abbrev pub next_ident : ℕ → ℕ
next_ident ident = (ident + 1) % 65536

-- The texts of queries, each with the next identification.
abbrev pub query_texts : ℕ → List Question → List ℕ
query_texts ident [] = []
query_texts ident (q ∷ later) = slip_text (query_datagram q.asking q.text (next_ident ident)) ++ query_texts (next_ident ident) later

-- The identification of the last of them.
abbrev pub last_ident : ℕ → List Question → ℕ
last_ident ident [] = ident
last_ident ident (q ∷ later) = last_ident (next_ident ident) later

-- What is written to the line: the identifications begin at 1.
abbrev pub line_text : List Question → List LineEvent → List ℕ
line_text asked happened = query_texts 0 (queries asked happened)
