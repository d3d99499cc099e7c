-- Incarnations of wrong nodes, worked by hand, which the guarantee refuses. The IRS is 1000 and the ISS is 0. The page is `hello` and a
-- line feed once a byte was received.
use Rattle.std.specs.Prelude.{◌≡◌, ◌⊎◌, ◌+◌, ℕ, List, [], ◌∷◌, ◌++◌, Option, Some, None, take, drop, false}
use Rattle.tcp_segment.specs.Prelude.{PlainSegment}
use Rattle.tcp_segment.specs.declared.flags.TheConstants.{FIN, SYN, PSH, ACK}
use Rattle.app_events.specs.Prelude.{hello, fixed_text, some_received, Pages}
use Rattle.uip_node.specs.Prelude.{EchoAsked, Echo}
use Rattle.node_laws.specs.Traces.{Exchange, TraceEntry}
use Rattle.node_laws.specs.Promise.{IncarnationConforms, OutputModel}
use Rattle.node_laws.specs.Promise.OutputModel.{Paged, Interactive}
use Rattle.node_laws.specs.Asked.{IsEchoed}

abbrev pub hello_pages : Pages
hello_pages = record { page = λ input snapshots. fixed_text input; complete = λ input snapshots. some_received input }

-- the page that repeats its input
abbrev pub mirror_pages : Pages
mirror_pages = record { page = λ input snapshots. input; complete = λ input snapshots. false }

abbrev pub segment : ℕ → ℕ → ℕ → List ℕ → PlainSegment
segment seq ack flags text = record { seq = seq; ack = ack; flags = flags; window = 1460; mss = None; text = text }

abbrev pub exchanged : Option PlainSegment → Option PlainSegment → Exchange
exchanged received output = record { received = received; output = output }

abbrev pub opened : Exchange
opened = exchanged (Some (segment 1000 0 SYN [])) (Some (segment 0 1001 (SYN + ACK) []))

-- the peer sends one byte, and the node replies with this text
abbrev pub reported_text : List ℕ → Exchange
reported_text text = exchanged (Some (segment 1001 1 ACK (120 ∷ []))) (Some (segment 1 1002 (ACK + PSH) text))

-- the retransmission lacks its last byte
abbrev pub cut_again : List Exchange
cut_again = exchanged None (Some (segment 1 1002 (ACK + PSH) (take 5 hello))) ∷ reported_text hello ∷ opened ∷ []

-- the FIN follows the first three bytes
abbrev pub ends_early : List Exchange
ends_early = exchanged (Some (segment 1002 4 ACK [])) (Some (segment 4 1002 (FIN + ACK) [])) ∷ reported_text (take 3 hello) ∷ opened ∷ []

-- the text has its last byte twice
abbrev pub repeats_byte : List Exchange
repeats_byte = reported_text (hello ++ 10 ∷ []) ∷ opened ∷ []

-- a byte received at an unexpected number is acknowledged
abbrev pub acknowledges_refused : List Exchange
acknowledges_refused = exchanged (Some (segment 1005 1 ACK (120 ∷ []))) (Some (segment 1 1006 ACK [])) ∷ opened ∷ []

-- the rest of the text is sent before its prefix was acknowledged
abbrev pub two_under_way : List Exchange
two_under_way = exchanged None (Some (segment 4 1002 (ACK + PSH) (drop 3 hello))) ∷ reported_text (take 3 hello) ∷ opened ∷ []

-- this peer sent nothing, and it receives a byte that another peer sent
abbrev pub reports_another : List Exchange
reports_another = exchanged (Some (segment 1001 1 ACK [])) (Some (segment 1 1001 (ACK + PSH) (120 ∷ []))) ∷ opened ∷ []

-- the reply to the echo request before
abbrev pub echoes_before : TraceEntry
echoes_before = record { event = EchoAsked (2 ∷ []); sent = Some (Echo (1 ∷ [])) }

-- the output model has these pages, or has them as sessions
abbrev pub SpeaksBy : Pages → OutputModel → Type 0
SpeaksBy pages model = (model ≡ Paged pages) ⊎ (model ≡ Interactive pages)

-- None of them conforms; the first three do not conform to any output model.
pub record WrongIncarnationsFall : Type 0 where
  pub cut_resend : (model : OutputModel) → IncarnationConforms model cut_again → ⊥
  pub refused : (model : OutputModel) → IncarnationConforms model acknowledges_refused → ⊥
  pub second_segment : (model : OutputModel) → IncarnationConforms model two_under_way → ⊥
  pub early_fin : (model : OutputModel) → SpeaksBy hello_pages model → IncarnationConforms model ends_early → ⊥
  pub repeated_byte : (model : OutputModel) → SpeaksBy hello_pages model → IncarnationConforms model repeats_byte → ⊥
  pub other_page : (model : OutputModel) → SpeaksBy mirror_pages model → IncarnationConforms model reports_another → ⊥
  pub echo_before : IsEchoed echoes_before → ⊥
