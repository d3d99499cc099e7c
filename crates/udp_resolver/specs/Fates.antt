-- What becomes of a question over the events of a line.
use Rattle.std.specs.Prelude.{ℕ, suc, zero, ◌+◌, ◌%◌, nat_le, if◌then◌else◌, Bool, true, false, List, [], ◌∷◌, Option, Some, None}
use Rattle.std.specs.List.{list_all}
use Rattle.dns_message.specs.Replies.{answer_to}
use Rattle.dns_message.specs.declared.answer.Answer.{Answer}
use Rattle.dns_message.specs.declared.query.Asking.{Asking}
use Rattle.rexmit_timer.specs.Prelude.{give_up_age}
use Rattle.rexmit_timer.specs.declared.timer.TheConstants.{TEXT_LIMIT}
use Rattle.uip_wire.specs.declared.addr.Addr.{Addr}
use Rattle.udp_resolver.specs.LineEvents.{LineEvent, MediumInput, Silence}
use Rattle.udp_resolver.specs.declared.fate.Fate.{Fate}
use Rattle.udp_resolver.specs.declared.fate.Fate.TheVariants.{Answered, Open, Timeout}
use Rattle.std.specs.Option.{option_or}

-- The question for a name: the host, the server and the id, and the name's text.
pub record Question : Type 0 where
  pub asking : Asking
  pub text : List ℕ

-- The same with the next id.
abbrev pub next_asking : Asking → Asking
next_asking asking = record asking { id = (asking.id + 1) % 65536 }

-- The questions for names, each with an id of its own.
abbrev pub questions : Asking → List (List ℕ) → List Question
questions asking [] = []
questions asking (text ∷ names) = record { asking = asking; text = text } ∷ questions (next_asking asking) names

-- The questions of a host for names at a server, the first with this id.
abbrev pub questions_of : Addr → Addr → ℕ → List (List ℕ) → List Question
questions_of own server id names = questions (record { own = own; server = server; id = id }) names

-- The number of silences.
abbrev pub silences : List LineEvent → ℕ
silences [] = 0
silences (MediumInput datagram ∷ later) = silences later
silences (Silence ∷ later) = silences later + 1

-- The events before the silence of this number, counted from 1, or all if there are fewer silences.
abbrev pub before_silence : ℕ → List LineEvent → List LineEvent
before_silence number [] = []
before_silence number (MediumInput datagram ∷ later) = MediumInput datagram ∷ before_silence number later
before_silence zero (Silence ∷ later) = []
before_silence (suc zero) (Silence ∷ later) = []
before_silence (suc (suc number)) (Silence ∷ later) = Silence ∷ before_silence (suc number) later

-- The first answer to a question among the datagrams.
abbrev pub first_answer : Question → List LineEvent → Option Answer
first_answer q [] = None
first_answer q (MediumInput datagram ∷ later) = option_or (answer_to q.asking q.text datagram) (first_answer q later)
first_answer q (Silence ∷ later) = first_answer q later

-- The silence at which a question without an answer is given up.
abbrev pub last_silence : ℕ
last_silence = give_up_age TEXT_LIMIT

-- The answer that was received in time.
abbrev pub answer_among : List LineEvent → Question → Option Answer
answer_among happened q = first_answer q (before_silence last_silence happened)

abbrev pub fate_by : Option Answer → Bool → Fate
fate_by (Some answer) is_over = Answered answer
fate_by None is_over = if is_over then Timeout else Open

-- Whether questions without an answer are given up.
abbrev pub is_given_up : List LineEvent → Bool
is_given_up happened = nat_le last_silence (silences happened)

-- A question is answered by the first answer before the last silence. Else it has timed out at that silence, and is open until then.
abbrev pub fate_of : List LineEvent → Question → Fate
fate_of happened q = fate_by (answer_among happened q) (is_given_up happened)

abbrev pub is_settled : Fate → Bool
is_settled Open = false
is_settled _ = true

abbrev pub all_settled : List Question → List LineEvent → Bool
all_settled asked happened = list_all (λ q. is_settled (fate_of happened q)) asked
