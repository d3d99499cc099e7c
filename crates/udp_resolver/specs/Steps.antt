-- What the parts of a run do at an event.
use Rattle.std.specs.Prelude.{◌≡◌, ◌<◌, ◌+◌, ◌==◌, if◌then◌else◌, ℕ, Bool, List, [], ◌∷◌, ◌++◌, Option, Some, None, take}
use Rattle.std.specs.List.{list_any}
use Rattle.rexmit_timer.specs.Prelude.{IsAtAge, ages}
use Rattle.rexmit_timer.specs.declared.timer.TheConstants.{TEXT_LIMIT}
use Rattle.dns_message.specs.Replies.{answer_to}
use Rattle.dns_message.specs.declared.answer.Answer.{Answer}
use Rattle.udp_resolver.specs.Asked.{open_ones}
use Rattle.udp_resolver.specs.Fates.{Question, fate_by, is_given_up, last_silence, silences}
use Rattle.udp_resolver.specs.LineEvents.{LineEvent}
use Rattle.udp_resolver.specs.Lines.{line_of}
use Rattle.udp_resolver.specs.declared.clock.Clock.{Clock}
use Rattle.std.specs.Option.{option_or}

-- The answers after a datagram was received: those known before, and its answers to the other questions.
abbrev pub received_now : List ℕ → List Question → List (Option Answer) → List (Option Answer)
received_now datagram [] answers = []
received_now datagram (q ∷ asked) [] = []
received_now datagram (q ∷ asked) (answer ∷ answers) = option_or answer (answer_to q.asking q.text datagram)
    ∷ received_now datagram asked answers

abbrev pub unless_answered : Question → Option Answer → List Question
unless_answered q None = q ∷ []
unless_answered q (Some answer) = []

-- The questions that have no answer.
abbrev pub unanswered : List Question → List (Option Answer) → List Question
unanswered [] answers = []
unanswered (q ∷ asked) [] = []
unanswered (q ∷ asked) (answer ∷ answers) = unless_answered q answer ++ unanswered asked answers

-- The lines of names with these answers.
abbrev pub lines_by : List (List ℕ) → List (Option Answer) → Bool → List ℕ
lines_by [] answers is_over = []
lines_by (text ∷ names) [] is_over = []
lines_by (text ∷ names) (answer ∷ answers) is_over = line_of text (fate_by answer is_over) ++ lines_by names answers is_over

-- The clock after these events.
pub record IsClockAt (happened : List LineEvent) (clock : Clock) : Type 0 where
  pub given_up : clock.given_up ≡ is_given_up happened
  pub age : silences happened < last_silence → IsAtAge clock.timer (silences happened)

-- The age of a retransmission.
abbrev pub is_due : ℕ → Bool
is_due age = list_any (λ a. a == age) (take TEXT_LIMIT ages)

-- The questions that a silence after these events sends again.
abbrev pub asked_next : List Question → List LineEvent → List Question
asked_next asked happened = if is_due (silences happened + 1) then open_ones asked happened else []
