-- Messages of the domain name system (RFC 1035, section 4.1): the query for a name, and the reply to it.
use Rattle.std.specs.Prelude.{ℕ, ◌+◌, ◌/◌, ◌%◌, ◌==◌, ◌&&◌, nat_le, nat_lt, not, if◌then◌else◌, Bool, List}
use Rattle.std.specs.Prelude.{[], ◌∷◌, ◌++◌, length, drop, slice_index, slice_range, Option, Some, None}
use Rattle.std.specs.Str.{str_eq_ignore_ascii_case}
use Rattle.uip_wire.specs.Prelude.{word_at, bytes_of}
use Rattle.dns_message.specs.Names.{name_bytes}
use Rattle.dns_message.specs.Records.{answer_of_records}
use Rattle.dns_message.specs.declared.answer.Answer.{Answer}
use Rattle.dns_message.specs.declared.answer.Answer.TheVariants.{Code}

-- The question for the address of a name: the name, type 1 and class 1.
abbrev pub question_bytes : List ℕ → List ℕ
question_bytes text = name_bytes text ++ bytes_of (1 ∷ 1 ∷ [])

-- A query: its id, the flag for recursion desired, the four counts, and the one question.
abbrev pub query_message : ℕ → List ℕ → List ℕ
query_message id text = bytes_of (id ∷ 256 ∷ 1 ∷ 0 ∷ 0 ∷ 0 ∷ []) ++ question_bytes text

-- The bit QR is set, and the next four bits, the opcode, are 0.
abbrev pub is_response : List ℕ → Bool
is_response message = slice_index message 2 / 8 == 16

-- The response code: the lowest four bits of the flags.
abbrev pub code_of : List ℕ → ℕ
code_of message = slice_index message 3 % 16

-- The offset after the question in a message that asks for this name alone.
abbrev pub question_end : List ℕ → ℕ
question_end text = 12 + length (question_bytes text)

-- There is one question, and it is the one for this name, in any case of its letters.
abbrev pub asks : List ℕ → List ℕ → Bool
asks text message =
    word_at message 4 == 1 && nat_le (question_end text) (length message)
    && str_eq_ignore_ascii_case (slice_range message 12 (question_end text)) (question_bytes text)

-- The reply to the query of this id for this name.
abbrev pub is_reply : ℕ → List ℕ → List ℕ → Bool
is_reply id text message = word_at message 0 == id && is_response message && asks text message

-- The answer of a reply: its response code if that is not 0, else that of its answer records, which follow the question.
abbrev pub answer_in : List ℕ → List ℕ → Option Answer
answer_in text message =
    if code_of message == 0 then answer_of_records (word_at message 6) (drop (question_end text) message)
    else Some (Code (code_of message))

-- The answer of a message to the query of this id for this name, if it is a reply to it.
abbrev pub answer_by_message : ℕ → List ℕ → List ℕ → Option Answer
answer_by_message id text message =
    if nat_lt (length message) 12 then None
    else if is_reply id text message then answer_in text message
    else None
