-- Resource records (RFC 1035, section 4.1.3): those that bytes represent, and the answer that they give.
use Rattle.std.specs.Prelude.{◌+◌, ◌==◌, ◌&&◌, if◌then◌else◌, [], Bool, find, List, nat_lt, suc, zero, ℕ}
use Rattle.std.specs.Prelude.{◌∷◌, length, drop, slice_range, Option, Some, None, option_and_then}
use Rattle.uip_wire.specs.Prelude.{word_at}
use Rattle.dns_message.specs.Names.{after_the_name}
use Rattle.dns_message.specs.declared.answer.Answer.{Answer}
use Rattle.dns_message.specs.declared.answer.Answer.TheVariants.{Address, NoAddress}
use Rattle.dns_message.specs.declared.record.Record.{Record as Read}

-- The fields of a record, without its owner and its time to live.
pub record Record : Type 0 where
  pub kind : ℕ
  pub class : ℕ
  pub content : List ℕ

-- An Internet address: type 1, class 1 and four bytes (RFC 1035, sections 3.2.2, 3.2.4 and 3.4.1).
abbrev pub is_address : Record → Bool
is_address r = r.kind == 1 && r.class == 1 && length r.content == 4

-- Its four bytes.
abbrev pub address_in : Record → Option (List ℕ)
address_in r = if is_address r then Some r.content else None

-- After a record's owner: type, class, four bytes of time to live, the length of the content and the content; and the bytes that follow.
abbrev pub record_after : List ℕ → Option (Record × List ℕ)
record_after bytes =
    if nat_lt (length bytes) 10 then None
    else if nat_lt (length bytes) (10 + word_at bytes 8) then None
    else Some (
      record {
        kind = word_at bytes 0;
        class = word_at bytes 2;
        content = slice_range bytes 10 (10 + word_at bytes 8);
      },
      drop (10 + word_at bytes 8) bytes,
    )

-- The record at the start, and the bytes that follow.
abbrev pub first_record : List ℕ → Option (Record × List ℕ)
first_record bytes = option_and_then record_after (after_the_name 0 bytes)

abbrev pub records_by : (List ℕ → List Record) → Option (Record × List ℕ) → List Record
records_by more None = []
records_by more (Some (r, rest)) = r ∷ more rest

-- The records that bytes represent, n in number: all of them, or those before the first that is malformed.
abbrev pub records : ℕ → List ℕ → List Record
records zero bytes = []
records (suc n) bytes = records_by (records n) (first_record bytes)

-- The answer by the first address, if there is one, else by whether all records could be read.
abbrev pub answer_by : Option Record → Bool → Option Answer
answer_by (Some r) is_whole = Some (Address (record { 0 = r.content }))
answer_by None is_whole = if is_whole then Some NoAddress else None

-- The answer of n answer records: the first address, or that there is none; nothing if a record before it is malformed.
abbrev pub answer_of_records : ℕ → List ℕ → Option Answer
answer_of_records n bytes = answer_by (find is_address (records n bytes)) (length (records n bytes) == n)

-- A record as the code reads it.
abbrev pub plain_record : Read → Record
plain_record r = record { kind = r.kind; class = r.class; content = r.content.now }
