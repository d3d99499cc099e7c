-- An address is reported only from a matching reply.
use Rattle.std.specs.Prelude.{◌≡◌, ℕ, List, ◌∷◌, ◌++◌, Some, true, drop}
use Rattle.uip_wire.specs.Prelude.{word_at}
use Rattle.udp_datagram.specs.Prelude.{udp_data}
use Rattle.dns_message.specs.Messages.{code_of, is_reply, question_end}
use Rattle.dns_message.specs.Records.{Record, is_address, records}
use Rattle.dns_message.specs.Replies.{way_back}
use Rattle.dns_message.specs.declared.answer.Answer.TheVariants.{Address}
use Rattle.uip_wire.specs.declared.addr.Addr.{Addr}
use Rattle.udp_resolver.specs.Fates.{Question, fate_of}
use Rattle.udp_resolver.specs.LineEvents.{LineEvent, MediumInput}
use Rattle.udp_resolver.specs.declared.fate.Fate.TheVariants.{Answered}

-- A datagram was received that carries a message from the server's port to the querying port. The message is the reply to this question,
-- without an error. Among the records that its answer section represents is one of an Internet address, which is the one reported.
pub record IsFromReply (q : Question) (address : Addr) (happened : List LineEvent) : Type 0 where
  pub datagram : List ℕ
  pub message : List ℕ
  pub record_ : Record
  pub prefix : List LineEvent
  pub later : List LineEvent
  pub received : happened ≡ prefix ++ MediumInput datagram ∷ later
  pub carried : udp_data (way_back q.asking) datagram ≡ Some message
  pub matching : is_reply q.asking.id q.text message ≡ true
  pub sound : code_of message ≡ 0
  pub before : List Record
  pub after : List Record
  pub spelled : records (word_at message 6) (drop (question_end q.text) message) ≡ before ++ record_ ∷ after
  pub of_address : is_address record_ ≡ true
  pub reported : address.0 ≡ record_.content

abbrev pub AddressesAreFromReplies : Type 0
AddressesAreFromReplies = (q : Question) (address : Addr) (happened : List LineEvent)
    → fate_of happened q ≡ Answered (Address address) → IsFromReply q address happened
