-- The states that a value represents.
use Rattle.std.specs.Prelude.{ℕ, ◌≡◌, ◌≤◌, ◌+◌, ◌%◌, ◌==◌, ◌&&◌, not, nat_le, Bool, true, false, if◌then◌else◌, List, ◌++◌, drop, length}
use Rattle.app_events.specs.Prelude.{AppState}
use Rattle.own_app.specs.OwnSpec.{PlainMessage, bytes_taken, has_last, is_overrun, messages_text, pending}
use Rattle.own_app.specs.declared.TheConstants.{RECEIVED_ROOM}
use Rattle.own_app.specs.declared.shared.Message.{Message}
use Rattle.own_app.specs.declared.app.OwnApp.{OwnApp}

abbrev pub message_of : Message → PlainMessage
message_of message = record {
  to = message.to;
  number = message.number;
  taken = message.taken;
  last = message.last;
  text = message.text.items;
}

-- a value, as plain data
pub record OwnState : Type 0 where
  pub ticket : ℕ
  pub received : List ℕ
  pub overrun : Bool
  pub sending : List ℕ
  pub at : ℕ
  pub count : ℕ
  pub ended : Bool
  pub polls : ℕ

abbrev pub state_of : OwnApp → OwnState
state_of a = record {
  ticket = a.ticket;
  received = a.received.items;
  overrun = a.overrun;
  sending = a.sending.items;
  at = a.at;
  count = a.count;
  ended = a.ended;
  polls = a.polls;
}

-- the message may be captured, by the value
abbrev pub is_due : OwnState → PlainMessage → Bool
is_due a message =
    message.to == a.ticket && message.number == a.count && not a.overrun && not a.ended && a.at == length a.sending
    && nat_le message.taken (length a.received)

abbrev pub after_capture : OwnState → PlainMessage → OwnState
after_capture a message = record a {
  received = drop message.taken a.received;
  sending = message.text;
  at = 0;
  count = (a.count + 1) % 4294967296;
  ended = message.last;
}

abbrev pub after_input : OwnState → List ℕ → OwnState
after_input a piece =
    if a.overrun then record a { polls = 0 }
    else if nat_le (length a.received + length piece) RECEIVED_ROOM then record a { received = a.received ++ piece; polls = 0 }
    else record a { overrun = true; polls = 0 }

-- The value has the text that is not taken, if it is not too long, and the last captured message. `before` is the text of the messages
-- before that.
pub record StateRepresents (a : OwnState) (p : AppState) : Type 0 where
  pub ticket : a.ticket ≡ p.own
  pub taken : bytes_taken p.snapshots ≤ length p.input
  pub overrun : a.overrun ≡ is_overrun p
  pub received : a.overrun ≡ false → a.received ≡ pending p
  pub before : List ℕ
  pub sending : messages_text p.snapshots ≡ before ++ a.sending
  pub acked : p.acked ≡ length before + a.at
  pub within : a.at ≤ length a.sending
  pub count : a.count ≡ length p.snapshots % 4294967296
  pub ended : a.ended ≡ has_last p.snapshots
  pub polls : a.polls ≡ p.polls

abbrev pub OwnRepresents : OwnApp → AppState → Type 0
OwnRepresents a p = StateRepresents (state_of a) p
