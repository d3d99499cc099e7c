-- The specification of the application for which the program answers. The newest message of the program is a part of the numbers that the
-- connections share, and a connection takes it as a capture.
use Rattle.std.specs.Prelude.{ℕ, ◌+◌, ◌-◌, ◌%◌, ◌==◌, ◌&&◌, ◌||◌, not, nat_le, nat_lt, min, Bool, false, if◌then◌else◌, List, [], ◌∷◌}
use Rattle.std.specs.Prelude.{◌++◌, drop, length, map}
use Rattle.app_events.specs.Prelude.{AppSpec, AppState, Snapshot}
use Rattle.app_events.specs.declared.now.Now.{Now}
use Rattle.app_events.specs.declared.want.Want.{Want}
use Rattle.app_events.specs.declared.want.Want.TheVariants.{Nothing, Send, Close, Abort}
use Rattle.uip_wire.specs.declared.port.TheConstants.{WEB_PORT}
use Rattle.own_app.specs.declared.TheConstants.{MOST_SILENT_POLLS, RECEIVED_ROOM}

-- Every port but that of web pages, which a pair serves there (RFC 1700, "http").
abbrev pub is_own_port : ℕ → Bool
is_own_port port = not (port == WEB_PORT)

-- ---- messages

-- A message to one connection.
pub record PlainMessage : Type 0 where
  pub to : ℕ  -- the ticket of the connection
  pub number : ℕ  -- how many messages it captured before
  pub taken : ℕ  -- how many of the received bytes it answers
  pub last : Bool  -- whether the connection closes after it
  pub text : List ℕ

-- how many connections were opened, and the newest message, as numbers
abbrev pub numbers_of : ℕ → PlainMessage → List ℕ
numbers_of opened message =
    opened ∷ message.to ∷ message.number ∷ message.taken ∷ (if message.last then 1 else 0) ∷ message.text

abbrev pub no_message : PlainMessage
no_message = record { to = 0; number = 0; taken = 0; last = false; text = [] }

abbrev pub message_in : List ℕ → PlainMessage
message_in (opened ∷ to ∷ number ∷ taken ∷ last ∷ text) =
    record { to = to; number = number; taken = taken; last = last == 1; text = map (λ b. b % 256) text }
message_in _ = no_message

abbrev pub opened_in : List ℕ → ℕ
opened_in [] = 0
opened_in (opened ∷ numbers) = opened

-- the program writes a message in the place of the one before
abbrev pub write_message : PlainMessage → List ℕ → List ℕ
write_message message numbers = numbers_of (opened_in numbers) message

-- ---- a connection

-- the text of the captured messages in order, up to the last of the connection
abbrev pub messages_text : List Snapshot → List ℕ
messages_text [] = []
messages_text (k ∷ ks) = (message_in k.numbers).text ++ (if (message_in k.numbers).last then [] else messages_text ks)

-- how many of the received bytes they answer
abbrev pub bytes_taken : List Snapshot → ℕ
bytes_taken [] = 0
bytes_taken (k ∷ ks) = (message_in k.numbers).taken + bytes_taken ks

-- whether the last of the connection is among them
abbrev pub has_last : List Snapshot → Bool
has_last [] = false
has_last (k ∷ ks) = (message_in k.numbers).last || has_last ks

-- what was received and no message has answered
abbrev pub pending : AppState → List ℕ
pending p = drop (bytes_taken p.snapshots) p.input

-- That is more than a connection stores: it is given up.
abbrev pub is_overrun : AppState → Bool
is_overrun p = nat_lt RECEIVED_ROOM (length (pending p))

-- how many bytes of the text are not acknowledged
abbrev pub len_left : AppState → ℕ
len_left p = length (messages_text p.snapshots) - p.acked

-- A connection captures a message that is its own and the next, if all before is acknowledged, the last was not captured, and the bytes
-- that the message answers are there.
abbrev pub is_next_message : PlainMessage → AppState → Bool
is_next_message message p =
    message.to == p.own && message.number == length p.snapshots % 4294967296 && not (is_overrun p) && not (has_last p.snapshots)
    && len_left p == 0 && nat_le message.taken (length (pending p))

abbrev pub own_want : AppState → Want
own_want p =
    if is_overrun p || (p.polls == MOST_SILENT_POLLS) then Abort
    else if nat_lt 0 (len_left p) then Send (len_left p)
    else if has_last p.snapshots then Close
    else Nothing

abbrev pub with_message : List ℕ → AppState → Now → AppState
with_message numbers p now = record p { snapshots = p.snapshots ++ record { numbers = numbers; now = now } ∷ [] }

-- the ticket of the connection that opens next
abbrev pub next_ticket : List ℕ → ℕ
next_ticket numbers = (opened_in numbers + 1) % 4294967296

-- a connection with this ticket that has just opened
abbrev pub fresh_part : ℕ → ℕ → AppState
fresh_part port ticket = record { port = port; input = []; snapshots = []; acked = 0; polls = 0; own = ticket }

abbrev pub own_spec : AppSpec
own_spec = record {
  output = λ p. messages_text p.snapshots;
  connected = λ numbers port. record {
    part = fresh_part port (next_ticket numbers);
    numbers = next_ticket numbers ∷ drop 1 numbers;
  };
  newdata = λ numbers p piece. record { part = record p { input = p.input ++ piece; polls = 0 }; numbers = numbers };
  prepare = λ numbers p now. if is_next_message (message_in numbers) p then with_message numbers p now else p;
  want = λ numbers p. own_want p;
  acked = λ numbers p count. record { part = record p { acked = p.acked + count; polls = 0 }; numbers = numbers };
  polled = λ numbers p. record { part = record p { polls = min MOST_SILENT_POLLS (p.polls + 1) }; numbers = numbers };
  ended = λ numbers p how. numbers;
}
