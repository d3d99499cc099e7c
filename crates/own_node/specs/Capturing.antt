-- What the periodic call of its slot does with a message that was just written.
use Rattle.std.specs.Prelude.{◌≡◌, ◌<◌, ◌++◌, ◌∷◌, [], All, Bool, drop, length, List, true, ℕ}
use Rattle.app_events.specs.Prelude.{AppSpec, IsByte, Snapshot}
use Rattle.tcp_machine.specs.Prelude.{Connection}
use Rattle.uip_node.specs.Prelude.{AbstractNode, connection_in, periodic}
use Rattle.app_pair.specs.PairNumbers.{change_own}
use Rattle.app_pair.specs.PairSpec.{CanBePaired, pair_spec}
use Rattle.own_app.specs.Prelude.{PlainMessage, is_own_port, message_in, messages_text, own_spec, pending as pending_of, with_written}
use Rattle.own_app.specs.Prelude.{write_message}
use Rattle.own_node.specs.Messages.{can_write_at, can_write_in, next_message, next_message_at, own_connection, seen_in_pair, with_change}

-- the connection in a slot after the next message was written to it and the slot was called
abbrev pub called_after : ℕ → ℕ → List ℕ → Bool → AbstractNode → Connection
called_after slot taken text last n =
    connection_in slot (periodic own_spec (with_written (next_message slot taken text last n) n) slot).node

-- The message is the newest capture of the connection. Its text follows the text before, and the bytes that it answers are not pending.
pub record HasCaptured (message : PlainMessage) (old new : Connection) : Type 0 where
  pub capture : Snapshot
  pub numbers : message_in capture.numbers ≡ message
  pub snapshots : new.part.snapshots ≡ old.part.snapshots ++ capture ∷ []
  pub text : messages_text new.part.snapshots ≡ messages_text old.part.snapshots ++ message.text
  pub pending : pending_of new.part ≡ drop message.taken (pending_of old.part)

abbrev pub ReadyMessagesAreCaptured : Type 0
ReadyMessagesAreCaptured =
    (n : AbstractNode) (slot taken : ℕ) (text : List ℕ) (last : Bool) → slot < length n.connections → All IsByte text
    → can_write_in slot taken n ≡ true
    → HasCaptured (next_message slot taken text last n) (connection_in slot n) (called_after slot taken text last n)

-- ---- in a pair of which `OwnApp` is the second

-- the connection in a slot after this message was written and the slot was called
abbrev pub called_in_pair : AppSpec → ℕ → PlainMessage → AbstractNode → Connection
called_in_pair m slot message n =
    connection_in slot
    (periodic (pair_spec is_own_port m own_spec) (with_change (change_own true (write_message message)) n) slot).node

abbrev pub PairsCaptureReadyMessages : Type 0
PairsCaptureReadyMessages =
    (m : AppSpec) → CanBePaired m → (n : AbstractNode) (slot taken : ℕ) (text : List ℕ) (last : Bool)
    → slot < length n.connections → All IsByte text
    → can_write_at taken (seen_in_pair (connection_in slot n)) ≡ true
    → (let message = next_message_at taken text last (seen_in_pair (connection_in slot n)) in
    HasCaptured message (own_connection (connection_in slot n)) (own_connection (called_in_pair m slot message n)))
