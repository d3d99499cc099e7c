-- The constants of the code that definitions name, and their values.
use Rattle.std.specs.Prelude.{◌≡◌}
use Rattle.own_app.specs.declared.TheConstants.{MESSAGE_ROOM, MOST_PORTS, MOST_SILENT_POLLS, RECEIVED_ROOM}

pub record ConstantValues : Type 0 where
  pub received_room : RECEIVED_ROOM ≡ 128
  pub message_room : MESSAGE_ROOM ≡ 260
  pub most_ports : MOST_PORTS ≡ 4
  pub most_silent_polls : MOST_SILENT_POLLS ≡ 1200
