-- What the application owes the laws of a node's trace: it takes back no text, its text is bytes, and that is its captured messages.
use Rattle.std.specs.Prelude.{ℕ}
use Rattle.app_events.specs.Prelude.{Pages}
use Rattle.uip_node.specs.Prelude.{IsSteady, SendsBytes}
use Rattle.node_laws.specs.Prelude.{HasOutputModel, Interactive, OutputModel}
use Rattle.own_app.specs.OwnSpec.{has_last, messages_text, own_spec}

-- The captures alone determine the text, which is complete after the last message.
abbrev pub own_sessions : Pages
own_sessions = record { page = λ input snapshots. messages_text snapshots; complete = λ input snapshots. has_last snapshots }

abbrev pub own_output_model : ℕ → OutputModel
own_output_model port = Interactive own_sessions

pub record OwnSpeaksOnLines : Type 0 where
  pub steady : IsSteady own_spec
  pub bytes : SendsBytes own_spec
  pub speaks : HasOutputModel own_spec own_output_model
