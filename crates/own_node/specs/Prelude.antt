-- The names of the definitions of this crate that other files cite, passed on from one place. Declares nothing.
pub use Rattle.own_node.specs.Capturing.{HasCaptured, PairsCaptureReadyMessages, ReadyMessagesAreCaptured, called_after, called_in_pair}
pub use Rattle.own_node.specs.Messages.{OfNode, OfNodeWith, OwnNode, SeesOwn, WritesMessage, WritesMessageWith, can_write_at, can_write_by}
pub use Rattle.own_node.specs.Messages.{can_write_in, is_established, is_open_state, is_ready_at, is_ready_by, is_ready_in, message_by}
pub use Rattle.own_node.specs.Messages.{next_message, next_message_at, pending_at, pending_by, pending_in, port_at, port_by, port_in}
pub use Rattle.own_node.specs.Messages.{ReplacesNewestWith, own_connection, seen_in_pair, with_change}
pub use Rattle.own_node.specs.Ports.{AreAtOpenPorts, carries_segment, is_for_closed_port, target_port}
