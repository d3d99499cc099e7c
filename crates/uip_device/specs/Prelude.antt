-- The names of the definitions of this crate that other files cite, passed on from one place. Declares nothing.
pub use Rattle.uip_device.specs.Calls.{Call, Calls, CallsForDatagram, DoesNothing, Drains, Feeds, Inputs, StopsAtEnd, arrival_of, arrivals_after}
pub use Rattle.uip_device.specs.Calls.{arrivals_by, arrivals_of_calls, byte_calls, bytes_of_call, calls_after, is_by_datagram, tick_arrivals, tick_calls}
pub use Rattle.uip_device.specs.ConstantValues.{ConstantValues}
pub use Rattle.uip_device.specs.DeviceLaws.{EveryCallConforms, EveryLineIsServed, LineIsServed}
pub use Rattle.uip_device.specs.Devices.{Answered, Answers, AnswersAll, AnswersOver, AnswersMove, Changes, ChangesNode, CompleteOne}
pub use Rattle.uip_device.specs.Devices.{FromFresh, HasDelivered, HasFilled, IsFreshDevice, IsFreshWithoutSecret, IsProtected, Spoils, connection_row, datagrams_handed}
pub use Rattle.uip_device.specs.Devices.{is_node_idle, left_text_of, lefts_of, line_handed, moves_of, row_in}
pub use Rattle.uip_device.specs.Handing.{rest_text, text_to_come}
pub use Rattle.uip_device.specs.Keeping.{AllHandOutSent, CallsConform, IsOfBytes, KeepsU32, MoveTrace, OutputIsSent, events_of_move}
pub use Rattle.uip_device.specs.Moves.{Bring, Gives, Makes, Move, Writing, arrivals_of_move, bytes_of_move}
pub use Rattle.uip_device.specs.Moves.{counts_of_move, goes_by_datagram, run_move, with_value}
pub use Rattle.uip_device.specs.Output.{counts_reached, datagrams_sent, guard_reached, line_sent, node_reached}
pub use Rattle.uip_device.specs.Sending.{HandsOut, SendsOver, TookArrivals, datagram_sent, text_sent, wire_text}
pub use Rattle.uip_device.specs.WebDevices.{DeviceRepresents, FailsAs, IsFirstShared, IsFreshWebDevice, IsLongWithValues, IsOfImage}
pub use Rattle.uip_device.specs.WebDevices.{IsSoundWebDevice, NodeRepresents, WebDevice, WebNode, first_numbers, value_pages, web_rules}
pub use Rattle.uip_device.specs.WebDevices.{value_spec, web_datagrams_sent, web_line_sent, web_node_after, write_value}
pub use Rattle.uip_device.specs.Query.{QueryContent, ReadsQuery, query_after, query_in, query_of}
