-- The names that the proofs of this crate cite: of std, of the crates below, and of its own definitions. Declares nothing.
pub use Rattle.app_events.specs.Prelude.{AppSpec, IsAddr, IsByte, IsU32}
pub use Rattle.line_medium.specs.Prelude.{Datagram, MediumInput, MediumSpec, Overlong, Own}
pub use Rattle.line_laws.specs.Prelude.{EveryLineArrives, EveryLineConforms, PrefixConforms, events_among, text_in}
pub use Rattle.node_laws.proofs.EveryTraceConforms.{every_trace_conforms, paged_everywhere}
pub use Rattle.node_laws.proofs.HonestPeers.{arrives_under_loss}
pub use Rattle.node_laws.proofs.TurnRuns.{turn_events}
pub use Rattle.node_laws.specs.Prelude.{ArrivesIn, Exchange, HasOutputModel, at_every_port, IsEchoed, IsOfLine, OutputModel, TraceConforms}
pub use Rattle.node_laws.specs.Prelude.{TraceEntry, exchange, exchanges_onto, exchanges_with, of_bytes, of_call, of_overlong, trace_of}
pub use Rattle.serve_loop.proofs.ByteLaws.{slip_brings_bytes}
pub use Rattle.serve_loop.specs.Prelude.{BringsBytes, CarriesBytes, IsItem, OfMedium, OfNode, Station, StationEvent, beat_on}
pub use Rattle.serve_loop.specs.Prelude.{initial_station, is_beat, output, output_of_event, reply_text, slip_medium, station_after}
pub use Rattle.serve_loop.specs.Prelude.{station_event_by, station_events_after, station_events_of_line, tick_on}
pub use Rattle.std.proofs.Common.{Bool, List, [], ap, append_assoc, length, map, refl, subst, sym, ℕ, ◌++◌, ◌+◌, ◌<◌, ◌∙◌, ◌∷◌, ◌≡◌}
pub use Rattle.std.proofs.lemmas.List.Elements.{All-append, All-cons, All-head, All-map, All-nil, All-tail, All-weaker}
pub use Rattle.std.specs.List.{All}
pub use Rattle.tcp_machine.specs.Prelude.{Sockets}
pub use Rattle.uip_edge.specs.declared.item.Item.{Item}
pub use Rattle.uip_edge.specs.declared.item.Item.TheVariants.{Byte, Quiet}
pub use Rattle.uip_node.proofs.Basics.{choose}
pub use Rattle.uip_node.proofs.DeliveredBytes.{page_bytes}
pub use Rattle.uip_node.proofs.Steadiness.{steady_of}
pub use Rattle.uip_node.specs.Prelude.{AbstractNode, IsSteady, SendsBytes, Periodic, initial_node, tick}
pub use Rattle.uip_wire.specs.declared.addr.Addr.{Addr}
