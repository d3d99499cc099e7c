-- The names that the proofs of this crate cite: of std, of the crates below, and of its own definitions. Declares nothing.
pub use Rattle.app_events.specs.Prelude.{AppSpec, IsByte}
pub use Rattle.app_events.specs.declared.app.App.{Ghosts}
pub use Rattle.line_medium.specs.Prelude.{MediumInput, MediumSpec, Own, acts_among, all_decoded, all_written}
pub use Rattle.serve_loop.specs.Prelude.{AllWritten, BringsBytes, CarriesBytes, HasPassed, HasTaken, IsHere, IsItem, IsNode, IsStationed}
pub use Rattle.serve_loop.specs.Prelude.{NoAct, OfMedium, OfNode, PrefixWritten, WrittenAtEnd, ServesOver, Station, StationEvent, StopsIn}
pub use Rattle.serve_loop.specs.Prelude.{Turns, beat, beat_on, came_by, event_by, events_after, is_beat, line_events, output}
pub use Rattle.serve_loop.specs.Prelude.{output_of_event, reply_text, slip_medium, station_after, station_after_all, station_event_by}
pub use Rattle.serve_loop.specs.Prelude.{station_events_after, station_events_of_line, text_for, text_of, tick_on}
pub use Rattle.serve_loop.specs.declared.pacer.Pacer.{Pacer}
pub use Rattle.std.proofs.Common.{Bool, List, None, OnErr, OnOk, Option, Result, Some, [], add-one, add-suc, add-zero, ap, append-nil}
pub use Rattle.std.proofs.Common.{append_assoc, arith, drop, eq-eqb, eqb, false, if◌then◌else◌, length, length-append, length-take, map}
pub use Rattle.std.proofs.Common.{nat_le, nat_lt, ne_eqb, position, refl, subst, suc, sym, take, true, zero, ℕ, ◌%◌, ◌&&◌, ◌++◌, ◌+◌, ◌-◌}
pub use Rattle.std.proofs.Common.{◌<◌, ◌∙◌, ◌∷◌, ◌≡◌, ◌≤◌}
pub use Rattle.std.proofs.Math.Nat.{mod-add-mod, mod-eq_of_lt, mod_self}
pub use Rattle.std.proofs.lemmas.Bool.{eqb-true, lt-ltb, ltb-true}
pub use Rattle.std.proofs.lemmas.List.{length-take-le, map-append, take-append-drop, take-take}
pub use Rattle.std.proofs.lemmas.List.Elements.{All-append, All-cons, All-head, All-map, All-nil, All-tail}
pub use Rattle.std.proofs.lemmas.Result.{on_err_weaker, on_ok_weaker}
pub use Rattle.std.specs.Io.KnownBytes.{Appends}
pub use Rattle.std.specs.List.{All}
pub use Rattle.tcp_machine.specs.Prelude.{Connection, Outcome, Sockets, asked, is_plain_syn, on_tick, serves}
unfoldable pub use Rattle.tcp_machine.specs.Prelude.{on_segment}
pub use Rattle.tcp_segment.specs.Prelude.{PlainSegment, has_rst}
pub use Rattle.uip_edge.proofs.Breaking.{breaks_by, breaks_then}
pub use Rattle.uip_edge.proofs.Reported.{Appends-none, Appends-then, Consumes-none, Consumes-then, appends_by, bytes_among-append}
pub use Rattle.uip_edge.proofs.Reported.{bytes_among-map, moved_on, on_err, taken_within}
pub use Rattle.uip_edge.proofs.Turns.{calm_then, counted, ends_by}
pub use Rattle.uip_edge.specs.Prelude.{BreaksOff, Consumes, EndsBy, IsCalm, LineUnfailed, LineView, bytes_among, line_view}
pub use Rattle.uip_edge.specs.declared.item.Item.{Item}
pub use Rattle.uip_edge.specs.declared.item.Item.TheVariants.{Byte, Quiet}
pub use Rattle.uip_edge.specs.declared.serve_end.ServeEnd.{ServeEnd}
pub use Rattle.uip_edge.specs.declared.turn.Turn.TheVariants.{Ended}
pub use Rattle.uip_node.proofs.Basics.{both_ways, choose}
pub use Rattle.uip_node.specs.Prelude.{AbstractNode, Arrived, EchoAsked, Event, IcmpRefused, IpRefused, IsSent, Node, NodeStep, Periodic}
pub use Rattle.uip_node.specs.Prelude.{Ran, Reply, Represents, Silent, Steps, TcpRefused, arrives_at, connection_in, event_of, joined}
pub use Rattle.uip_node.specs.Prelude.{opens, passes, refuses, run, seen, slot_for_syn, snapshot, step, tick}
unfoldable pub use Rattle.uip_node.specs.Prelude.{for_no_connection, happened, opens_in}
pub use Rattle.uip_slip.proofs.FrameLaws.{completed_by, completed_reported}
pub use Rattle.uip_slip.proofs.PartLaws.{open_part-end, open_part-plain, parts-byte}
pub use Rattle.uip_slip.specs.Prelude.{Datagram, Frame, Overlong, completed, frame_of, frames, meant, open_part, unescaped}
pub use Rattle.uip_wire.specs.declared.addr.Addr.{Addr}
pub use Rattle.uip_wire.specs.declared.sizes.TheConstants.{LARGEST_DATAGRAM}
