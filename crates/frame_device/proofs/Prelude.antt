-- The names that the proofs of this crate cite: of std, of the crates below, and of its own definitions. Declares nothing.
pub use Rattle.ethernet_arp.proofs.SendingLaws.{AllSound, IsActSound, kind_of, known_last, last_six, payload_of, sound_more, to_of}
pub use Rattle.ethernet_arp.specs.Prelude.{Act, Asked, Host, Pair, Replied, Ticked, arp_brings, arp_packet, arp_reply, broadcast}
pub use Rattle.ethernet_arp.specs.Prelude.{ether_medium, ether_text, frame_brings, frame_with, framed, host_of, is_arp, is_arp_for}
pub use Rattle.ethernet_arp.specs.Prelude.{is_datagram, is_sendable, is_taken, known, last_learning, mac_at, no_mac, payload_brings}
pub use Rattle.ethernet_arp.specs.Prelude.{writes_at, sender_of, wrapped_to, wrapped_via}
pub use Rattle.frame_device.specs.Newest.{HasNewest, NewestConforms, NewestInEachSlot}
pub use Rattle.frame_device.specs.Prelude.{AllHome, AnsweredFrame, AnswersAllFrames, AnswersFrameMove, CallsSlot, DecodesBytes, DoesNothing}
pub use Rattle.frame_device.specs.Prelude.{FrameCall, FrameMove, FrameSpec, FrameTrace, FramesConform, FramesGoHome, Gives, GuardedLink}
pub use Rattle.frame_device.specs.Prelude.{HandsOutFrame, InputsFrame, Interface, IsFrameOfBytes, IsFreshFrameDevice, IsHome, IsOneLink}
pub use Rattle.frame_device.specs.Prelude.{IsSilent, KeepsU32, Makes, RepresentsStation, SentAsOnLine, Writing, acts_before, as_medium}
pub use Rattle.frame_device.specs.Prelude.{ether_frames, frame_moves_of, frame_sent, frames_sent, guarded_ether, input_events, guarded_link}
pub use Rattle.frame_device.specs.Prelude.{handed_of, hop_of, interface_of, is_on_link, lensed, masked, next_hop, no_address, on_line}
pub use Rattle.frame_device.specs.Prelude.{output_of_call, station_after_frame_call, station_after_move, station_after_moves}
pub use Rattle.frame_device.specs.Prelude.{station_events_by, station_events_of_move, stations_at, wire_medium, with_value}
pub use Rattle.frame_device.specs.Prelude.{counts_after_moves, counts_by_call, counts_by_inputs, counts_by_move}
pub use Rattle.frame_device.specs.declared.device.FrameDevice.{FrameDevice}
pub use Rattle.frame_device.specs.declared.network.Network.{Network}
pub use Rattle.guarded_node.proofs.Resets.{unanswered}
pub use Rattle.guarded_node.specs.Counts.{fresh_guard}
pub use Rattle.guarded_node.specs.Guarded.{by_verdict, guarded, reset_by}
pub use Rattle.guarded_node.specs.Runs.{HasRun, IsSentOver, TakesEvents}
pub use Rattle.guarded_node.specs.Wire.{leaving}
pub use Rattle.guarded_node.specs.declared.guard.Guard.{Guard}
pub use Rattle.guarded_node.specs.declared.guard.GuardCounts.{GuardCounts}
pub use Rattle.guarded_node.specs.declared.guard.Rules.{Rules}
pub use Rattle.guarded_node.specs.declared.verdict.Verdict.{Verdict}
pub use Rattle.guarded_node.specs.declared.verdict.Verdict.TheVariants.{Displace, Drop, Pass}
pub use Rattle.guard_laws.specs.Lens.{lens}
pub use Rattle.guard_laws.specs.Shifted.{entry_on_wire}
pub use Rattle.guard_laws.proofs.Conforms.{wire_conforms}
pub use Rattle.guard_laws.proofs.Lens.{lens_is_shift}
pub use Rattle.guard_laws.proofs.OfLine.{Ported, guarded_of_line, ported_on, ported_start}
pub use Rattle.sip_hash.specs.declared.key.Key.{Key}
pub use Rattle.line_medium.specs.Prelude.{Datagram, MediumInput, MediumSpec, Overlong, Own, acts_among, all_written}
pub use Rattle.line_laws.specs.Prelude.{events_among, text_in}
pub use Rattle.node_laws.proofs.EveryTraceConforms.{every_step, paged_everywhere}
pub use Rattle.node_laws.proofs.TurnRuns.{turn_events}
pub use Rattle.node_laws.specs.Prelude.{HasOutputModel, IsOfLine, IsDecoded, OutputModel, TraceConforms, TraceEntry, at_every_port}
pub use Rattle.node_laws.specs.Prelude.{of_bytes, of_call, of_overlong, trace_of, Account, AccountHolds, Exchange, IncarnationConforms}
pub use Rattle.node_laws.specs.Prelude.{IsExtendedBy, TextConforms, exchange, exchanges_onto, exchanges_with, is_empty, is_incarnation}
pub use Rattle.node_laws.specs.Prelude.{is_opening}
pub use Rattle.serve_loop.proofs.NodeLaws.{node_step}
pub use Rattle.serve_loop.specs.Prelude.{CarriesBytes, IsHere, IsNode, OfMedium, OfNode, Station, StationEvent, initial_station, output}
pub use Rattle.serve_loop.specs.Prelude.{output_of_event, reply_text, station_after, station_after_all, station_event_by}
pub use Rattle.std.proofs.Common.{Bool, List, None, Option, Some, [], ap, append-nil, append_assoc, arith, drop, false, if◌then◌else◌, inl}
pub use Rattle.std.proofs.Common.{inr, length, length-append, length-drop, length-take, map, nat_lt, refl, subst, sym, take, true, ℕ, ◌&&◌}
pub use Rattle.std.proofs.Common.{◌++◌, ◌+◌, ◌-◌, ◌<◌, ◌==◌, ◌||◌, ◌∙◌, ◌∷◌, ◌≡◌, ◌⊎◌, zero, suc}
pub use Rattle.std.proofs.lemmas.Bool.{false≢true, or_left, or_right}
pub use Rattle.std.proofs.lemmas.List.{drop-take}
pub use Rattle.std.proofs.lemmas.List.Elements.{All-append, All-cons, All-head, All-nil, All-tail}
pub use Rattle.std.specs.Int.Bits.{and_zero_r}
pub use Rattle.std.specs.Prelude.{All, bytes_eq, flat_map, is_some, replicate, slice_get, slice_index, slice_index_or, ⊤}
pub use Rattle.uip_node.proofs.Basics.{choose, both_ways}
pub use Rattle.uip_node.proofs.DeliveredBytes.{page_bytes}
pub use Rattle.uip_node.proofs.Prelude.{Addr, AppSpec, Buffer, Ghosts, IsAddr, IsByte, IsPaged, IsU32, Pages, bytes_eq-Decides, datagram_in}
pub use Rattle.uip_node.proofs.Prelude.{take-append_seam}
pub use Rattle.uip_node.proofs.Steadiness.{steady_of}
pub use Rattle.tcp_machine.specs.Prelude.{Sockets, is_plain_syn}
pub use Rattle.tcp_segment.specs.Prelude.{PlainSegment, has_rst}
pub use Rattle.uip_node.specs.Prelude.{AbstractNode, Arrived, Event, HasBytes, IsSent, IsSteady, Node, Periodic, Reply, Represents}
pub use Rattle.uip_node.specs.Prelude.{SendsBytes, Steps, event_of, reply_bytes, run, step, IsEvent, connection_in, initial_node, serving}
pub use Rattle.uip_wire.specs.Prelude.{address_at, word_at, word_bytes, written}
