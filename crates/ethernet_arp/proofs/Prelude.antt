-- The names that the proofs of this crate cite: of std, of the crates below, and of its own definitions. Declares nothing.
pub use Rattle.app_events.specs.Prelude.{AppSpec, IsByte}
pub use Rattle.app_events.specs.declared.app.App.{Ghosts}
pub use Rattle.ethernet_arp.specs.Prelude.{Act, AllGoHome, AllRemember, AreOlder, AreOrdered, Asked, DatagramsFitFrames, GoesHome, Holds}
pub use Rattle.ethernet_arp.specs.Prelude.{Host, InFrame, IsAlike, IsTaught, Knows, Learning, Pair, Puts, Remembers, Replied, TakesIn}
pub use Rattle.ethernet_arp.specs.Prelude.{Ticked, addresses_of, aged, among, arp_begin, arp_brings, arp_packet, arp_reply, arp_request}
pub use Rattle.ethernet_arp.specs.Prelude.{broadcast, brought_from, came_of, closed_by, ether_medium, ether_text, frame_brings, frame_with}
pub use Rattle.ethernet_arp.specs.Prelude.{framed, frames_from, host_of, in_table, is_arp, is_arp_for, is_datagram, is_fresh, is_of}
pub use Rattle.ethernet_arp.specs.Prelude.{is_sendable, is_taken, is_whole, known, last_learning, learning_by, mac_at, moved_prefix, no_mac}
pub use Rattle.ethernet_arp.specs.Prelude.{open_from, payload_brings, ping, pong, question, reply, request, sender_of, shown_of, target_in}
pub use Rattle.ethernet_arp.specs.Prelude.{taught, ticks_in, whole_brings, with_one, wrapped, written_for}
pub use Rattle.ethernet_arp.specs.declared.arp.Arp.{Arp}
pub use Rattle.ethernet_arp.specs.declared.arp.Entry.{Entry}
pub use Rattle.ethernet_arp.specs.declared.frame_part.FramePart.{FramePart}
pub use Rattle.icmp_echo.specs.Prelude.{echo_fate, echo_message, echo_reply}
pub use Rattle.icmp_echo.specs.declared.fate.IcmpFate.{IcmpFate}
pub use Rattle.line_medium.specs.Prelude.{Datagram, MediumInput, MediumSpec, Overlong, Own, ReportsBrought, acts_among, all_decoded}
pub use Rattle.line_medium.specs.declared.medium.Decoded.{Decoded}
pub use Rattle.serve_loop.specs.Prelude.{AllWritten, BringsBytes, CarriesBytes, IsStationed, OfMedium, OfNode, PrefixWritten, WrittenAtEnd}
pub use Rattle.serve_loop.specs.Prelude.{ServesOver, Station, StationEvent, beat_on, is_beat, output, output_of_event, reply_text}
pub use Rattle.serve_loop.specs.Prelude.{station_after, station_after_all, station_event_by, station_events_after, station_events_of_line}
pub use Rattle.serve_loop.specs.Prelude.{tick_on}
pub use Rattle.std.proofs.Common.{Bool, Err, List, None, Ok, Option, Result, Some, [], add-one, ap, append-nil, append_assoc, arith, cond}
pub use Rattle.std.proofs.Common.{drop, eq-eqb, eqb, false, get_or, if◌then◌else◌, inl, inr, length, length-append, length-drop}
pub use Rattle.std.proofs.Common.{length-take, ltb, map, min, nat_le, nat_lt, ne_eqb, not, option_to_list, position, refl, replicate, set}
pub use Rattle.std.proofs.Common.{slice_index, slice_index_or, subst, suc, sym, take, true, zero, ℕ, ◌%◌, ◌&&◌, ◌*◌, ◌++◌, ◌+◌, ◌-◌, ◌/◌}
pub use Rattle.std.proofs.Common.{◌<◌, ◌==◌, ◌||◌, ◌∙◌, ◌∷◌, ◌≡◌, ◌≤◌, ◌⊎◌}
pub use Rattle.std.proofs.Math.Seq.{take-append-add, take-append_seam}
pub use Rattle.std.proofs.lemmas.Bool.{and_from, and_parts, le-leb, le-ltb, leb-false, leb-true, lt-ltb, ltb-false, ltb-true, or_parts}
pub use Rattle.std.proofs.lemmas.List.{drop-drop, drop-take, drop_all, get_or_default, length-map, length-take-le, take-append-le, take_all}
pub use Rattle.std.proofs.lemmas.List.{take_rest}
pub use Rattle.std.proofs.lemmas.List.Edits.{map_over_more}
pub use Rattle.std.proofs.lemmas.List.Elements.{All-append, All-cons, All-drop, All-head, All-nil, All-tail}
pub use Rattle.std.proofs.lemmas.List.Folds.{find_at}
pub use Rattle.std.proofs.lemmas.List.Recursion.{is_position_or_len}
pub use Rattle.std.proofs.lemmas.List.Sums.{position_or_len_is}
pub use Rattle.std.proofs.lemmas.Slice.Eq.{bytes_eq-Decides}
pub use Rattle.std.specs.List.{All, find, list_any, position_or_len}
pub use Rattle.std.specs.Option.{option_and_then, option_map_or, option_or}
pub use Rattle.std.specs.Prelude.{bytes_eq, option_map, slice_get, slice_range, ⊤}
pub use Rattle.tcp_machine.specs.Prelude.{Connection, Outcome, Sockets, accept, bare_ack, closed, fin_of, is_plain_syn, on_tick}
pub use Rattle.tcp_machine.specs.Prelude.{reset_for_no_connection, reset_of, segment_of, serves, syn_ack, text_segment}
unfoldable pub use Rattle.tcp_machine.specs.Prelude.{on_segment}
pub use Rattle.tcp_machine.specs.declared.step.Step.{Step}
pub use Rattle.tcp_segment.specs.Prelude.{segment_or_fate}
pub use Rattle.tcp_segment.specs.declared.fate.TcpFate.{TcpFate}
pub use Rattle.tcp_segment.specs.declared.segment.Segment.{Segment}
pub use Rattle.uip_edge.specs.Prelude.{LineView}
pub use Rattle.uip_edge.specs.declared.item.Item.{Item}
pub use Rattle.uip_edge.specs.declared.item.Item.TheVariants.{Byte, Quiet}
pub use Rattle.uip_edge.specs.declared.serve_end.ServeEnd.{ServeEnd}
pub use Rattle.uip_ipv4.proofs.Back.{length-head_bytes}
pub use Rattle.uip_ipv4.proofs.Facts.{facts_at}
pub use Rattle.uip_ipv4.specs.Prelude.{head_by, payload_of, proto_of}
unfoldable pub use Rattle.uip_ipv4.specs.Prelude.{head_bytes, head_or_fate}
pub use Rattle.uip_ipv4.specs.declared.fate.IpFate.{IpFate}
pub use Rattle.uip_ipv4.specs.declared.head.IpHead.{IpHead}
pub use Rattle.uip_ipv4.specs.declared.proto.Proto.{Proto}
pub use Rattle.uip_ipv4.specs.declared.proto.Proto.TheVariants.{Icmp, Tcp}
pub use Rattle.uip_node.proofs.Basics.{choose, only_some}
pub use Rattle.uip_node.proofs.Connections.{get_set}
pub use Rattle.uip_node.proofs.Connections.Written.{here, there}
pub use Rattle.uip_node.proofs.DatagramsBack.{small_size}
pub use Rattle.uip_node.proofs.Peers.{asked_keeps, on_segment_keeps, on_tick_keeps}
pub use Rattle.uip_node.proofs.SoundSegments.{Lens, accepted_lens, asked_lens, closed_lens, on_segment_lens, on_tick_lens}
pub use Rattle.uip_node.proofs.Stepping.{reply_length}
pub use Rattle.uip_node.specs.Prelude.{AbstractNode, Arrived, EchoAsked, Event, IcmpRefused, IpRefused, Node, NodeStep, Periodic, Reply}
pub use Rattle.uip_node.specs.Prelude.{TcpRefused, arrives_at, by_head, by_proto, by_segment, connection_in, datagram_to, event_of}
pub use Rattle.uip_node.specs.Prelude.{initial_node, initial_number, opens, reply_bytes, slot_for_syn, snapshot, step, tick}
unfoldable pub use Rattle.uip_node.specs.Prelude.{for_no_connection, happened, opens_in}
pub use Rattle.uip_wire.proofs.Words.{length-bytes_of}
pub use Rattle.uip_wire.specs.Prelude.{address_at, bytes_of, checksum_of, word_at, word_bytes, written}
unfoldable pub use Rattle.uip_wire.specs.Prelude.{folded}
pub use Rattle.uip_wire.specs.declared.addr.Addr.{Addr}
