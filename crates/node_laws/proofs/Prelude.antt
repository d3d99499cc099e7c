-- The names that the proofs of this crate cite: of std, of the crates below, and of its own definitions. Declares nothing.
pub use Rattle.app_events.specs.Prelude.{After, AppSpec, AppState, CanSend, IsAddr, IsByte, IsNow, IsPaged, IsPrefixOf, IsSnapshot, IsU32}
pub use Rattle.app_events.specs.Prelude.{MayWant, Pages, Snapshot, fixed_spec, fixed_text, hello, is_time_wait, some_received}
pub use Rattle.app_events.specs.declared.ending.Ending.TheVariants.{Reset}
pub use Rattle.app_events.specs.declared.now.Now.{Now}
pub use Rattle.app_events.specs.declared.state.State.{State}
pub use Rattle.app_events.specs.declared.state.State.TheVariants.{CloseWait, Closed, Closing, Established, FinWait1, FinWait2, LastAck}
pub use Rattle.app_events.specs.declared.state.State.TheVariants.{SynRcvd, TimeWait}
pub use Rattle.app_events.specs.declared.want.Want.{Want}
pub use Rattle.app_events.specs.declared.want.Want.TheVariants.{Abort, Close, Nothing, Send}
pub use Rattle.icmp_echo.specs.Prelude.{echo_fate}
pub use Rattle.icmp_echo.specs.declared.fate.IcmpFate.{IcmpFate}
pub use Rattle.node_laws.specs.Prelude.{AcceptsPrefix, Account, AccountHolds, Acknowledges, Arrives, ArrivesIn, ArrivesUnderLoss, Asker}
pub use Rattle.node_laws.specs.Prelude.{AsksOverLoss, HasAcknowledged, IsLossy, IsOnItsWay, IsOverLoss, IsWithoutFin, Progresses}
pub use Rattle.node_laws.specs.Prelude.{ReceivesStale, acknowledges_new, expected_next}
pub use Rattle.node_laws.specs.Prelude.{fresh, in_handshake, is_stale, retransmission_limit, retransmissions, sent_next, with_fresh, Begins}
pub use Rattle.node_laws.specs.Prelude.{CarriesByte, EndsAfter, EveryTraceConforms, EveryTraceOfPagesConforms, Exchange, FitsNewest}
pub use Rattle.node_laws.specs.Prelude.{FitsWindows, FollowsModelAt, FollowsPagesAt, Free, HasItsPage, HasOutputModel, HonestPeer}
pub use Rattle.node_laws.specs.Prelude.{IncarnationConforms, Interactive, IsSelection, IsAcknowledged, IsAtOffset, IsEchoed, IsExtendedBy}
pub use Rattle.node_laws.specs.Prelude.{IsHonest, IsIncarnationIn, IsNewText, IsOfLine, IsOutstanding, IsPagedAt, IsPassedOver}
pub use Rattle.node_laws.specs.Prelude.{IsPrefixOfPage, IsDecoded, IsDecodedAt, IsReceived, IsRetried, IsRetriedIn, IsSolicited}
pub use Rattle.node_laws.specs.Prelude.{IsWaitedFor, IsWithoutReset, LeavesDelivered, ContinuesUnreset, NothingUnsolicited}
pub use Rattle.node_laws.specs.Prelude.{NumbersGiveOffsets, Opening, OpensServed, OutputModel, Paged, PlainestReceives, RetransmitsOrResets}
pub use Rattle.node_laws.specs.Prelude.{RetriesIn, SendsNext, SendsSlice, SendsSyn, SpeaksBy, TextConforms, TraceConforms, TraceEntry}
pub use Rattle.node_laws.specs.Prelude.{WindowsAreRespected, WrongIncarnationsFall, acknowledges_refused, at_every_port, awaits_ack}
pub use Rattle.node_laws.specs.Prelude.{bare_acks, calls_of, cut_again, echoes_before, ends_early, exchange, exchanged, exchanges_onto}
pub use Rattle.node_laws.specs.Prelude.{exchanges_with, given_up, hello_pages, in_turn, is_bare_ack, is_empty, is_incarnation, is_opening}
pub use Rattle.node_laws.specs.Prelude.{mirror_pages, of_bytes, of_call, of_overlong, opened, received_at, received_from, receives}
pub use Rattle.node_laws.specs.Prelude.{receives_all, repeats_byte, replies_of, seen_from_peer, segment, sent_again, sent_at, sent_to}
pub use Rattle.node_laws.specs.Prelude.{sequence_length, takes_next, reports_another, text_received, trace_of, two_under_way, with_first}
pub use Rattle.rexmit_timer.specs.Prelude.{ages, beat_at, give_up_age}
pub use Rattle.rexmit_timer.specs.declared.timer.Beat.{Beat}
pub use Rattle.std.proofs.Common.{Bool, List, None, Option, Result, Some, [], ap, append_assoc, arith, bytes_eq, drop, eqb, false}
pub use Rattle.std.proofs.Common.{if◌then◌else◌, inl, inr, is_some, length, length-append, length-drop, length-take, ltb, map, min, not}
pub use Rattle.std.proofs.Common.{position, refl, replicate, set, slice_get, slice_index, slice_index_or, subst, suc, sym, take, true, zero}
pub use Rattle.std.proofs.Common.{ℕ, ◌%◌, ◌&&◌, ◌++◌, ◌+◌, ◌-◌, ◌<◌, ◌==◌, ◌||◌, ◌∙◌, ◌∷◌, ◌≡◌, ◌≤◌, ◌⊎◌}
pub use Rattle.std.proofs.Math.Seq.{take-add}
pub use Rattle.std.proofs.lemmas.Bool.{cases_lt, eq-eqb}
pub use Rattle.std.proofs.lemmas.Grind.{common_steps}
pub use Rattle.std.proofs.lemmas.List.{length-take-le, take-append-drop, take-append-le, take_all}
pub use Rattle.std.proofs.lemmas.List.Elements.{All-cons, All-drop, All-head, All-nil, All-tail, All-take}
pub use Rattle.std.specs.List.{All, list_any}
pub use Rattle.std.specs.Option.{option_map_or, option_or}
pub use Rattle.std.specs.Prelude.{option_map}
pub use Rattle.tcp_machine.specs.Prelude.{Connection, Outcome, Sockets, accepted, after_own_fin, ask, asked, bare_ack, by_beat, by_state}
pub use Rattle.tcp_machine.specs.Prelude.{closed, closes, does_as_wanted, fin_of, first_mss, grows_older, has_text, delivers_text, in_state}
pub use Rattle.tcp_machine.specs.Prelude.{is_acked, is_again, is_live, is_open, is_out_of_order, is_plain_syn, leaves, limit_of}
pub use Rattle.tcp_machine.specs.Prelude.{occupies_sequence_space, on_tick, outstanding, peer_has_closed, polls, prepared, rcv_nxt}
pub use Rattle.tcp_machine.specs.Prelude.{reset_for_no_connection, reset_of, rests, row_of, rows_from, same_sockets, segment_of, serves}
pub use Rattle.tcp_machine.specs.Prelude.{snd_una, syn_ack, takes, text_segment, tick_by, reported_end, waits_for_ack, with_part}
pub use Rattle.tcp_machine.specs.Prelude.{with_window}
unfoldable pub use Rattle.tcp_machine.specs.Prelude.{fin_acked, fin_waits, idles, in_established, on_segment, peer_closes, rests_on}
unfoldable pub use Rattle.tcp_machine.specs.Prelude.{stays_established, ticks_established}
pub use Rattle.tcp_machine.specs.declared.step.Step.{Step}
pub use Rattle.tcp_segment.specs.Prelude.{Datagram, IsReadBack, PlainSegment, has_ack, has_fin, has_rst, has_syn, head_of, header_len}
pub use Rattle.tcp_segment.specs.Prelude.{pseudo_header}
unfoldable pub use Rattle.tcp_segment.specs.Prelude.{datagram_bytes, segment_in}
pub use Rattle.tcp_segment.specs.declared.fate.TcpFate.{TcpFate}
pub use Rattle.tcp_segment.specs.declared.flags.TheConstants.{ACK, FIN, PSH, RST, SYN}
pub use Rattle.tcp_segment.specs.declared.segment.Segment.{Segment}
pub use Rattle.tcp_table.specs.Prelude.{longest_wait}
pub use Rattle.uip_ipv4.specs.Prelude.{head_by, payload_of, proto_of}
unfoldable pub use Rattle.uip_ipv4.specs.Prelude.{head_or_fate}
pub use Rattle.uip_ipv4.specs.declared.fate.IpFate.{IpFate}
pub use Rattle.uip_ipv4.specs.declared.head.IpHead.{IpHead}
pub use Rattle.uip_ipv4.specs.declared.proto.Proto.{Proto}
pub use Rattle.uip_ipv4.specs.declared.proto.Proto.TheVariants.{Icmp}
pub use Rattle.uip_node.proofs.Basics.{IsPart, and_false, and_true, append_nothing, both_ways, choose, cut_length, cut_part, eqb-eq}
pub use Rattle.uip_node.proofs.Basics.{ltb-yes, ltb-zero, not-false, not-true, only_some, part_grows, prefix_length, prefix_part}
pub use Rattle.uip_node.proofs.Basics.{prefix_refl, same_place, wrap_low, wrap_wrap, zero_or_more}
pub use Rattle.uip_node.proofs.Cases.{asked_by, by_open, by_own_fin, fin_lives, is_ask, no_ask_again, on_tick_by, open_live}
pub use Rattle.uip_node.proofs.Connections.{Single, all_closed, find_is, get_set, get_set_other, get_set_same, index_none, index_of}
pub use Rattle.uip_node.proofs.Connections.{is_served, none_serves, serving_free, serving_gone, serving_is, serving_new, serving_other}
pub use Rattle.uip_node.proofs.Connections.{set_past, set_same, single_set}
pub use Rattle.uip_node.proofs.Connections.Finds.{finds, finds_none}
pub use Rattle.uip_node.proofs.Connections.Served.{free, served}
pub use Rattle.uip_node.proofs.Connections.Written.{here, there}
pub use Rattle.uip_node.proofs.DatagramsBack.{IsPlace, datagram_back, datagram_short}
pub use Rattle.uip_node.proofs.DeliveredBytes.{DeliveredBytes, asked_bytes, on_segment_bytes, on_tick_bytes, page_bytes}
pub use Rattle.uip_node.proofs.Finding.{found}
pub use Rattle.uip_node.proofs.FitNodes.{FitNode, closed_fits, event_fits, node_snapshot, slot_inside}
pub use Rattle.uip_node.proofs.Fits.{FitConn, FitOut, accepted_fits, all_cons, all_nil, asked_fits, on_segment_fits, on_tick_fits}
pub use Rattle.uip_node.proofs.Fits.{prepared_snapshots}
pub use Rattle.uip_node.proofs.Handed.{receives_is, prepare_is}
pub use Rattle.uip_node.proofs.Acknowledged.{Moves, asked_moves, segment_moves, tick_moves}
pub use Rattle.uip_node.proofs.Peers.{asked_keeps, on_segment_keeps, on_tick_closed, on_tick_keeps}
pub use Rattle.uip_node.proofs.SocketPairs.{is_same, same_is, same_self, serves_dead, serves_not, serves_yes}
pub use Rattle.uip_node.proofs.SoundSegments.{IsSoundSegment, Lens, LensWithin, accepted_lens, asked_lens, asked_within, closed_lens}
pub use Rattle.uip_node.proofs.SoundSegments.{first_low}
pub use Rattle.uip_node.proofs.SoundSegments.{on_segment_lens, on_segment_within, on_tick_lens, on_tick_within, sent_sound}
pub use Rattle.uip_node.proofs.Steadiness.{steady_of}
pub use Rattle.uip_node.proofs.Stepped.{stepped_fits, stepped_reports}
pub use Rattle.uip_node.proofs.Outstanding.{IsDue, OutReports, Safe, SafeState, StepReports, alike_refl, alike_sym, alike_trans, due}
pub use Rattle.uip_node.proofs.Outstanding.{segment_reports, tick_reports}
pub use Rattle.uip_node.specs.Prelude.{AbstractNode, Alike, AnswersPolled, Arrived, Echo, EchoAsked, Event, GoesOnBy, HasBytes}
pub use Rattle.uip_node.specs.Prelude.{HistoryEntry, IcmpRefused, IpRefused, IsEvent, IsSlice, IsSteady, NodeStep, Overlong, Periodic}
pub use Rattle.uip_node.specs.Prelude.{Reply, SendsBytes, TcpReply, TcpRefused, arrives_at, by_head, by_proto, by_segment, called_by}
pub use Rattle.uip_node.specs.Prelude.{connection_in, datagram_to, event_of, ident_of, initial_node, initial_number, joined, opens}
pub use Rattle.uip_node.specs.Prelude.{periodic, refuses, run, serving, slot_for_syn, snapshot, step}
unfoldable pub use Rattle.uip_node.specs.Prelude.{for_no_connection, happened, opens_in}
pub use Rattle.uip_wire.specs.Prelude.{address_at, checksum_of, long_at, word_at, wrap}
pub use Rattle.uip_wire.specs.declared.addr.Addr.{Addr}
pub use Rattle.uip_wire.specs.declared.sizes.TheConstants.{OWN_MSS}
