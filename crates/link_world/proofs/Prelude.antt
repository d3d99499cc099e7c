-- The names that the proofs of this crate cite: of std, of the crates below, and of its own definitions. Declares nothing.
pub use Rattle.app_events.specs.Prelude.{After, AppSpec, AppState, CanSend, IsAddr, IsByte, IsNow, IsPaged, IsPrefixOf, IsSnapshot, IsU32}
pub use Rattle.app_events.specs.Prelude.{MayWant, Pages, Snapshot, text_left}
pub use Rattle.app_events.specs.declared.ending.Ending.TheVariants.{Reset}
pub use Rattle.link_client.specs.Prelude.{AbstractClient, ClientStep, ack_of, advertises_window, after_fin, client_aborts, client_again}
pub use Rattle.link_client.specs.Prelude.{client_closes, client_receives, client_opens, fin_out, fin_sent, has_closed, has_outstanding}
pub use Rattle.link_client.specs.Prelude.{received_by_head, received_by_proto, received_in, receives_ack, is_receiving, is_reset_by, keeps}
pub use Rattle.link_client.specs.Prelude.{may_finish, next_own, offered, one_if, opened_by, own_fin, own_first, own_request, own_reset}
pub use Rattle.link_client.specs.Prelude.{steps_with, syn_of, takes_text}
unfoldable pub use Rattle.link_client.specs.Prelude.{aborts_by, again_by, client_takes, closes_by, opens_by, sends_next, takes_by}
unfoldable pub use Rattle.link_client.specs.Prelude.{takes_in_order}
pub use Rattle.link_client.specs.declared.client_state.ClientState.{ClientState}
pub use Rattle.link_client.specs.declared.client_state.ClientState.TheVariants.{Opened, Opening}
pub use Rattle.link_client.specs.declared.fin_at.FinAt.{FinAt}
pub use Rattle.link_client.specs.declared.setup.Setup.{Setup}
pub use Rattle.link_schedule.specs.Numbers.{◌>>=◌}
pub use Rattle.link_schedule.specs.declared.event.Event.TheVariants.{Aborts, Again, Closes, Damage, Give, Half, Lose, Opens, Ping, Reverse}
pub use Rattle.link_schedule.specs.declared.event.Event.TheVariants.{Round, Tick, Twice, Window}
pub use Rattle.link_world.specs.Prelude.{AcknowledgedLater, AgainExactly, AgainExactlyPlainly, AsksRequest, BadLine, BytesAreRead}
pub use Rattle.link_world.specs.Prelude.{CapturesFit, CleanParts, Content, CountsBy, DamageIsLoss, DamageIsLossThere, EpochsAreFew}
pub use Rattle.link_world.specs.Prelude.{HasOneEpoch, HasTaken, HasTextNumbers, HonestLink, IsAct, IsExpired, IsInStep, IsLater, IsLoss}
pub use Rattle.link_world.specs.Prelude.{LosingLink}
pub use Rattle.link_world.specs.Prelude.{IsNumberOf, IsOfNode, IsPlainAct, IsPlan, IsPlanned, IsReached, IsReachedPlainly, IsRead}
pub use Rattle.link_world.specs.Prelude.{IsSchedulePlayed, IsSentBy, IsServed, IsServedWhole, IsWholeDatagram, LinesAreActs, MarkIsLow}
pub use Rattle.link_world.specs.Prelude.{MarksRepeats, NoneIsEmpty, OfEcho, OfLine, OfPing, OfSegment, OneConnection, OneRefusal}
pub use Rattle.link_world.specs.Prelude.{OneSegment, PassesBy, PastConnection, Planned, PrefixAndWhole, RepeatsSameBytes, SameBytes}
pub use Rattle.link_world.specs.Prelude.{SameBytesPlainly, SendsPage, SendsAgain, Sent, SentToClients, Side, SidesAsPlanned, TextNumbers}
pub use Rattle.link_world.specs.Prelude.{TextsAreShort, World, acts, acts_of, addressed, becomes_opened, bytes_by, captures_of, changed}
pub use Rattle.link_world.specs.Prelude.{client_acts, client_bytes, client_sockets, client_stepped, delivers, does, epoch, epoch_of, era}
pub use Rattle.link_world.specs.Prelude.{fault_of, fresh_side, handed, handles_all, hands_over, received_by, receives_datagram}
pub use Rattle.link_world.specs.Prelude.{initial_world, is_clean, is_idle, is_refused, mark_after, marked, may_wait, named_fault, needs}
pub use Rattle.link_world.specs.Prelude.{node_bytes, node_handles, node_stepped, numbered, page_of, past_connection_of, past_mark}
pub use Rattle.link_world.specs.Prelude.{planned_of, plays, plays_from, plays_line, posts, posts_of_client, posts_reply, retires}
pub use Rattle.link_world.specs.Prelude.{retires_in, rise, runs, sent_bytes, server_of, server_side, started, state_at, with_client}
pub use Rattle.link_world.specs.Prelude.{with_side}
unfoldable pub use Rattle.link_world.specs.Prelude.{ping_from}
pub use Rattle.link_world.specs.declared.act.Act.{Act}
pub use Rattle.link_world.specs.declared.step_fault.StepFault.{StepFault}
pub use Rattle.link_world.specs.declared.step_fault.StepFault.TheVariants.{AlreadyOpen, Full, NoByte, NoDatagram, NotOpen}
pub use Rattle.link_world.specs.declared.who.Who.{Who}
pub use Rattle.link_world.specs.declared.who.Who.TheVariants.{FromClient, FromNode, Pinger}
pub use Rattle.rexmit_timer.proofs.AgeTable.{repeats}
pub use Rattle.rexmit_timer.specs.Prelude.{ages, beat_at, count_at, give_up_age, tries_at}
pub use Rattle.rexmit_timer.specs.declared.timer.Timer.{Timer}
pub use Rattle.std.proofs.Common.{Bool, Err, IfSome, List, None, Ok, Option, Result, Some, [], ap, append_assoc, arith, bit_xor, bytes_eq}
pub use Rattle.std.proofs.Common.{cond, count_by, drop, eqb, false, filter, flat_map, get_or, if◌then◌else◌, inl, inr, is_none, is_some}
pub use Rattle.std.proofs.Common.{length, length-append, length-drop, length-take, ltb, map, max, min, nat_le, not, position, refl}
pub use Rattle.std.proofs.Common.{replicate, reverse, set, slice_get, slice_index, slice_index_or, subst, suc, sym, take, true, zero, ℕ}
pub use Rattle.std.proofs.Common.{◌%◌, ◌&&◌, ◌*◌, ◌++◌, ◌+◌, ◌-◌, ◌<◌, ◌==◌, ◌||◌, ◌∙◌, ◌∷◌, ◌≡◌, ◌≢◌, ◌≤◌, ◌⊎◌}
pub use Rattle.std.proofs.Math.Nat.{suc-mul}
pub use Rattle.std.proofs.Math.Seq.{take-add, take-append-add, take-length}
pub use Rattle.std.proofs.lemmas.Bool.{cases_lt, eq-eqb, eqb-true, le-ltb, lt-ltb, ne_eqb}
pub use Rattle.std.proofs.lemmas.List.{append-nil, drop_at, take-append-drop, take_all}
pub use Rattle.std.proofs.lemmas.List.Concat.{flat_map-cons}
pub use Rattle.std.proofs.lemmas.List.Elements.{All-append, All-drop, All-filter, All-head, All-tail, All-take}
pub use Rattle.std.proofs.lemmas.List.Recursion.{is_count_by}
pub use Rattle.std.proofs.lemmas.List.Sorted.{All-permutation, IsPermutation-reverse}
pub use Rattle.std.proofs.lemmas.Nat.{xor_of_8}
pub use Rattle.std.proofs.lemmas.Option.{slice_get-map}
pub use Rattle.std.specs.Int.Bits.{xor_assoc, xor_self, xor_zero_l}
pub use Rattle.std.specs.List.{All, list_all, list_any, position_from, range_with_len}
pub use Rattle.std.specs.Prelude.{nat_lt, option_map, ⊤}
pub use Rattle.std.specs.Result.{result_map_both}
pub use Rattle.tcp_machine.specs.Prelude.{Connection, Outcome, Sockets, accept, accepted, after_own_fin, ask, asked, asked_for, bare_ack}
pub use Rattle.tcp_machine.specs.Prelude.{by_beat, by_state, closed, closes, connects, does_as_wanted, fin_of, first_mss, grows_older}
pub use Rattle.tcp_machine.specs.Prelude.{has_text, delivers_text, in_state, is_acked, is_again, is_live, is_open, is_out_of_order}
pub use Rattle.tcp_machine.specs.Prelude.{is_plain_syn, is_resting, leaves, limit_of, occupies_sequence_space, on_tick, outstanding}
pub use Rattle.tcp_machine.specs.Prelude.{peer_has_closed, prepared, rcv_nxt, reset_for_no_connection, reset_of, rests, same_sockets}
pub use Rattle.tcp_machine.specs.Prelude.{segment_of, serves, snd_una, syn_ack, takes, text_segment, tick_by, reported_end, tries_of}
pub use Rattle.tcp_machine.specs.Prelude.{waits_for_ack, with_part, with_window}
pub use Rattle.tcp_segment.specs.Prelude.{Datagram, IsReadBack, PlainSegment, fields_sent, has_ack, has_fin, has_rst, has_syn, head_of}
pub use Rattle.tcp_segment.specs.Prelude.{header_len, pseudo_header, segment_or_fate}
unfoldable pub use Rattle.tcp_segment.specs.Prelude.{datagram_bytes, segment_in}
pub use Rattle.tcp_segment.specs.declared.fate.TcpFate.{TcpFate}
pub use Rattle.tcp_segment.specs.declared.segment.Segment.{Segment}
pub use Rattle.uip_ipv4.proofs.Back.{length-head_bytes, reads_back}
pub use Rattle.uip_ipv4.proofs.Facts.{head_facts}
pub use Rattle.uip_ipv4.specs.Prelude.{IsHeadOf, head_by, payload_of, proto_of}
unfoldable pub use Rattle.uip_ipv4.specs.Prelude.{head_bytes, head_or_fate}
pub use Rattle.uip_ipv4.specs.declared.fate.IpFate.{IpFate}
pub use Rattle.uip_node.proofs.Basics.{IsPart, and_false, and_true, append_nothing, both_ways, choose, cut_length, cut_part, empty_part}
pub use Rattle.uip_node.proofs.Basics.{eqb-eq, get_push, in_place, ltb-lt, ltb-yes, ltb-zero, not-false, not-true, nothing_placed}
pub use Rattle.uip_node.proofs.Basics.{only_some, part_joins, part_none, part_prefix, prefix_joins, prefix_length, prefix_part, same_place}
pub use Rattle.uip_node.proofs.Basics.{wrap_low, wrap_wrap, zero_or_more}
pub use Rattle.uip_node.proofs.Basics.AtEnd.{newest, older}
pub use Rattle.uip_node.proofs.Cases.{asked_by, by_open, by_own_fin, fin_lives, is_ask, no_ask_again, on_tick_by, open_live, wanted_unmoved}
pub use Rattle.uip_node.proofs.Connections.{Free, Single, all_closed, find_is, get_map, get_set, get_set_other, get_set_same, index_none}
pub use Rattle.uip_node.proofs.Connections.{index_of, none_serves, serving_free, serving_gone, serving_is, serving_new, serving_other}
pub use Rattle.uip_node.proofs.Connections.{set_past, set_same, single_set}
pub use Rattle.uip_node.proofs.Connections.Finds.{finds, finds_none}
pub use Rattle.uip_node.proofs.Connections.Written.{here, there}
pub use Rattle.uip_node.proofs.DatagramsBack.{Each, IsPlace, bytes_low, datagram_back, datagram_short, each_all, head_bytes_low}
pub use Rattle.uip_node.proofs.DatagramsBack.{whole_length}
pub use Rattle.uip_node.proofs.DeliveredBytes.{DeliveredBytes, asked_bytes, on_segment_bytes, on_tick_bytes, page_bytes}
pub use Rattle.uip_node.proofs.FitNodes.{FitConns, FitNode, FitStep, arrives_fits, closed_fits, event_fits, happened_fits, index_fits}
pub use Rattle.uip_node.proofs.FitNodes.{node_snapshot, position_in, serving_fits, slot_inside, still_fits}
pub use Rattle.uip_node.proofs.Fits.{FitConn, FitOut, accepted_fits, all_cons, all_nil, asked_fits, on_segment_fits, on_tick_fits}
pub use Rattle.uip_node.proofs.Fits.{snapshot_fits}
pub use Rattle.uip_node.proofs.Handed.{Received, receives_is}
pub use Rattle.uip_node.proofs.Acknowledged.{Moves, asked_moves, segment_moves, tick_moves}
pub use Rattle.uip_node.proofs.Peers.{asked_keeps, on_segment_keeps, on_tick_closed, on_tick_keeps}
pub use Rattle.uip_node.proofs.Prelude.{ACK, Abort, Addr, Beat, Close, CloseWait, Closed, Closing, Established, FIN, FinWait1, FinWait2}
pub use Rattle.uip_node.proofs.Prelude.{Icmp, IcmpFate, IpHead, LastAck, Nothing, Now, OWN_MSS, PSH, Proto, RST, Row, SYN, Send, State}
pub use Rattle.uip_node.proofs.Prelude.{Step, SynRcvd, TimeWait, Want, bytes_eq-Decides, common_steps, echo_fate, echo_reply, option_map_or}
pub use Rattle.uip_node.proofs.Prelude.{option_or, position_from-zero}
unfoldable pub use Rattle.uip_node.proofs.Prelude.{fin_acked, fin_waits, for_no_connection, happened, idles, in_established, on_segment}
unfoldable pub use Rattle.uip_node.proofs.Prelude.{opens_in, peer_closes, rests_on, stays_established, ticks_established}
pub use Rattle.uip_node.proofs.SocketPairs.{apart, flip, is_same, not_peer, same_is, same_self, serves_dead, serves_not, serves_yes}
pub use Rattle.uip_node.proofs.SoundSegments.{IsSoundSegment, Lens, accepted_lens, asked_lens, closed_lens, none_sound, on_segment_lens}
pub use Rattle.uip_node.proofs.SoundSegments.{on_tick_lens, sent_sound}
pub use Rattle.uip_node.proofs.Steadiness.{steady_of}
pub use Rattle.uip_node.proofs.Stepped.{stepped_fits, stepped_reports}
pub use Rattle.uip_node.proofs.Outstanding.{IsDue, Onto, OutReported, Safe, SafeState, StepReports, Still, ReportsRun, alike_refl}
pub use Rattle.uip_node.proofs.Outstanding.{alike_sym, alike_trans, due, segment_reports, tick_reports}
pub use Rattle.uip_node.specs.Prelude.{AbstractNode, Alike, Answer, AnswersIn, Arrived, Echo, EchoAsked, EchoReplied, Event, GoesOnBy}
pub use Rattle.uip_node.specs.Prelude.{HasBytes, HistoryEntry, IcmpRefused, IpRefused, IsEvent, IsSlice, IsSteady, NoSlot, NodeStep}
pub use Rattle.uip_node.specs.Prelude.{Overlong, Periodic, Reply, SendsBytes, Silent, Spoke, TcpReply, TcpRefused, arrives, arrives_at}
pub use Rattle.uip_node.specs.Prelude.{by_head, by_proto, by_segment, connection_in, counters, datagram_to, event_of, gone_by, ident_of}
pub use Rattle.uip_node.specs.Prelude.{initial_node, initial_number, opens, passes, periodic, raised_by, raised_by_answer, raises, refuses}
pub use Rattle.uip_node.specs.Prelude.{remembers, run, serving, slot_for_syn, snapshot, step, tick, ticks_of, times}
pub use Rattle.uip_wire.proofs.Folding.{one_byte}
pub use Rattle.uip_wire.specs.Prelude.{address_at, checksum_of, word_at, wrap}
unfoldable pub use Rattle.uip_wire.specs.Prelude.{folded}
