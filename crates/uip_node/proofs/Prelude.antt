-- The names that the proofs of this crate cite: of std, of the crates below, and of its own definitions. Declares nothing.
pub use Rattle.app_events.specs.Prelude.{AppSpec, AppState, CanSupply, CanSend, Grows, IsAddr, IsByte, IsNow, IsPaged, IsPrefixOf, IsRow}
pub use Rattle.app_events.specs.Prelude.{IsSnapshot, IsU32, MayWant, Pages, Snapshot, fixed_spec, hello, is_live, is_time_wait, text_left}
pub use Rattle.app_events.specs.declared.app.App.{Ghosts}
pub use Rattle.app_events.specs.declared.ending.Ending.{Ending}
pub use Rattle.app_events.specs.declared.now.Now.{Now}
pub use Rattle.app_events.specs.declared.row.Row.{Row}
pub use Rattle.app_events.specs.declared.state.State.{State}
pub use Rattle.app_events.specs.declared.state.State.TheVariants.{CloseWait, Closed, Closing, Established, FinWait1, FinWait2, LastAck}
pub use Rattle.app_events.specs.declared.state.State.TheVariants.{SynRcvd, TimeWait}
pub use Rattle.app_events.specs.declared.want.Want.{Want}
pub use Rattle.app_events.specs.declared.want.Want.TheVariants.{Abort, Close, Nothing, Send}
pub use Rattle.icmp_echo.specs.Prelude.{answered, echo_fate, echo_message, echo_reply}
pub use Rattle.icmp_echo.specs.declared.fate.IcmpFate.{IcmpFate}
pub use Rattle.packet_buffer.specs.Prelude.{Buffer, datagram_in}
pub use Rattle.rexmit_timer.specs.Prelude.{ages, beat_at, count_at, tries_at}
pub use Rattle.rexmit_timer.specs.declared.timer.Beat.{Beat}
pub use Rattle.std.proofs.Common.{Bool, IfSome, List, None, Option, Some, [], ap, append-nil, arith, below_more, cond, count_by, drop, eqb}
pub use Rattle.std.proofs.Common.{false, get_or, get_or-set_other, get_or-set_same, if◌then◌else◌, inl, inr, length, length-append}
pub use Rattle.std.proofs.Common.{length-drop, length-set, length-take, ltb, map, max, min, nat_le, nat_lt, not, position, refl, replicate}
pub use Rattle.std.proofs.Common.{rules, set, slice_index, slice_index_or, slice_range, subst, suc, sym, take, true, zero, ℕ, ◌%◌, ◌&&◌}
pub use Rattle.std.proofs.Common.{◌*◌, ◌++◌, ◌+◌, ◌-◌, ◌/◌, ◌<◌, ◌==◌, ◌||◌, ◌∙◌, ◌∷◌, ◌≡◌, ◌≢◌, ◌≤◌, ◌⊎◌}
pub use Rattle.std.proofs.Math.Nat.{mod-add-mod}
pub use Rattle.std.proofs.Math.Seq.{take-add, take-append_seam}
pub use Rattle.std.proofs.lemmas.Bool.{agree_below_at, and_from, and_parts, cases_eq, eq-eqb, eqb-true, lt-ltb, ne_eqb, ltb-false, ltb-true}
pub use Rattle.std.proofs.lemmas.Grind.{common_steps}
pub use Rattle.std.proofs.lemmas.Iterator.Adapters.{position_from-zero}
pub use Rattle.std.proofs.lemmas.List.{drop_at, get_or-map, length-replicate, length-take-le, take-append-drop, take-append-le, take-take}
pub use Rattle.std.proofs.lemmas.List.Elements.{All-append, All-drop, All-map, All-push, All-take}
pub use Rattle.std.proofs.lemmas.List.Quantifiers.{position-Some}
pub use Rattle.std.proofs.lemmas.List.Sums.{count_by-le-length}
pub use Rattle.std.proofs.lemmas.Option.{get_or_from_slice_get, slice_get-get_or}
pub use Rattle.std.proofs.lemmas.Slice.Eq.{bytes_eq-Decides}
pub use Rattle.std.specs.List.{All, list_any, position_from, position_or_len, range_with_len}
pub use Rattle.std.specs.Option.{option_map_or, option_or}
pub use Rattle.std.specs.Prelude.{IsSome, bytes_eq, is_some, option_map, slice_get, slice_set}
pub use Rattle.tcp_machine.proofs.Transmission.{open_lives}
pub use Rattle.tcp_machine.specs.Prelude.{CanBeAsked, ConnRepresents, Connection, HasSoundNumbers, IsAnswer, IsLike, IsSound, LenFits}
pub use Rattle.tcp_machine.specs.Prelude.{Meets, Outcome, Rests, SameNumbers, SameSockets, Sockets, StepFits, accept, accepted}
pub use Rattle.tcp_machine.specs.Prelude.{after_own_fin, ask, ask_prepared, asked, asked_for, bare_ack, by_beat, by_state, closed, closes}
pub use Rattle.tcp_machine.specs.Prelude.{count_of, does_as_wanted, fin_of, first_mss, grows_older, has_text, delivers_text, in_state}
pub use Rattle.tcp_machine.specs.Prelude.{is_acked, is_again, is_open, is_out_of_order, is_plain_syn, is_resting, leaves, limit_of}
pub use Rattle.tcp_machine.specs.Prelude.{occupies_sequence_space, on_tick, outstanding, peer_has_closed, plain, polls, prepared, rcv_nxt}
pub use Rattle.tcp_machine.specs.Prelude.{reset_for_no_connection, reset_of, rests, row_of, rows_from, same_sockets, segment_of, serves}
pub use Rattle.tcp_machine.specs.Prelude.{snd_una, syn_ack, takes, text_segment, tick_by, reported_end, tries_of, waits_for_ack, with_part}
pub use Rattle.tcp_machine.specs.Prelude.{with_window}
unfoldable pub use Rattle.tcp_machine.specs.Prelude.{fin_acked, fin_waits, idles, in_established, on_segment, peer_closes, rests_on}
unfoldable pub use Rattle.tcp_machine.specs.Prelude.{stays_established, ticks_established}
pub use Rattle.tcp_machine.specs.declared.step.Step.{Step}
pub use Rattle.tcp_machine.specs.declared.timeouts.TheConstants.{REST_TIME}
pub use Rattle.tcp_segment.proofs.Back.{segment_back}
pub use Rattle.tcp_segment.specs.Prelude.{Datagram, IsReadBack, PlainSegment, datagram_len, datagram_of, fixed_words, has_fin, has_rst}
pub use Rattle.tcp_segment.specs.Prelude.{has_syn, offset_of, option_words, plain_of, segment_bytes, segment_sum, sent_in}
unfoldable pub use Rattle.tcp_segment.specs.Prelude.{datagram_bytes}
pub use Rattle.tcp_segment.specs.declared.flags.TheConstants.{ACK, FIN, PSH, RST, SYN}
pub use Rattle.tcp_segment.specs.declared.out.Out.{Out}
pub use Rattle.tcp_table.specs.Prelude.{Connections, IsTable, has_waited, is_at, longest_wait, slot_by, slot_to_take}
pub use Rattle.tcp_table.specs.declared.conn.Conn.{Conn}
pub use Rattle.uip_ipv4.proofs.Back.{length-head_bytes}
pub use Rattle.uip_ipv4.specs.Prelude.{head_with, number_of, payload_of}
unfoldable pub use Rattle.uip_ipv4.specs.Prelude.{head_bytes}
pub use Rattle.uip_ipv4.specs.declared.head.IpHead.{IpHead}
pub use Rattle.uip_ipv4.specs.declared.proto.Proto.{Proto}
pub use Rattle.uip_ipv4.specs.declared.proto.Proto.TheVariants.{Icmp}
pub use Rattle.uip_node.specs.Prelude.{AbstractNode, Alike, AllSound, AllWellFormed, Answer, Arrived, Counts, CountsRepresent, Echo}
pub use Rattle.uip_node.specs.Prelude.{EchoAsked, EchoReplied, Event, HasBytes, HistoryEntry, IcmpRefused, IpRefused, IsEvent, IsIn}
pub use Rattle.uip_node.specs.Prelude.{IsNamed, IsSpoken, IsSteady, IsWellFormedConn, MeetsAt, NoSlot, Node, NodeStep, OthersRest}
pub use Rattle.uip_node.specs.Prelude.{OthersStay, Overlong, Periodic, PreparesIn, Reply, Represents, SendsBytes, Silent, SlotsRepresent}
pub use Rattle.uip_node.specs.Prelude.{Spoke, StaysPrepared, Steps, TakesIn, TcpReply, TcpRefused, TookStep, again_place, arrives}
pub use Rattle.uip_node.specs.Prelude.{arrives_at, called_by, connection_in, counter_places, counters, datagram_to, gone_by, icmp_place}
pub use Rattle.uip_node.specs.Prelude.{ident_of, initial_node, initial_number, ip_place, live_rows, marks, opens, passes, periodic, raise}
pub use Rattle.uip_node.specs.Prelude.{raised_by_answer, raises, refuses, remembers, row_in, run, seen, serving, slot_for_syn, snapshot}
pub use Rattle.uip_node.specs.Prelude.{snapshot_at, sockets_of, step, tcp_place, tick, ticks_of, times}
unfoldable pub use Rattle.uip_node.specs.Prelude.{for_no_connection, happened, opens_in}
pub use Rattle.uip_wire.proofs.Words.{length-bytes_of}
pub use Rattle.uip_wire.specs.Prelude.{bytes_of, checksum_of, wrap}
pub use Rattle.uip_wire.specs.declared.addr.Addr.{Addr}
pub use Rattle.uip_wire.specs.declared.port.Port.{Port}
pub use Rattle.uip_wire.specs.declared.sizes.TheConstants.{OWN_MSS}
