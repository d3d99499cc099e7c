-- The names that the proofs of this crate cite: of std, of the crates below, and of its own definitions. Declares nothing.
pub use Rattle.app_events.specs.Prelude.{After, AppSpec, AppState, IsAddr, IsByte, IsPaged, IsSnapshot, IsU32, Pages, Snapshot}
pub use Rattle.file_tree.specs.Prelude.{FindsInFiles, HoldsFile, IsLoaded, LacksFile, Opens, SiteContent, files_of, site_read}
pub use Rattle.file_tree.specs.declared.load_fault.LoadFault.{LoadFault}
pub use Rattle.generators.specs.Prelude.{counter_line, in_ten_places, row_text, uip}
unfoldable pub use Rattle.generators.specs.Prelude.{row_parts}
pub use Rattle.hex.specs.Hex.{decode_of, digit_or_error, encode_lower, hex_digit_value, pair_value, value_at, ◌>>=◌}
unfoldable pub use Rattle.hex.specs.Hex.{decode_pairs, encode_with}
pub use Rattle.hex.specs.declared.error.FromHexError.{FromHexError}
pub use Rattle.hex.specs.declared.error.FromHexError.TheVariants.{OddLength}
pub use Rattle.link_client.specs.Prelude.{AbstractClient, Client, ClientStep, FitsRequest, Sends, advertises_window, client_datagram}
pub use Rattle.link_client.specs.Prelude.{client_hands, client_receives, client_opens, idle, keeps, offered, abstract_client}
unfoldable pub use Rattle.link_client.specs.Prelude.{aborts_by, again_by, client_takes, closes_by, opens_by, sends_next, takes_by}
unfoldable pub use Rattle.link_client.specs.Prelude.{takes_in_order}
pub use Rattle.link_client.specs.declared.client_state.ClientState.{ClientState}
pub use Rattle.link_client.specs.declared.client_state.ClientState.TheVariants.{Idle}
pub use Rattle.link_client.specs.declared.setup.Setup.{Setup}
pub use Rattle.link_replay.specs.Prelude.{AbortAndCloseApart, ActSteps, ActsEnd, AnswersTo, AppendsShown, AreFresh, AreTo, AreWorkedReplays}
pub use Rattle.link_replay.specs.Prelude.{AreWorkedReports, AreWorkedSummaries, ClosesInTime, CodeSent, CodeSide, CodeWorld, DamageLoses}
pub use Rattle.link_replay.specs.Prelude.{EndsReport, EndsWith, Follows, FromHere, HasReached, HitsAreCounted, HonestPages, LosingPages}
pub use Rattle.link_replay.specs.Prelude.{HonestReplay}
pub use Rattle.link_replay.specs.Prelude.{HonestWebPeer, LossyWebPeer, WebPeersArrive, IsAt, IsAtLast, IsFresh, IsHonest, IsLink}
pub use Rattle.link_replay.specs.Prelude.{IsLoadText, IsPlayDue, IsReplayText, IsShort, IsTextDue, IsTo, KeepsPromises, LacksEither}
pub use Rattle.link_replay.specs.Prelude.{LinesEnd, Link, LinkRepresents, LoadEnds, LoadIsReported, Matched, OnlyEpoch, OnlyFull}
pub use Rattle.link_replay.specs.Prelude.{PagesAreReceived, PlaysSchedule, PostsOfClient, PostsReply, Reaches, Refuses, ReplayEnds}
pub use Rattle.link_replay.specs.Prelude.{ReplayIsReported, SentRepresents, ServesHonest, ShownSide, SideRepresents, Stepped, Stops}
pub use Rattle.link_replay.specs.Prelude.{StopsAt, WritesFault, WorldRepresents, WritesDue, WritesText, Wrote, WroteDue, bad_schedule}
pub use Rattle.link_replay.specs.Prelude.{becomes_hit, buried, client_line, client_reported, code_side_shown, column, counts_line}
pub use Rattle.link_replay.specs.Prelude.{datagram_line, digits_or_dash, event_at, gone_pair, hits_over, is_at_end, is_place, is_sent_again}
pub use Rattle.link_replay.specs.Prelude.{kind_sent, line_of_datagram, lines_of_client, link_of, lost, lost_at, most_of, numbered_texts}
pub use Rattle.link_replay.specs.Prelude.{one_hits, opening_for, or_pair, outcome, own_step, owner, owner_in, pair_at, pair_at_side}
pub use Rattle.link_replay.specs.Prelude.{parts_of, pieces_for, plan_from, planned, refusal_at, report, resent, rounds_for, sees}
pub use Rattle.link_replay.specs.Prelude.{segment_kind, server, side_shown, sockets_at, sockets_for, summary_of, tally_line, tally_of}
pub use Rattle.link_replay.specs.Prelude.{text_line, texts_for, texts_of, reported_of}
pub use Rattle.link_replay.specs.declared.report.kind.Kind.{Kind}
pub use Rattle.link_replay.specs.declared.report.kind.Kind.TheVariants.{EchoReply}
pub use Rattle.link_replay.specs.declared.world.client_steps.Own.{Own}
pub use Rattle.link_replay.specs.declared.commands.replay_end.ReplayEnd.{ReplayEnd}
pub use Rattle.link_replay.specs.declared.world.socket_pair.SocketPair.{SocketPair}
pub use Rattle.link_replay.specs.declared.report.tally.Tally.{Tally}
pub use Rattle.link_replay.specs.declared.commands.output_form.OutputForm.{OutputForm}
pub use Rattle.link_replay.specs.declared.commands.output_form.OutputForm.TheVariants.{Report, Summary}
pub use Rattle.link_schedule.proofs.Keeping.{kept_where_read, lines_keep, of_words}
pub use Rattle.link_schedule.proofs.Kept.{anything, behind, either, tested, within_range}
pub use Rattle.link_schedule.specs.Answer.{ReadsSchedule}
pub use Rattle.link_schedule.specs.Clients.{Plan, got, is_target, plan_of, plan_with, raw, request_of, side_of}
pub use Rattle.link_schedule.specs.Events.{event_of_words}
pub use Rattle.link_schedule.specs.Kept.{Keeps, are_apart, client_in_range, event_in_range, is_between}
pub use Rattle.link_schedule.specs.Numbers.{address, within}
pub use Rattle.link_schedule.specs.Reading.{BadText, SchedulePlan, meets, nothing_yet, read_lines, with_event, with_line}
unfoldable pub use Rattle.link_schedule.specs.Reading.{read_text, with_plan}
pub use Rattle.link_schedule.specs.Represents.{content_of}
pub use Rattle.link_schedule.specs.declared.event.Event.TheVariants.{Again, Round}
pub use Rattle.link_schedule.specs.declared.line.Line.{Line}
pub use Rattle.link_schedule.specs.declared.read_schedule.ReadSchedule.{ReadSchedule}
pub use Rattle.link_schedule.specs.declared.read_schedule.ReadSchedule.TheVariants.{Bad}
pub use Rattle.link_schedule.specs.declared.sides.ClientSide.{ClientSide}
pub use Rattle.link_schedule.specs.declared.why.Why.{Why}
pub use Rattle.link_schedule.specs.declared.why.Why.TheVariants.{Clients, Form, Long, Ports}
pub use Rattle.link_world.proofs.Accepting.{AreKept, FineLines, IsKept, IsOpening, keeps_again, keeps_half, keeps_lose, keeps_reverse}
pub use Rattle.link_world.proofs.Accepting.{keeps_round, keeps_tick, keeps_twice, kept_append, kept_fine, kept_replicate, opening_ready}
pub use Rattle.link_world.proofs.Accepting.{opens_fine}
pub use Rattle.link_world.proofs.Damages.{act_harmless}
pub use Rattle.link_world.proofs.Doing.{damaged, goes_on_with, where_there, with_mark}
pub use Rattle.link_world.proofs.Reception.{same_receiving}
pub use Rattle.link_world.proofs.Honest.{honest_link}
pub use Rattle.link_world.proofs.LosingRun.{losing_link}
pub use Rattle.link_world.proofs.HonestNode.{mss_low}
pub use Rattle.link_world.proofs.Lines.{line_acts, lines_are_acts, runs_joined, runs_mark}
pub use Rattle.link_world.proofs.NodeRuns.{every}
pub use Rattle.link_world.proofs.PrefixAndWhole.{prefix_and_whole}
pub use Rattle.link_world.proofs.Reading.{bytes_are_read}
pub use Rattle.link_world.proofs.Runs.{reached_sound}
pub use Rattle.link_world.proofs.RetransmissionInvariant.{again_exactly, same_bytes}
pub use Rattle.link_world.proofs.Senders.{sent_to_clients}
pub use Rattle.link_world.proofs.Sides.{addressed_is}
pub use Rattle.link_world.proofs.SoundWorlds.{SoundWorld, sound_marked}
pub use Rattle.link_world.specs.Prelude.{BadLine, Content, IsAct, IsPlan, IsPlanned, IsReached, IsRead, IsRepeatOf, IsSchedulePlayed}
pub use Rattle.link_world.specs.Prelude.{IsSentBy, IsServed, IsServedWhole, MarksRepeats, OfEcho, OfLine, OfPing, OfSegment, Planned}
pub use Rattle.link_world.specs.Prelude.{RepeatsSameBytes, Sent, Side, World, acts, acts_of, addressed, at_side, becomes_opened, bytes_by}
pub use Rattle.link_world.specs.Prelude.{changed, client_acts, client_bytes, client_sockets, client_stepped, delivers, does, epoch}
pub use Rattle.link_world.specs.Prelude.{epoch_of, fault_of, fresh_side, handed, handles_all, hands_over, received_by, receives_datagram}
pub use Rattle.link_world.specs.Prelude.{is_clean, is_idle, mark_after, marked, named_fault, node_bytes, node_handles, node_stepped}
pub use Rattle.link_world.specs.Prelude.{numbered, past_connection_of, plays, plays_from, plays_line, posts, posts_of_client, posts_reply}
pub use Rattle.link_world.specs.Prelude.{retires, retires_in, runs, sent_bytes, server_of, sockets_in, started, state_at, with_client}
pub use Rattle.link_world.specs.Prelude.{with_side}
unfoldable pub use Rattle.link_world.specs.Prelude.{ping_from}
pub use Rattle.link_world.specs.declared.act.Act.{Act}
pub use Rattle.link_world.specs.declared.step_fault.StepFault.{StepFault}
pub use Rattle.link_world.specs.declared.step_fault.StepFault.TheVariants.{AlreadyOpen, Full, NoByte, NoDatagram, NoMemory, NotOpen}
pub use Rattle.link_world.specs.declared.who.Who.{Who}
pub use Rattle.link_world.specs.declared.who.Who.TheVariants.{FromClient, FromNode, Pinger}
pub use Rattle.node_laws.proofs.HonestPeers.{arrives_acting_in, honest_peer, lossy_syn, of_syn}
pub use Rattle.node_laws.proofs.Paging.{ActsAs, acts_as_itself, anywhere}
pub use Rattle.node_laws.specs.Prelude.{Asker, IsOfLine, TraceEntry, trace_of}
pub use Rattle.script_lang.specs.Prelude.{length_at_most, takes_capture}
pub use Rattle.script_lang.specs.declared.function.Function.{Function}
pub use Rattle.script_lang.specs.declared.function.Function.TheVariants.{FileStats, NetStats, TcpConnections, Ticks, Unknown}
pub use Rattle.site_image.specs.Prelude.{File}
pub use Rattle.site_image.specs.declared.site_error.SiteError.{SiteError}
pub use Rattle.site_report.specs.Prelude.{bad_line}
pub use Rattle.std.proofs.Common.{Bool, Err, IfOk, IsErr, IsErrAnd, List, None, Ok, Option, Result, Some, [], add-one, add-zero, ap}
pub use Rattle.std.proofs.Common.{append-nil, append_assoc, arith, cond, decimal, drop, drop-cons, eq-eqb, eqb, false, get_or}
pub use Rattle.std.proofs.Common.{if◌then◌else◌, inl, inr, leb, length, length-append, length-set, length-take, lit<, ltb, map, min, nat_eq}
pub use Rattle.std.proofs.Common.{nat_le, nat_lt, not, position, refl, replicate, rules, set, slice_get, slice_index_or, subst, suc, sum_by}
pub use Rattle.std.proofs.Common.{sym, take, tests, true, true≢false, zero, ℕ, ◌%◌, ◌&&◌, ◌*◌, ◌++◌, ◌+◌, ◌-◌, ◌/◌, ◌<◌, ◌==◌, ◌^◌, ◌||◌}
pub use Rattle.std.proofs.Common.{◌∙◌, ◌∷◌, ◌≡◌, ◌≢◌, ◌≤◌, ◌⊎◌}
pub use Rattle.std.proofs.Math.Bool.{and-false, not-not}
pub use Rattle.std.proofs.Math.Nat.{mod-lt}
pub use Rattle.std.proofs.lemmas.Bool.{and_from, and_parts, cases_lt, eqb-true, le-leb, leb-true, lt-leb, ltb-true}
pub use Rattle.std.proofs.lemmas.Bool.{or_parts}
pub use Rattle.std.proofs.lemmas.Grind.{common_steps, div_ceil_times}
pub use Rattle.std.proofs.lemmas.List.{drop_all, get_or-append-add, get_or-drop, get_or-set_other, get_or-set_same, get_or_default}
pub use Rattle.std.proofs.lemmas.List.{length-map, length-replicate, length-take-le, take-append-drop, take_all, take_rest, with_items_is}
pub use Rattle.std.proofs.lemmas.List.Concat.{flat_map-cons}
pub use Rattle.std.proofs.lemmas.List.Edits.{map_over_more}
pub use Rattle.std.proofs.lemmas.List.Elements.{All-append, All-cons, All-head, All-nil, All-replicate}
pub use Rattle.std.proofs.lemmas.List.FromFn.{length-range_with_len}
pub use Rattle.std.proofs.lemmas.List.Sums.{AllPass-from_list_all, sum_by-cons}
pub use Rattle.std.proofs.lemmas.Option.{get_or_from_slice_get, slice_get-get_or, slice_get_cases, slice_get_past, slice_get_read}
pub use Rattle.std.proofs.lemmas.Option.{slice_get_within}
pub use Rattle.std.proofs.lemmas.Result.{err_from_is_err_and, on_err_weaker, on_ok_weaker}
unfoldable pub use Rattle.std.specs.Fmt.{digits}
pub use Rattle.std.specs.Global.{Vec}
pub use Rattle.std.specs.Int.{div_ceil}
pub use Rattle.std.specs.Io.KnownBytes.{Appends}
pub use Rattle.std.specs.List.{All, Any, list_all, list_any, range_with_len, slice_split}
pub use Rattle.std.specs.Option.{is_some, option_map_or}
pub use Rattle.std.specs.Prelude.{IfSome, IsSomeAnd, MatchResult, OnErr, OnOk, codes, count_by, filter, flat_map, fold, is_none, option_map}
pub use Rattle.std.specs.Prelude.{slice_index, ⊤}
pub use Rattle.std.specs.Str.{bytes_eq}
pub use Rattle.std.specs.Vec.{with_items}
pub use Rattle.tcp_machine.specs.Prelude.{ConnRepresents, Connection, Outcome, Sockets, accept, accepted, after_own_fin, asked, asked_for}
pub use Rattle.tcp_machine.specs.Prelude.{by_beat, by_state, closed, closes, does_as_wanted, first_mss, grows_older, has_text}
pub use Rattle.tcp_machine.specs.Prelude.{delivers_text, in_state, is_acked, is_again, is_live, is_out_of_order, is_plain_syn, limit_of}
pub use Rattle.tcp_machine.specs.Prelude.{on_tick, outstanding, peer_has_closed, prepared, reset_for_no_connection, rests, rows_from}
pub use Rattle.tcp_machine.specs.Prelude.{same_sockets, segment_of, serves, takes, tick_by, reported_end, with_part, with_window}
pub use Rattle.text_buffer.specs.Prelude.{word_if}
pub use Rattle.uip_edge.proofs.Reported.{Appends-none, Appends-then, appends_by, on_err, prefix_by, prefix_more, prefix_then}
pub use Rattle.uip_edge.specs.Prelude.{AppendsPrefix, Files, SinkView, WorkUnfailed, WorkView, WritesAll, WritesEnd, sink_view, work_view}
pub use Rattle.uip_node.proofs.Basics.{and_true, append_nothing, both_ways, choose, eqb-eq, get_push, ltb-zero, not-true, prefix_length}
pub use Rattle.uip_node.proofs.Basics.{wrap_wrap}
pub use Rattle.uip_node.proofs.Basics.AtEnd.{newest, older}
pub use Rattle.uip_node.proofs.Cases.{by_own_fin, on_tick_by}
pub use Rattle.uip_node.proofs.Connections.{Free, all_closed, find_is, finds, finds_none, get_map, get_set, get_set_same, index_none}
pub use Rattle.uip_node.proofs.Connections.{index_of, set_past, set_same}
pub use Rattle.uip_node.proofs.Connections.Written.{here, there}
pub use Rattle.uip_node.proofs.FitNodes.{Inside, position_in, slot_inside}
pub use Rattle.uip_node.proofs.Fits.{all_cons, all_nil}
pub use Rattle.uip_node.proofs.Peers.{asked_keeps, on_segment_keeps, on_tick_closed, on_tick_keeps}
pub use Rattle.uip_node.proofs.Prelude.{Abort, Addr, Beat, Buffer, Close, CloseWait, Closed, Closing, Conn, Ending, Established, FinWait1}
pub use Rattle.uip_node.proofs.Prelude.{FinWait2, Ghosts, LastAck, Nothing, Now, PlainSegment, Port, REST_TIME, Row, Send, State, Step}
pub use Rattle.uip_node.proofs.Prelude.{SynRcvd, TimeWait, Want, beat_at, datagram_in, echo_reply, has_fin, has_rst, is_at}
unfoldable pub use Rattle.uip_node.proofs.Prelude.{datagram_bytes, fin_acked, fin_waits, for_no_connection, happened, idles, in_established}
unfoldable pub use Rattle.uip_node.proofs.Prelude.{on_segment, opens_in, peer_closes, rests_on, stays_established, ticks_established}
pub use Rattle.uip_node.proofs.SocketPairs.{flip, not_peer, same_is, serves_dead, serves_yes}
pub use Rattle.uip_node.proofs.SoundSegments.{first_low}
pub use Rattle.uip_node.proofs.Stepping.{slice_get-element}
pub use Rattle.uip_node.proofs.Steadiness.{steady_of}
pub use Rattle.uip_node.specs.Prelude.{AbstractNode, IsSteady, Node, Answer, AnswersIn, AnswersPolled, Arrived, Echo, EchoAsked}
pub use Rattle.uip_node.specs.Prelude.{EchoReplied, Event, GoesOnBy, HasBytes, HistoryEntry, IcmpRefused, IpRefused, IsSent, NoSlot}
pub use Rattle.uip_node.specs.Prelude.{NodeStep, Overlong, Periodic, Reply, Represents, Silent, SlotsRepresent, Spoke, TcpReply, TcpRefused}
pub use Rattle.uip_node.specs.Prelude.{arrives_at, connection_in, datagram_to, event_of, gone_by, initial_node, initial_number, opens}
pub use Rattle.uip_node.specs.Prelude.{passes, raised_by_answer, raises, refuses, reply_bytes, run, serving, slot_for_syn, snapshot, step}
pub use Rattle.uip_node.specs.Prelude.{tick, ticks_of, times}
pub use Rattle.uip_wire.specs.Prelude.{cut_at_dot, numeral, part_number, wrap}
unfoldable pub use Rattle.uip_wire.specs.Prelude.{quad_of}
pub use Rattle.uip_wire.specs.declared.sizes.TheConstants.{LARGEST_DATAGRAM}
pub use Rattle.web_pages.proofs.Bounds.{silent_none, text_bound}
pub use Rattle.web_pages.proofs.ByteLaws.{made_of_bytes}
pub use Rattle.web_pages.proofs.Limits.{uip_short}
pub use Rattle.web_pages.proofs.PageLaws.{keeps_page_laws}
pub use Rattle.web_pages.specs.Prelude.{Made, Name, NotYet, Plain, Refused, ScriptPiece, Wanted, hit_at, hits_by, hits_of, is_acknowledged}
pub use Rattle.web_pages.specs.Prelude.{is_page_whole, is_served, left_of, made_end, made_first, made_text, name_stays, newdata_grows}
pub use Rattle.web_pages.specs.Prelude.{no_hits, page, page_for, page_text, pages_of, place_of, reach_end, reply_pieces, silent_end}
pub use Rattle.web_pages.specs.Prelude.{silent_text, stopped_text, waits_for_capture, wanted, web_spec, web_want, whole_for, with_capture}
pub use Rattle.web_pages.specs.declared.TheConstants.{MOST_POLLS}
pub use Rattle.workload.proofs.Keeping.{of_drawn}
pub use Rattle.workload.specs.Prelude.{client_of, event_drawn, events_of, happens, numbered_from, words_from, workload_of}
