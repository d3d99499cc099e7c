-- The names that the proofs of this crate cite: of std, of the crates below, and of its own definitions. Declares nothing.
pub use Rattle.dns_message.specs.Messages.{answer_by_message, code_of, is_reply, question_end}
pub use Rattle.dns_message.specs.Records.{Record, answer_by, answer_of_records, is_address, records}
pub use Rattle.dns_message.specs.Replies.{way_back}
unfoldable pub use Rattle.dns_message.specs.Replies.{answer_to, query_datagram}
pub use Rattle.dns_message.specs.declared.answer.Answer.{Answer}
pub use Rattle.dns_message.specs.declared.answer.Answer.TheVariants.{Address, Code}
pub use Rattle.dns_message.specs.declared.query.Asking.{Asking}
pub use Rattle.packet_buffer.specs.Prelude.{Buffer}
pub use Rattle.rexmit_timer.specs.Prelude.{IsAtAge, IsBeatOfAge, ages}
pub use Rattle.rexmit_timer.specs.declared.timer.Beat.{Beat}
pub use Rattle.rexmit_timer.specs.declared.timer.Beat.TheVariants.{Again, GiveUp, Wait}
pub use Rattle.rexmit_timer.specs.declared.timer.TheConstants.{TEXT_LIMIT}
pub use Rattle.rexmit_timer.specs.declared.timer.Timer.{Timer}
pub use Rattle.std.proofs.Common.{Bool, Err, List, None, Ok, OnErr, Option, Result, Some, [], ap, append-nil, append_assoc, arith, cond}
pub use Rattle.std.proofs.Common.{drop, eqb, false, get_or, if◌then◌else◌, inl, inr, leb, length, length-append, length-take, ltb, map, not}
pub use Rattle.std.proofs.Common.{option_and_then, refl, replicate, subst, suc, sym, take, true, zero, ℕ, ◌&&◌, ◌++◌, ◌+◌, ◌<◌, ◌||◌, ◌∙◌}
pub use Rattle.std.proofs.Common.{◌∷◌, ◌≡◌, ◌≤◌, ◌⊎◌}
pub use Rattle.std.proofs.Math.ListN.{set}
pub use Rattle.std.proofs.Math.Seq.{set-append_seam, take-length}
pub use Rattle.std.proofs.lemmas.List.{drop_all, drop_more, map-append, take_all, take_at, take_more}
pub use Rattle.std.proofs.lemmas.List.Concat.{flat_map-append}
pub use Rattle.std.proofs.lemmas.Result.{on_ok_weaker}
pub use Rattle.std.specs.Io.KnownBytes.{Appends}
pub use Rattle.std.specs.List.{find, flat_map, list_all, list_any, refill}
pub use Rattle.std.specs.Option.{is_none, option_or}
pub use Rattle.std.specs.Prelude.{codes}
unfoldable pub use Rattle.udp_datagram.specs.Prelude.{udp_data}
pub use Rattle.udp_resolver.specs.Prelude.{AddressesAreFromReplies, Adds, Asks, AsksOn, Done, EventsAreOfLine, IsClockAt, IsDone, IsOpen}
pub use Rattle.udp_resolver.specs.Prelude.{IsSettled, LastAsked, LineEvent, LinkFailed, MediumInput, OutFailed, Question, Resolves}
pub use Rattle.udp_resolver.specs.Prelude.{ResolvesBy, RunRepresents, Silence, Streams, StreamsUnfailed, ReportFailed, WritesSome, WroteAll}
pub use Rattle.udp_resolver.specs.Prelude.{all_settled, answer_among, asked_at, asked_next, before_silence, by_frame, came_in, carried_by}
pub use Rattle.udp_resolver.specs.Prelude.{events, fate_by, fate_of, fate_text, first_answer, received_now, is_due, is_given_up, is_settled}
pub use Rattle.udp_resolver.specs.Prelude.{last_ident, last_silence, line_of, line_text, lines, lines_by, next_asking, next_ident}
pub use Rattle.udp_resolver.specs.Prelude.{open_ones, queries, query_texts, questions, received_after, silences, silent_items, streams}
pub use Rattle.udp_resolver.specs.Prelude.{unanswered, unless_answered}
pub use Rattle.udp_resolver.specs.declared.clock.Clock.{Clock}
pub use Rattle.udp_resolver.specs.declared.fate.Fate.{Fate}
pub use Rattle.udp_resolver.specs.declared.fate.Fate.TheVariants.{Answered, Open, Timeout}
pub use Rattle.udp_resolver.specs.declared.run.Run.{Run}
pub use Rattle.uip_edge.proofs.Breaking.{breaks_prefix}
pub use Rattle.uip_edge.proofs.Reported.{Appends-none, Appends-then, Consumes-then, appends_by, bytes_among-append, none_more, on_err}
pub use Rattle.uip_edge.proofs.Reported.{prefix_by, prefix_then, taken_within, took_all}
pub use Rattle.uip_edge.proofs.Turns.{calm_then, counted}
pub use Rattle.uip_edge.proofs.Writes.{writes_broken, writes_by, writes_none}
pub use Rattle.uip_edge.specs.Prelude.{AppendsPrefix, Consumes, IsCalm, LineView, Rose, SinkView, TurnsBy, bytes_among, line_view}
pub use Rattle.uip_edge.specs.Prelude.{sink_view}
pub use Rattle.uip_edge.specs.declared.item.Item.{Item}
pub use Rattle.uip_edge.specs.declared.item.Item.TheVariants.{Byte, Quiet}
pub use Rattle.uip_edge.specs.declared.serve_end.ServeEnd.{ServeEnd}
pub use Rattle.uip_edge.specs.declared.turn.Turn.TheVariants.{Ended}
pub use Rattle.uip_slip.proofs.FrameLaws.{completed_reported, frames-byte}
pub use Rattle.uip_slip.specs.Prelude.{Datagram, Frame, Overlong, State, WasFed, completed, frame_of, frames, open_part, reported_by}
pub use Rattle.uip_slip.specs.Prelude.{slip_text, unescaped}
pub use Rattle.uip_slip.specs.declared.fed.Fed.{Fed}
pub use Rattle.uip_wire.specs.Prelude.{word_at}
pub use Rattle.uip_wire.specs.declared.addr.Addr.{Addr}
pub use Rattle.uip_wire.specs.declared.sizes.TheConstants.{LARGEST_DATAGRAM}
