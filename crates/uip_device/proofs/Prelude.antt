-- The names that the proofs of this crate cite: of std, of the crates below, and of its own definitions. Declares nothing.
pub use Rattle.app_events.specs.Prelude.{AppSpec, CanSupply, IsAddr, IsByte, IsPaged, IsRepresented, IsU32, Pages, AppState}
pub use Rattle.app_events.specs.declared.app.App.{Ghosts}
pub use Rattle.device_values.specs.Prelude.{no_values, record_text, value_given, words}
pub use Rattle.guarded_node.specs.Arrivals.{Arrival, Due, Received, TooLong, counted_at, events_at, guarded_counts, guarded_events}
pub use Rattle.guarded_node.specs.Arrivals.{guarded_run, wire_bytes}
pub use Rattle.guarded_node.specs.Runs.{HasRun, IsSentOver, TakesEvents}
pub use Rattle.guarded_node.specs.Wire.{arriving, leaving}
pub use Rattle.guarded_node.specs.declared.guard.Guard.{Guard}
pub use Rattle.guarded_node.specs.declared.guard.GuardCounts.{GuardCounts}
pub use Rattle.guarded_node.specs.declared.guard.Rules.{Rules}
pub use Rattle.file_tree.specs.Prelude.{AreApart, SiteContent, files_of}
pub use Rattle.file_tree.specs.declared.file_id.FileId.{FileId}
pub use Rattle.httpd.proofs.Finding.{found_place, hits_left, no_place, place_is}
pub use Rattle.httpd.specs.Compact.{CompactRepresent, ReceivesWord}
pub use Rattle.httpd.specs.Web.{WebContent}
pub use Rattle.node_laws.proofs.EveryTraceConforms.{every_step_of_pages}
pub use Rattle.node_laws.proofs.Steps.{LineStep, trace_over, turns_then}
pub use Rattle.node_laws.proofs.TurnRuns.{sends, turn_events}
pub use Rattle.node_laws.specs.Prelude.{IsOfLine, IsDecoded, TraceConforms, TraceEntry, at_every_port, of_bytes, of_call, of_overlong}
pub use Rattle.node_laws.specs.Prelude.{trace_of}
pub use Rattle.packet_buffer.specs.Prelude.{Buffer, datagram_in}
pub use Rattle.protosocket.proofs.Cuts.{cut_at, found, missing, whole}
pub use Rattle.protosocket.specs.Prelude.{Line, is_query_mark, is_stop, none_at_all, word_of}
pub use Rattle.protosocket.specs.declared.stops.Stops.TheVariants.{Space, SpaceOrLine}
pub use Rattle.serve_loop.proofs.ByteLaws.{slip_brings_bytes}
pub use Rattle.serve_loop.proofs.NodeLaws.{node_on}
pub use Rattle.serve_loop.proofs.SlipServeLaws.{sent_text_on_line}
pub use Rattle.serve_loop.specs.Prelude.{CarriesBytes, IsNode, came_by, initial_station, is_beat, line_events, output_by, slip_medium}
pub use Rattle.serve_loop.specs.Prelude.{text_of}
pub use Rattle.sip_hash.specs.declared.key.Key.{Key}
pub use Rattle.site_image.specs.Prelude.{File, file_named, has_name}
pub use Rattle.std.proofs.Common.{Bool, List, None, Option, Some, [], ap, append-nil, append_assoc, arith, drop, false, get_or}
pub use Rattle.std.proofs.Common.{if◌then◌else◌, inl, inr, ◌⊎◌, length, length-append, length-drop, length-take, lit<, map, option_map}
pub use Rattle.std.proofs.Common.{refl, replicate, subst, sym, take, true, ℕ, ◌*◌, ◌++◌, ◌+◌, ◌-◌, ◌<◌, ◌∙◌, ◌∷◌, ◌≡◌, ◌≤◌, true≢false}
pub use Rattle.std.proofs.Common.{find, cond, suc, zero, ◌||◌, position}
pub use Rattle.std.proofs.lemmas.Bool.{false≢true, eqb-true, lt-ltb}
pub use Rattle.std.proofs.lemmas.Grind.{get_or_default_zero}
pub use Rattle.std.proofs.lemmas.List.{drop_at, get_or_append_left, length-take-le, map-append, take-append-drop, take_at, take_rest}
pub use Rattle.std.proofs.lemmas.List.{drop_all, take_all}
pub use Rattle.std.proofs.lemmas.List.Concat.{flat_map-append}
pub use Rattle.std.proofs.lemmas.List.Elements.{All-append, All-cons, All-drop, All-head, All-nil, All-replicate, All-tail, All-take}
pub use Rattle.std.specs.List.{All, flat_map, slice_index_or, before_first, list_any}
pub use Rattle.std.specs.Option.{is_some, option_map_or}
pub use Rattle.std.specs.Prelude.{⊤, nat_eq, slice_get, codes, IfSome}
pub use Rattle.uip_device.specs.Prelude.{AllHandOutSent, Answered, Answers, AnswersAll, AnswersOver, AnswersMove, Bring, Call, Calls}
pub use Rattle.uip_device.specs.Prelude.{CallsConform, CallsForDatagram, DoesNothing, Drains, Feeds, Gives, HandsOut, HasDelivered, Inputs}
pub use Rattle.uip_device.specs.Prelude.{IsFreshDevice, IsOfBytes, KeepsU32, Makes, Move, MoveTrace, OutputIsSent, SendsOver, Spoils}
pub use Rattle.uip_device.specs.Prelude.{Writing, LineIsServed, TookArrivals, arrival_of, arrivals_after, arrivals_by, arrivals_of_calls}
pub use Rattle.uip_device.specs.Prelude.{arrivals_of_move, byte_calls, bytes_of_call, bytes_of_move, calls_after, counts_of_move}
pub use Rattle.uip_device.specs.Prelude.{counts_reached, datagram_sent, datagrams_handed, datagrams_sent, events_of_move, guard_reached}
pub use Rattle.uip_device.specs.Prelude.{first_numbers, goes_by_datagram, is_by_datagram, left_text_of, lefts_of, line_handed, line_sent}
pub use Rattle.uip_device.specs.Prelude.{moves_of, node_reached, rest_text, run_move, text_sent, text_to_come, tick_arrivals, tick_calls}
pub use Rattle.uip_device.specs.Prelude.{wire_text, with_value, write_value, ChangesNode}
pub use Rattle.uip_device.specs.Query.{QueryContent, kept_query, kept_text, place_wanted, query_after, query_by, query_in, text_after_mark}
pub use Rattle.uip_device.specs.Query.{ReadsQuery, query_for}
pub use Rattle.uip_device.specs.declared.device.Device.{Device}
pub use Rattle.uip_edge.proofs.Reported.{moved_on}
pub use Rattle.uip_edge.specs.declared.item.Item.{Item}
pub use Rattle.uip_edge.specs.declared.item.Item.TheVariants.{Byte, Quiet}
pub use Rattle.uip_node.proofs.Basics.{choose}
pub use Rattle.uip_node.specs.Prelude.{AbstractNode, Event, HasBytes, Node, Periodic, Ran, Reply, Represents, event_of, initial_node}
pub use Rattle.uip_node.specs.Prelude.{joined, reply_bytes, run, seen, step}
pub use Rattle.uip_slip.proofs.FrameLaws.{completed_by, completed_reported}
pub use Rattle.uip_slip.specs.Prelude.{Datagram, FeedsPrefix, Frame, IsNoise, Overlong, PartState, State, WasFed, completed, escaped}
pub use Rattle.uip_slip.specs.Prelude.{escaped_byte, frames, is_free, open_bytes, reported_by, slip_text, state_in}
pub use Rattle.uip_wire.specs.declared.addr.Addr.{Addr}
pub use Rattle.web_pages.proofs.OwnState.{hits_by_prefix}
pub use Rattle.web_pages.specs.Prelude.{hits_of, no_hits, place_of, wanted, web_spec_by, Wanted, Name, NotYet, Refused, target_of}
