-- The names that the proofs of this crate cite: of std, of the crates below, and of its own definitions. Declares nothing.
pub use Rattle.std.proofs.Common.{Bool, Err, IfErr, List, None, Ok, Option, Result, Some, [], ap, append-nil, append_assoc, arith, drop}
pub use Rattle.std.proofs.Common.{false, if◌then◌else◌, inl, inr, leb, length, length-append, length-drop, length-take, ltb, map, refl}
pub use Rattle.std.proofs.Common.{rules, subst, suc, sym, take, true, zero, ℕ, ◌%◌, ◌&&◌, ◌*◌, ◌++◌, ◌+◌, ◌-◌, ◌/◌, ◌<◌, ◌∙◌, ◌∷◌, ◌≡◌, ◌≤◌}
pub use Rattle.std.proofs.Math.Seq.{drop-append_seam, take-length}
pub use Rattle.std.proofs.lemmas.Bool.{cases_lt, le-leb, leb-true, lt-ltb, ltb-true}
pub use Rattle.std.proofs.lemmas.List.{get_or_append_left, length-map, length-take-le, map-append, take-append-drop, take-append-le}
pub use Rattle.std.proofs.lemmas.List.{take_rest}
pub use Rattle.std.proofs.lemmas.List.Concat.{flat_map-append}
unfoldable pub use Rattle.std.specs.Fmt.{digits}
pub use Rattle.std.specs.Io.KnownBytes.{Appends}
pub use Rattle.std.specs.List.{AllByRecursion, enumerate_from, flat_map}
unfoldable pub use Rattle.tcp_segment.specs.Prelude.{segment_in}
pub use Rattle.trace.specs.Prelude.{BadHeader, BadLength, BeginsWith, BrokeOff, BrokeWatch, Captured, Converts, EndsRead, HasLongRecord}
pub use Rattle.trace.specs.Prelude.{HasNewFault, HasSeen, HoldsJust, InHeader, InRecord, IsAtFault, IsCaptured, IsCutRecord, IsFoundSoon}
pub use Rattle.trace.specs.Prelude.{IsOpen, IsReadAs, IsReadSound, IsReadTo, IsSurely, IsWatched, Reading, Saw, Seen, SlipEndsBy, StopBy}
pub use Rattle.trace.specs.Prelude.{Stopped, StopsAmong, StopsAt, StopsRead, ReportsLine, Whole, WroteLine, capture_file, capture_header}
pub use Rattle.trace.specs.Prelude.{captured_bytes, captured_in, cut_in, datagrams_in, datagrams_on, dump_line, dump_text, end_at}
pub use Rattle.trace.specs.Prelude.{end_by_cut, fault_in, frame_record, frame_text, length_in, line_text, lines_of, order_of, seen_after}
pub use Rattle.trace.specs.Prelude.{seen_at, seen_on, silences_of, text_after, texts_from}
pub use Rattle.trace.specs.declared.byte_order.ByteOrder.{ByteOrder}
pub use Rattle.trace.specs.declared.byte_order.ByteOrder.TheVariants.{Big, Little}
pub use Rattle.trace.specs.declared.form.Form.{Form}
pub use Rattle.trace.specs.declared.reader.Stop.{Stop}
pub use Rattle.trace.specs.declared.slip_end.CaptureWhy.{CaptureWhy}
pub use Rattle.trace.specs.declared.slip_end.SlipEnd.{SlipEnd}
pub use Rattle.trace.specs.declared.stage.Stage.{Stage}
pub use Rattle.uip_edge.proofs.Breaking.{breaks_by, breaks_prefix, breaks_then, breaks_whole}
pub use Rattle.uip_edge.proofs.Reported.{Appends-none, Appends-then, Consumes-none, Consumes-then, appends_by, bytes_among-append}
pub use Rattle.uip_edge.proofs.Reported.{bytes_among-map, moved_on, on_err, prefix_by, prefix_more, prefix_then, taken_within}
pub use Rattle.uip_edge.specs.Prelude.{AppendsPrefix, BreaksOff, Consumes, EndsBy, IsCalm, LineUnfailed, LineView, Rose, SinkView, TookAll}
pub use Rattle.uip_edge.specs.Prelude.{WrittenBy, bytes_among, line_view, sink_view}
pub use Rattle.uip_edge.specs.declared.item.Item.{Item}
pub use Rattle.uip_edge.specs.declared.item.Item.TheVariants.{Byte, Quiet}
pub use Rattle.uip_edge.specs.declared.serve_end.ServeEnd.{ServeEnd}
unfoldable pub use Rattle.uip_ipv4.specs.Prelude.{head_or_fate}
pub use Rattle.uip_slip.specs.Prelude.{Datagram, Frame, Overlong, State, WasFed, all_but_last, completed, frame_of, frames, parts}
pub use Rattle.uip_slip.specs.Prelude.{reported_by, slip_text, unescaped}
unfoldable pub use Rattle.uip_wire.specs.Prelude.{folded}
pub use Rattle.uip_wire.specs.declared.sizes.TheConstants.{LARGEST_DATAGRAM}
