-- The names that the proofs of this crate cite: of std, of the crates below, and of its own definitions. Declares nothing.
pub use Rattle.app_events.specs.Prelude.{AppState, CanSupply, IsRepresented, Snapshot, text_left}
pub use Rattle.app_events.specs.declared.want.Want.{Want}
pub use Rattle.app_events.specs.declared.want.Want.TheVariants.{Abort, Close, Nothing, Send}
pub use Rattle.file_tree.proofs.NamedLemmas.{named-nowhere}
pub use Rattle.file_tree.specs.Prelude.{AreApart, IsLoaded, SiteContent, files_of}
pub use Rattle.file_tree.specs.declared.file_id.FileId.{FileId}
pub use Rattle.generators.specs.Prelude.{ScriptFunctions, capture_of, capture_text, script_functions, uip}
pub use Rattle.generators.specs.declared.capture.Capture.{Capture}
pub use Rattle.generators.specs.declared.capture.Capture.TheVariants.{Empty}
pub use Rattle.httpd.specs.Compact.{CompactRepresent, ReceivesWord, is_target_stage, pages_kept, word_stage}
pub use Rattle.httpd.specs.Reception.{HasName, ReceivesMethod, ReceivesTarget, ReceivesTo, IsDecided, IsFileAsked}
pub use Rattle.httpd.specs.HttpdRepresents.{HttpdRepresents, IsLeft, IsReplying, PagesRepresent, SendsNothing, IsRepresentedIn}
pub use Rattle.httpd.specs.Kept.{EndsCall, EndsDirective, EndsInclude, KeepsAll, KeepsDirective, KeepsOn}
pub use Rattle.httpd.specs.Lemmas.SameLeft.{left_in, left_of_value}
pub use Rattle.httpd.specs.Looking.{IsCallBefore, IsInPiece, IsPast, IsSpan, IsText, Leads, Sees, SeesBy, SeesCall, SeesText, SpanFits}
pub use Rattle.httpd.specs.Looking.{span_text}
pub use Rattle.httpd.specs.Places.{IsBodyPlace, IsFound, IsInner, moved, thread_place}
unfoldable pub use Rattle.httpd.specs.Places.{Fits}
pub use Rattle.httpd.specs.Reply.{FileReply, body, body_from, calls_in, found_file, head_text, included, is_scripted, kind_text, reply_by}
pub use Rattle.httpd.specs.Reply.{reply_in}
unfoldable pub use Rattle.httpd.specs.Reply.{left_from}
pub use Rattle.httpd.specs.Transmission.{IsDueReply, IsNotDue, left_text, left_whole, want_left}
pub use Rattle.httpd.specs.Web.{WebContent}
pub use Rattle.httpd.specs.Zero.{IsAsked}
pub use Rattle.httpd.specs.declared.compact.CompactPages.{CompactPages}
pub use Rattle.httpd.specs.declared.request.Received.{Received}
pub use Rattle.httpd.specs.declared.httpd.Pages.{Pages}
pub use Rattle.httpd.specs.declared.reply.Due.{Due}
pub use Rattle.httpd.specs.declared.span.Look.{Look}
pub use Rattle.httpd.specs.declared.span.Span.{Span}
pub use Rattle.httpd.specs.declared.stage.Stage.{Stage}
pub use Rattle.httpd.specs.declared.thread.Thread.{Thread}
pub use Rattle.httpd.specs.declared.thread.Thread.TheVariants.{Body, End, Head, Inside, Kind, Making}
pub use Rattle.protosocket.specs.Prelude.{Line, after, delivered, fresh, receives_joined, is_query_mark, is_stop, none_at_all, none_before}
pub use Rattle.protosocket.specs.Prelude.{one_before, part_taken, takes_prefix, word_of}
pub use Rattle.protosocket.specs.declared.stops.Stops.{Stops}
pub use Rattle.protosocket.specs.declared.stops.Stops.TheVariants.{Space, SpaceOrLine}
pub use Rattle.script_lang.proofs.PieceLemmas.{found-goes, pieces_by-step, run-rest}
pub use Rattle.script_lang.proofs.PlaceLemmas.{first_place-is}
pub use Rattle.script_lang.proofs.StartLemmas.{run-inside}
pub use Rattle.script_lang.specs.Prelude.{IsPlace, LiesWithin, before_cr, begins, directive, is_byte, is_directive_mark}
pub use Rattle.script_lang.specs.Prelude.{is_inside_directive, line_end, piece_by, pieces_by, run_end, uip_calls, word, word_end}
pub use Rattle.script_lang.specs.Prelude.{word_start}
pub use Rattle.script_lang.specs.declared.function.Function.{Function}
pub use Rattle.script_lang.specs.declared.piece.FoundOf.{FoundOf}
pub use Rattle.script_lang.specs.declared.piece.PieceOf.{PieceOf}
pub use Rattle.script_lang.specs.declared.piece.PieceOf.TheVariants.{Call, Include, Text}
pub use Rattle.site_image.specs.Prelude.{File, file_named, has_name, kind_of}
pub use Rattle.std.proofs.Common.{Bool, Err, IsErr, List, None, Ok, Option, Result, Some, [], ap, append-nil, append_assoc, arith, codes}
pub use Rattle.std.proofs.Common.{cond, drop, false, get_or, if◌then◌else◌, inl, inr, is_some, length, length-append, length-drop}
pub use Rattle.std.proofs.Common.{length-take, map, min, nat_lt, not, option_map, position, refl, replicate, subst, suc, sym, take, true}
pub use Rattle.std.proofs.Common.{true≢false, ℕ, ◌&&◌, ◌++◌, ◌+◌, ◌-◌, ◌<◌, ◌==◌, ◌||◌, ◌∙◌, ◌∷◌, ◌≡◌, ◌≤◌, ◌⊎◌}
pub use Rattle.std.proofs.Math.Logic.{∥∥₁_elim, ∥∥₁_map}
pub use Rattle.std.proofs.Math.Seq.{take-append_seam}
pub use Rattle.std.proofs.lemmas.Bool.{and_parts, cases_eq, cases_lt, eq-eqb, eqb-true, le-ltb, leb-true, lt-ltb, ltb-false, ltb-true}
pub use Rattle.std.proofs.lemmas.Bool.{ne_eqb, or_parts, or_right}
pub use Rattle.std.proofs.lemmas.List.{drop-append-le, drop-drop, drop-take, drop_all, drop_at, length-take-le, take-append-drop, take-take}
pub use Rattle.std.proofs.lemmas.List.{take_all, take_rest}
pub use Rattle.std.proofs.lemmas.List.Folds.{list_any-append, list_any_at}
pub use Rattle.std.proofs.lemmas.List.Quantifiers.{position-Some}
pub use Rattle.std.proofs.lemmas.List.Sums.{position_or_len_is}
pub use Rattle.std.proofs.lemmas.Option.{get_or_from_slice_get, slice_get-get_or, slice_get_past, slice_get_within}
pub use Rattle.std.proofs.lemmas.Slice.Eq.{bytes_eq-Decides}
pub use Rattle.std.specs.Coded.{le_prop}
pub use Rattle.std.specs.Io.KnownBytes.{Appends}
pub use Rattle.std.specs.List.{before_first, flat_map, list_any, position_or_len, starts_with}
pub use Rattle.std.specs.Prelude.{bytes_eq, IfSome, nat_eq, nat_le, slice_get, slice_range}
pub use Rattle.uip_edge.proofs.Reported.{Appends-none, Appends-then}
pub use Rattle.uip_edge.proofs.Writes.{writes_broken, writes_by, writes_none, writes_then}
pub use Rattle.uip_edge.specs.Prelude.{SinkView, Writes, sink_view}
pub use Rattle.uip_edge.specs.declared.failed.Failed.{Failed}
pub use Rattle.web_pages.proofs.Limits.{content_small, kind_small}
pub use Rattle.web_pages.proofs.OwnState.{made_prefix}
pub use Rattle.web_pages.proofs.ZeroLaws.{zero_asked, zero_text}
pub use Rattle.web_pages.specs.Prelude.{Made, Name, NotYet, Plain, Refused, ScriptPiece, Wanted, after_method, after_more, bytes_or}
pub use Rattle.web_pages.specs.Prelude.{decided_by_target, ended_more, has_ended, hits_by, is_acknowledged_by, is_whole_by, kind_line}
pub use Rattle.web_pages.specs.Prelude.{left_of_by, made_by, made_end, made_first, method_of, method_open, more_by, name_in, name_stays}
pub use Rattle.web_pages.specs.Prelude.{other_method, page_by, page_for_by, place_of, reach_by, refused_stays, reply_pieces_by, reply_to_by}
pub use Rattle.web_pages.specs.Prelude.{request_for, piece_output, silent_end, silent_text, stopped_end, stopped_text, target_of}
pub use Rattle.web_pages.specs.Prelude.{target_open, text_by, text_grows, waits_for_capture_by, wanted, web_spec, web_spec_by, web_want_by}
pub use Rattle.web_pages.specs.Prelude.{whole_for_by, word_more, zero_page, zero_reply, zero_piece_text, zero_snapshot}
pub use Rattle.web_pages.specs.declared.TheConstants.{LARGEST_SEGMENT}
