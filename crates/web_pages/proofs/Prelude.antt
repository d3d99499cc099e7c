-- The names that the proofs of this crate cite: of std, of the crates below, and of its own definitions. Declares nothing.
pub use Rattle.app_events.specs.Prelude.{AppState, IsByte, IsSnapshot, IsU32, Snapshot}
pub use Rattle.app_events.specs.declared.now.Now.{Now}
pub use Rattle.file_tree.proofs.KindLemmas.{kind-short}
pub use Rattle.file_tree.specs.Prelude.{AreApart, AreGood, HasSoundScripts, IsLoaded, KindContent, SiteContent, chosen, files_of}
pub use Rattle.file_tree.specs.Prelude.{image_files, retyped, upgraded}
pub use Rattle.generators.specs.Prelude.{AreBytes, AreShort, ScriptFunctions, capture_of, capture_text, either_bytes, script_functions}
pub use Rattle.generators.specs.Prelude.{literal_bytes, texts_bytes, texts_short, uip}
pub use Rattle.protosocket.proofs.Pieces.{receives_in_pieces}
pub use Rattle.protosocket.specs.Prelude.{Line, after, delivered, fresh, is_query_mark, is_stop, none_at_all, none_before, one_before}
pub use Rattle.protosocket.specs.Prelude.{word_of}
pub use Rattle.protosocket.specs.declared.stops.Stops.TheVariants.{Space, SpaceOrLine}
pub use Rattle.script_lang.specs.Prelude.{Calling, length_at_most, pieces, pieces_by, takes_capture, uip_calls}
pub use Rattle.script_lang.specs.declared.function.Function.{Function}
pub use Rattle.script_lang.specs.declared.function.Function.TheVariants.{FileStats, NetStats, TcpConnections, Ticks, Unknown}
pub use Rattle.script_lang.specs.declared.piece.FoundOf.{FoundOf}
pub use Rattle.script_lang.specs.declared.piece.PieceOf.{PieceOf}
pub use Rattle.script_lang.specs.declared.piece.PieceOf.TheVariants.{Call, Include, Text}
pub use Rattle.site_image.proofs.ImageLaws.{AreSound, bind_ok, scripts-sound}
pub use Rattle.site_image.specs.Prelude.{File, body_length_by, file_in, file_named, has_name, is_kind, is_kind_byte, is_name_byte}
pub use Rattle.site_image.specs.Prelude.{is_script, kind_by_name, kind_of, misses, page_length_by, piece_length_by, refuse, script_fault_by}
pub use Rattle.site_image.specs.Prelude.{◌>>=◌}
unfoldable pub use Rattle.site_image.specs.Prelude.{entries, image_head, read_image, scripts}
pub use Rattle.site_image.specs.declared.TheConstants.{PAGE_LIMIT}
pub use Rattle.site_image.specs.declared.place.Place.{Place}
pub use Rattle.site_image.specs.declared.site_error.SiteError.{SiteError}
pub use Rattle.site_image.specs.declared.site_error.SiteWhy.TheVariants.{PageTooLong, Rest}
pub use Rattle.site_image.specs.declared.version.Version.{Version}
pub use Rattle.std.proofs.Common.{Bool, List, None, Ok, Option, Result, Some, [], ap, append-nil, arith, drop, false, get_or, if◌then◌else◌}
pub use Rattle.std.proofs.Common.{inl, inr, length, length-append, length-drop, length-take, lit<, lit≤, map, not, refl, replicate, rules}
pub use Rattle.std.proofs.Common.{slice_index, subst, suc, sym, take, true, true≢false, zero, ℕ, ◌%◌, ◌&&◌, ◌++◌, ◌+◌, ◌-◌, ◌<◌, ◌==◌, ◌^◌}
pub use Rattle.std.proofs.Common.{◌∙◌, ◌∷◌, ◌≡◌, ◌≢◌, ◌≤◌, ◌⊎◌}
pub use Rattle.std.proofs.lemmas.Bool.{and_parts, cases_lt, eqb-true, leb-false, leb-true, ltb-false, ltb-true, not-true, or_left, or_right}
pub use Rattle.std.proofs.lemmas.Bool.Decides.{same_from_decides}
pub use Rattle.std.proofs.lemmas.List.{drop_at, get_or-reverse, get_or_past, length-map, length-reverse, take_all}
pub use Rattle.std.proofs.lemmas.List.Elements.{All-append, All-drop, All-get_or, All-head, All-nil, All-set, All-tail, All-take}
pub use Rattle.std.proofs.lemmas.List.Folds.{list_any-append}
pub use Rattle.std.proofs.lemmas.List.Quantifiers.{position-Some}
pub use Rattle.std.proofs.lemmas.List.Sums.{sum_by-cons, take_while-cons}
pub use Rattle.std.proofs.lemmas.Option.{get_or_from_slice_get, same_Some, slice_get-map, slice_get_read, slice_get_within}
pub use Rattle.std.proofs.lemmas.Slice.Eq.{bytes_eq-Decides}
unfoldable pub use Rattle.std.specs.Fmt.{digits}
pub use Rattle.std.specs.List.{All, before_first, concat, ends_with, flat_map, fold, list_all, list_any, position_or_len, slice_index_or}
pub use Rattle.std.specs.List.{starts_with}
pub use Rattle.std.specs.Option.{option_map_or}
pub use Rattle.std.specs.Prelude.{codes, find, nat_eq, nat_le, nat_lt, option_map, reverse, slice_get, slice_range, slice_set, sum_by}
pub use Rattle.std.specs.Prelude.{unwrap_or}
pub use Rattle.std.specs.Str.{bytes_eq}
pub use Rattle.web_pages.specs.Prelude.{AreWorkedPages, AreWorkedRequests, IsAtMostGreatest, IsAtMostGreatestBy, IsMadeOfBytes}
pub use Rattle.web_pages.specs.Prelude.{IsMadeOfBytesBy, KeepsPageLaws, KeepsPageLawsBy, LongNames, Made, Name, NotYet, Plain, Refused}
pub use Rattle.web_pages.specs.Prelude.{ScriptPiece, ReportedInPieces, UpgradeKeepsPages, Wanted, after_method, body_by, body_of, by_tests}
pub use Rattle.web_pages.specs.Prelude.{bytes_or, decided_by_target, found_head, found_reply_by, has_ended, hit_at, hits_by, hits_of}
pub use Rattle.web_pages.specs.Prelude.{is_acknowledged_by, kind_line, made_by, made_first, made_text, may_want, method_of, missing_head}
pub use Rattle.web_pages.specs.Prelude.{missing_reply, most_captures, name_in, page_by, page_for, page_for_by, page_grows, page_stays}
pub use Rattle.web_pages.specs.Prelude.{page_text, place_of, reach_end, reply_pieces, reply_pieces_by, reply_to, reply_to_by, request_for}
pub use Rattle.web_pages.specs.Prelude.{piece_output, silent_text, stopped_text, target_of, text_by, reported_so_far, waits_for_capture_by}
pub use Rattle.web_pages.specs.Prelude.{wanted, wanted_by, whole_for, with_capture, zero_page, zero_reply, zero_piece_text, zero_snapshot}
