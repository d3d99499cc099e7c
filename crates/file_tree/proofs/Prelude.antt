-- The names that the proofs of this crate cite: of std, of the crates below, and of its own definitions. Declares nothing.
pub use Rattle.file_tree.specs.Prelude.{AreApart, AreGood, AreMeasured, AreWithin, Fails, Gives, HasSoundScripts, HoldsFile, IsBefore}
pub use Rattle.file_tree.specs.Prelude.{IsEntry, IsIndex, IsLoaded, IsOrder, IsSlot, KindContent, Loads, SiteContent, chosen, file_of}
pub use Rattle.file_tree.specs.Prelude.{files_of, id_at, image_files, listed, listed_fault, name_at, name_of, place_after, place_by}
pub use Rattle.file_tree.specs.Prelude.{retyped, upgraded}
unfoldable pub use Rattle.file_tree.specs.Prelude.{named, packed, second_image}
pub use Rattle.file_tree.specs.declared.file_id.FileId.{FileId}
pub use Rattle.file_tree.specs.declared.load_fault.LoadFault.{LoadFault}
pub use Rattle.file_tree.specs.declared.load_fault.LoadFault.TheVariants.{Bad, NoMemory, Shelf}
pub use Rattle.script_lang.specs.Prelude.{Calling, IsPlace, pieces_by}
pub use Rattle.script_lang.specs.declared.piece.FoundOf.{FoundOf}
pub use Rattle.site_image.proofs.EntryLaws.{AreFresh}
pub use Rattle.site_image.proofs.ImageLaws.{fresh-again, image-again, image-reads, scripts-sound}
pub use Rattle.site_image.proofs.Rows.{twice, two-rows}
pub use Rattle.site_image.specs.Prelude.{File, IsImage, IsKindIn, IsPart, IsWithin, after_content, after_entry, after_kind, after_text}
pub use Rattle.site_image.specs.Prelude.{content, content_fault, entry, entry_fault, entry_file, fault, file_count, file_in, file_named}
pub use Rattle.site_image.specs.Prelude.{files_in, first_of, has_name, image, is_kind, is_name, kind_by_name, kind_fault, kind_given}
pub use Rattle.site_image.specs.Prelude.{kind_of, long_text, magic, misses, name_fault, page_length, piece_length_by, refuse, script_fault}
pub use Rattle.site_image.specs.Prelude.{script_fault_by, short_text, text, unless, version_of, ◌>>=◌}
unfoldable pub use Rattle.site_image.specs.Prelude.{entries, image_head, read_image, scripts}
pub use Rattle.site_image.specs.declared.TheConstants.{LONGEST_IMAGE, MOST_FILES}
pub use Rattle.site_image.specs.declared.part.Part.{Part}
pub use Rattle.site_image.specs.declared.place.Place.{Place}
pub use Rattle.site_image.specs.declared.site_error.SiteError.{SiteError}
pub use Rattle.site_image.specs.declared.site_error.SiteWhy.{SiteWhy}
pub use Rattle.site_image.specs.declared.site_error.SiteWhy.TheVariants.{Cut, Name, Rest, TooLong, TooMany, Twice}
pub use Rattle.site_image.specs.declared.version.Version.{Version}
pub use Rattle.site_image.specs.declared.version.Version.TheVariants.{One, Two}
pub use Rattle.std.proofs.Common.{Bool, Err, List, None, Ok, Option, Result, Some, [], add-one, ap, append_assoc, arith, cond, drop, false}
pub use Rattle.std.proofs.Common.{find, get_or, inl, inr, length, lit≤, ltb, map, not, refl, set, subst, suc, sym, take, true, zero, ℕ, ◌*◌}
pub use Rattle.std.proofs.Common.{◌++◌, ◌+◌, ◌-◌, ◌/◌, ◌<◌, ◌||◌, ◌∙◌, ◌∷◌, ◌≡◌, ◌≢◌, ◌≤◌}
pub use Rattle.std.proofs.lemmas.Bool.{cases_eq, cases_lt, cases_order, cond-false, cond-true, false_from_ne_true, le-ltb, lt-ltb, ltb-true}
pub use Rattle.std.proofs.lemmas.Bool.{not-false, not_from_true, or_cases, or_left, or_parts, or_right, true≢false}
pub use Rattle.std.proofs.lemmas.Cmp.{nat_list_cmp_total, ranked, tied_itself}
pub use Rattle.std.proofs.lemmas.List.{append-nil, drop-append-le, drop-take, drop_all, drop_at, drop_more, get_or-map, get_or-reverse}
pub use Rattle.std.proofs.lemmas.List.{get_or-set_other, get_or-set_same, get_or_append_left, get_or_push, length-append, length-drop}
pub use Rattle.std.proofs.lemmas.List.{length-map, length-reverse, length-set, length-take, length-take-le, length_push, map-set, map_push}
pub use Rattle.std.proofs.lemmas.List.{set-get_or, take-append-drop, take-append-le, take-take, take_all, take_at, take_more}
pub use Rattle.std.proofs.lemmas.List.Edits.{get_or-insert_above, get_or-insert_at, get_or-insert_below, length-insert}
pub use Rattle.std.proofs.lemmas.List.Folds.{find_at}
pub use Rattle.std.proofs.lemmas.List.Sums.{sum_by-cons}
pub use Rattle.std.proofs.lemmas.Option.{get_or_from_slice_get, same_Some, slice_get-get_or, slice_get-map, slice_get_read}
pub use Rattle.std.proofs.lemmas.Option.{slice_get_within}
pub use Rattle.std.proofs.lemmas.Result.{err_from_is_err_and}
pub use Rattle.std.proofs.lemmas.Slice.Eq.{bytes_eq-Decides}
pub use Rattle.std.specs.Cmp.Lexicographic.{slice_cmp}
pub use Rattle.std.specs.Int.{to_be_bytes, w16, w32}
pub use Rattle.std.specs.List.{ends_with, flat_map, insert, list_any, position_or_len}
pub use Rattle.std.specs.Option.{option_map_or, option_or}
pub use Rattle.std.specs.Ordering.{MatchOrdering, nat_cmp, ordering_reverse, ordering_then}
pub use Rattle.std.specs.Prelude.{All, IfErr, IfOk, IsSomeAnd, IsTrue, codes, nat_eq, nat_lt, option_map, reverse, slice_get, slice_range}
pub use Rattle.std.specs.Prelude.{sum_by, unwrap_or, vec_capacity, ⊤, ◌↔◌}
pub use Rattle.std.specs.Str.{bytes_eq}
pub use Rattle.std.specs.declared.cmp.Ordering.{Ordering}
pub use Rattle.std.specs.declared.cmp.Ordering.TheVariants.{Equal, Greater, Less}
pub use Rattle.uip_edge.specs.Prelude.{Files, HeldFile, Reads, ReadsFile}
