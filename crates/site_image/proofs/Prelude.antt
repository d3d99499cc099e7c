-- The names that the proofs of this crate cite: of std, of the crates below, and of its own definitions. Declares nothing.
pub use Rattle.site_image.specs.Prelude.{File, IsFile, IsImage, IsPart, after_content, after_entry, after_text, byte_length, content}
pub use Rattle.site_image.specs.Prelude.{content_fault, entry, entry_fault, entry_file, fault, file_count, first_of, has_name, image}
pub use Rattle.site_image.specs.Prelude.{is_kind, is_kind_byte, is_name, is_name_byte, kind_fault, long_length, long_text, magic}
pub use Rattle.site_image.specs.Prelude.{name_fault, page_length, refuse, script_fault, short_text, text, unless, version_of, ◌>>=◌}
unfoldable pub use Rattle.site_image.specs.Prelude.{entries, image_head, read_image, scripts}
pub use Rattle.site_image.specs.declared.TheConstants.{LONGEST_IMAGE, LONGEST_KIND, LONGEST_NAME, MOST_FILES}
pub use Rattle.site_image.specs.declared.site_error.SiteError.{SiteError}
pub use Rattle.site_image.specs.declared.site_error.SiteWhy.{SiteWhy}
pub use Rattle.site_image.specs.declared.site_error.SiteWhy.TheVariants.{Cut, Kind, Magic, Name, Rest, TooLong, TooMany, Twice}
pub use Rattle.site_image.specs.declared.version.Version.{Version}
pub use Rattle.site_image.specs.declared.version.Version.TheVariants.{One, Two}
pub use Rattle.std.proofs.Common.{Bool, Err, List, None, Ok, Option, Result, Some, [], add-one, ap, append_assoc, arith, cond, drop, eqb}
pub use Rattle.std.proofs.Common.{false, get_or, if◌then◌else◌, inl, inr, leb, length, ltb, not, refl, subst, suc, sym, take, true, zero, ℕ}
pub use Rattle.std.proofs.Common.{◌&&◌, ◌++◌, ◌+◌, ◌-◌, ◌<◌, ◌^◌, ◌||◌, ◌∙◌, ◌∷◌, ◌≡◌, ◌≢◌, ◌≤◌}
pub use Rattle.std.proofs.lemmas.Bool.{and_parts, cases_lt, eqb-false, false_from_ne_true, le-ltb, leb-true, ltb-false, ne_eqb, not-false}
pub use Rattle.std.proofs.lemmas.Bool.{not_from_true, or_cases, or_from, or_left, or_right, true≢false}
pub use Rattle.std.proofs.lemmas.List.{append-nil, drop-drop, drop_at, get_or-drop, get_or-take, get_or_past, length-append, length-drop}
pub use Rattle.std.proofs.lemmas.List.{length-take, length-take-le, nil_from_length, take-append-drop, take_at}
pub use Rattle.std.proofs.lemmas.Nat.{be_bytes_2, be_bytes_4, from_be_bytes-to_be_bytes_2, from_be_bytes-to_be_bytes_4}
pub use Rattle.std.proofs.lemmas.Slice.Eq.{bytes_eq-Decides}
pub use Rattle.std.specs.Int.{from_be_bytes, to_be_bytes, w16, w32}
pub use Rattle.std.specs.List.{flat_map, list_all, slice_get, starts_with}
pub use Rattle.std.specs.Option.{option_or}
pub use Rattle.std.specs.Prelude.{bytes_eq, codes, IsTrue, map, nat_eq, ⊤}
