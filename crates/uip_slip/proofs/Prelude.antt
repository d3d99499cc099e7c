-- The names that the proofs of this crate cite: of std, of the crates below, and of its own definitions. Declares nothing.
pub use Rattle.std.proofs.Common.{Bool, List, [], add-one, ap, append-nil, append_assoc, arith, bit_and, bit_or, cond, drop, eq-eqb, eqb}
pub use Rattle.std.proofs.Common.{false, get_or, if◌then◌else◌, inl, inr, leb, length, length-append, length-drop, length-take, map, min}
pub use Rattle.std.proofs.Common.{nat_lt, ne_eqb, not, refl, replicate, rules, subst, suc, sym, take, true, true≢false, zero, ℕ, ◌%◌, ◌&&◌}
pub use Rattle.std.proofs.Common.{◌*◌, ◌++◌, ◌+◌, ◌-◌, ◌/◌, ◌<◌, ◌^◌, ◌||◌, ◌∙◌, ◌∷◌, ◌≡◌, ◌≤◌}
pub use Rattle.std.proofs.Math.Seq.{take-add, take-append-add}
pub use Rattle.std.proofs.lemmas.Bool.{cases_lt, eqb-true, le-leb, le-ltb, lt-leb, lt-ltb, ltb-false, ltb-true}
pub use Rattle.std.proofs.lemmas.List.{get_or-drop, get_or-take, length-map, length-take-le, take-append-drop, take-append-le, take-take, drop-drop}
pub use Rattle.std.proofs.lemmas.List.{take_all, take_more, take_rest}
pub use Rattle.std.proofs.lemmas.List.Concat.{flat_map-append}
pub use Rattle.std.proofs.lemmas.List.Folds.{list_all-append, list_all_more}
pub use Rattle.std.proofs.lemmas.List.FromFn.{get_or-map-range_with_len}
pub use Rattle.std.proofs.lemmas.Nat.{and_block, and_le_r, or_block, or_lt, xor_block, xor_lt}
pub use Rattle.std.proofs.lemmas.Simd.{first_set_mask_l, leading_from_mask_l, mask_l-mod, run_in_chunk_fails, run_in_chunk_le}
pub use Rattle.std.proofs.lemmas.Simd.{run_in_chunk_stops}
pub use Rattle.std.proofs.lemmas.Slice.{drop-put_mid, take-put_mid}
pub use Rattle.std.specs.Array.{IsFirstChunk}
pub use Rattle.std.specs.Int.{from_le_bytes, w64}
pub use Rattle.std.specs.Io.KnownBytes.{Appends}
pub use Rattle.std.specs.List.{flat_map, list_all, onto_first, prefix_len, range_with_len}
pub use Rattle.std.specs.Prelude.{bit_xor, nat_eq, slice_index, slice_range}
pub use borrow.Rule.Slice.PartMut.{put_mid, same_len_mid}
pub use Rattle.uip_edge.proofs.Reported.{Appends-none, Appends-then, appends_by, moved_on}
pub use Rattle.uip_edge.proofs.Writes.{writes_broken, writes_by, writes_then}
pub use Rattle.uip_edge.specs.Prelude.{sink_view}
pub use Rattle.uip_slip.specs.Prelude.{Closes, Datagram, EndsFrame, Frame, IsNoise, IsPlainPrefix, Leaves, Overlong, PartState, State}
pub use Rattle.uip_slip.specs.Prelude.{WasFed, all_but_last, completed, escaped, escaped_byte, frame_of, frames, is_mark, is_plain}
pub use Rattle.uip_slip.specs.Prelude.{joined_parts, last_of, meant, open_bytes, open_part, parts, pushed, reopened, reported_by, slip_text}
pub use Rattle.uip_slip.specs.Prelude.{state_in, taken, unescaped, waits_after}
pub use Rattle.uip_slip.specs.declared.fed.Fed.{Fed}
pub use Rattle.uip_slip.specs.declared.slip_text.TheConstants.{TEXTS}
