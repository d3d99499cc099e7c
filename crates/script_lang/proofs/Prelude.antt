-- The names that the proofs of this crate cite: of std, of the crates below, and of its own definitions. Declares nothing.
pub use Rattle.script_lang.specs.Prelude.{IsPlace, begins, directive, ends, first_place, is_byte, is_directive_mark, is_inside_directive}
pub use Rattle.script_lang.specs.Prelude.{is_line_end, line_end, piece_by, pieces, pieces_by, places, run_end, starts}
pub use Rattle.script_lang.specs.declared.function.Function.TheVariants.{FileStats, NetStats, Ticks, Unknown}
pub use Rattle.script_lang.specs.declared.piece.FoundOf.{FoundOf}
pub use Rattle.script_lang.specs.declared.piece.PieceOf.TheVariants.{Call, Include, Text}
pub use Rattle.std.proofs.Common.{Bool, List, Some, [], ap, arith, cond, eqb, false, filter, find, inl, inr, length, map, min, nat_lt, not}
pub use Rattle.std.proofs.Common.{refl, replicate, slice_index, subst, suc, sym, true, unwrap_or, zero, ℕ, ◌%◌, ◌&&◌, ◌+◌, ◌-◌, ◌<◌, ◌==◌}
pub use Rattle.std.proofs.Common.{◌^◌, ◌||◌, ◌∙◌, ◌∷◌, ◌≡◌, ◌≤◌, ◌⊎◌}
pub use Rattle.std.proofs.lemmas.Bool.{and_from, and_left, and_parts, and_right, cases_Bool, cases_eq, cases_lt, cases_order, cond-false}
pub use Rattle.std.proofs.lemmas.Bool.{eq-eqb, eqb-true, false_from_ne_true, le-ltb, lt-ltb, ne_eqb, not-true, not_from_false}
pub use Rattle.std.proofs.lemmas.Bool.{not_from_true, or_cases, or_from, or_left, or_right, true≢false}
pub use Rattle.std.proofs.lemmas.List.{get_or_past}
pub use Rattle.std.proofs.lemmas.Simd.{bitmask_splat, first_set_mask_l, length-chunk, run_in_chunk_fails, run_in_chunk_le}
pub use Rattle.std.proofs.lemmas.Simd.{run_in_chunk_stops}
pub use Rattle.std.specs.List.{list_any, prefix_len, range_with_len}
pub use Rattle.std.specs.Prelude.{codes, ◌++◌}
