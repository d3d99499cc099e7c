-- The names that the proofs of this crate cite: of std, of the crates below, and of its own definitions. Declares nothing.
pub use Rattle.generators.specs.Prelude.{HoldsPart, in_ten, in_ten_places, line_long, one_digit, row_in, row_long, row_text, rows_in}
pub use Rattle.generators.specs.Prelude.{texts_short, three_digits, two_digits}
unfoldable pub use Rattle.generators.specs.Prelude.{row_parts}
pub use Rattle.generators.specs.declared.packed_rows.PackedRow.{PackedRow}
pub use Rattle.generators.specs.declared.packed_rows.PackedRows.{PackedRows}
pub use Rattle.generators.specs.declared.parts.Place.{Place}
pub use Rattle.std.proofs.Common.{List, [], ap, append-nil, append_assoc, arith, decimal, drop, flat_map, get_or, inl, inr, length}
pub use Rattle.std.proofs.Common.{length-append, length-drop, lit<, map, min, nat_le, refl, replicate, set, slice_range, subst, sym, take}
pub use Rattle.std.proofs.Common.{ℕ, ◌%◌, ◌*◌, ◌++◌, ◌+◌, ◌-◌, ◌/◌, ◌<◌, ◌∙◌, ◌∷◌, ◌≡◌, ◌≤◌}
pub use Rattle.std.proofs.Math.Nat.{mul-le-mul_left}
pub use Rattle.std.proofs.lemmas.Bool.{cases_lt, le-leb, lt-leb}
pub use Rattle.std.proofs.lemmas.Fmt.{decimal_digit, decimal_nonempty, decimal_step, length-decimal-le}
pub use Rattle.std.proofs.lemmas.Grind.{same_number_lists}
pub use Rattle.std.proofs.lemmas.List.{drop-replicate, drop-set, drop_all, flat_map_more, get_or-append_right, get_or-drop, get_or-take}
pub use Rattle.std.proofs.lemmas.List.{get_or_append_left, length-replicate, length-set, length-take, take-set, take-take, take_all}
pub use Rattle.std.proofs.lemmas.List.{take_more}
pub use Rattle.std.proofs.lemmas.List.Folds.{flat_map-map}
pub use Rattle.std.specs.Int.{from_bool}
pub use Rattle.std.specs.List.{concat}
