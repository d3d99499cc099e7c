-- The names that the proofs of this crate cite: of std, of the crates below, and of its own definitions. Declares nothing.
pub use Rattle.byteorder.specs.Endian.{little_number}
pub use Rattle.std.proofs.Common.{Bool, List, None, Option, Some, [], add_comm, ap, append-nil, append_assoc, arith, cond, drop, eq-eqb}
pub use Rattle.std.proofs.Common.{eqb, false, get_or, if◌then◌else◌, inl, inr, leb, length, length-append, length-drop, map, nat_lt, not}
pub use Rattle.std.proofs.Common.{refl, rules, slice_index, suc, sym, take, true, zero, ℕ, ◌%◌, ◌&&◌, ◌*◌, ◌++◌, ◌+◌, ◌-◌, ◌/◌, ◌<◌, ◌==◌}
pub use Rattle.std.proofs.Common.{◌^◌, ◌∙◌, ◌∷◌, ◌≡◌, ◌≢◌, ◌≤◌, ◌⊎◌}
pub use Rattle.std.proofs.lemmas.Bool.{and_parts, leb-true, lt-ltb, ltb-true, ne_eqb}
pub use Rattle.std.proofs.lemmas.Fmt.{decimal-digits_value, decimal_digit, decimal_nonempty, digits_decimal, digits_value-decimal}
pub use Rattle.std.proofs.lemmas.Fmt.{first_decimal}
pub use Rattle.std.proofs.lemmas.Grind.{common_steps}
pub use Rattle.std.proofs.lemmas.Int.Digits.{digits_value_more}
pub use Rattle.std.proofs.lemmas.List.{drop-drop, drop_all, take_rest}
pub use Rattle.std.proofs.lemmas.List.Folds.{list_all_at}
pub use Rattle.std.proofs.lemmas.List.Sums.{position_or_len_is}
pub use Rattle.std.proofs.lemmas.Str.{digit_value_digit}
pub use Rattle.std.proofs.lemmas.Str.Parse.{IsNumeralModel, digits_value-take-le, numerals_by_value}
pub use Rattle.std.specs.Char.{digit_value, is_ascii_digit}
pub use Rattle.std.specs.List.{list_all}
pub use Rattle.std.specs.Prelude.{codes, decimal}
pub use Rattle.std.specs.Str.Parse.{digits_value}
pub use Rattle.uip_wire.specs.Prelude.{NumeralsPrint, OneByteDetected, PartSum, bytes_of, checksum_of, is_numeral, leads_badly, long_bytes}
pub use Rattle.uip_wire.specs.Prelude.{numeral, sum_of, swapped_sum, word_bytes, word_sum, written}
unfoldable pub use Rattle.uip_wire.specs.Prelude.{folded, quad_of}
