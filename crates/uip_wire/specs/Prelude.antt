-- The names of the definitions of this crate that other files cite, passed on from one place. Declares nothing.
pub use Rattle.uip_wire.specs.Addr.{address_at, cut_at_dot, part_number, quad_text, ◌>>=◌}
unfoldable pub use Rattle.uip_wire.specs.Addr.{quad_of}
pub use Rattle.uip_wire.specs.Checksum.{OneByteDetected, checksum_of, word_sum}
unfoldable pub use Rattle.uip_wire.specs.Checksum.{folded}
pub use Rattle.uip_wire.specs.ConstantValues.{ConstantValues}
pub use Rattle.uip_wire.specs.Fields.{bytes_of, long_at, long_bytes, word_at, word_bytes, written}
pub use Rattle.uip_wire.specs.Numbers.{wrap}
pub use Rattle.uip_wire.specs.Numerals.{NumeralsPrint, is_numeral, leads_badly, numeral}
pub use Rattle.uip_wire.specs.Sums.{PartSum, sum_of, swapped_sum}
