-- The names that the proofs of this crate cite: of std, of the crates below, and of its own definitions. Declares nothing.
pub use Rattle.std.proofs.Common.{Bool, Err, List, None, Ok, Option, Result, Some, [], ap, append_assoc, arith, drop, false, if◌then◌else◌}
pub use Rattle.std.proofs.Common.{length, length-append, length-drop, length-take, map, refl, slice_index, slice_index_or, slice_range}
pub use Rattle.std.proofs.Common.{subst, suc, sym, take, true, zero, ℕ, ◌%◌, ◌*◌, ◌++◌, ◌+◌, ◌-◌, ◌/◌, ◌<◌, ◌∙◌, ◌∷◌, ◌≡◌, ◌≤◌}
pub use Rattle.std.proofs.Math.Seq.{take-append-add, take-length}
pub use Rattle.std.proofs.lemmas.Grind.{common_steps}
pub use Rattle.std.proofs.lemmas.List.{drop-drop, drop_all, drop_at, length-take-le, take-append-drop, take_rest}
pub use Rattle.std.proofs.lemmas.Result.{IfOk-weaker}
pub use Rattle.std.specs.Prelude.{IsSome, codes, is_some, option_and_then}
pub use Rattle.tcp_segment.specs.Prelude.{Datagram, IsReadBack, IsSoundDatagram, ReadsBack, datagram_len, datagram_of, fields_sent, head_of}
pub use Rattle.tcp_segment.specs.Prelude.{header_len, is_mss, mss_after, mss_in, offset_of, pseudo_header, segment_bytes, segment_with}
pub use Rattle.tcp_segment.specs.Prelude.{trailing_bytes, value_of}
unfoldable pub use Rattle.tcp_segment.specs.Prelude.{around, datagram_bytes, fixed_bytes, header_around, segment_in, sum_around}
pub use Rattle.tcp_segment.specs.declared.fate.TcpFate.{TcpFate}
pub use Rattle.tcp_segment.specs.declared.fate.TcpFate.TheVariants.{Checksum, Offset, Short}
pub use Rattle.tcp_segment.specs.declared.out.Out.{Out}
pub use Rattle.tcp_segment.specs.declared.segment.Segment.{Segment}
pub use Rattle.uip_ipv4.proofs.Back.{equal, four, length-head_bytes, neither, not_less, passes, reads_back}
pub use Rattle.uip_ipv4.proofs.Facts.{head_facts}
pub use Rattle.uip_ipv4.specs.Prelude.{payload_of}
unfoldable pub use Rattle.uip_ipv4.specs.Prelude.{head_bytes, head_or_fate}
pub use Rattle.uip_ipv4.specs.declared.proto.Proto.TheVariants.{Tcp}
pub use Rattle.uip_wire.proofs.Folding.{folded_closes}
pub use Rattle.uip_wire.proofs.Pieces.{join_even}
pub use Rattle.uip_wire.proofs.Words.{length-bytes_of, same_long, same_word, sum_of_words, total}
pub use Rattle.uip_wire.proofs.Writing.{same_four}
pub use Rattle.uip_wire.specs.Prelude.{bytes_of, checksum_of, sum_of, word_bytes, word_sum, written}
unfoldable pub use Rattle.uip_wire.specs.Prelude.{folded}
