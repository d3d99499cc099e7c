-- The names of the definitions of this crate that other files cite, passed on from one place. Declares nothing.
pub use Rattle.tcp_segment.specs.ConstantValues.{ConstantValues}
pub use Rattle.tcp_segment.specs.Options.{is_mss, mss_after, mss_in, trailing_bytes, value_of}
pub use Rattle.tcp_segment.specs.ReadBack.{IsReadBack, IsSoundDatagram, ReadsBack, fields_sent, head_of}
pub use Rattle.tcp_segment.specs.Received.{header_len, plain_of, segment_or_fate}
unfoldable pub use Rattle.tcp_segment.specs.Received.{segment_in}
pub use Rattle.tcp_segment.specs.Segments.{Datagram, PlainSegment, fixed_words, flag_letters, has_ack, has_fin, has_rst, has_syn, offset_of}
pub use Rattle.tcp_segment.specs.Segments.{option_words, plain_segment, pseudo_header, segment_bytes, segment_sum, segment_with}
unfoldable pub use Rattle.tcp_segment.specs.Segments.{datagram_bytes}
pub use Rattle.tcp_segment.specs.Sent.{datagram_len, datagram_of, sent_in}
unfoldable pub use Rattle.tcp_segment.specs.Sent.{around, fixed_bytes, header_around, sum_around}
