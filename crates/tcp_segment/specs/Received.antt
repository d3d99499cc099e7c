-- The fields of a received segment, or why it is dropped (RFC 793, section 3.1).
-- [add: fate] TCP: its check in the list of checks.
use Rattle.std.specs.Prelude.{ℕ, ◌+◌, ◌-◌, ◌*◌, ◌/◌, ◌%◌, ◌==◌, ◌||◌, nat_lt, not, if◌then◌else◌}
use Rattle.std.specs.Prelude.{List, ◌++◌, length, slice_index, slice_range, Result, Ok, Err}
use Rattle.uip_wire.specs.Prelude.{checksum_of, word_at, long_at}
use Rattle.uip_ipv4.specs.Prelude.{payload_of}
use Rattle.uip_ipv4.specs.declared.head.IpHead.{IpHead}
use Rattle.tcp_segment.specs.Options.{mss_in}
use Rattle.tcp_segment.specs.Segments.{PlainSegment, plain_segment, pseudo_header}
use Rattle.tcp_segment.specs.declared.fate.TcpFate.{TcpFate}
use Rattle.tcp_segment.specs.declared.fate.TcpFate.TheVariants.{Short, Offset, Checksum}
use Rattle.tcp_segment.specs.declared.segment.Segment.{Segment}

-- The length of the header in bytes, which the segment has in words of 32 bits.
abbrev pub header_len : List ℕ → ℕ
header_len payload = 4 * (slice_index payload 12 / 16)

-- The fields of a segment that passes every check.
abbrev pub fields_of : List ℕ → Segment
fields_of payload = record {
  from = record { 0 = word_at payload 0 };
  to = record { 0 = word_at payload 2 };
  seq = record { 0 = long_at payload 4 };
  ack = record { 0 = long_at payload 8 };
  flags = slice_index payload 13 % 64;
  window = word_at payload 14;
  mss = mss_in (slice_range payload 20 (header_len payload));
  text_at = 20 + header_len payload;
  text_len = length payload - header_len payload;
}

-- The segment between two addresses that these bytes represent, or the first check that fails.
unfoldable pub segment_in : List ℕ → List ℕ → List ℕ → Result Segment TcpFate
segment_in source target payload =
    if nat_lt (length payload) 20 then Err Short
    else if nat_lt (header_len payload) 20 || nat_lt (length payload) (header_len payload) then Err Offset
    else if not (checksum_of (pseudo_header source target (length payload) ++ payload) == 0) then Err Checksum
    else Ok (fields_of payload)

-- The segment of a datagram with this header.
abbrev pub segment_or_fate : IpHead → List ℕ → Result Segment TcpFate
segment_or_fate head bytes = segment_in head.source.0 head.target.0 (payload_of head bytes)

-- The fields with the text that they point to.
abbrev pub plain_of : Segment → List ℕ → PlainSegment
plain_of s bytes = plain_segment s.seq.0 s.ack.0 s.flags s.window s.mss (slice_range bytes s.text_at (s.text_at + s.text_len))
