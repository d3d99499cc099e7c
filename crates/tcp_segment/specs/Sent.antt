-- The datagram that the fields of a segment to be sent represent.
use Rattle.std.specs.Prelude.{ℕ, ◌+◌, ◌*◌, List, [], ◌++◌, length, drop, slice_range}
use Rattle.uip_ipv4.specs.Prelude.{head_bytes}
use Rattle.uip_ipv4.specs.declared.proto.Proto.TheVariants.{Tcp}
use Rattle.uip_wire.specs.Prelude.{checksum_of, bytes_of}
use Rattle.tcp_segment.specs.Segments.{Datagram, PlainSegment, datagram_bytes, fixed_words, offset_of, plain_segment, pseudo_header}
use Rattle.tcp_segment.specs.declared.out.Out.{Out}

-- With this text.
abbrev pub plain_out : Out → List ℕ → PlainSegment
plain_out out text = plain_segment out.seq.0 out.ack.0 out.flags out.window out.mss text

abbrev pub datagram_of : Out → List ℕ → Datagram
datagram_of out text = record {
  source = out.source.0;
  target = out.target.0;
  from = out.from.0;
  to = out.to.0;
  id = out.id;
  segment = plain_out out text;
}

-- Its length with both headers.
abbrev pub datagram_len : Out → ℕ
datagram_len out = 20 + 4 * offset_of out.mss + out.len

-- The area with the datagram at its start, around the text at offset 40.
abbrev pub sent_in : Out → List ℕ → List ℕ
sent_in out area = datagram_bytes (datagram_of out (slice_range area 40 (40 + out.len))) ++ drop (datagram_len out) area

-- The first 20 bytes of the header with this checksum; `rest` is the option and the text after them.
unfoldable pub fixed_bytes : ℕ → Out → List ℕ
fixed_bytes sum out = bytes_of (fixed_words sum out.from.0 out.to.0 (plain_out out []))

unfoldable pub sum_around : Out → List ℕ → ℕ
sum_around out rest =
    checksum_of (pseudo_header out.source.0 out.target.0 (20 + length rest) ++ (fixed_bytes 0 out ++ rest))

unfoldable pub header_around : Out → List ℕ → List ℕ
header_around out rest = fixed_bytes (sum_around out rest) out

-- The datagram whose option and text are these bytes.
unfoldable pub around : Out → List ℕ → List ℕ
around out rest = head_bytes (40 + length rest) out.id Tcp out.source.0 out.target.0 ++ (header_around out rest ++ rest)
