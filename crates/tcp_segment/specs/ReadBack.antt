-- What is sent is received: a sound datagram passes every check and is read back as it was.
use Rattle.std.specs.Prelude.{◌≡◌, ◌<◌, ◌+◌, ◌*◌, IfSome, length, Ok}
use Rattle.uip_ipv4.specs.Prelude.{head_or_fate}
use Rattle.uip_ipv4.specs.declared.head.IpHead.{IpHead}
use Rattle.uip_ipv4.specs.declared.proto.Proto.TheVariants.{Tcp}
use Rattle.tcp_segment.specs.Received.{plain_of, segment_or_fate}
use Rattle.tcp_segment.specs.Segments.{Datagram, datagram_bytes, offset_of, segment_bytes}
use Rattle.tcp_segment.specs.declared.segment.Segment.{Segment}

-- Its addresses have four bytes, its flags are six bits, and the option's value is not 0.
pub record IsSoundDatagram (d : Datagram) : Type 0 where
  pub source : length d.source ≡ 4
  pub target : length d.target ≡ 4
  pub flags : d.segment.flags < 64
  pub mss : IfSome d.segment.mss (λ mss. 0 < mss)

-- The fields of its header.
abbrev pub head_of : Datagram → IpHead
head_of d = record {
  total = 20 + length (segment_bytes d);
  proto = Tcp;
  source = record { 0 = d.source };
  target = record { 0 = d.target };
}

-- The fields of its segment.
abbrev pub fields_sent : Datagram → Segment
fields_sent d = record {
  from = record { 0 = d.from };
  to = record { 0 = d.to };
  seq = record { 0 = d.segment.seq };
  ack = record { 0 = d.segment.ack };
  flags = d.segment.flags;
  window = d.segment.window;
  mss = d.segment.mss;
  text_at = 20 + 4 * offset_of d.segment.mss;
  text_len = length d.segment.text;
}

-- The datagram passes the checks of its header and of its segment, and is read back as sent.
pub record IsReadBack (d : Datagram) : Type 0 where
  pub head : head_or_fate (datagram_bytes d) d.target ≡ Ok (head_of d)
  pub fields : segment_or_fate (head_of d) (datagram_bytes d) ≡ Ok (fields_sent d)
  pub segment : plain_of (fields_sent d) (datagram_bytes d) ≡ d.segment

abbrev pub ReadsBack : Type 0
ReadsBack = (d : Datagram) → IsSoundDatagram d → IsReadBack d
