-- A TCP segment as a plain record, apart from its bytes, and the bytes of its datagram (RFC 793, section 3.1).
use Rattle.std.specs.Prelude.{ℕ, ◌+◌, ◌*◌, ◌/◌, ◌%◌, ◌==◌, Bool, if◌then◌else◌, List, [], ◌∷◌, ◌++◌, codes, length, Option, Some, None}
use Rattle.uip_wire.specs.Prelude.{checksum_of, bytes_of}
use Rattle.uip_ipv4.specs.Prelude.{head_bytes}
use Rattle.uip_ipv4.specs.declared.proto.Proto.TheVariants.{Tcp}

pub record PlainSegment : Type 0 where
  pub seq : ℕ
  pub ack : ℕ
  pub flags : ℕ
  pub window : ℕ
  pub mss : Option ℕ
  pub text : List ℕ

-- The segment with these fields.
abbrev pub plain_segment : ℕ → ℕ → ℕ → ℕ → Option ℕ → List ℕ → PlainSegment
plain_segment seq ack flags window mss text = record { seq = seq; ack = ack; flags = flags; window = window; mss = mss; text = text }

-- The flags of a segment as one number: FIN 1, SYN 2, RST 4, PSH 8, ACK 16, URG 32.
abbrev pub has_fin : ℕ → Bool
has_fin flags = flags % 2 == 1

abbrev pub has_syn : ℕ → Bool
has_syn flags = flags / 2 % 2 == 1

abbrev pub has_rst : ℕ → Bool
has_rst flags = flags / 4 % 2 == 1

abbrev pub has_psh : ℕ → Bool
has_psh flags = flags / 8 % 2 == 1

abbrev pub has_ack : ℕ → Bool
has_ack flags = flags / 16 % 2 == 1

-- The letters of the flags that are set, without URG.
abbrev pub flag_letters : ℕ → List ℕ
flag_letters flags =
    (if has_syn flags then codes "S" else []) ++ (if has_ack flags then codes "A" else []) ++ (if has_psh flags then codes "P" else [])
    ++ (if has_fin flags then codes "F" else []) ++ (if has_rst flags then codes "R" else [])

-- A segment between two nodes: their addresses of four bytes, their ports, and the datagram's identification.
pub record Datagram : Type 0 where
  pub source : List ℕ
  pub target : List ℕ
  pub from : ℕ
  pub to : ℕ
  pub id : ℕ
  pub segment : PlainSegment

-- The option for the maximum segment size, as words.
abbrev pub option_words : Option ℕ → List ℕ
option_words None = []
option_words (Some mss) = 516 ∷ mss ∷ []

-- The length of the header in words of 32 bits.
abbrev pub offset_of : Option ℕ → ℕ
offset_of None = 5
offset_of (Some mss) = 6

-- The ten words that each header has, with this checksum.
abbrev pub fixed_words : ℕ → ℕ → ℕ → PlainSegment → List ℕ
fixed_words sum from to s =
    from ∷ to ∷ s.seq / 65536 ∷ s.seq % 65536 ∷ s.ack / 65536 ∷ s.ack % 65536 ∷ (offset_of s.mss * 4096 + s.flags) ∷ s.window ∷ sum ∷ 0 ∷ []

-- The header with this checksum, and the text.
abbrev pub segment_with : ℕ → Datagram → List ℕ
segment_with sum d = bytes_of (fixed_words sum d.from d.to d.segment ++ option_words d.segment.mss) ++ d.segment.text

-- The pseudo header, which is summed before a segment of this length: the addresses, the protocol's number and the length.
abbrev pub pseudo_header : List ℕ → List ℕ → ℕ → List ℕ
pseudo_header source target len = source ++ target ++ bytes_of (6 ∷ len ∷ [])

abbrev pub segment_sum : Datagram → ℕ
segment_sum d = checksum_of (pseudo_header d.source d.target (length (segment_with 0 d)) ++ segment_with 0 d)

abbrev pub segment_bytes : Datagram → List ℕ
segment_bytes d = segment_with (segment_sum d) d

-- The whole datagram.
unfoldable pub datagram_bytes : Datagram → List ℕ
datagram_bytes d = head_bytes (20 + length (segment_bytes d)) d.id Tcp d.source d.target ++ segment_bytes d
